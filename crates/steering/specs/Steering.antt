-- What a viewer is shown once it has given an order.
use Rattle.std.specs.Prelude.{ℕ, min, true, false, Option, None}
use Rattle.web_target.specs.declared.asked.Beginning.{Beginning}
use Rattle.web_target.specs.declared.asked.Beginning.TheVariants as begins
use Rattle.web_target.specs.declared.asked.Order.{Order}
use Rattle.web_target.specs.declared.asked.Order.TheVariants as order
use Rattle.steering.specs.declared.course.Stage.{Stage}
use Rattle.steering.specs.declared.course.Stage.TheVariants as stage
use Rattle.steering.specs.declared.steering.Showing.{Showing}
use Rattle.steering.specs.declared.steering.Showing.TheVariants as shows
use Rattle.steering.specs.declared.steering.Steering.{Steering}

-- who begins so, at this pace if nothing else is asked for
abbrev pub first_of : Beginning → ℕ → Steering
first_of begins.Live pace = record { showing = shows.Live; pace = pace; longest_pause = None }
first_of (begins.After count) pace = record { showing = shows.After count; pace = pace; longest_pause = None }
first_of (begins.Still time) pace = record { showing = shows.Still time; pace = pace; longest_pause = None }
first_of (begins.Played playback) pace = record { showing = shows.Played playback; pace = playback.pace; longest_pause = playback.longest_pause }

-- the recording from a time on
abbrev pub played_from : ℕ → ℕ → Option ℕ → Showing
played_from time pace longest = shows.Played (record { time = time; pace = pace; longest_pause = longest })

-- to a time: who stands still stands still there
abbrev pub to_time : ℕ → Steering → Showing → Showing
to_time time s (shows.Still before) = shows.Still time
to_time time s shows.Live = played_from time s.pace s.longest_pause
to_time time s (shows.After count) = played_from time s.pace s.longest_pause
to_time time s (shows.Played before) = played_from time s.pace s.longest_pause

-- on as it was, at another pace or with other pauses, if it is played
abbrev pub played_on : ℕ → ℕ → Option ℕ → Showing → Showing
played_on now pace longest (shows.Played before) = played_from now pace longest
played_on now pace longest shows.Live = shows.Live
played_on now pace longest (shows.After count) = shows.After count
played_on now pace longest (shows.Still time) = shows.Still time

-- on from the time at which it stands still
abbrev pub resumed : Steering → Showing → Showing
resumed s (shows.Still time) = played_from time s.pace s.longest_pause
resumed s shows.Live = shows.Live
resumed s (shows.After count) = shows.After count
resumed s (shows.Played before) = shows.Played before

-- the time at which this begins, in a session that is so long, for who is at that time: none is
-- later than its end
abbrev pub begins_at : ℕ → ℕ → Showing → ℕ
begins_at length now shows.Live = length
begins_at length now (shows.After count) = now
begins_at length now (shows.Played playback) = min playback.time length
begins_at length now (shows.Still time) = min time length

-- who is shown each message after its beginning is handed a screen only to catch up, the newest
abbrev pub time_after_messages : Stage → ℕ → ℕ → ℕ
time_after_messages stage.Ordered length now = now
time_after_messages stage.Begun length now = now
time_after_messages stage.Obeyed length now = length

-- the time of a screen that is handed out in a session that is so long, for who is at that time
abbrev pub time_of_screen : Stage → ℕ → ℕ → Showing → ℕ
time_of_screen stage length now shows.Live = length
time_of_screen stage length now (shows.After count) = time_after_messages stage length now
time_of_screen stage length now (shows.Played playback) = now
time_of_screen stage length now (shows.Still time) = now

-- what follows on an order at a time
abbrev pub after_order : Order → ℕ → Steering → Steering
after_order (order.At time) now s = record s { showing = to_time time s s.showing }
after_order (order.After count) now s = record s { showing = shows.After count }
after_order (order.Pace pace) now s = record s { pace = pace; showing = played_on now pace s.longest_pause s.showing }
after_order (order.LongestPause longest) now s = record s { longest_pause = longest; showing = played_on now s.pace longest s.showing }
after_order (order.Pause true) now s = record s { showing = shows.Still now }
after_order (order.Pause false) now s = record s { showing = resumed s s.showing }
after_order order.Live now s = record s { showing = shows.Live }
