-- What is done next for a viewer of a recording that is shown as it grows: a table, of which just one
-- row applies to each situation.
use Rattle.std.specs.Prelude.{ℕ, suc, ◌-◌, min, Bool, true, false, not, ◌&&◌, ◌||◌, nat_lt, nat_le, if◌then◌else◌, List, [], ◌∷◌}
use Rattle.showing.specs.declared.begins.Begins.{Begins}
use Rattle.showing.specs.declared.begins.Begins.TheVariants.{Live, After}
use Rattle.showing.specs.declared.situation.Situation.{Situation}
use Rattle.showing.specs.declared.next.Next.{Next}
use Rattle.showing.specs.declared.next.Next.TheVariants.{Want, Wait, WaitUntilAsked, HoldBack, Newest, Rest, Stop}

-- by more than so many messages a live viewer may not lag, or it goes on at the newest screen
abbrev pub far : ℕ
far = 64

-- so many messages are handed over at a time
abbrev pub most : ℕ
most = 256

-- One that begins after some messages comes to them first: it has no screen from there yet.
abbrev is_coming_to : Begins → ℕ → Bool
is_coming_to Live position = false
is_coming_to (After from each_until) position = nat_lt position from

-- It is shown each message that stood when it came, by itself.
abbrev is_shown_each_at : Begins → ℕ → Bool
is_shown_each_at Live position = false
is_shown_each_at (After from each_until) position = nat_le from position && nat_lt position each_until

-- From there on it is a live one, as who begins at the newest screen is at once.
abbrev is_live_at : Begins → ℕ → Bool
is_live_at Live position = true
is_live_at (After from each_until) position = nat_le from position && nat_le each_until position

-- What it has is to be shown to it before it is handed more: the screen at which it begins, and that
-- after each of these messages.
abbrev is_owed_at : Begins → ℕ → Bool
is_owed_at Live position = false
is_owed_at (After from each_until) position = nat_le from position && nat_le position each_until

-- how many messages it is still away from its beginning
abbrev away : Begins → ℕ → ℕ
away Live position = 0
away (After from each_until) position = from - position

-- it has not come further than its beginning
abbrev stands_before_start_of : Begins → ℕ → Bool
stands_before_start_of Live position = false
stands_before_start_of (After from each_until) position = nat_le position from

abbrev pub stands_before_start : Situation → Bool
stands_before_start s = stands_before_start_of s.begins s.position

abbrev pub is_coming : Situation → Bool
is_coming s = is_coming_to s.begins s.position

abbrev pub is_shown_each : Situation → Bool
is_shown_each s = is_shown_each_at s.begins s.position

abbrev pub is_live : Situation → Bool
is_live s = is_live_at s.begins s.position

abbrev pub is_owed : Situation → Bool
is_owed s = is_owed_at s.begins s.position

-- Whether it lags, and by far.
abbrev pub lags : Situation → Bool
lags s = nat_lt s.position s.committed

abbrev pub is_far : Situation → Bool
is_far s = nat_lt far (s.committed - s.position)

-- What it lacks is not handed to it: it is a live one that lags by far, or that lags and is sent the
-- whole screen next, whatever comes.
abbrev pub leaps : Situation → Bool
leaps s = is_live s && (is_far s || (lags s && s.is_stale))

-- There is more for it, also if that isn't known yet, as it was woken.
abbrev pub has_more : Situation → Bool
has_more s = lags s || s.has_waited

-- It was shown what it has: it was sent an update, or it asks and there is none to be sent.
abbrev pub is_shown : Situation → Bool
is_shown s = s.has_asked || s.is_answered

-- Nobody is waited for while the recorder is closing.
abbrev pub may_go_on : Situation → Bool
may_go_on s = is_shown s || s.is_closing

-- Nothing is shown any more: the viewer has left; or the recorder is closing, and nothing new came, or
-- there is no memory for it.
abbrev pub is_over : Situation → Bool
is_over s = s.has_left || (s.is_closing && (s.is_alone || s.is_short))

-- It is served: it isn't at the end, nor over, and what is read for it can be.
abbrev pub is_served : Situation → Bool
is_served s = not s.is_at_end && (not (is_over s) && not s.has_failed)

-- it needs a screen first
abbrev pub needs_screen : Situation → Bool
needs_screen s = is_served s && s.is_fresh

-- it has one, and was shown what it is owed
abbrev pub goes_on : Situation → Bool
goes_on s = is_served s && (not s.is_fresh && (not (is_owed s) || may_go_on s))

-- it is handed more, message by message
abbrev pub takes_more : Situation → Bool
takes_more s = goes_on s && (not (leaps s) && has_more s)

-- The rows. It was handed all: it rests.
abbrev pub has_all : Situation → Bool
has_all s = s.is_at_end

-- It isn't served any more: it ends.
abbrev pub is_stopped : Situation → Bool
is_stopped s = not s.is_at_end && is_over s

-- What is recorded can't be read for it: it goes on at the newest screen, which is in memory.
abbrev pub is_unread : Situation → Bool
is_unread s = not s.is_at_end && (not (is_over s) && s.has_failed)

-- Without a screen it is handed the newest one,
abbrev pub starts_at_newest : Situation → Bool
starts_at_newest s = needs_screen s && not (stands_before_start s)

-- or the one at which it stands, if it begins after some messages and stands no further.
abbrev pub starts_at_position : Situation → Bool
starts_at_position s = needs_screen s && stands_before_start s

-- It wasn't shown yet what it is owed: it is waited for.
abbrev pub is_awaited : Situation → Bool
is_awaited s = is_served s && (not s.is_fresh && (is_owed s && not (may_go_on s)))

-- A live one that lags by far goes on at the newest screen at once; one that is sent the whole screen
-- anyway does so when it asks, and is held back until then.
abbrev pub leaps_now : Situation → Bool
leaps_now s = goes_on s && (leaps s && (is_far s || may_go_on s))

abbrev pub is_held_back : Situation → Bool
is_held_back s = goes_on s && (leaps s && not (is_far s || may_go_on s))

-- Messages are handed over up to its beginning,
abbrev pub comes_on : Situation → Bool
comes_on s = takes_more s && is_coming s

-- from there on one by one, up to those that stood when it came,
abbrev pub takes_one : Situation → Bool
takes_one s = takes_more s && is_shown_each s

-- and as many as there are to a live one.
abbrev pub keeps_up : Situation → Bool
keeps_up s = takes_more s && is_live s

-- There are none.
abbrev pub lacks_none : Situation → Bool
lacks_none s = goes_on s && (not (leaps s) && not (has_more s))

-- how many messages one that comes to its beginning is handed
abbrev pub coming_by : Situation → ℕ
coming_by s = min (away s.begins s.position) most

-- A row: when it applies, and what is done next.
pub record Row : Type 0 where
  pub applies : Bool
  pub next : Next

abbrev pub table : Situation → List Row
table s =
    record { applies = has_all s; next = Rest }
    ∷ record { applies = is_stopped s; next = Stop }
    ∷ record { applies = is_unread s; next = Newest }
    ∷ record { applies = starts_at_newest s; next = Newest }
    ∷ record { applies = starts_at_position s; next = Want 0 }
    ∷ record { applies = is_awaited s; next = WaitUntilAsked }
    ∷ record { applies = leaps_now s; next = Newest }
    ∷ record { applies = is_held_back s; next = HoldBack }
    ∷ record { applies = comes_on s; next = Want (coming_by s) }
    ∷ record { applies = takes_one s; next = Want 1 }
    ∷ record { applies = keeps_up s; next = Want most }
    ∷ record { applies = lacks_none s; next = Wait }
    ∷ []

-- how many of these rows apply
abbrev pub applying : List Row → ℕ
applying [] = 0
applying (r ∷ rows) = if r.applies then suc (applying rows) else applying rows

-- what the row says that applies
abbrev pub said_by : List Row → Next
said_by [] = Stop
said_by (r ∷ rows) = if r.applies then r.next else said_by rows

abbrev pub next_of : Situation → Next
next_of s = said_by (table s)
