-- What is done next for a viewer of a recording that is played in its own time: a table, of which just
-- one row applies to each situation.
use Rattle.std.specs.Prelude.{ℕ, ◌-◌, min, Bool, not, ◌&&◌, ◌||◌, nat_lt, nat_le, is_some, Option, Some, None, List, [], ◌∷◌}
use Rattle.showing.specs.declared.playback.Playback.{Playback}
use Rattle.showing.specs.declared.next.Next.{Next}
use Rattle.showing.specs.declared.next.Next.TheVariants.{Want, Wait, Seek, Begin, Sleep, Show, Rest, Stop}
use Rattle.showing.specs.Table.{Row, said_by, most}

-- for how many milliseconds the last screen stands before the playing begins again
abbrev pub last_screen : ℕ
last_screen = 1000

-- how long it is until what is in hand is due; it is at once if the clock can't be read
abbrev pub time_left : Option ℕ → Option ℕ → ℕ
time_left None played = 0
time_left (Some due) None = 0
time_left (Some due) (Some played) = due - played

-- It is to begin again, and there is something to be played.
abbrev pub begins_again : Playback → Bool
begins_again s = s.repeats && nat_lt s.from s.position

-- It goes on: the viewer is there, and the recorder isn't closing.
abbrev pub goes_on : Playback → Bool
goes_on s = not s.has_left && not s.is_closing

-- It has no message in hand that it isn't shown yet; nor is it at the end; and has a screen.
abbrev pub is_free : Playback → Bool
is_free s = goes_on s && not (is_some s.due)

abbrev pub is_under_way : Playback → Bool
is_under_way s = is_free s && not s.is_at_end

abbrev pub has_screen : Playback → Bool
has_screen s = is_under_way s && not s.is_fresh

-- it stands at the playing's beginning, or further on
abbrev pub is_there : Playback → Bool
is_there s = nat_le s.from s.position

abbrev pub has_more : Playback → Bool
has_more s = nat_lt s.position s.committed

-- The rows. Nobody is there to be shown anything, or the recorder is closing: it ends.
abbrev pub is_cut_off : Playback → Bool
is_cut_off s = s.has_left || s.is_closing

-- The message in hand isn't due yet: it sleeps until it is,
abbrev pub is_early : Playback → Bool
is_early s = goes_on s && (is_some s.due && nat_lt 0 (time_left s.due s.played))

-- and shows it then.
abbrev pub is_due : Playback → Bool
is_due s = goes_on s && (is_some s.due && not (nat_lt 0 (time_left s.due s.played)))

-- All was played, and it doesn't begin again: it rests.
abbrev pub has_played : Playback → Bool
has_played s = is_free s && (s.is_at_end && not (begins_again s))

-- It begins again: the last screen stands for its time,
abbrev pub stands_still : Playback → Bool
stands_still s = is_free s && (s.is_at_end && (begins_again s && not s.has_stood))

-- and then it goes back to the playing's beginning.
abbrev pub plays_again : Playback → Bool
plays_again s = is_free s && (s.is_at_end && (begins_again s && s.has_stood))

-- It has no screen: it is handed the one at which it stands.
abbrev pub needs_screen : Playback → Bool
needs_screen s = is_under_way s && s.is_fresh

-- It is handed what lies before the first message that is played,
abbrev pub comes_on : Playback → Bool
comes_on s = has_screen s && (not (is_there s) && has_more s)

-- is played from there on,
abbrev pub begins_now : Playback → Bool
begins_now s = has_screen s && (is_there s && not s.has_begun)

-- and is handed one message after the other.
abbrev pub takes_one : Playback → Bool
takes_one s = has_screen s && (is_there s && (s.has_begun && has_more s))

-- There is none.
abbrev pub waits : Playback → Bool
waits s = has_screen s && (not (has_more s) && (not (is_there s) || s.has_begun))

-- how many messages one that comes to the playing's beginning is handed
abbrev pub coming_by : Playback → ℕ
coming_by s = min (s.from - s.position) most

abbrev pub table : Playback → List Row
table s =
    record { applies = is_cut_off s; next = Stop }
    ∷ record { applies = is_early s; next = Sleep (time_left s.due s.played) }
    ∷ record { applies = is_due s; next = Show }
    ∷ record { applies = has_played s; next = Rest }
    ∷ record { applies = stands_still s; next = Sleep last_screen }
    ∷ record { applies = plays_again s; next = Seek s.from }
    ∷ record { applies = needs_screen s; next = Want 0 }
    ∷ record { applies = comes_on s; next = Want (coming_by s) }
    ∷ record { applies = begins_now s; next = Begin }
    ∷ record { applies = takes_one s; next = Want 1 }
    ∷ record { applies = waits s; next = Wait }
    ∷ []

abbrev pub next_of : Playback → Next
next_of s = said_by (table s)
