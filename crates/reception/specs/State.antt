-- Those who come to watch a recorder, and what it waits for.
use Rattle.std.specs.Prelude.{ℕ, ◌+◌, ◌-◌, min, ◌==◌, ◌&&◌, ◌||◌, Bool, true, false, Option, Some, None, if◌then◌else◌}
use Rattle.reception.specs.declared.term.Term.{Term}
use Rattle.reception.specs.declared.term.Term.TheVariants.{Viewers, Recording, Stop}
use Rattle.reception.specs.declared.term.Reason.{Reason}
use Rattle.reception.specs.declared.term.Reason.TheVariants.{Full, Enough, Closing}
use Rattle.reception.specs.declared.term.Arrival.{Arrival}
use Rattle.reception.specs.declared.term.Arrival.TheVariants.{Greeted, TurnedAway, Dropped}

-- seats: how many viewers may have one at a time, and how many handshakes may be under way; greeting:
-- connections whose handshake is under way; watching: viewers who have a seat; gone: those who had one
-- and left; ended: nothing more is recorded; stopped: it was asked to end
pub record State : Type 0 where
  pub term : Term
  pub seats : ℕ
  pub greeting : ℕ
  pub watching : ℕ
  pub gone : ℕ
  pub ended : Bool
  pub stopped : Bool

-- how many viewers a recorder serves in all, if that is settled
abbrev pub viewers_of : Term → Option ℕ
viewers_of (Viewers n) = Some n
viewers_of Recording = None
viewers_of Stop = None

-- how many viewers may still take a seat: of the seats that there are, and if a number of viewers
-- is settled, of so many in all
abbrev seats_among : Option ℕ → ℕ → ℕ → ℕ → ℕ
seats_among None seats watching gone = seats - watching
seats_among (Some n) seats watching gone = min (seats - watching) (n - (watching + gone))

abbrev pub free_seats : State → ℕ
free_seats s = seats_among (viewers_of s.term) s.seats s.watching s.gone

-- a recorder that goes on as long as its recording ends with it
abbrev ends_with_recording : Term → Bool
ends_with_recording (Viewers n) = false
ends_with_recording Recording = true
ends_with_recording Stop = false

-- no more viewers are taken: it was asked to end, or what it goes on for has ended
abbrev pub is_closing : State → Bool
is_closing s = s.stopped || (s.ended && ends_with_recording s.term)

-- as many viewers as are served in all came and went
abbrev have_all_gone : Option ℕ → ℕ → Bool
have_all_gone None gone = false
have_all_gone (Some n) gone = gone == n

-- nothing more is recorded, nobody watches, and nobody is waited for
abbrev pub is_done : State → Bool
is_done s = s.ended && (s.watching == 0) && (is_closing s || have_all_gone (viewers_of s.term) s.gone)

-- whether a viewer whose handshake is whole now takes a seat
abbrev pub takes_seat : State → Bool
takes_seat s = if is_closing s then false else (if free_seats s == 0 then false else true)

-- how many viewers are still to come, of those that are waited for
abbrev pub missing_among : Option ℕ → ℕ → ℕ
missing_among None come = 0
missing_among (Some n) come = n - come

abbrev pub missing : State → ℕ
missing s = missing_among (viewers_of s.term) (s.watching + s.gone)

-- as many viewers as are served in all have come
abbrev have_all_come : Option ℕ → ℕ → Bool
have_all_come None come = false
have_all_come (Some n) come = n - come == 0

-- why a viewer takes no seat now
abbrev pub reason_at : State → Reason
reason_at s =
    if is_closing s then Closing
    else (if have_all_come (viewers_of s.term) (s.watching + s.gone) then Enough else Full)

-- how a connection is received that comes now
abbrev pub arrival_at : State → Arrival
arrival_at s = if s.greeting == s.seats then Dropped else (if takes_seat s then Greeted else TurnedAway (reason_at s))
