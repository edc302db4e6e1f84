-- Until when what was opened of a recording is kept, and when it is opened anew.
use Rattle.std.specs.Prelude.{ℕ, ◌*◌, ◌≤◌, ◌==◌, ◌&&◌, ◌||◌, Bool}

-- present: visits that were handed in and haven't ended; outdated: nobody comes any more, since
-- there is a newer opening; stopped: the server is to end
pub record State : Type 0 where
  pub present : ℕ
  pub outdated : Bool
  pub stopped : Bool

-- nobody needs it any more
abbrev pub is_over : State → Bool
is_over s = s.stopped || (s.outdated && (s.present == 0))

-- at most a tenth of the time goes into opening: it took so long, and so much has passed since
abbrev pub IsDue : ℕ → ℕ → Type 0
IsDue took passed = 10 * took ≤ passed
