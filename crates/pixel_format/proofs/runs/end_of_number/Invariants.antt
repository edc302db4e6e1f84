use Rattle.std.proofs.Common.{◌≡◌, ℕ, ◌-◌, ◌<◌, ◌≤◌, List, length, get_or}
use Rattle.pixel_format.proofs.runs.end_of_number.Given as goal

-- the positions from a start to an end have a number
pub record OneNumber (numbers : List ℕ) (start end : ℕ) (number : ℕ) : Type 0 where
  pub reached : start ≤ end
  pub within : end ≤ length numbers
  pub one_number : (k : ℕ) → start ≤ k → k < end → get_or numbers k 0 ≡ number

abbrev pub invariant-many : goal.invariant-many
invariant-many l = OneNumber l.numbers l.start l.end l.number

abbrev pub decreases-many : goal.decreases-many
decreases-many l = length l.numbers - l.end

abbrev pub invariant-one : goal.invariant-one
invariant-one l = OneNumber l.numbers l.start l.end l.number

abbrev pub decreases-one : goal.decreases-one
decreases-one l = length l.numbers - l.end
