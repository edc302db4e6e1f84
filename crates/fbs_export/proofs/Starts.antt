-- A file that is too short for its start.
use Rattle.std.proofs.Common.{◌≡◌, ◌<◌, ℕ, List, length, take, false, true, ◌&&◌, Bool, refl, arith}
use Rattle.std.proofs.lemmas.List.{take_all, get_or_past}
use Rattle.fbs_export.specs.Blocks.{is_start}

and_false : (a : Bool) → (a && false) ≡ false
and_false true = refl
and_false false = refl

pub short_start : (bytes : List ℕ) → length bytes < 12 → is_start (take 12 bytes) ≡ false
unfolding is_start
short_start bytes short = rw (take_all 12 bytes (omega (arith, short)), get_or_past bytes 11 0 (omega (arith, short))) (and_false _)
