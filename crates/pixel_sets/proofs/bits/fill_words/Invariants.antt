use Rattle.std.proofs.Common.{◌≡◌, ◌*◌, ℕ, cond}
use Rattle.pixel_sets.specs.Bits.{is_set, is_between}
use Rattle.pixel_sets.proofs.bits.fill_words.Given as goal

-- the words up to the next one are filled
abbrev pub invariant-loop-pixel : goal.invariant-loop-pixel
invariant-loop-pixel l = (k : ℕ) → is_set l.words k ≡ cond (is_between (64 * l.from) (64 * l.pixel) k) l.value (is_set l.initial.words k)
