use Rattle.std.proofs.Common.{◌≡◌, ℕ, ◌+◌, ◌*◌, ◌/◌, ◌%◌, ◌<◌, ap, arith, ◌∙◌, refl}
use Rattle.std.specs.Prelude.{◌∷◌}
use Rattle.pixel_format.specs.Written.{format_bytes}
use Rattle.pixel_format.proofs.Valid.{accepted_is}
use Rattle.pixel_format.proofs.laws.written_as_read.Goals as goal

high : (h l : ℕ) → l < 256 → (256 * h + l) / 256 ≡ h
high h l small = omega arith

low : (h l : ℕ) → l < 256 → (256 * h + l) % 256 ≡ l
low h l small = omega arith

pub returns : goal.returns
returns c = λ bits depth order color red_high red_low green_high green_low blue_high blue_low r g b padding f small_r small_g small_b e.
    let a = accepted_is (bits ∷ depth ∷ order ∷ color ∷ red_high ∷ red_low ∷ green_high ∷ green_low ∷ blue_high ∷ blue_low ∷ r ∷ g ∷ b ∷ padding) f e in
    ap format_bytes a.is
    ∙ rw (high red_high red_low small_r, low red_high red_low small_r, high green_high green_low small_g, low green_high green_low small_g, high blue_high blue_low small_b, low blue_high blue_low small_b) refl
