-- The colours with which tiles are painted are those of pixels, or black.
use Rattle.std.proofs.Common.{◌≡◌, ℕ, inl, inr, true, false, Bool, List, [], take, refl}
use Rattle.std.specs.Prelude.{unwrap_or}
use Rattle.pixel_format.specs.declared.Color.{Color}
use Rattle.pixel_format.specs.Format.{Format, pixel_bytes}
use Rattle.pixel_format.specs.Pixel.{pixel_number, pixel_color}
use Rattle.pixel_format.proofs.Numbers.{no_value}
use Rattle.terms.proofs.Readings.{true_or_false}
use Rattle.hextile.specs.Grammar.{color_if}

no_number : (f : Format) → pixel_number f [] ≡ 0
no_number f = elim (true_or_false f.big_endian) [
  | inl t ↦ rw t refl
  | inr t ↦ rw t refl
]

-- black is the colour of a pixel all of whose bits are 0
pub black_pixel : (f : Format) → pixel_color f [] ≡ record { r = 0; g = 0; b = 0 }
unfolding pixel_color
black_pixel f = rw (no_number f, no_value f.red, no_value f.green, no_value f.blue) refl

-- a colour that is named, or carried over
pub held_or : (holds : Color → Type 0) (f : Format) (there : Bool) (bytes : List ℕ) (carried : Color) → ((pixel : List ℕ) → holds (pixel_color f pixel)) → holds carried
    → holds (unwrap_or (color_if f there bytes) carried)
held_or holds f true bytes carried all here = all (take (pixel_bytes f) bytes)
held_or holds f false bytes carried all here = here
