-- Pixels as numbers: the number of a pixel's bytes, in the format's order (RFC 6143, section 7.4).
use Rattle.std.specs.Prelude.{◌≡◌, ℕ, ◌*◌, ◌<◌, ◌^◌, ◌==◌, List, length, map, count_by, slice_index}
use Rattle.pixel_format.specs.declared.Color.{Color}
use Rattle.pixel_format.specs.Format.{Format}
use Rattle.pixel_format.specs.Pixel.{channel_value, color_number, IsWithin}

-- the colour whose pixel has the number
abbrev pub number_color : Format → ℕ → Color
number_color f number = record {
  r = channel_value f.red number;
  g = channel_value f.green number;
  b = channel_value f.blue number;
}

-- the number of the pixel of a colour: the bits that belong to no channel are 0
pub record IsNumber (f : Format) (number : ℕ) : Type 0 where
  pub fits : number < 2 ^ f.bits
  pub within : IsWithin f (number_color f number)
  pub is : color_number f (number_color f number) ≡ number

-- the colours of pixels
abbrev pub colors_of : Format → List ℕ → List Color
colors_of f numbers = map (number_color f) numbers

-- at how many positions a number stands
abbrev pub times_in : ℕ → List ℕ → ℕ
times_in number numbers = count_by (λ other. number == other) numbers

-- a number that stands at more than half of the positions is the one at this position
abbrev pub HasMajority : List ℕ → ℕ → Type 0
HasMajority numbers index = (number : ℕ) → length numbers < 2 * times_in number numbers → number ≡ slice_index numbers index
