-- The colours of pixels as numbers.
use Rattle.std.specs.Prelude.{◌≡◌, ℕ, List, All, map}
use Rattle.pixel_format.specs.declared.Color.{Color}
use Rattle.pixel_format.specs.Format.{Format}
use Rattle.pixel_format.specs.Number.{number_color, IsNumber}

-- the number of the colour's pixel
pub record HasNumber (f : Format) (color : Color) (number : ℕ) : Type 0 where
  pub color_is : number_color f number ≡ color
  pub is : IsNumber f number

-- the numbers of the colours' pixels
pub record AreNumbersOf (f : Format) (colors : List Color) (numbers : List ℕ) : Type 0 where
  pub colors_are : map (number_color f) numbers ≡ colors
  pub each : All (IsNumber f) numbers
