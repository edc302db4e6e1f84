-- The colour of a pixel (RFC 6143, section 7.4).
use Rattle.std.specs.Prelude.{◌≡◌, ℕ, ◌+◌, ◌*◌, ◌/◌, ◌%◌, ◌^◌, ◌≤◌, List, [], ◌∷◌, length, if◌then◌else◌}
use Rattle.pixel_format.specs.declared.Color.{Color}
use Rattle.std.specs.Int.{bytes_low_first, bytes_high_first}
use Rattle.terms.specs.Appending.{AreEach}
use Rattle.pixel_format.specs.Format.{Channel, Format, host_format, pixel_bytes}

-- the number that bytes are, the lowest byte first
abbrev pub little_endian : List ℕ → ℕ
little_endian [] = 0
little_endian (b ∷ bytes) = b + 256 * little_endian bytes

-- the number that bytes are, the highest byte first, with `high` for that of the bytes before them
abbrev pub big_endian : ℕ → List ℕ → ℕ
big_endian high [] = high
big_endian high (b ∷ bytes) = big_endian (256 * high + b) bytes

-- the number of a pixel: its bytes in the format's order
abbrev pub pixel_number : Format → List ℕ → ℕ
pixel_number f bytes = if f.big_endian then big_endian 0 bytes else little_endian bytes

-- the value of a channel in a pixel's number
abbrev pub channel_value : Channel → ℕ → ℕ
channel_value c number = number / 2 ^ c.shift % (c.max + 1)

-- the colour of a pixel
unfoldable pub pixel_color : Format → List ℕ → Color
pixel_color f bytes = record {
  r = channel_value f.red (pixel_number f bytes);
  g = channel_value f.green (pixel_number f bytes);
  b = channel_value f.blue (pixel_number f bytes);
}

-- bytes of a pixel of the colour
pub record IsPixel (f : Format) (color : Color) (bytes : List ℕ) : Type 0 where
  pub size : length bytes ≡ pixel_bytes f
  pub color_is : color ≡ pixel_color f bytes

-- pixels one after the other
abbrev pub ArePixels : Format → List Color → List ℕ → Type 0
ArePixels f = AreEach (IsPixel f)

-- the colour of a pixel of a host
abbrev pub host_color : List ℕ → Color
host_color bytes = pixel_color host_format bytes

-- the colour's channels are within the format's maxima
pub record IsWithin (f : Format) (c : Color) : Type 0 where
  pub red : c.r ≤ f.red.max
  pub green : c.g ≤ f.green.max
  pub blue : c.b ≤ f.blue.max

-- the number of the pixel of a colour: each channel at its shift, and the other bits 0
abbrev pub color_number : Format → Color → ℕ
color_number f c = c.r * 2 ^ f.red.shift + c.g * 2 ^ f.green.shift + c.b * 2 ^ f.blue.shift

-- the bytes of a number below 2 ^ bits, in the format's order
abbrev pub number_bytes : Format → ℕ → List ℕ
number_bytes f number =
    if f.big_endian then bytes_high_first (pixel_bytes f) number else bytes_low_first 0 (pixel_bytes f) number

-- the pixel of a colour, as it is written
unfoldable pub pixel_of : Format → Color → List ℕ
pixel_of f c = number_bytes f (color_number f c)

-- a colour of a screen: each channel is at most 255
pub record IsScreenColor (c : Color) : Type 0 where
  pub red : c.r ≤ 255
  pub green : c.g ≤ 255
  pub blue : c.b ≤ 255

-- a channel of a screen, in proportion to another maximum, rounded to the nearest
abbrev pub converted_channel : ℕ → ℕ → ℕ
converted_channel max v = (v * max + 127) / 255

-- no channel takes more than 255
pub record AreSmall (f : Format) : Type 0 where
  pub red : f.red.max ≤ 255
  pub green : f.green.max ≤ 255
  pub blue : f.blue.max ≤ 255

-- a screen's colour, as a format has it
abbrev pub converted : Format → Color → Color
converted f c = record {
  r = converted_channel f.red.max c.r;
  g = converted_channel f.green.max c.g;
  b = converted_channel f.blue.max c.b;
}
