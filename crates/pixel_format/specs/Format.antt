-- What a pixel format is (RFC 6143, section 7.4).
use Rattle.std.specs.Prelude.{◌≡◌, ℕ, ◌+◌, ◌*◌, ◌/◌, ◌^◌, ◌<◌, ◌≤◌, ◌⊎◌, Bool, bit_and}
use Rattle.std.specs.Prelude.{false}

-- the shift of a channel in a pixel's number, and the greatest value that it takes
pub record Channel : Type 0 where
  pub max : ℕ
  pub shift : ℕ

pub record Format : Type 0 where
  pub bits : ℕ
  pub depth : ℕ
  pub big_endian : Bool
  pub red : Channel
  pub green : Channel
  pub blue : Channel

-- the bits of a pixel's number that a channel takes
abbrev pub mask : Channel → ℕ
mask c = c.max * 2 ^ c.shift

-- A channel takes up to 16 neighbouring bits, and all of them lie in the pixel.
pub record IsChannel (bits : ℕ) (c : Channel) : Type 0 where
  pub full : (n : ℕ) × (n ≤ 16) × (c.max + 1 ≡ 2 ^ n)
  pub inside : mask c < 2 ^ bits

pub record IsValid (f : Format) : Type 0 where
  pub whole : (f.bits ≡ 8) ⊎ ((f.bits ≡ 16) ⊎ (f.bits ≡ 32))
  pub red : IsChannel f.bits f.red
  pub green : IsChannel f.bits f.green
  pub blue : IsChannel f.bits f.blue
  pub red_and_green : bit_and (mask f.red) (mask f.green) ≡ 0
  pub red_and_blue : bit_and (mask f.red) (mask f.blue) ≡ 0
  pub green_and_blue : bit_and (mask f.green) (mask f.blue) ≡ 0

-- how many bytes a pixel takes
abbrev pub pixel_bytes : Format → ℕ
pixel_bytes f = f.bits / 8

-- The format that this recorder asks a host for: a pixel's bytes are blue, green, red, and one that
-- plays no part.
abbrev pub host_format : Format
host_format = record {
  bits = 32;
  depth = 24;
  big_endian = false;
  red = record { max = 255; shift = 16 };
  green = record { max = 255; shift = 8 };
  blue = record { max = 255; shift = 0 };
}
