-- A pixel format as 16 bytes (RFC 6143, section 7.4): bits of a pixel, depth, the big-endian flag,
-- the true-color flag, three maxima of two bytes, three shifts, and three bytes of padding.
use Rattle.std.specs.Prelude.{ℕ, zero, suc, ◌+◌, ◌*◌, ◌/◌, ◌%◌, ◌^◌, List, [], ◌∷◌, slice_index, Bool, not, ◌&&◌, ◌||◌, nat_eq, nat_lt, bit_and, Result, Ok, Err, if◌then◌else◌}
use Rattle.pixel_format.specs.Format.{Channel, Format, mask}
use Rattle.terms.specs.declared.pixel_format_fault.PixelFormatFault.{PixelFormatFault}
use Rattle.terms.specs.declared.pixel_format_fault.PixelFormatFault.TheVariants as faults

-- a flag is true when it isn't 0
abbrev pub is_flag : ℕ → Bool
is_flag b = not (nat_eq b 0)

-- a channel: its maximum, the higher byte first, and its shift
abbrev pub channel_at : List ℕ → ℕ → ℕ → Channel
channel_at bytes max shift = record {
  max = 256 * slice_index bytes max + slice_index bytes (max + 1);
  shift = slice_index bytes shift;
}

-- what the bytes say
abbrev pub format_of : List ℕ → Format
format_of bytes = record {
  bits = slice_index bytes 0;
  depth = slice_index bytes 1;
  big_endian = is_flag (slice_index bytes 2);
  red = channel_at bytes 4 10;
  green = channel_at bytes 6 11;
  blue = channel_at bytes 8 12;
}

abbrev pub has_bits : Format → Bool
has_bits f = nat_eq f.bits 8 || nat_eq f.bits 16 || nat_eq f.bits 32

-- the number is 2 ^ N - 1, with an N of at most n
unfoldable pub is_ones : ℕ → ℕ → Bool
is_ones zero max = nat_eq max 0
is_ones (suc n) max = nat_eq (max + 1) (2 ^ suc n) || is_ones n max

abbrev pub has_maxima : Format → Bool
has_maxima f = is_ones 16 f.red.max && is_ones 16 f.green.max && is_ones 16 f.blue.max

-- the channel's bits lie in the pixel; a channel of maximum 0 has none, whatever its shift
abbrev pub lies_inside : ℕ → Channel → Bool
lies_inside bits c = nat_lt (mask c) (2 ^ bits)

abbrev pub has_fields_inside : Format → Bool
has_fields_inside f = lies_inside f.bits f.red && lies_inside f.bits f.green && lies_inside f.bits f.blue

-- no bit is one of both channels
abbrev pub are_apart : Channel → Channel → Bool
are_apart c d = nat_eq (bit_and (mask c) (mask d)) 0

abbrev pub has_fields_apart : Format → Bool
has_fields_apart f = are_apart f.red f.green && are_apart f.red f.blue && are_apart f.green f.blue

-- the fault, unless the test is passed
abbrev pub unless : Bool → PixelFormatFault → Result Format PixelFormatFault → Result Format PixelFormatFault
unless passed fault next = if passed then next else Err fault

-- what 16 bytes are: a format, or the first test that they fail
unfoldable pub format_at : List ℕ → Result Format PixelFormatFault
format_at bytes =
    unless (has_bits (format_of bytes)) faults.BadBits
    (unless (is_flag (slice_index bytes 3)) faults.NoTrueColor
    (unless (has_maxima (format_of bytes)) faults.BadMax
    (unless (has_fields_inside (format_of bytes)) faults.FieldOutside
    (unless (has_fields_apart (format_of bytes)) faults.FieldsOverlap
    (Ok (format_of bytes))))))

abbrev pub flag : Bool → ℕ
flag b = if b then 1 else 0

-- a format's 16 bytes: a flag is written as 1, padding as 0
abbrev pub format_bytes : Format → List ℕ
format_bytes f = f.bits ∷ f.depth ∷ flag f.big_endian ∷ 1
    ∷ f.red.max / 256 ∷ f.red.max % 256 ∷ f.green.max / 256 ∷ f.green.max % 256 ∷ f.blue.max / 256 ∷ f.blue.max % 256
    ∷ f.red.shift ∷ f.green.shift ∷ f.blue.shift ∷ 0 ∷ 0 ∷ 0 ∷ []
