-- A viewer's messages, and the head of a host's update, as they are written. Padding is 0.
use Rattle.std.specs.List.{flat_map}
use Rattle.std.specs.Prelude.{ℕ, ℤ, ◌/◌, ◌%◌, List, [], ◌∷◌, ◌++◌, length, Bool}
use Rattle.pixel_format.specs.Format.{Format}
use Rattle.pixel_format.specs.Written.{format_bytes, flag}
use Rattle.terms.specs.declared.area.Area.{Area}
use Rattle.terms.specs.Area.{area_bytes}
use Rattle.terms.specs.Number.{u32_bytes, unsigned}

-- SetPixelFormat: type 0, three bytes of padding, and the format (RFC 6143, section 7.5.1)
abbrev pub set_pixel_format_bytes : Format → List ℕ
set_pixel_format_bytes f = 0 ∷ 0 ∷ 0 ∷ 0 ∷ format_bytes f

-- SetEncodings: type 2, a byte of padding, the number of encodings, and each encoding's number
-- (section 7.5.2)
abbrev pub encodings_head : ℕ → List ℕ
encodings_head n = 2 ∷ 0 ∷ n / 256 ∷ n % 256 ∷ []

abbrev pub number_bytes : ℤ → List ℕ
number_bytes n = u32_bytes (unsigned n)

abbrev pub set_encodings_bytes : List ℤ → List ℕ
set_encodings_bytes numbers = encodings_head (length numbers) ++ flat_map number_bytes numbers

-- FramebufferUpdateRequest: type 3, the flag of an incremental request, and the area: x, y, width,
-- height (section 7.5.3)
abbrev pub request_bytes : Bool → Area → List ℕ
request_bytes incremental a = 3 ∷ flag incremental ∷ area_bytes a

-- a host's FramebufferUpdate of one rectangle, up to the rectangle's data: type 0, a byte of padding,
-- the number of rectangles, and the rectangle's header, its area and the number of its encoding
-- (section 7.6.1)
abbrev pub rectangle_head : Area → ℕ → List ℕ
rectangle_head a number = area_bytes a ++ u32_bytes number

abbrev pub one_rectangle_head : Area → ℕ → List ℕ
one_rectangle_head a number = 0 ∷ 0 ∷ 0 ∷ 1 ∷ rectangle_head a number
