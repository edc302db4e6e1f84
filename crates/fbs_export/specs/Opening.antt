-- The opening of the stream of an FBS file: a version, a security type, and a ServerInit (RFC 6143,
-- section 7.3.2) in the host format, for a screen within the limits of format 2. Each part is
-- judged once it is whole, in the order of the parts.
use Rattle.std.specs.Prelude.{ℕ, Bool, ◌&&◌, nat_eq, List, [], ◌∷◌, take, slice_index, slice_range}
use Rattle.std.specs.Str.{bytes_eq}
use Rattle.terms.specs.Reading.{Reading, Got, ◌>>=◌, field, guard}
use Rattle.pixel_format.specs.Written.{is_flag}
use Rattle.terms.specs.Number.{u16_at, u32_at}
use Rattle.terms.specs.Limits.{limits, is_size}
use Rattle.terms.specs.declared.format.Format.TheVariants.{Two}
use Rattle.fbs_export.specs.declared.fault.FbsFault.{FbsFault}
use Rattle.fbs_export.specs.declared.fault.FbsFault.TheVariants as faults

-- the screen's size and the session's name, up to its first 1,024 bytes
pub record Opening : Type 0 where
  pub width : ℕ
  pub height : ℕ
  pub name : List ℕ

-- 'RFB 003.003' and a newline
abbrev pub version : List ℕ
version = 82 ∷ 70 ∷ 66 ∷ 32 ∷ 48 ∷ 48 ∷ 51 ∷ 46 ∷ 48 ∷ 48 ∷ 51 ∷ 10 ∷ []

-- of red, green and blue, each maximum in two bytes and each shift in one
abbrev pub maxima_and_shifts : List ℕ
maxima_and_shifts = 0 ∷ 255 ∷ 0 ∷ 255 ∷ 0 ∷ 255 ∷ 16 ∷ 8 ∷ 0 ∷ []

-- The host format, whatever its depth and its padding: 32 bits, not big-endian, true colour, maxima
-- of 255, and shifts of 16, 8 and 0 (section 7.4).
unfoldable pub is_host : List ℕ → Bool
is_host f = nat_eq (slice_index f 0) 32 && nat_eq (slice_index f 2) 0 && is_flag (slice_index f 3)
    && bytes_eq (slice_range f 4 13) maxima_and_shifts

-- of a longer name the first bytes are kept
abbrev pub name_limit : ℕ
name_limit = 1024

-- the name itself, of so many bytes
unfoldable pub named : ℕ → ℕ → ℕ → List ℕ → Reading Opening FbsFault
named w h count bytes = field count bytes >>= λ name rest.
    Got (record { width = w; height = h; name = take name_limit name }) rest

unfoldable pub name_at : ℕ → ℕ → List ℕ → Reading Opening FbsFault
name_at w h bytes = field 4 bytes >>= λ count rest. named w h (u32_at count 0) rest

unfoldable pub format_then : ℕ → ℕ → List ℕ → Reading Opening FbsFault
format_then w h bytes = field 16 bytes >>= λ format rest. guard (is_host format) faults.Format (name_at w h rest)

unfoldable pub size_then : List ℕ → Reading Opening FbsFault
size_then bytes = field 4 bytes >>= λ size rest.
    guard (is_size (limits Two) (u16_at size 0) (u16_at size 2)) faults.Size (format_then (u16_at size 0) (u16_at size 2) rest)

unfoldable pub security_then : List ℕ → Reading Opening FbsFault
security_then bytes = field 4 bytes >>= λ security rest. guard (nat_eq (u32_at security 0) 1) faults.Security (size_then rest)

unfoldable pub opening_at : List ℕ → Reading Opening FbsFault
opening_at bytes = field 12 bytes >>= λ v rest. guard (bytes_eq v version) faults.Version (security_then rest)
