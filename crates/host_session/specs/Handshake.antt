-- The handshake of a host's stream, as it is heard and answered (RFC 6143, sections 7.1 to 7.3, in
-- version 3.8).
use Rattle.std.specs.Prelude.{ℕ, ◌-◌, min, List, [], ◌∷◌, ◌++◌, slice_index, nat_eq, Bool, true, false, ◌&&◌, ◌||◌, Option, Some, None, if◌then◌else◌}
use Rattle.std.specs.Str.{bytes_eq}
use Rattle.pixel_format.specs.Format.{host_format}
use Rattle.terms.specs.Reading.{Got, Bad, field}
use Rattle.terms.specs.Area.{whole_area}
use Rattle.client_wire.specs.Written.{set_pixel_format_bytes, request_bytes}
use Rattle.host_session.specs.declared.fault.HostFault.{HostFault}
use Rattle.host_session.specs.declared.fault.HostFault.TheVariants as faults
use Rattle.terms.specs.Talk.{Talk, silent, say, hear}
use Rattle.terms.specs.Number.{u16_at, u32_at}
use Rattle.terms.specs.Limits.{limits, is_size}
use Rattle.terms.specs.declared.screen_size.ScreenSize.{ScreenSize}
use Rattle.host_session.specs.declared.expected.ExpectedScreen.{ExpectedScreen}

-- what a host says of its screen
pub record Told : Type 0 where
  pub width : ℕ
  pub height : ℕ
  pub name : List ℕ

-- why a handshake ends, and the host's own reason if it gives one
pub record Refusal : Type 0 where
  pub fault : HostFault
  pub reason : List ℕ

abbrev pub refused : HostFault → Talk Told Refusal
refused fault = silent (Bad (record { fault = fault; reason = [] }))

-- RFB 003.008 and a newline
abbrev pub version : List ℕ
version = 82 ∷ 70 ∷ 66 ∷ 32 ∷ 48 ∷ 48 ∷ 51 ∷ 46 ∷ 48 ∷ 48 ∷ 56 ∷ 10 ∷ []

-- of names and reasons the first so many bytes are kept
abbrev pub text_limit : ℕ
text_limit = 1024

-- the size that is expected, if one is
abbrev pub is_expected : Option ScreenSize → ℕ → ℕ → Bool
is_expected None width height = true
is_expected (Some size) width height = nat_eq size.width width && nat_eq size.height height

-- type 1, None, is among the types
abbrev pub offers_security_none : List ℕ → Bool
offers_security_none [] = false
offers_security_none (type ∷ types) = nat_eq type 1 || offers_security_none types

-- SetEncodings of CopyRect, Hextile, RRE and Raw
abbrev pub set_encodings : List ℕ
set_encodings = 2 ∷ 0 ∷ 0 ∷ 4 ∷ 0 ∷ 0 ∷ 0 ∷ 1 ∷ 0 ∷ 0 ∷ 0 ∷ 5 ∷ 0 ∷ 0 ∷ 0 ∷ 2 ∷ 0 ∷ 0 ∷ 0 ∷ 0 ∷ []

-- what is sent once the screen is known: the format and the encodings, and a request for the whole
-- screen
abbrev pub first_requests : ℕ → ℕ → List ℕ
first_requests width height = set_pixel_format_bytes host_format ++ set_encodings ++ request_bytes false (whole_area width height)

-- a reason of so many bytes
unfoldable pub reason_at : ℕ → List ℕ → Talk Told Refusal
reason_at n bytes = hear (field n bytes) (λ text rest. silent (Bad (record { fault = faults.Failed; reason = text })))

-- a reason's length, and the reason or its beginning
unfoldable pub failure_at : List ℕ → Talk Told Refusal
failure_at bytes = hear (field 4 bytes) (λ f rest. reason_at (min (u32_at f 0) text_limit) rest)

-- the bytes of a name that aren't kept
unfoldable pub rest_of_name : ℕ → ℕ → List ℕ → ℕ → List ℕ → Talk Told Refusal
rest_of_name width height name left bytes = hear (field left bytes) (λ skipped rest. say (first_requests width height)
    (silent (Got (record { width = width; height = height; name = name }) rest)))

-- a name of so many bytes
unfoldable pub name_at : ℕ → ℕ → ℕ → List ℕ → Talk Told Refusal
name_at width height n bytes = hear (field (min n text_limit) bytes) (λ name rest. rest_of_name width height name (n - min n text_limit) rest)

-- the host's own format, which is read over, and the name's length
unfoldable pub head_at : ℕ → ℕ → List ℕ → Talk Told Refusal
head_at width height bytes = hear (field 20 bytes) (λ f rest. name_at width height (u32_at f 16) rest)

-- A size, and what follows: first the limits of the format are judged, and then the size that is
-- expected.
abbrev pub sized : ExpectedScreen → ℕ → ℕ → List ℕ → Talk Told Refusal
sized expected width height rest =
    if is_size (limits expected.format) width height then (if is_expected expected.size width height then head_at width height rest else refused faults.SizeDiffers)
    else refused faults.TooLarge

-- ServerInit: width, height, format, name (section 7.3.2)
unfoldable pub size_at : ExpectedScreen → List ℕ → Talk Told Refusal
size_at expected bytes = hear (field 4 bytes) (λ f rest. sized expected (u16_at f 0) (u16_at f 2) rest)

abbrev pub judged : ExpectedScreen → ℕ → List ℕ → Talk Told Refusal
judged expected number rest = if nat_eq number 0 then say (1 ∷ []) (size_at expected rest) else failure_at rest

-- SecurityResult (section 7.1.3); ClientInit, with the shared-flag, answers it (section 7.3.1)
unfoldable pub outcome_at : ExpectedScreen → List ℕ → Talk Told Refusal
outcome_at expected bytes = hear (field 4 bytes) (λ f rest. judged expected (u32_at f 0) rest)

abbrev pub offered : ExpectedScreen → Bool → List ℕ → Talk Told Refusal
offered expected offers rest = if offers then say (1 ∷ []) (outcome_at expected rest) else refused faults.NoneNotOffered

-- so many security types (section 7.1.2)
unfoldable pub types_at : ExpectedScreen → ℕ → List ℕ → Talk Told Refusal
types_at expected n bytes = hear (field n bytes) (λ types rest. offered expected (offers_security_none types) rest)

abbrev pub counted : ExpectedScreen → ℕ → List ℕ → Talk Told Refusal
counted expected n rest = if nat_eq n 0 then failure_at rest else types_at expected n rest

unfoldable pub count_at : ExpectedScreen → List ℕ → Talk Told Refusal
count_at expected bytes = hear (field 1 bytes) (λ f rest. counted expected (slice_index f 0) rest)

abbrev pub versioned : ExpectedScreen → Bool → List ℕ → Talk Told Refusal
versioned expected same rest = if same then say version (count_at expected rest) else refused faults.Version

-- the version (section 7.1.1), and all that follows
unfoldable pub handshake_at : ExpectedScreen → List ℕ → Talk Told Refusal
handshake_at expected bytes = hear (field 12 bytes) (λ f rest. versioned expected (bytes_eq f version) rest)
