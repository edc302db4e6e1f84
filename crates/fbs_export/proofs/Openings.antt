-- An opening is read from its text.
use Rattle.std.proofs.Common.{◌≡◌, ◌≤◌, ℕ, List, [], ◌++◌, length, true, refl, arith}
use Rattle.std.proofs.lemmas.List.{take_all}
use Rattle.terms.specs.Reading.{Got, More}
use Rattle.pixel_format.specs.Format.{host_format}
use Rattle.pixel_format.specs.Written.{format_bytes}
use Rattle.terms.proofs.Readings.{field-short, field-whole}
use Rattle.terms.specs.Number.{u16_at, u16_bytes}
use Rattle.terms.specs.Number.{u32_bytes}
use Rattle.gated_journal.specs.Recording.{Head, IsHead}
use Rattle.fbs_export.specs.declared.fault.FbsFault.{FbsFault}
use Rattle.terms.specs.declared.format.Format.TheVariants.{Two}
use Rattle.terms.specs.Limits.{limits, IsSize}
use Rattle.terms.proofs.Sizes.{size_is, size_in_two}
use Rattle.fbs_export.specs.Opening.{opening_at, security_then, size_then, format_then, name_at, named, is_host, version}
use Rattle.fbs_export.specs.Export.{opening_text}
use Rattle.fbs_export.proofs.Blocks.{number_again}

name_is_read : (w h : ℕ) (name more : List ℕ) → length name ≤ 1024 → name_at w h (u32_bytes (length name) ++ (name ++ more)) ≡ Got (record { width = w; height = h; name = name }) more
unfolding name_at named
name_is_read w h name more short =
    rw (
      field-whole {E = FbsFault} 4 (u32_bytes (length name)) (name ++ more) refl,
      number_again (length name) (omega arith),
      field-whole {E = FbsFault} (length name) name more refl,
      take_all 1024 name short,
    ) refl

host_is_host : is_host (format_bytes host_format) ≡ true
unfolding is_host
host_is_host = refl

format_is_read : (w h : ℕ) (name more : List ℕ) → length name ≤ 1024
    → format_then w h (format_bytes host_format ++ (u32_bytes (length name) ++ (name ++ more))) ≡ Got (record { width = w; height = h; name = name }) more
unfolding format_then
format_is_read w h name more short =
    rw (field-whole {E = FbsFault} 16 (format_bytes host_format) (u32_bytes (length name) ++ (name ++ more)) refl, host_is_host) (name_is_read w h name more short)

first_number : (w h : ℕ) → u16_at (u16_bytes w ++ u16_bytes h) 0 ≡ w
first_number w h = omega arith

second_number : (w h : ℕ) → u16_at (u16_bytes w ++ u16_bytes h) 2 ≡ h
second_number w h = omega arith

size_is_read : (w h : ℕ) (name more : List ℕ) → IsSize (limits Two) w h → length name ≤ 1024
    → size_then ((u16_bytes w ++ u16_bytes h) ++ (format_bytes host_format ++ (u32_bytes (length name) ++ (name ++ more)))) ≡ Got (record { width = w; height = h; name = name }) more
unfolding size_then
size_is_read w h name more size short =
    rw (
      field-whole {E = FbsFault} 4 (u16_bytes w ++ u16_bytes h) (format_bytes host_format ++ (u32_bytes (length name) ++ (name ++ more))) refl,
      first_number w h,
      second_number w h,
      size_is (limits Two) w h size,
    ) (format_is_read w h name more short)

security_is_read : (w h : ℕ) (name more : List ℕ) → IsSize (limits Two) w h → length name ≤ 1024
    → security_then (u32_bytes 1 ++ ((u16_bytes w ++ u16_bytes h) ++ (format_bytes host_format ++ (u32_bytes (length name) ++ (name ++ more))))) ≡ Got (record { width = w; height = h; name = name }) more
unfolding security_then
security_is_read w h name more size short =
    rw (field-whole {E = FbsFault} 4 (u32_bytes 1) ((u16_bytes w ++ u16_bytes h) ++ (format_bytes host_format ++ (u32_bytes (length name) ++ (name ++ more)))) refl)
    (size_is_read w h name more size short)

pub opening_is_read : (h : Head) (more : List ℕ) → IsHead h
    → opening_at (opening_text h ++ more) ≡ Got (record { width = h.width; height = h.height; name = h.name }) more
unfolding opening_at opening_text
opening_is_read h more is =
    rw (field-whole {E = FbsFault} 12 version (u32_bytes 1 ++ ((u16_bytes h.width ++ u16_bytes h.height) ++ (format_bytes host_format ++ (u32_bytes (length h.name) ++ (h.name ++ more))))) refl)
    (security_is_read h.width h.height h.name more (size_in_two h.format h.width h.height is.size) is.name)

pub no_opening : opening_at [] ≡ More
unfolding opening_at
no_opening = rw (field-short {E = FbsFault} 12 [] (omega arith)) refl
