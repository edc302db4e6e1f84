-- What is written is read back.
use Rattle.std.proofs.Common.{◌≡◌, ℕ, ℤ, suc, ◌+◌, ◌-◌, ◌*◌, ◌/◌, ◌%◌, ◌^◌, ◌≤◌, List, [], ◌∷◌, ◌++◌, length, refl, ap, ◌∙◌, arith}
use Rattle.std.specs.Prelude.{pos, negsuc, Bool, true, false}
use Rattle.std.specs.List.{flat_map, AllByRecursion}
use Rattle.std.proofs.lemmas.Bool.{lt-ltb, le-ltb}
use Rattle.terms.specs.Reading.{Got}
use Rattle.pixel_format.specs.Format.{Format, IsValid}
use Rattle.pixel_format.specs.Written.{format_bytes, is_flag, flag}
use Rattle.terms.proofs.Readings.{field-whole}
use Rattle.pixel_format.proofs.Valid.{read_written}
use Rattle.terms.specs.Number.{u32_at}
use Rattle.terms.specs.declared.area.Area.{Area}
use Rattle.terms.specs.Area.{area_bytes}
use Rattle.terms.proofs.Areas.{area_back}
use Rattle.client_wire.specs.declared.message_type.ClientMessageType.TheVariants as types
use Rattle.client_wire.specs.declared.message.ClientMessage.TheVariants as messages
use Rattle.terms.specs.declared.wire_fault.WireFault.{WireFault}
use Rattle.terms.specs.Number.{signed, u32_bytes, unsigned, FitsFourBytes}
use Rattle.client_wire.specs.Grammar.{judged, numbers_of, message_at}
use Rattle.client_wire.specs.Written.{set_pixel_format_bytes, number_bytes, set_encodings_bytes, request_bytes}
use Rattle.client_wire.proofs.Fronts.{pixel_format_read, head_read, encodings_read, request_read}
use Rattle.client_wire.proofs.Relation.{type_read, whole_again}

pub format_back : (f : Format) → IsValid f → message_at (set_pixel_format_bytes f) ≡ Got (messages.SetPixelFormat f) []
format_back f valid =
    let body : List ℕ = 0 ∷ 0 ∷ 0 ∷ format_bytes f in
    type_read types.SetPixelFormat (0 ∷ body) body refl ∙ pixel_format_read body body [] (whole_again 19 body refl)
    ∙ ap (λ r. judged r []) (read_written f valid)

-- the four bytes of a number
u32_back : (n : ℕ) → u32_at (u32_bytes n) 0 ≡ n
u32_back n = omega arith

signed_back : (n : ℤ) → FitsFourBytes n → signed (unsigned n) ≡ n
signed_back (pos n) small = rw (lt-ltb n (2 ^ 31) small) refl
signed_back (negsuc n) small =
    let high : 2 ^ 31 ≤ 2 ^ 32 - suc n = omega arith in
    let back : 2 ^ 32 - suc (2 ^ 32 - suc n) ≡ n = omega arith in
    rw (le-ltb (2 ^ 32 - suc n) (2 ^ 31) high, back) refl

numbers_back : (ns : List ℤ) → AllByRecursion FitsFourBytes ns → (numbers_of (flat_map number_bytes ns) ≡ ns) × (length (flat_map number_bytes ns) ≡ 4 * length ns)
numbers_back [] all = (refl, refl)
numbers_back (n ∷ ns) all =
    let others = numbers_back ns all.1 in
    let first : signed (u32_at (u32_bytes (unsigned n)) 0) ≡ n = ap signed (u32_back (unsigned n)) ∙ signed_back n all.0 in
    (rw (first, others.0) refl, omega (arith, others.1))

u16_back : (n : ℕ) → 256 * (n / 256) + n % 256 ≡ n
u16_back n = omega arith

pub encodings_back : (ns : List ℤ) → AllByRecursion FitsFourBytes ns → message_at (set_encodings_bytes ns) ≡ Got (messages.SetEncodings ns) []
encodings_back ns all =
    let n : ℕ = length ns in
    let head : List ℕ = 0 ∷ n / 256 ∷ n % 256 ∷ [] in
    let list : List ℕ = flat_map number_bytes ns in
    let numbers = numbers_back ns all in
    type_read types.SetEncodings (set_encodings_bytes ns) (head ++ list) refl
    ∙ head_read (head ++ list) head list n (field-whole {E = WireFault} 3 head list refl) (u16_back n)
    ∙ encodings_read n list list [] (whole_again (4 * n) list numbers.1)
    ∙ ap (λ z. Got (messages.SetEncodings z) []) numbers.0

flag_back : (b : Bool) → is_flag (flag b) ≡ b
flag_back true = refl
flag_back false = refl

pub request_back : (incremental : Bool) (a : Area) → message_at (request_bytes incremental a) ≡ Got (messages.Request incremental a) []
request_back incremental a =
    let body : List ℕ = flag incremental ∷ area_bytes a in
    type_read types.FramebufferUpdateRequest (3 ∷ body) body refl ∙ request_read body body [] (whole_again 9 body refl)
    ∙ rw (flag_back incremental) (ap (λ z. Got (messages.Request incremental z) []) (area_back a []))
