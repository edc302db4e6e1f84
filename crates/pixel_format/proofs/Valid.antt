-- What the tests of a pixel format say, and what is read of the bytes of a format.
use Rattle.std.proofs.Common.{◌≡◌, ℕ, zero, suc, ◌+◌, ◌-◌, ◌*◌, ◌/◌, ◌%◌, ◌^◌, ◌<◌, ◌≤◌, ◌∙◌, ◌⊎◌, inl, inr, Bool, true, false, refl, sym, ap, subst, arith, eq-eqb}
use Rattle.std.specs.Prelude.{List, nat_eq, nat_lt, not, Result, ◌||◌, ◌&&◌, Ok, Err, slice_index, bit_and}
use mir.Val.{bool_byte}
use Rattle.std.proofs.Math.Nat.{pow-le-pow_right}
use Rattle.std.proofs.lemmas.Nat.{pow_pos, pow-add, mul-le}
use Rattle.std.proofs.lemmas.Bool.{cases_lt, eqb-true, ne_eqb, lt-ltb, le-ltb, ltb-true}
use Rattle.pixel_format.specs.Format.{Channel, Format, IsChannel, IsValid, mask}
use Rattle.terms.specs.declared.pixel_format_fault.PixelFormatFault.{PixelFormatFault}
use Rattle.terms.specs.declared.pixel_format_fault.PixelFormatFault.TheVariants as faults
use Rattle.pixel_format.specs.Written.{unless, is_ones, is_flag, flag, has_bits, has_maxima, lies_inside, has_fields_inside, are_apart, has_fields_apart, format_of, format_at, format_bytes}
use Rattle.terms.proofs.Readings.{true_or_false}

-- a maximum of N bits
pub ones_is : (n max : ℕ) → is_ones n max ≡ true → (k : ℕ) × (k ≤ n) × (max + 1 ≡ 2 ^ k)
unfolding is_ones
ones_is zero max e = let none : max ≡ 0 = eqb-true max 0 e in (0, omega arith, rw none refl)
ones_is (suc n) max e = elim (true_or_false (nat_eq (max + 1) (2 ^ suc n))) [
  | inl t ↦ (suc n, omega arith, eqb-true (max + 1) (2 ^ suc n) t)
  | inr f ↦
      (let r = ones_is n max (rw f at e) in
      (r.0, omega (arith, r.1), r.2))
]

pub is-ones : (n max k : ℕ) → k ≤ n → max + 1 ≡ 2 ^ k → is_ones n max ≡ true
unfolding is_ones
is-ones zero max k small e =
    let none : k ≡ 0 = omega arith in
    let one : max + 1 ≡ 2 ^ 0 = subst (λ (j : ℕ). max + 1 ≡ 2 ^ j) none e in
    eq-eqb max 0 (omega arith)
is-ones (suc n) max k small e = elim (true_or_false (nat_eq (max + 1) (2 ^ suc n))) [
  | inl t ↦ rw t refl
  | inr f ↦ elim (cases_lt k (suc n)) [
    | inl less ↦ rw f (is-ones n max k (omega arith) e)
    | inr more ↦
        (let same : k ≡ suc n = omega arith in
        let e' : max + 1 ≡ 2 ^ suc n = subst (λ (j : ℕ). max + 1 ≡ 2 ^ j) same e in
        rw (eq-eqb (max + 1) (2 ^ suc n) e') refl)
  ]
]

-- the bits of a number that is one less than a power of two
same_power : (a m k : ℕ) → a < 2 ^ m → 2 ^ m ≤ 2 * a + 1 → a + 1 ≡ 2 ^ k → a + 1 ≡ 2 ^ m
same_power a m k below above e = elim (cases_lt k m) [
  | inl less ↦
      (let power : 2 ^ (k + 1) ≤ 2 ^ m = pow-le-pow_right (omega arith) (omega arith) in
      let twice : 2 ^ (k + 1) ≡ 2 ^ k * 2 ^ 1 = pow-add 2 k 1 in
      absurd (omega arith))
  | inr more ↦
      (let power : 2 ^ m ≤ 2 ^ k = pow-le-pow_right (omega arith) more in
      omega arith)
]

pub full_is : (a m : ℕ) → m ≤ 16 → a < 2 ^ m → 2 ^ m ≤ 2 * a + 1 → nat_eq a (2 ^ m - 1) ≡ is_ones 16 a
full_is a m small below above = elim (true_or_false (is_ones 16 a)) [
  | inl t ↦
      (let k = ones_is 16 a t in
      let same : a + 1 ≡ 2 ^ m = same_power a m k.0 below above k.2 in
      rw t (eq-eqb a (2 ^ m - 1) (omega arith)))
  | inr f ↦ elim (true_or_false (nat_eq a (2 ^ m - 1))) [
    | inl t ↦
        (let is : a ≡ 2 ^ m - 1 = eqb-true a (2 ^ m - 1) t in
        let some : 0 < 2 ^ m = pow_pos m in
        let ones : is_ones 16 a ≡ true = is-ones 16 a m small (omega arith) in
        absurd (cc))
    | inr g ↦ rw (f, g) refl
  ]
]

-- whether a channel's bits lie in the pixel, by its shift
pub beyond_pixel : (max shift bits : ℕ) → (max ≡ 0 → ⊥) → bits ≤ shift → nat_lt (max * 2 ^ shift) (2 ^ bits) ≡ false
beyond_pixel max shift bits some high =
    let one : 1 * 2 ^ shift ≤ max * 2 ^ shift = mul-le 1 (2 ^ shift) max (2 ^ shift) (omega arith) (omega arith) in
    let power : 2 ^ bits ≤ 2 ^ shift = pow-le-pow_right (omega arith) high in
    le-ltb (max * 2 ^ shift) (2 ^ bits) (omega arith)

-- the tests, in their order
pub bad_bits : (bytes : List ℕ) → has_bits (format_of bytes) ≡ false → format_at bytes ≡ Err faults.BadBits
unfolding format_at
bad_bits bytes bits = rw bits refl

pub no_true_color : (bytes : List ℕ) → has_bits (format_of bytes) ≡ true → slice_index bytes 3 ≡ 0 → format_at bytes ≡ Err faults.NoTrueColor
unfolding format_at
no_true_color bytes bits none = rw (bits, none) refl

pub bad_max : (bytes : List ℕ) → has_bits (format_of bytes) ≡ true → is_flag (slice_index bytes 3) ≡ true → has_maxima (format_of bytes) ≡ false
    → format_at bytes ≡ Err faults.BadMax
unfolding format_at
bad_max bytes bits color maxima = rw (bits, color, maxima) refl

pub field_outside : (bytes : List ℕ) → has_bits (format_of bytes) ≡ true → is_flag (slice_index bytes 3) ≡ true → has_maxima (format_of bytes) ≡ true
    → has_fields_inside (format_of bytes) ≡ false → format_at bytes ≡ Err faults.FieldOutside
unfolding format_at
field_outside bytes bits color maxima inside = rw (bits, color, maxima, inside) refl

pub fields_overlap : (bytes : List ℕ) → has_bits (format_of bytes) ≡ true → is_flag (slice_index bytes 3) ≡ true → has_maxima (format_of bytes) ≡ true
    → has_fields_inside (format_of bytes) ≡ true → has_fields_apart (format_of bytes) ≡ false → format_at bytes ≡ Err faults.FieldsOverlap
unfolding format_at
fields_overlap bytes bits color maxima inside apart = rw (bits, color, maxima, inside, apart) refl

pub accepted : (bytes : List ℕ) → has_bits (format_of bytes) ≡ true → is_flag (slice_index bytes 3) ≡ true → has_maxima (format_of bytes) ≡ true
    → has_fields_inside (format_of bytes) ≡ true → has_fields_apart (format_of bytes) ≡ true → format_at bytes ≡ Ok (format_of bytes)
unfolding format_at
accepted bytes bits color maxima inside apart = rw (bits, color, maxima, inside, apart) refl

-- both tests are passed
both_true : (a b : Bool) → (a && b) ≡ true → (a ≡ true) × (b ≡ true)
both_true true true e = (refl, refl)
both_true true false e = absurd (cc)
both_true false b e = absurd (cc)

either_true : (a b : Bool) → (a || b) ≡ true → (a ≡ true) ⊎ (b ≡ true)
either_true true b e = inl refl
either_true false b e = inr e

-- what passes the tests is valid
channel_valid : (bits : ℕ) (c : Channel) → is_ones 16 c.max ≡ true → lies_inside bits c ≡ true → IsChannel bits c
channel_valid bits c full inside = record { full = ones_is 16 c.max full; inside = ltb-true (mask c) (2 ^ bits) inside }

bits_valid : (bits : ℕ) → (nat_eq bits 8 || nat_eq bits 16 || nat_eq bits 32) ≡ true → (bits ≡ 8) ⊎ ((bits ≡ 16) ⊎ (bits ≡ 32))
bits_valid bits e = elim (either_true (nat_eq bits 8 || nat_eq bits 16) (nat_eq bits 32) e) [
  | inr t ↦ inr (inr (eqb-true bits 32 t))
  | inl t ↦ elim (either_true (nat_eq bits 8) (nat_eq bits 16) t) [
    | inl u ↦ inl (eqb-true bits 8 u)
    | inr u ↦ inr (inl (eqb-true bits 16 u))
  ]
]

pub passes_valid : (f : Format) → has_bits f ≡ true → has_maxima f ≡ true → has_fields_inside f ≡ true → has_fields_apart f ≡ true → IsValid f
passes_valid f bits maxima inside apart =
    let m = both_true (is_ones 16 f.red.max && is_ones 16 f.green.max) (is_ones 16 f.blue.max) maxima in
    let m' = both_true (is_ones 16 f.red.max) (is_ones 16 f.green.max) m.0 in
    let i = both_true (lies_inside f.bits f.red && lies_inside f.bits f.green) (lies_inside f.bits f.blue) inside in
    let i' = both_true (lies_inside f.bits f.red) (lies_inside f.bits f.green) i.0 in
    let a = both_true (are_apart f.red f.green && are_apart f.red f.blue) (are_apart f.green f.blue) apart in
    let a' = both_true (are_apart f.red f.green) (are_apart f.red f.blue) a.0 in
    record {
      whole = bits_valid f.bits bits;
      red = channel_valid f.bits f.red m'.0 i'.0;
      green = channel_valid f.bits f.green m'.1 i'.1;
      blue = channel_valid f.bits f.blue m.1 i.1;
      red_and_green = eqb-true (bit_and (mask f.red) (mask f.green)) 0 a'.0;
      red_and_blue = eqb-true (bit_and (mask f.red) (mask f.blue)) 0 a'.1;
      green_and_blue = eqb-true (bit_and (mask f.green) (mask f.blue)) 0 a.1;
    }

-- and what is valid passes them
has_bits-valid : (bits : ℕ) → (bits ≡ 8) ⊎ ((bits ≡ 16) ⊎ (bits ≡ 32)) → (nat_eq bits 8 || nat_eq bits 16 || nat_eq bits 32) ≡ true
has_bits-valid bits (inl e) = rw e refl
has_bits-valid bits (inr (inl e)) = rw e refl
has_bits-valid bits (inr (inr e)) = rw e refl

full-valid : (bits : ℕ) (c : Channel) → IsChannel bits c → is_ones 16 c.max ≡ true
full-valid bits c v = is-ones 16 c.max v.full.0 v.full.1 v.full.2

inside-valid : (bits : ℕ) (c : Channel) → IsChannel bits c → lies_inside bits c ≡ true
inside-valid bits c v = lt-ltb (mask c) (2 ^ bits) v.inside

maxima-valid : (f : Format) → IsValid f → has_maxima f ≡ true
maxima-valid f v = rw (full-valid f.bits f.red v.red, full-valid f.bits f.green v.green, full-valid f.bits f.blue v.blue) refl

fields_inside-valid : (f : Format) → IsValid f → has_fields_inside f ≡ true
fields_inside-valid f v = rw (inside-valid f.bits f.red v.red, inside-valid f.bits f.green v.green, inside-valid f.bits f.blue v.blue) refl

fields_apart-valid : (f : Format) → IsValid f → has_fields_apart f ≡ true
fields_apart-valid f v = rw (v.red_and_green, v.red_and_blue, v.green_and_blue) refl

-- an accepted format
ok_is : (f g : Format) → ◌≡◌ {A = Result Format PixelFormatFault} (Ok f) (Ok g) → f ≡ g
ok_is f g e = cc

-- a format that is written is read again
flag_is : (b : Bool) → is_flag (flag b) ≡ b
flag_is true = refl
flag_is false = refl

split : (n : ℕ) → 256 * (n / 256) + n % 256 ≡ n
split n = omega arith

pub of_written : (f : Format) → format_of (format_bytes f) ≡ f
of_written f = rw (split f.red.max, split f.green.max, split f.blue.max, flag_is f.big_endian) refl

pub read_written : (f : Format) → IsValid f → format_at (format_bytes f) ≡ Ok f
read_written f v =
    let is = of_written f in
    let bits : has_bits f ≡ true = has_bits-valid f.bits v.whole in
    let maxima : has_maxima f ≡ true = maxima-valid f v in
    let inside : has_fields_inside f ≡ true = fields_inside-valid f v in
    let apart : has_fields_apart f ≡ true = fields_apart-valid f v in
    accepted (format_bytes f)
    (subst (λ (g : Format). has_bits g ≡ true) (sym is) bits) refl
    (subst (λ (g : Format). has_maxima g ≡ true) (sym is) maxima)
    (subst (λ (g : Format). has_fields_inside g ≡ true) (sym is) inside)
    (subst (λ (g : Format). has_fields_apart g ≡ true) (sym is) apart) ∙ ap Ok is

-- what of a number is written
pub flag-byte : (b : Bool) → bool_byte b ≡ flag b
flag-byte true = refl
flag-byte false = refl

pub high_byte : (n : ℕ) → n < 2 ^ 16 → n / 256 % 256 ≡ n / 256
high_byte n small = omega arith

-- a maximum has two bytes
pub max_small : (bits : ℕ) (c : Channel) → IsChannel bits c → c.max < 2 ^ 16
max_small bits c v =
    let power : 2 ^ v.full.0 ≤ 2 ^ 16 = pow-le-pow_right (omega arith) v.full.1 in
    omega (arith, v.full.2)

-- what is accepted passed each test
pub unless_ok : (b : Bool) (fault : PixelFormatFault) (next : Result Format PixelFormatFault) (f : Format) → unless b fault next ≡ Ok f → (b ≡ true) × (next ≡ Ok f)
unless_ok true fault next f e = (refl, e)
unless_ok false fault next f e = absurd (cc)

pub record Accepted (bytes : List ℕ) (f : Format) : Type 0 where
  pub is : f ≡ format_of bytes
  pub color : is_flag (slice_index bytes 3) ≡ true
  pub valid : IsValid f

pub accepted_is : (bytes : List ℕ) (f : Format) → format_at bytes ≡ Ok f → Accepted bytes f
unfolding format_at
accepted_is bytes f e =
    let bits = unless_ok (has_bits (format_of bytes)) faults.BadBits (unless (is_flag (slice_index bytes 3)) faults.NoTrueColor
    (unless (has_maxima (format_of bytes)) faults.BadMax (unless (has_fields_inside (format_of bytes)) faults.FieldOutside
    (unless (has_fields_apart (format_of bytes)) faults.FieldsOverlap (Ok (format_of bytes)))))) f e in
    let color = unless_ok (is_flag (slice_index bytes 3)) faults.NoTrueColor (unless (has_maxima (format_of bytes)) faults.BadMax
    (unless (has_fields_inside (format_of bytes)) faults.FieldOutside (unless (has_fields_apart (format_of bytes)) faults.FieldsOverlap (Ok (format_of bytes))))) f bits.1 in
    let maxima = unless_ok (has_maxima (format_of bytes)) faults.BadMax (unless (has_fields_inside (format_of bytes)) faults.FieldOutside
    (unless (has_fields_apart (format_of bytes)) faults.FieldsOverlap (Ok (format_of bytes)))) f color.1 in
    let inside = unless_ok (has_fields_inside (format_of bytes)) faults.FieldOutside
    (unless (has_fields_apart (format_of bytes)) faults.FieldsOverlap (Ok (format_of bytes))) f maxima.1 in
    let apart = unless_ok (has_fields_apart (format_of bytes)) faults.FieldsOverlap (Ok (format_of bytes)) f inside.1 in
    let is : f ≡ format_of bytes = sym (ok_is (format_of bytes) f apart.1) in
    record { is = is; color = color.0; valid = subst IsValid (sym is) (passes_valid (format_of bytes) bits.0 maxima.0 inside.0 apart.0) }

pub is_accepted : (bytes : List ℕ) (f : Format) → f ≡ format_of bytes → 0 < slice_index bytes 3 → IsValid f → format_at bytes ≡ Ok f
is_accepted bytes f is color v =
    let flag_of : is_flag (slice_index bytes 3) ≡ true = ap not (ne_eqb (slice_index bytes 3) 0 (λ none. absurd (omega arith))) in
    let valid : IsValid (format_of bytes) = subst IsValid is v in
    let bits : has_bits (format_of bytes) ≡ true = has_bits-valid (format_of bytes).bits valid.whole in
    let maxima : has_maxima (format_of bytes) ≡ true = maxima-valid (format_of bytes) valid in
    let inside : has_fields_inside (format_of bytes) ≡ true = fields_inside-valid (format_of bytes) valid in
    let apart : has_fields_apart (format_of bytes) ≡ true = fields_apart-valid (format_of bytes) valid in
    accepted bytes bits flag_of maxima inside apart ∙ ap Ok (sym is)

pub flag_some : (n : ℕ) → is_flag n ≡ true → 0 < n
flag_some zero e = absurd (cc)
flag_some (suc n) e = omega arith
