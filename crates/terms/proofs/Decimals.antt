-- What std's `parse` says of digits.
use Rattle.std.proofs.Common.{◌≡◌, ℕ, ◌^◌, ◌<◌, true, false, List, [], ◌∷◌, length, Some, Result, Ok, Err, refl, ap, ◌∙◌, inl, inr, arith, rules}
use Rattle.std.specs.Char.{is_ascii_digit}
use Rattle.std.specs.List.{list_all}
use Rattle.std.specs.Prelude.{MatchResult, is_ok}
use Rattle.std.specs.Result.{OkIff, result_ok}
use Rattle.std.proofs.lemmas.Option.{same_Some}
use Rattle.std.specs.Str.{IsAscii, IsUtf8}
use Rattle.std.specs.Str.Parse.{ParsesUnsigned}
use Rattle.std.proofs.lemmas.Bool.{and_parts, lt-ltb, le-ltb, cases_lt}
use Rattle.std.proofs.lemmas.Bool.Decides.{nat_tests}
use Rattle.std.proofs.lemmas.Str.{IsUtf8-from_ascii}
use Rattle.std.proofs.lemmas.Str.Ascii.{IsAscii-nil, IsAscii-cons}
use Rattle.std.proofs.lemmas.Str.Parse.{IsNumeralModel, numerals_by_weight, parse_digits}
use Rattle.terms.specs.Decimal.{decimal, number_of}

-- digits and their value are std's
own : IsNumeralModel (λ ds. list_all is_ascii_digit ds ≡ true) decimal
own = numerals_by_weight _ (search rules) decimal (search rules)

parsed : {E : Type 0} (word : List ℕ) (r : Result ℕ E) → OkIff r ((0 < length word) × (decimal word < 2 ^ 64)) (decimal word) → list_all is_ascii_digit word ≡ true
    → result_ok r ≡ number_of (2 ^ 64) word
parsed [] (Ok n) f p = absurd (omega (arith, f.0.0))
parsed [] (Err e) f p = refl
parsed (c ∷ cs) (Ok n) f p = rw (p, lt-ltb (decimal (c ∷ cs)) (2 ^ 64) f.0.1, f.1) refl
parsed (c ∷ cs) (Err e) f p =
    elim (cases_lt (decimal (c ∷ cs)) (2 ^ 64)) [
      | inl below ↦ absurd (f (omega arith, below))
      | inr above ↦ rw (p, le-ltb (decimal (c ∷ cs)) (2 ^ 64) above) refl
    ]

-- a number that was parsed
pub number_parsed : {E : Type 0} (word : List ℕ) (r : Result ℕ E) → ParsesUnsigned 64 10 word r → list_all is_ascii_digit word ≡ true → result_ok r ≡ number_of (2 ^ 64) word
number_parsed word r h p = parsed word r (parse_digits own 64 word r h p) p

-- digits are text
digits_ascii : (word : List ℕ) → list_all is_ascii_digit word ≡ true → IsAscii word
digits_ascii [] p = IsAscii-nil
digits_ascii (c ∷ cs) p =
    let parts = and_parts (is_ascii_digit c) (list_all is_ascii_digit cs) p in
    let digit : is_ascii_digit c ≡ true = parts.0 in
    let low : c < 128 = grind (arith, nat_tests) in
    IsAscii-cons c cs low (digits_ascii cs parts.1)

pub digits_text : (word : List ℕ) → list_all is_ascii_digit word ≡ true → IsUtf8 word
digits_text word p = IsUtf8-from_ascii word (digits_ascii word p)

-- bytes that are text are the text that they are read as
pub text_is : {T E : Type 0} (text : T → List ℕ) (bytes : List ℕ) (U : Type 0) (Q : E → Type 0) (r : Result T E) (x : T) → MatchResult r (λ s. (text s ≡ bytes) × U) Q
    → Some x ≡ result_ok r → text x ≡ bytes
text_is text bytes U Q (Ok s) x h e = ap text (same_Some x s e) ∙ h.0
text_is text bytes U Q (Err d) x h e = absurd cc

-- bytes that are text are read
pub text_is_read : {T E : Type 0} (P : T → Type 0) (U : Type 0) (Q : E → Type 0) (r : Result T E) → MatchResult r P (λ e. (U → ⊥) × Q e) → U → false ≡ is_ok r → ⊥
text_is_read P U Q (Ok s) h u e = absurd cc
text_is_read P U Q (Err d) h u e = h.0 u
