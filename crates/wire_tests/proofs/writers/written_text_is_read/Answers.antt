use Rattle.std.proofs.Common.{◌≡◌, ℕ, ◌/◌, ◌%◌, ◌^◌, ◌<◌, List, [], ◌∷◌, ◌++◌, length, refl, ◌∙◌, arith}
use Rattle.terms.specs.Number.{u32_at}
use Rattle.rfb_wire.proofs.Messages.{other_is_read}
use Rattle.rfb_wire.proofs.Others.{other_of_text, text_again, long_text_again}
use Rattle.wire_tests.proofs.writers.written_text_is_read.Goals as goal

-- the seven bytes after the type
abbrev after_type : ℕ → List ℕ
after_type n = 0 ∷ 0 ∷ 0 ∷ n / 16777216 ∷ n / 65536 % 256 ∷ n / 256 % 256 ∷ n % 256 ∷ []

length_of_head : (n : ℕ) → n < 2 ^ 32 → n ≡ u32_at (after_type n) 3
length_of_head n small = omega arith

pub returns-clause-short : goal.returns-clause-short
returns-clause-short c = λ limit width height text short.
    let n : ℕ = length text in
    let is : n ≡ u32_at (after_type n) 3 = length_of_head n (omega arith) in
    other_is_read limit width height 3 (after_type n ++ text) refl ∙ other_of_text (after_type n ++ text)
    ∙ text_again (after_type n) text refl is short

pub returns-clause-long : goal.returns-clause-long
returns-clause-long c = λ limit width height text long small.
    let n : ℕ = length text in
    let is : n ≡ u32_at (after_type n) 3 = length_of_head n small in
    other_is_read limit width height 3 (after_type n ++ text) refl ∙ other_of_text (after_type n ++ text)
    ∙ long_text_again (after_type n) text refl is long
