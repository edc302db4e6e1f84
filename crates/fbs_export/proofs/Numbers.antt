-- Four bytes are the number that they spell.
use Rattle.std.proofs.Common.{◌≡◌, ◌<◌, ◌/◌, ◌%◌, ℕ, List, [], ◌∷◌, length, slice_index, refl, arith}
use Rattle.terms.specs.Number.{u32_at}
use Rattle.terms.specs.Number.{u32_bytes}

pub number_bytes : (bytes : List ℕ) (n : ℕ) → length bytes ≡ 4 → ((i : ℕ) → slice_index bytes i < 256) → n ≡ u32_at bytes 0 → u32_bytes n ≡ bytes
number_bytes [] n e small is = absurd (omega (arith, e))
number_bytes (a ∷ []) n e small is = absurd (omega (arith, e))
number_bytes (a ∷ b ∷ []) n e small is = absurd (omega (arith, e))
number_bytes (a ∷ b ∷ c ∷ []) n e small is = absurd (omega (arith, e))
number_bytes (a ∷ b ∷ c ∷ d ∷ []) n e small is =
    let first : n / 16777216 ≡ a = omega (arith, is, small 0, small 1, small 2, small 3) in
    let second : n / 65536 % 256 ≡ b = omega (arith, is, small 0, small 1, small 2, small 3) in
    let third : n / 256 % 256 ≡ c = omega (arith, is, small 0, small 1, small 2, small 3) in
    let last : n % 256 ≡ d = omega (arith, is, small 0, small 1, small 2, small 3) in
    rw (first, second, third, last) refl
number_bytes (a ∷ b ∷ c ∷ d ∷ x ∷ bytes) n e small is = absurd (omega (arith, e))
