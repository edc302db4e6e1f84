-- A byte leaves a register of CRC-32 at once.
use Rattle.std.proofs.Common.{◌≡◌, ◌<◌, ℕ, zero, suc, ◌+◌, ◌*◌, ◌/◌, ◌%◌, ◌^◌, refl, sym, ap, ◌∙◌, arith}
use Rattle.std.proofs.Math.Nat.{mul_assoc, pow-succ'}
use Rattle.std.specs.Int.Bits.{bit_xor, xor_assoc, xor_comm, xor_mod, xor_shifted, xor_shr, xor_zero_r}
use Rattle.pictures.specs.Checksums.{crc_bit, crc_bits, next_crc}

-- the polynomial twice is none
times_bit : (x y : ℕ) → x < 2 → y < 2 → bit_xor x y * 0xedb88320 ≡ bit_xor (x * 0xedb88320) (y * 0xedb88320)
times_bit zero zero p q = refl
times_bit zero (suc zero) p q = refl
times_bit (suc zero) zero p q = refl
times_bit (suc zero) (suc zero) p q = refl
times_bit zero (suc (suc y)) p q = absurd (omega arith)
times_bit (suc zero) (suc (suc y)) p q = absurd (omega arith)
times_bit (suc (suc x)) y p q = absurd (omega arith)

exchanged : (a b c d : ℕ) → bit_xor (bit_xor a b) (bit_xor c d) ≡ bit_xor (bit_xor a c) (bit_xor b d)
exchanged a b c d =
    xor_assoc a b (bit_xor c d)
    ∙ ap (bit_xor a) (sym (xor_assoc b c d) ∙ ap (λ n. bit_xor n d) (xor_comm b c) ∙ xor_assoc c b d)
    ∙ sym (xor_assoc a c (bit_xor b d))

bit_of_both : (a b : ℕ) → crc_bit (bit_xor a b) ≡ bit_xor (crc_bit a) (crc_bit b)
bit_of_both a b =
    let low : bit_xor a b % 2 * 0xedb88320 ≡ bit_xor (a % 2 * 0xedb88320) (b % 2 * 0xedb88320) = ap (λ n. n * 0xedb88320) (xor_mod a b 1) ∙ times_bit (a % 2) (b % 2) (omega arith) (omega arith) in
    let high : bit_xor a b / 2 ≡ bit_xor (a / 2) (b / 2) = xor_shr a b 1 in
    ap (λ n. bit_xor n (bit_xor a b / 2)) low ∙ ap (bit_xor (bit_xor (a % 2 * 0xedb88320) (b % 2 * 0xedb88320))) high
    ∙ exchanged (a % 2 * 0xedb88320) (b % 2 * 0xedb88320) (a / 2) (b / 2)

bits_of_both : (k a b : ℕ) → crc_bits k (bit_xor a b) ≡ bit_xor (crc_bits k a) (crc_bits k b)
unfolding crc_bits
bits_of_both zero a b = refl
bits_of_both (suc k) a b = ap crc_bit (bits_of_both k a b) ∙ bit_of_both (crc_bits k a) (crc_bits k b)

-- a bit of zero leaves
zero_leaves : (n : ℕ) → crc_bit (n * 2) ≡ n
zero_leaves n =
    let low : n * 2 % 2 ≡ 0 = omega arith in
    let high : n * 2 / 2 ≡ n = omega arith in
    ap (λ m. bit_xor (m * 0xedb88320) (n * 2 / 2)) low ∙ high

zeros_leave : (k n : ℕ) → crc_bits k (n * 2 ^ k) ≡ n
unfolding crc_bits
zeros_leave zero n = omega arith
zeros_leave (suc k) n =
    let more : n * 2 ^ suc k ≡ n * 2 * 2 ^ k = ap (λ m. n * m) (pow-succ' 2 k) ∙ sym (mul_assoc n 2 (2 ^ k)) in
    ap crc_bit (ap (crc_bits k) more ∙ zeros_leave k (n * 2)) ∙ zero_leaves n

-- the lower byte of a register makes what a table says, and the others move down
pub byte_leaves : (c : ℕ) → crc_bits 8 c ≡ bit_xor (crc_bits 8 (c % 256)) (c / 256)
byte_leaves c =
    let below : c % 256 < 2 ^ 8 = omega arith in
    let parts : c / 256 * 2 ^ 8 + c % 256 ≡ c = omega arith in
    let cut : c ≡ bit_xor (c / 256 * 2 ^ 8) (c % 256) = sym (xor_shifted (c / 256) 8 (c % 256) below ∙ parts) in
    ap (crc_bits 8) cut ∙ bits_of_both 8 (c / 256 * 2 ^ 8) (c % 256)
    ∙ ap (λ n. bit_xor n (crc_bits 8 (c % 256))) (zeros_leave 8 (c / 256))
    ∙ xor_comm (c / 256) (crc_bits 8 (c % 256))

-- a byte that comes changes only the lower byte
others_stay : (c x : ℕ) → x < 256 → bit_xor c x / 256 ≡ c / 256
others_stay c x small =
    let none : x / 256 ≡ 0 = omega arith in
    xor_shr c x 8 ∙ ap (bit_xor (c / 256)) none ∙ xor_zero_r (c / 256)

pub next_by_table : (c x : ℕ) → x < 256 → next_crc c x ≡ bit_xor (crc_bits 8 (bit_xor c x % 256)) (c / 256)
unfolding next_crc
next_by_table c x small = byte_leaves (bit_xor c x) ∙ ap (bit_xor (crc_bits 8 (bit_xor c x % 256))) (others_stay c x small)
