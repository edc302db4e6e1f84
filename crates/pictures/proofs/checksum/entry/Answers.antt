use Rattle.std.proofs.Common.{◌≡◌, ◌*◌, ◌/◌, ◌%◌, rules, sym, ap, ◌∙◌, add-one, arith}
use Rattle.std.specs.Int.Bits.{bit_xor}
use Rattle.pictures.specs.Checksums.{crc_bit, crc_bits}
use Rattle.pictures.proofs.checksum.entry.Goals as goal
use Rattle.pictures.proofs.checksum.entry.Goals.{then-register-eq1, else-register-eq1}

pub loop-bit-init : goal.loop-bit-init
unfolding crc_bits
loop-bit-init c = search rules

pub loop-bit-preserved : goal.loop-bit-preserved
unfolding crc_bits
loop-bit-preserved c =
    let register = c.loop-bit.register in
    let shifted = ap crc_bit c.loop-bit.invariant in
    rw add-one (elim c.if-register-eq1.branch [
      | then-register-eq1 w ↦
          let is_one : register % 2 ≡ 1 = w.if-register-eq1.true in
          w.register-is ∙ ap (λ n. bit_xor (n * 0xedb88320) (register / 2)) (sym is_one) ∙ shifted
      | else-register-eq1 w ↦
          let is_zero : register % 2 ≡ 0 = omega arith in
          w.register-is ∙ ap (λ n. bit_xor (n * 0xedb88320) (register / 2)) (sym is_zero) ∙ shifted
    ])
