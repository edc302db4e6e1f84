use Rattle.std.proofs.Common.{◌≡◌, ◌<◌, ◌%◌, ◌/◌, length, sym, ap, ◌∙◌, arith}
use Rattle.std.specs.Int.RustNames.{bit_xor}
use Rattle.std.proofs.lemmas.List.{get_or_default}
use Rattle.std.proofs.lemmas.List.Sums.{fold_more}
use Rattle.pictures.specs.Checksums.{next_crc, crc_bits}
use Rattle.pictures.proofs.Registers.{next_by_table}
use Rattle.pictures.proofs.checksum.CrcTable.following.Goals as goal

pub loop-byte-preserved : goal.loop-byte-preserved
loop-byte-preserved c =
    let register = c.loop-byte.register in
    let bytes = c.args.bytes.now in
    let entries = c.args.self.now.entries.items in
    let slot = bit_xor register c.from.result % 256 in
    let below : slot < 256 = omega arith in
    let inside : slot < length entries = omega (arith, c.args.self.now.all) in
    let small : c.from.result < 256 = omega (arith, c.from.ensures, c.type_inv.bytes c.loop-byte.byte-index) in
    let entry : c.index.result.now ≡ crc_bits 8 slot = c.index.ensures ∙ get_or_default entries slot _ 0 inside ∙ c.args.self.now.right slot below in
    let more = fold_more next_crc c.args.before bytes c.loop-byte.byte-index 0 c.loop-byte-test.true in
    ap (λ n. bit_xor n (register / 256)) entry
    ∙ sym (next_by_table register c.from.result small)
    ∙ ap (λ r. next_crc r c.from.result) c.loop-byte.invariant
    ∙ ap (next_crc _) c.from.ensures
    ∙ sym more
