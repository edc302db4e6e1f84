use Rattle.std.proofs.Common.{◌≡◌, arith}
use Rattle.terms.specs.Number.{u32_at}
use Rattle.fbs_export.proofs.Numbers.{number_bytes}
use Rattle.fbs_export.proofs.checking.number_of.Goals as goal

pub returns : goal.returns
returns c =
    let number : c.read_u32.result ≡ u32_at c.args.bytes.now 0 = omega (arith, c.read_u32.ensures) in
    number_bytes c.args.bytes.now c.read_u32.result c.requires (λ i. omega (arith, c.type_inv.bytes i)) number
