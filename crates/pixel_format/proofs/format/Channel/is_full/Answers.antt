use Rattle.std.proofs.Common.{◌≡◌, ℕ, ◌-◌, ◌/◌, ◌^◌, ◌∙◌, ap, arith}
use Rattle.std.specs.Prelude.{nat_eq}
use Rattle.std.proofs.lemmas.Nat.{leading_length}
use Rattle.std.proofs.lemmas.Nat.Bits.{ones_shr}
use Rattle.pixel_format.proofs.Valid.{full_is}
use Rattle.pixel_format.proofs.format.Channel.is_full.Goals as goal
use lib.Count.{count_leading_zeros}

pub returns : goal.returns
returns c =
    let m = leading_length 16 c.args.self.max (omega arith) in
    let zeros : ℕ = count_leading_zeros 16 c.args.self.max in
    let shifted : 65535 / 2 ^ zeros ≡ 2 ^ (16 - zeros) - 1 = ones_shr 16 zeros (omega arith) in
    let is : 16 - zeros ≡ m.0 = omega arith in
    ap (nat_eq c.args.self.max) (shifted ∙ ap (λ k. 2 ^ k - 1) is) ∙ full_is c.args.self.max m.0 (omega arith) m.2 m.3
