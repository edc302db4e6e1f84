use Rattle.std.proofs.Common.{◌≡◌, ℕ, ◌+◌, ◌/◌, ◌%◌, ◌^◌, ◌<◌, ◌≤◌, arith, sym, zero-add}
use Rattle.std.proofs.Math.Nat.{pow-le-pow_right, zero-mod}
use Rattle.std.proofs.lemmas.Nat.{shr_below}
use Rattle.pixel_format.proofs.format.value_of.Goals as goal

-- a number below 2 ^ 32 has no bits from 32 on
zero_beyond : (n s m : ℕ) → n < 2 ^ 32 → 32 ≤ s → 0 ≡ n / 2 ^ s % (m + 1)
zero_beyond n s m small above =
    let power : 2 ^ 32 ≤ 2 ^ s = pow-le-pow_right (omega arith) above in
    let below : n < 2 ^ (0 + s) = rw zero-add (omega arith) in
    let none : n / 2 ^ s ≡ 0 = omega (arith, shr_below n 0 s below) in
    rw none (sym (zero-mod (m + 1)))

pub returns-then-channel-ge32 : goal.returns-then-channel-ge32
returns-then-channel-ge32 c =
    zero_beyond c.args.number c.args.channel.shift c.args.channel.max (omega arith) c.if-channel-ge32.true
