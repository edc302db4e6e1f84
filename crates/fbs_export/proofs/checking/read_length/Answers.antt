use Rattle.std.proofs.Common.{◌≡◌, ◌<◌, ◌≤◌, ℕ, List, length, take, arith, refl, inr}
use Rattle.std.proofs.KnownBytes.{Consumes-whole}
use Rattle.std.proofs.lemmas.List.{length-take}
use Rattle.fbs_export.proofs.checking.read_length.Goals as goal

pub returns-then-came-lt4-clause-fault : goal.returns-then-came-lt4-clause-fault
returns-then-came-lt4-clause-fault g c =
    let tail : List ℕ = take c.in_ok-came.came c.fill.new.buffer in
    let size : length tail ≡ c.in_ok-came.came = omega (arith, length-take c.in_ok-came.came c.fill.new.buffer, c.fill.ensures.size, c.if-came-lt4.true) in
    inr (refl, Consumes-whole _ _ tail (λ rest. (1 ≤ length rest) × (length rest < 4)) c.in_ok-came.ensures.read (c.in_ok-came.ensures.end c.if-came-lt4.true) (omega (arith, size, c.if-came-eq0.false), omega (arith, size, c.if-came-lt4.true)))
