use Rattle.std.proofs.Common.{◌≡◌, ℕ, List, false, length, take, sym, ap, ◌∙◌, arith}
use Rattle.std.proofs.lemmas.Grind.{common_steps}
use Rattle.std.proofs.KnownBytes.{Consumes-whole}
use Rattle.std.proofs.lemmas.List.{length-take, take_all, take_at}
use Rattle.fbs_export.specs.Blocks.{is_start}
use Rattle.fbs_export.proofs.Starts.{short_start}
use Rattle.fbs_export.proofs.Fronts.{of_front}
use Rattle.fbs_export.proofs.checking.read_start.Goals as goal

pub returns-then-came-lt12-clause-fault : goal.returns-then-came-lt12-clause-fault
returns-then-came-lt12-clause-fault g c =
    let bytes : List ℕ = take c.in_ok-came.came c.fill.new.buffer in
    Consumes-whole _ _ bytes (λ b. is_start (take 12 b) ≡ false) c.in_ok-came.ensures.read (c.in_ok-came.ensures.end c.if-came-lt12.true)
    (short_start bytes (omega (arith, length-take c.in_ok-came.came c.fill.new.buffer, c.if-came-lt12.true)))

pub returns-then-not-begins_a_file-clause-fault : goal.returns-then-not-begins_a_file-clause-fault
returns-then-not-begins_a_file-clause-fault g c =
    let bytes : List ℕ = take c.in_ok-came.came c.fill.new.buffer in
    let all : bytes ≡ c.fill.new.buffer = take_all c.in_ok-came.came c.fill.new.buffer (omega (arith, c.fill.ensures.size, c.if-came-lt12.false)) in
    let bad : is_start bytes ≡ false = ap is_start all ∙ sym c.begins_a_file.ensures ∙ c.if-not-begins_a_file.true in
    let long : length bytes ≡ 12 = ap (λ z. length z) all ∙ c.fill.ensures.size in
    of_front _ _ bytes (λ b. is_start (take 12 b) ≡ false) c.in_ok-came.ensures.read (λ following. ap is_start (take_at bytes following 12 long) ∙ bad)

pub returns-clause-started : goal.returns-clause-started
returns-clause-started g c = grind (arith, common_steps)
