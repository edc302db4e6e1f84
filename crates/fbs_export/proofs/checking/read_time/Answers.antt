use Rattle.std.proofs.Common.{◌≡◌, ◌<◌, ◌≤◌, ◌+◌, ℕ, List, length, take, drop, sym, ap, ◌∙◌, arith, rules, refl, inr}
use Rattle.std.proofs.lemmas.Grind.{common_steps}
use Rattle.std.proofs.KnownBytes.{Consumes-whole}
use Rattle.std.proofs.lemmas.List.{length-take, take_all}
use Rattle.std.proofs.lemmas.Slice.{take-put_mid}
use Rattle.terms.specs.Number.{u32_at}
use Rattle.fbs_export.specs.Blocks.{padding_length}
use Rattle.fbs_export.proofs.Blocks.{number_again}
use Rattle.fbs_export.proofs.checking.read_time.Goals as goal

pub returns-then-came-padding-clause-fault : goal.returns-then-came-padding-clause-fault
returns-then-came-padding-clause-fault g c =
    let n : ℕ = c.args.length in
    let some : List ℕ = take c.in_ok-came.came c.fill.new.buffer in
    let few : length some < padding_length n + 4 = omega (arith, length-take c.in_ok-came.came c.fill.new.buffer, c.if-came-padding.true, c.padding_of-padding.ensures.value) in
    inr (refl, Consumes-whole _ _ some (λ rest. (0 ≤ length rest) × (length rest < padding_length n + 4)) c.in_ok-came.ensures.read (c.in_ok-came.ensures.end (search rules)) (omega arith, few))

pub returns-clause-timed : goal.returns-clause-timed
returns-clause-timed g c =
    let n : ℕ = c.args.length in
    let last : List ℕ = take c.in_ok-came.came c.fill.new.buffer in
    let pad : ℕ = c.padding_of-padding.result in
    let size : length c.fill.new.buffer ≡ pad + 4 = search rules in
    let whole : last ≡ c.fill.new.buffer = take_all c.in_ok-came.came c.fill.new.buffer (omega (arith, size, c.if-came-padding.false)) in
    let timed : c.split_at.result.1.now ≡ drop pad last =
    c.split_at.ensures.back ∙ ap (drop pad) (take-put_mid 0 (pad + 4) _ c.fill.new.buffer (pad + 4) (omega (arith, size)) (omega arith) ∙ sym whole) in
    record {
      bytes = last;
      consumed = c.in_ok-came.ensures.read;
      count = omega (arith, ap (λ z. length z) whole, size, c.padding_of-padding.ensures.value);
      is = sym (number_again c.number_of.result c.number_of.type_inv) ∙ ap (λ l. u32_at l 0) (c.number_of.ensures ∙ timed ∙ ap (λ k. drop k last) c.padding_of-padding.ensures.value);
    }

pub slice_bounds-last-end-2 : goal.slice_bounds-last-end-2
slice_bounds-last-end-2 g c = grind (arith, common_steps)

pub slice_bounds-split_at-end : goal.slice_bounds-split_at-end
slice_bounds-split_at-end g c = grind (arith, common_steps)

pub number_of-requires : goal.number_of-requires
number_of-requires g c = grind (arith, common_steps)
