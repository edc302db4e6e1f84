use Rattle.std.proofs.Common.{◌≡◌, ◌+◌, ◌<◌, inl, inr, ◌∙◌, ◌++◌, true, false, length, sym, ap, arith, append_assoc}
use Rattle.std.proofs.lemmas.Grind.{common_steps}
use Rattle.std.proofs.lemmas.List.{length-append}
use Rattle.std.proofs.lemmas.Option.{IfSome_then}
use Rattle.rre.specs.Grammar.{subrectangle_bytes, subrectangle_of, is_inside}
use Rattle.rre.specs.Measuring.{wants_of}
use Rattle.rre.proofs.Steps.{parts_inside, parts_outside, parts_of}
use Rattle.rre.proofs.measuring.judge_parts.Goals as goal
use Rattle.rre.proofs.measuring.judge_parts.Goals.{then-loop-left-test+else-rest-size, else-loop-left-test}

pub returns-then-not-is_part_inside-clause-refused : goal.returns-then-not-is_part_inside-clause-refused
returns-then-not-is_part_inside-clause-refused c =
    let f = c.args.format.now in
    let i = c.loop-left.invariant in
    let part = c.split_at.result.0.now in
    let following = c.split_at.result.1.now in
    let whole : length part ≡ subrectangle_bytes f = omega arith in
    let outside : is_inside c.args.w c.args.h (subrectangle_of f part) ≡ false = cc in
    let is : c.loop-left.rest.now ≡ part ++ following = parts_of _ c.loop-left.rest.now part following c.split_at.ensures.front c.split_at.ensures.back in
    parts_outside f c.args.w c.args.h c.args.count c.loop-left.left i.front part following c.args.bytes.now
    i.same (i.bytes_are ∙ ap (λ z. i.front ++ z) is) (omega arith) whole outside

pub loop-left-preserved : goal.loop-left-preserved
loop-left-preserved c =
    let f = c.args.format.now in
    let i = c.loop-left.invariant in
    let part = c.split_at.result.0.now in
    let following = c.split_at.result.1.now in
    let whole : length part ≡ subrectangle_bytes f = omega arith in
    let inside : is_inside c.args.w c.args.h (subrectangle_of f part) ≡ true = cc in
    let is : c.loop-left.rest.now ≡ part ++ following = parts_of _ c.loop-left.rest.now part following c.split_at.ensures.front c.split_at.ensures.back in
    let size : length c.args.bytes.now ≡ length i.front + length c.loop-left.rest.now = ap length i.bytes_are ∙ length-append i.front c.loop-left.rest.now in
    record {
      front = i.front ++ part;
      bytes_are = i.bytes_are ∙ ap (λ z. i.front ++ z) is ∙ sym (append_assoc i.front part following);
      same = parts_inside f c.args.w c.args.h c.args.count c.loop-left.left i.front part i.same (omega arith) whole inside;
      fewer = omega arith;
      first = inr (omega (arith, whole, size, c.split_at.ensures.back_len));
    }

pub returns-clause-waits : goal.returns-clause-waits
returns-clause-waits c =
    let f = c.args.format.now in
    let i = c.loop-left.invariant in
    let size : length c.args.bytes.now ≡ length i.front + length c.loop-left.rest.now = ap length i.bytes_are ∙ length-append i.front c.loop-left.rest.now in
    elim c.loop-left-test.branch [
      | then-loop-left-test+else-rest-size w ↦
          IfSome_then c.next_of.result (c.next_of.ensures.waits f) (λ next is.
          let few : length c.loop-left.rest.now < wants_of f next = rw is (omega (arith, w.if-rest-size.false)) in
          omega (arith, few, size))
      | else-loop-left-test w ↦ rw (c.next_of.ensures.ends (omega (arith, w.loop-left-test.false))) tt
    ]

pub returns-clause-first : goal.returns-clause-first
returns-clause-first c = λ some whole.
    let i = c.loop-left.invariant in
    elim i.first [
      | inl none ↦ elim c.loop-left-test.branch [
        | then-loop-left-test+else-rest-size w ↦ absurd (omega (arith, whole, none.1, w.if-rest-size.false))
        | else-loop-left-test w ↦ absurd (omega (arith, some, none.0, w.loop-left-test.false))
      ]
      | inr moved ↦ omega (arith, moved)
    ]

pub overflow_sub-result : goal.overflow_sub-result
overflow_sub-result c = grind (arith, common_steps)

pub returns-clause-goes : goal.returns-clause-goes
returns-clause-goes c = grind (arith, common_steps)
