use Rattle.std.proofs.Common.{◌≡◌, ◌+◌, ◌*◌, inl, inr, get_or, refl, arith, ap, sym, ◌∙◌, length}
use Rattle.std.proofs.lemmas.Bool.{cases_lt}
use Rattle.pixel_format.specs.Number.{number_color}
use Rattle.pixel_format.proofs.Numbers.{color_nth}
use Rattle.rre.proofs.cover.grow.Goals as goal

pub loop-end-preserved : goal.loop-end-preserved
loop-end-preserved c =
    let w = length c.args.reach.now in
    let end = c.loop-end.end in
    let some = c.loop-end.invariant.some in
    record {
      some = omega arith;
      within = omega (arith, c.loop-end-test.true);
      same = λ k r across down up. elim (cases_lt r end) [
        | inl above ↦ c.loop-end.invariant.same k r across down above
        | inr level ↦
            let last : r ≡ end = omega arith in
            let at : r * w + (c.args.column + k) ≡ end * w + c.args.column + k = ap (λ n. n * w + (c.args.column + k)) last ∙ omega arith in
            ap (λ n. get_or c.args.numbers.now n 0) at ∙ c.if-has_number.ensures refl k across
      ];
    }

pub returns-clause-uniform : goal.returns-clause-uniform
returns-clause-uniform c =
    let f = c.args.format.now in
    let w = length c.args.reach.now in
    let within = c.loop-end.invariant.within in
    let some = c.loop-end.invariant.some in
    let across = c.run_end.ensures.within in
    let wide = c.run_end.ensures.some in
    record {
      within = record { columns = omega arith; rows = omega arith };
      across = omega arith;
      down = omega arith;
      same = λ a b left above.
          color_nth f c.args.numbers.now ((c.args.row + b) * w + (c.args.column + a))
          ∙ ap (number_color f) (c.loop-end.invariant.same a (c.args.row + b) left (omega arith) (omega arith))
          ∙ sym c.color_of.ensures;
    }
