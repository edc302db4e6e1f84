use Rattle.std.proofs.Common.{◌≡◌, ◌∙◌, ◌+◌, ◌*◌, inl, inr, ap, sym, get_or, arith}
use Rattle.std.proofs.lemmas.Bool.{cases_eq}
use Rattle.pixel_format.specs.Number.{number_color}
use Rattle.pixel_format.proofs.Numbers.{color_nth}
use Rattle.hextile.proofs.cover.grow.Goals as goal

pub loop-end-init : goal.loop-end-init
loop-end-init c = record {
  down = omega arith;
  within = omega arith;
  same = λ a b across down.
      let at : (c.args.row + b) * c.args.w + (c.args.column + a) ≡ c.args.row * c.args.w + c.args.column + a =
      let top : c.args.row + b ≡ c.args.row = omega arith in
      ap (λ n. n * c.args.w + (c.args.column + a)) top ∙ omega arith in
      ap (λ n. get_or c.args.numbers.now n 0) at ∙ c.run_length-width.ensures.one_number a across;
}

pub loop-end-preserved : goal.loop-end-preserved
loop-end-preserved c =
    let some = c.loop-end.invariant.down in
    let end = c.loop-end.end in
    record {
      down = omega arith;
      within = omega (arith, c.loop-end-test.true);
      same = λ a b across down. elim (cases_eq (c.args.row + b) end) [
        | inl level ↦
            let at : (c.args.row + b) * c.args.w + (c.args.column + a) ≡ end * c.args.w + c.args.column + a =
            ap (λ n. n * c.args.w + (c.args.column + a)) level ∙ omega arith in
            ap (λ n. get_or c.args.numbers.now n 0) at ∙ c.run_length.ensures.one_number a (omega (arith, across, c.if-run_length-width.true))
        | inr above ↦ c.loop-end.invariant.same a b across (omega (arith, down, above, some))
      ];
    }

pub returns-clause-uniform : goal.returns-clause-uniform
returns-clause-uniform c =
    let f = c.args.format.now in
    record {
      same = λ a b across down.
          color_nth f c.args.numbers.now ((c.args.row + b) * c.args.w + (c.args.column + a)) ∙ ap (number_color f) (c.loop-end.invariant.same a b across down) ∙ sym c.color_of.ensures;
    }
