use Rattle.std.proofs.Common.{refl, arith}
use Rattle.std.proofs.lemmas.Grind.{common_steps}
use Rattle.painter.proofs.Screens.{is_black}
use Rattle.painter.proofs.sheet.Sheet.black.Goals as goal

pub returns-clause-black : goal.returns-clause-black
returns-clause-black c =
    is_black c.args.size.width c.args.size.height c.in_ok-pixels.pixels.items _ refl (rw (c.from.ensures, c.from-2.ensures) at (c.in_ok-pixels.ensures.items_if_clones_equal (λ _ e. e)))

pub invariant_of-result : goal.invariant_of-result
invariant_of-result c = grind (arith, common_steps)
