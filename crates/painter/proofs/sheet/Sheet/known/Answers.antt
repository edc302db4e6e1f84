use Rattle.std.proofs.Common.{◌∙◌, sym, subst}
use Rattle.painter.specs.WholeRows.{IsFilled}
use Rattle.painter.proofs.SentColors.{are_filled}
use Rattle.painter.proofs.sheet.Sheet.known.Goals as goal

pub returns : goal.returns
returns c =
    let s = c.self.inside in
    subst IsFilled c.self.view_is (are_filled s.size.width s.size.height s.pixels.items (sym s.pixels.ok.0 ∙ c.self.invariant))
