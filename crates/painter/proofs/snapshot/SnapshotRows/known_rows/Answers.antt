use Rattle.std.proofs.Common.{subst}
use Rattle.std.specs.Arc.{arc_value}
use Rattle.painter.specs.Framebuffer.{Framebuffer, AreColorsOf}
use Rattle.painter.specs.WholeRows.{stacked}
use Rattle.painter.specs.Sent.{area_colors}
use Rattle.painter.proofs.SentColors.{colors_are}
use Rattle.painter.proofs.snapshot.SnapshotRows.known_rows.Goals as goal

pub returns : goal.returns
returns c = λ area within.
    let s = c.self.inside in
    let inside = rw (← c.self.view_is) at within in
    subst (λ (screen : Framebuffer). AreColorsOf screen area (area_colors screen area)) c.self.view_is
    (colors_are (stacked s.size.width s.size.height (arc_value s.rows).items) area c.self.invariant.filled inside.columns inside.rows)
