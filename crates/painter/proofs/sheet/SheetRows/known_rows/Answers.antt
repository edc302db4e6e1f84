use Rattle.std.proofs.Common.{◌∙◌, sym, subst}
use Rattle.painter.specs.Framebuffer.{Framebuffer, AreColorsOf}
use Rattle.painter.specs.Sent.{area_colors}
use Rattle.painter.proofs.Screens.{screen_of}
use Rattle.painter.proofs.SentColors.{are_filled, colors_are}
use Rattle.painter.proofs.sheet.SheetRows.known_rows.Goals as goal

pub returns : goal.returns
returns c = λ area within.
    let s = c.self.inside in
    let inside = rw (← c.self.view_is) at within in
    subst (λ (screen : Framebuffer). AreColorsOf screen area (area_colors screen area)) c.self.view_is
    (colors_are (screen_of s.size.width s.size.height s.pixels.items) area (are_filled s.size.width s.size.height s.pixels.items (sym s.pixels.ok.0 ∙ c.self.invariant)) inside.columns inside.rows)
