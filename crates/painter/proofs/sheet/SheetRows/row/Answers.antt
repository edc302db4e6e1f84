use Rattle.std.proofs.Common.{◌≡◌, ◌+◌, ◌*◌, ◌≤◌, ◌∙◌, length, map, take, drop, sym, ap, arith}
use Rattle.std.proofs.Math.Nat.{mul-le-mul_left}
use Rattle.std.proofs.lemmas.List.{length-take, length-drop}
use Rattle.painter.specs.Framebuffer.{Framebuffer}
use Rattle.painter.specs.Pixels.{color_of}
use Rattle.painter.specs.Sent.{row_colors}
use Rattle.painter.proofs.SentColors.{row_is}
use Rattle.painter.proofs.sheet.SheetRows.row.Goals as goal

pub returns-clause-colors : goal.returns-clause-colors
returns-clause-colors c =
    let s = c.self.inside in
    ap (map color_of) (c.area_row.ensures ∙ ap (λ ps. take c.args.area.w (drop ((c.args.area.y + c.args.row) * s.size.width + c.args.area.x) ps)) c.deref.ensures.value)
    ∙ row_is s.size.width s.size.height s.pixels.items c.args.area c.args.row
    ∙ ap (λ (screen : Framebuffer). row_colors screen c.args.area c.args.row) c.self.view_is

pub returns-clause-length : goal.returns-clause-length
returns-clause-length c =
    let s = c.self.inside in
    let area = c.args.area in
    let within = rw (← c.self.view_is) at c.requires.within in
    let columns = within.columns in
    let rows = within.rows in
    let down = c.requires.row in
    let below : area.y + c.args.row + 1 ≤ s.size.height = omega (arith, rows, down) in
    let reach = mul-le-mul_left s.size.width below in
    let size : length s.pixels.items ≡ s.size.height * s.size.width = sym s.pixels.ok.0 ∙ c.self.invariant in
    ap length (c.area_row.ensures ∙ ap (λ ps. take area.w (drop ((area.y + c.args.row) * s.size.width + area.x) ps)) c.deref.ensures.value)
    ∙ simp (length-take, length-drop) (omega (arith, size, reach, columns))
