use Rattle.std.proofs.Common.{◌≡◌, ◌+◌, ◌-◌, ◌*◌, ◌∙◌, ℕ, map, take, drop, sym, ap, arith}
use Rattle.std.proofs.lemmas.List.{drop-map, take-map}
use Rattle.painter.specs.WholeRows.{whole_row}
use Rattle.painter.specs.Framebuffer.{Framebuffer}
use Rattle.painter.specs.Pixels.{color_of}
use Rattle.painter.proofs.sheet.Sheet.whole_row.Goals as goal

pub returns : goal.returns
returns c =
    let s = c.self.inside in
    let y = c.args.y in
    let pixels = s.pixels.items in
    let w = s.size.width in
    let start : ℕ = y * w in
    let count : start + w - start ≡ w = omega arith in
    rw (c.from-width.ensures, c.deref.ensures.value)
    (ap (λ (m : ℕ). map color_of (take m (drop start pixels))) count
    ∙ sym (ap (take w) (drop-map color_of start pixels) ∙ take-map color_of w (drop start pixels))
    ∙ ap (λ (screen : Framebuffer). whole_row screen y) c.self.view_is)
