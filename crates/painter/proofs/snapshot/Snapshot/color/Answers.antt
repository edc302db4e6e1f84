use Rattle.std.proofs.Common.{◌≡◌, ◌+◌, ◌<◌, ◌∙◌, ℕ, List, length, sym, ap, arith}
use Rattle.std.proofs.lemmas.List.{get_or_default}
use Rattle.pixel_format.specs.declared.Color.{Color}
use Rattle.pixel_format.specs.Canvas.{nth}
use Rattle.painter.specs.Framebuffer.{color_at}
use Rattle.painter.specs.Pixels.{black_pixel, color_of}
use Rattle.painter.proofs.Screens.{color_is}
use Rattle.painter.proofs.SentColors.{row_color}
use Rattle.painter.proofs.snapshot.Snapshot.color.Goals as goal

pub returns-clause-value : goal.returns-clause-value
returns-clause-value c =
    let screen = c.args.self.now in
    let x : c.args.x + 0 ≡ c.args.x = omega arith in
    let y : c.args.y + 0 ≡ c.args.y = omega arith in
    let fits : 0 < length c.row-row.result.now = omega (arith, c.row-row.ensures.length) in
    c.color_of_pixel.ensures.value
    ∙ ap color_of (c.index-row-0.is ∙ get_or_default c.row-row.result.now 0 c.index-row-0.result black_pixel fits)
    ∙ sym (color_is c.row-row.result.now 0)
    ∙ ap (λ (cs : List Color). nth cs 0) c.row-row.ensures.colors
    ∙ row_color screen (record { x = c.args.x; y = c.args.y; w = 1; h = 1 }) 0 0 (omega arith)
    ∙ ap (λ (n : ℕ). color_at screen n (c.args.y + 0)) x
    ∙ ap (color_at screen c.args.x) y
