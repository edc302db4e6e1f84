use Rattle.std.proofs.Common.{◌-◌, ◌+◌, ◌<◌, ap, arith}
use Rattle.terms.specs.declared.screen_size.ScreenSize.{ScreenSize}
use Rattle.painter.specs.Framebuffer.{color_at}
use Rattle.pictures.specs.Plain.{row_text, pixel_text}
use Rattle.pictures.proofs.Texts.{row_step, one_more}
use Rattle.pictures.proofs.plain.append_row.Goals as goal

pub loop-x-preserved : goal.loop-x-preserved
loop-x-preserved c =
    let s = c.args.screen.now in
    let f = c.args.format in
    let x = c.loop-x.x in
    let y = c.args.y in
    let wide = ap (λ (z : ScreenSize). z.width) c.size-size.ensures in
    let inside : x < s.width = omega (arith, c.loop-x-test.true, wide) in
    rw (c.in_ok-append_pixel.ensures, c.color.ensures.value) (one_more c.loop-x.out.items (pixel_text f (color_at s x y)) (row_text f (color_at s) y (x + 1) (s.width - (x + 1))) (row_text f (color_at s) y x (s.width - x)) _
    c.loop-x.invariant (row_step f (color_at s) y x s.width inside))
