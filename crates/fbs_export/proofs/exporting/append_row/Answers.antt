use Rattle.std.proofs.Common.{◌-◌, ◌+◌, ◌<◌, ap, arith}
use Rattle.painter.specs.Framebuffer.{color_at}
use Rattle.fbs_export.specs.Export.{row_text, pixel_text}
use Rattle.fbs_export.proofs.Texts.{row_step, one_more}
use Rattle.terms.specs.declared.screen_size.ScreenSize.{ScreenSize}
use Rattle.fbs_export.proofs.exporting.append_row.Goals as goal

pub loop-x-preserved : goal.loop-x-preserved
loop-x-preserved c =
    let s = c.args.screen.now in
    let x = c.loop-x.x in
    let y = c.args.y in
    let wide = ap (λ (s : ScreenSize). s.width) c.size-x-end.ensures in
    let inside : x < s.width = omega (arith, c.loop-x-test.true, wide) in
    rw (c.in_ok-extend_from_slice.ensures.items, c.color-color.ensures.value) (one_more c.loop-x.out.items (pixel_text (color_at s x y)) (row_text (color_at s) y (x + 1) (s.width - (x + 1))) (row_text (color_at s) y x (s.width - x)) _
    c.loop-x.invariant (row_step (color_at s) y x s.width inside))
