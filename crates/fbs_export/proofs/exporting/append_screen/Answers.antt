use Rattle.std.proofs.Common.{◌-◌, ◌+◌, ◌++◌, ◌<◌, ◌≡◌, List, ℕ, ap, refl, ◌∙◌, append_assoc, arith}
use Rattle.painter.specs.Framebuffer.{color_at}
use Rattle.rfb_wire.specs.Written.{raw_head}
use Rattle.fbs_export.specs.Export.{row_text, rows_text, screen_text}
use Rattle.fbs_export.proofs.Texts.{rows_step, one_more}
use Rattle.terms.specs.Area.{whole_area}
use Rattle.terms.specs.declared.screen_size.ScreenSize.{ScreenSize}
use Rattle.fbs_export.proofs.exporting.append_screen.Goals as goal

pub loop-y-init : goal.loop-y-init
unfolding screen_text
loop-y-init c =
    let s = c.args.screen.now in
    let wide = ap (λ (s : ScreenSize). s.width) c.size-size.ensures in
    let high = ap (λ (s : ScreenSize). s.height) c.size-size.ensures in
    let head : List ℕ = raw_head (whole_area s.width s.height) in
    let mid : c.write_update_head.new.out.items ≡ c.args.out.now.items ++ head = c.in_ok-write_update_head.ensures.ok ∙ rw (c.number.ensures, c.whole.ensures, wide, high) refl in
    let all : s.height - 0 ≡ s.height = omega arith in
    rw (mid, all) (append_assoc c.args.out.now.items head (rows_text (color_at s) s.width 0 s.height))

pub loop-y-preserved : goal.loop-y-preserved
loop-y-preserved c =
    let s = c.args.screen.now in
    let y = c.loop-y.y in
    let high = ap (λ (s : ScreenSize). s.height) c.size-size.ensures in
    let inside : y < s.height = omega (arith, c.loop-y-test.true, high) in
    rw c.in_ok-append_row.ensures (one_more c.loop-y.out.items (row_text (color_at s) y 0 s.width) (rows_text (color_at s) s.width (y + 1) (s.height - (y + 1))) (rows_text (color_at s) s.width y (s.height - y)) _
    c.loop-y.invariant (rows_step (color_at s) s.width y s.height inside))
