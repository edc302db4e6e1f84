use Rattle.std.proofs.Common.{◌≡◌, ◌<◌, ℕ, ◌+◌, ◌-◌, List, ◌++◌, refl, subst, ap, ◌∙◌, arith}
use Rattle.std.specs.Io.KnownBytes.{Appends}
use Rattle.std.proofs.KnownBytes.{Appends-trans}
use Rattle.terms.specs.declared.screen_size.ScreenSize.{ScreenSize}
use Rattle.painter.specs.Framebuffer.{color_at}
use Rattle.pictures.specs.Plain.{row_at, row_text, rows_text}
use Rattle.pictures.proofs.Texts.{one_more, rows_step}
use Rattle.pictures.proofs.plain.write_plain.Goals as goal

pub loop-slot-preserved : goal.loop-slot-preserved
loop-slot-preserved g c =
    let s = c.args.screen.now in
    let f = c.args.format in
    let slot = c.loop-slot.slot in
    let wide = ap (λ (z : ScreenSize). z.width) c.size-size.ensures in
    let high = ap (λ (z : ScreenSize). z.height) c.size-size.ensures in
    let inside : slot < s.height = omega (arith, c.loop-slot-test.true, high) in
    let row : List ℕ = row_text f (color_at s) (row_at f s.height slot) 0 s.width in
    let done = c.loop-slot.invariant.0 in
    let bytes : c.deref-in-loop-slot.result.now ≡ row = c.deref-in-loop-slot.ensures.value ∙ (c.in_ok-append_row.ensures ∙ rw (c.clear.ensures.items, c.row_of.ensures.value, high) refl) in (
      done ++ row,
      subst (λ (z : List ℕ). Appends (g.W.Write.contents c.args.out.now) (g.W.Write.contents c.write_all-in-loop-slot.new.self) (done ++ z)) bytes (Appends-trans _ _ _ _ _ c.loop-slot.invariant.1 c.in_ok-write_all-2.ensures.bytes),
      one_more done row (rows_text f (color_at s) s.width s.height (slot + 1) (s.height - (slot + 1))) (rows_text f (color_at s) s.width s.height slot (s.height - slot)) _
          c.loop-slot.invariant.2 (rows_step f (color_at s) s.width s.height slot inside),
    )
