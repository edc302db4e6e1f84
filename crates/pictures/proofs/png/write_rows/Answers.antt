use Rattle.std.proofs.Common.{◌≡◌, ◌<◌, ℕ, ◌+◌, ◌-◌, List, ◌++◌, codes, subst, ap, ◌∙◌, arith}
use Rattle.std.specs.Io.KnownBytes.{Appends}
use Rattle.std.proofs.KnownBytes.{Appends-trans}
use Rattle.terms.specs.declared.screen_size.ScreenSize.{ScreenSize}
use Rattle.painter.specs.Framebuffer.{color_at}
use Rattle.pictures.specs.Checksums.{first_sum, second_sum}
use Rattle.pictures.specs.Chunks.{chunk, stored}
use Rattle.pictures.specs.Png.{row_chunks, scanline, scanlines}
use Rattle.pictures.proofs.Rows.{chunks_step, lines_step, row_fits}
use Rattle.pictures.proofs.Texts.{one_more}
use Rattle.pictures.proofs.png.write_rows.Goals as goal

pub write_chunk-requires : goal.write_chunk-requires
write_chunk-requires g c =
    let s = c.args.screen.now in
    let line = scanline (color_at s) s.width c.loop-y.y in
    let row : c.append_scanline.new.out.items ≡ line = c.in_ok-append_scanline.ensures ∙ ap (λ xs. xs ++ line) c.clear.ensures.items in
    let read : c.deref-in-loop-y.result.now ≡ line = c.deref-in-loop-y.ensures.value ∙ row in
    let blocks : c.append_stored.new.out.items ≡ stored line = c.in_ok-append_stored.ensures ∙ ap (λ xs. xs ++ stored c.deref-in-loop-y.result.now) c.clear-in-loop-y.ensures.items ∙ ap stored read in
    let wide = ap (λ (z : ScreenSize). z.width) c.size-size.ensures in
    let narrow : s.width < 65536 = omega (arith, wide) in
    row_fits (color_at s) s.width c.loop-y.y c.deref-in-loop-y-2.result.now (c.deref-in-loop-y-2.ensures.value ∙ blocks) narrow

pub loop-y-preserved : goal.loop-y-preserved
loop-y-preserved g c =
    let s = c.args.screen.now in
    let picture = color_at s in
    let w = s.width in
    let h = s.height in
    let y = c.loop-y.y in
    let high = ap (λ (z : ScreenSize). z.height) c.size-size.ensures in
    let inside : y < h = omega (arith, c.loop-y-test.true, high) in
    let line = scanline picture w y in
    let row : c.append_scanline.new.out.items ≡ line = c.in_ok-append_scanline.ensures ∙ ap (λ xs. xs ++ line) c.clear.ensures.items in
    let summed : c.deref.result.now ≡ line = c.deref.ensures.value ∙ row in
    let read : c.deref-in-loop-y.result.now ≡ line = c.deref-in-loop-y.ensures.value ∙ row in
    let blocks : c.append_stored.new.out.items ≡ stored line = c.in_ok-append_stored.ensures ∙ ap (λ xs. xs ++ stored c.deref-in-loop-y.result.now) c.clear-in-loop-y.ensures.items ∙ ap stored read in
    let content : c.deref-in-loop-y-2.result.now ≡ stored line = c.deref-in-loop-y-2.ensures.value ∙ blocks in
    let next = chunk (codes "IDAT") (stored line) in
    let before = c.loop-y.invariant.written in
    let seen = c.loop-y.invariant.summed in
    let sums = c.add.ensures seen.0 seen.1 seen.2 in
    record {
      written = (
        before.0 ++ next,
        subst (λ (xs : List ℕ). Appends (g.W.Write.contents c.args.out.now) (g.W.Write.contents c.write_chunk.new.out) (before.0 ++ chunk (codes "IDAT") xs)) content (Appends-trans _ _ _ _ _ before.1 c.in_ok-write_chunk.ensures),
        one_more before.0 next (row_chunks picture w (y + 1) (h - (y + 1))) (row_chunks picture w y (h - y)) _ before.2 (chunks_step picture w h y inside),
      );
      summed = (
        seen.0 ++ line,
        subst (λ (xs : List ℕ). c.add.new.self.first ≡ first_sum (seen.0 ++ xs)) summed sums.0,
        subst (λ (xs : List ℕ). c.add.new.self.second ≡ second_sum (seen.0 ++ xs)) summed sums.1,
        one_more seen.0 line (scanlines picture w (y + 1) (h - (y + 1))) (scanlines picture w y (h - y)) _ seen.3 (lines_step picture w h y inside),
      );
    }
