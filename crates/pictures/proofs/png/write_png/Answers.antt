use Rattle.std.proofs.Common.{◌≡◌, ℕ, ◌+◌, ◌*◌, Option, List, [], codes, subst, ap, ◌∙◌}
use Rattle.std.specs.Io.KnownBytes.{Appends}
use Rattle.std.proofs.KnownBytes.{Appends-trans}
use Rattle.terms.specs.declared.screen_size.ScreenSize.{ScreenSize}
use Rattle.pixel_format.specs.Canvas.{Picture}
use Rattle.painter.specs.Framebuffer.{color_at}
use Rattle.pictures.specs.Checksums.{adler32, second_sum}
use Rattle.pictures.specs.Chunks.{chunk}
use Rattle.pictures.specs.Png.{image_header, png_text, row_chunks, scanlines, signature, zlib_end, zlib_head}
use Rattle.pictures.proofs.png.write_png.Goals as goal

whole : (w h : ℕ) (picture : Picture) (a b c d e f g : Option (List ℕ)) → Appends a b signature → Appends b c (chunk (codes "IHDR") (image_header w h))
    → Appends c d (chunk (codes "IDAT") zlib_head) → Appends d e (row_chunks picture w 0 h)
    → Appends e f (chunk (codes "IDAT") (zlib_end (scanlines picture w 0 h))) → Appends f g (chunk (codes "IEND") []) → Appends a g (png_text w h picture)
unfolding png_text
whole w h picture a b c d e f g first header head rows last end =
    Appends-trans a b g _ _ first (Appends-trans b c g _ _ header (Appends-trans c d g _ _ head (Appends-trans d e g _ _ rows (Appends-trans e f g _ _ last end))))

pub returns : goal.returns
returns g c =
    let s = c.args.screen.now in
    let rows = scanlines (color_at s) s.width 0 s.height in
    let sums = c.in_ok-sums.ensures in
    let checksum : c.value.result ≡ adler32 rows = c.value.ensures ∙ ap (λ n. n * 65536 + c.in_ok-sums.sums.first) sums.second ∙ ap (λ n. second_sum rows * 65536 + n) sums.first in
    let last : c.zlib_end.result ≡ zlib_end rows = c.zlib_end.ensures rows checksum in
    let header : c.image_header.result ≡ image_header s.width s.height = c.image_header.ensures ∙ ap (λ (z : ScreenSize). image_header z.width z.height) c.size.ensures in
    whole s.width s.height (color_at s) _ _ _ _ _ _ _
    c.in_ok-write_all.ensures.bytes
    (subst (λ (xs : List ℕ). Appends (g.W.Write.contents c.write_all.new.self) (g.W.Write.contents c.write_chunk.new.out) (chunk (codes "IHDR") xs)) header c.in_ok-write_chunk.ensures)
    c.in_ok-write_chunk-2.ensures
    sums.rows
    (subst (λ (xs : List ℕ). Appends (g.W.Write.contents c.write_rows.new.out) (g.W.Write.contents c.write_chunk-3.new.out) (chunk (codes "IDAT") xs)) last c.in_ok-write_chunk-3.ensures)
    c.in_ok-write_chunk-4.ensures
