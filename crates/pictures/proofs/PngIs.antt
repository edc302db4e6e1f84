-- The file that is written is a PNG file.
use Rattle.std.proofs.Common.{◌≡◌, ◌<◌, ◌≤◌, ℕ, zero, suc, ◌+◌, ◌*◌, ◌/◌, List, [], ◌∷◌, ◌++◌, length, map, take, drop, append-nil, codes, refl, sym, ap, ◌∙◌, arith, append_assoc, take-append-drop, length-drop, length-take}
use Rattle.std.specs.List.{concat}
use Rattle.pixel_format.specs.Canvas.{Picture}
use Rattle.pictures.specs.Checksums.{adler32}
use Rattle.pictures.specs.Chunks.{big_endian, chunk, longest_block, stored, stored_block, stored_blocks}
use Rattle.pictures.specs.Png.{image_header, png_text, row_chunks, scanline, scanlines, signature, zlib_end, zlib_head}
use Rattle.pictures.specs.PngRules.{AreStored, IsPng, IsStored, IsZlib}
use Rattle.pictures.proofs.Blocks.{longest}

-- so many blocks, and a last one
AreAny : List ℕ → List ℕ → Type 0
AreAny xs text = (n : ℕ) × AreStored n xs text

block_is : (xs : List ℕ) → length xs ≤ 65535 → IsStored 0 xs (stored_block xs)
block_is xs short = record { short = omega arith; text_is = refl }

one_more_block : (front back block blocks : List ℕ) → IsStored 0 front block → AreAny back blocks → AreAny (front ++ back) (block ++ blocks)
unfolding AreAny
one_more_block front back block blocks is are = (suc are.0, (front, back, block, blocks, is, are.1, refl, refl))

blocks_are : (n : ℕ) (xs rest blocks : List ℕ) → length xs ≤ n * 65535 → AreAny rest blocks → AreAny (xs ++ rest) (stored_blocks n xs ++ blocks)
unfolding stored_blocks
blocks_are zero [] rest blocks fits are = are
blocks_are zero (x ∷ xs) rest blocks fits are = absurd (omega arith)
blocks_are (suc n) xs rest blocks fits are =
    let front = take longest_block xs in
    let back = drop longest_block xs in
    let left : length back ≤ n * 65535 = omega (arith, longest, length-drop longest_block xs) in
    let short : length front ≤ 65535 = omega (arith, longest, length-take longest_block xs) in
    let both = one_more_block front (back ++ rest) (stored_block front) (stored_blocks n back ++ blocks) (block_is front short) (blocks_are n back rest blocks left are) in
    let whole : front ++ (back ++ rest) ≡ xs ++ rest = sym (append_assoc front back rest) ∙ ap (λ z. z ++ rest) (take-append-drop longest_block xs) in
    rw (append_assoc (stored_block front) (stored_blocks n back) blocks) (rw whole at both)

stored_are : (xs rest blocks : List ℕ) → AreAny rest blocks → AreAny (xs ++ rest) (stored xs ++ blocks)
stored_are xs rest blocks are =
    let fits : length xs ≤ (length xs + 65534) / 65535 * 65535 = omega arith in
    blocks_are ((length xs + 65534) / 65535) xs rest blocks fits are

-- what the chunks of so many rows say, and then another one
abbrev parts_of : Picture → ℕ → ℕ → ℕ → List ℕ → List (List ℕ)
parts_of picture w y zero last = last ∷ []
parts_of picture w y (suc n) last = stored (scanline picture w y) ∷ parts_of picture w (y + 1) n last

chunks_are : (picture : Picture) (w y n : ℕ) (last : List ℕ) → concat (map (chunk (codes "IDAT")) (parts_of picture w y n last)) ≡ row_chunks picture w y n ++ chunk (codes "IDAT") last
chunks_are picture w y zero last = append-nil (chunk (codes "IDAT") last)
chunks_are picture w y (suc n) last =
    let one = chunk (codes "IDAT") (stored (scanline picture w y)) in
    ap (λ z. one ++ z) (chunks_are picture w (y + 1) n last) ∙ sym (append_assoc one (row_chunks picture w (y + 1) n) (chunk (codes "IDAT") last))

-- the blocks of so many rows
abbrev rows_blocks : Picture → ℕ → ℕ → ℕ → List ℕ
rows_blocks picture w y zero = 1 ∷ 0 ∷ 0 ∷ 255 ∷ 255 ∷ []
rows_blocks picture w y (suc n) = stored (scanline picture w y) ++ rows_blocks picture w (y + 1) n

rows_are : (picture : Picture) (w y n : ℕ) → AreAny (scanlines picture w y n) (rows_blocks picture w y n)
unfolding AreAny
rows_are picture w y zero = (0, record { short = omega arith; text_is = refl })
rows_are picture w y (suc n) = stored_are (scanline picture w y) (scanlines picture w (y + 1) n) (rows_blocks picture w (y + 1) n) (rows_are picture w (y + 1) n)

parts_are : (picture : Picture) (w y n : ℕ) (sum : List ℕ) → concat (parts_of picture w y n ((1 ∷ 0 ∷ 0 ∷ 255 ∷ 255 ∷ []) ++ sum)) ≡ rows_blocks picture w y n ++ sum
parts_are picture w y zero sum = append-nil ((1 ∷ 0 ∷ 0 ∷ 255 ∷ 255 ∷ []) ++ sum)
parts_are picture w y (suc n) sum =
    let one = stored (scanline picture w y) in
    ap (λ z. one ++ z) (parts_are picture w (y + 1) n sum) ∙ sym (append_assoc one (rows_blocks picture w (y + 1) n) sum)

pub png_is : (w h : ℕ) (picture : Picture) → 0 < w → 0 < h → IsPng w h picture (png_text w h picture)
unfolding png_text AreAny
png_is w h picture wide high =
    let rows = scanlines picture w 0 h in
    let sum = big_endian (adler32 rows) in
    let are = rows_are picture w 0 h in
    let last = zlib_end rows in
    let header = chunk (codes "IHDR") (image_header w h) in
    let head = chunk (codes "IDAT") zlib_head in
    let end = chunk (codes "IEND") [] in
    let middle = concat (map (chunk (codes "IDAT")) (parts_of picture w 0 h last)) in
    let chunks : row_chunks picture w 0 h ++ (chunk (codes "IDAT") last ++ end) ≡ middle ++ end =
    sym (append_assoc (row_chunks picture w 0 h) (chunk (codes "IDAT") last) end) ∙ ap (λ z. z ++ end) (sym (chunks_are picture w 0 h last)) in
    let parts = zlib_head ∷ parts_of picture w 0 h last in
    let zlib : IsZlib rows (concat parts) = record {
      method = 120;
      flags = 1;
      count = are.0;
      blocks = rows_blocks picture w 0 h;
      deflate = refl;
      checked = refl;
      alone = refl;
      stored = are.1;
      text_is = ap (λ z. zlib_head ++ z) (parts_are picture w 0 h sum);
    } in
    record {
      parts = parts;
      wide = wide;
      high = high;
      zlib = zlib;
      text_is = ap (λ z. signature ++ (header ++ z)) (ap (λ z. head ++ z) chunks ∙ sym (append_assoc head middle end));
    }
