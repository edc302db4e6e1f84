-- The rows of a PNG file, one by one, and how long its parts are.
use Rattle.std.proofs.Common.{◌≡◌, ◌<◌, ◌≤◌, ℕ, zero, suc, ◌+◌, ◌-◌, ◌*◌, ◌/◌, List, [], ◌++◌, length, take, drop, codes, refl, ap, ◌∙◌, arith, length-append, length-drop, length-take}
use Rattle.pixel_format.specs.Canvas.{Picture}
use Rattle.pictures.specs.declared.plain.PlainFormat.TheVariants.{Ppm}
use Rattle.pictures.specs.Chunks.{chunk, longest_block, stored, stored_block, stored_blocks}
use Rattle.pictures.specs.Plain.{row_text}
use Rattle.pictures.specs.Png.{image_header, png_text, row_chunks, scanline, scanlines, signature, zlib_end, zlib_head}
use Rattle.pictures.proofs.Blocks.{longest}

pub chunks_step : (picture : Picture) (w h y : ℕ) → y < h
    → row_chunks picture w y (h - y) ≡ chunk (codes "IDAT") (stored (scanline picture w y)) ++ row_chunks picture w (y + 1) (h - (y + 1))
chunks_step picture w h y inside =
    let one : h - y ≡ suc (h - (y + 1)) = omega arith in
    ap (row_chunks picture w y) one

pub lines_step : (picture : Picture) (w h y : ℕ) → y < h → scanlines picture w y (h - y) ≡ scanline picture w y ++ scanlines picture w (y + 1) (h - (y + 1))
lines_step picture w h y inside =
    let one : h - y ≡ suc (h - (y + 1)) = omega arith in
    ap (scanlines picture w y) one

row_length : (picture : Picture) (y x n : ℕ) → length (row_text Ppm picture y x n) ≡ 3 * n
row_length picture y x zero = refl
row_length picture y x (suc n) = omega (arith, row_length picture y (x + 1) n)

pub line_length : (picture : Picture) (w y : ℕ) → length (scanline picture w y) ≡ 1 + 3 * w
line_length picture w y = omega (arith, row_length picture y 0 w)

block_length : (xs : List ℕ) → length (stored_block xs) ≡ 5 + length xs
block_length xs = omega arith

blocks_length : (n : ℕ) (xs : List ℕ) → length xs ≤ n * 65535 → length (stored_blocks n xs) ≡ length xs + 5 * n
unfolding stored_blocks
blocks_length zero xs fits = omega arith
blocks_length (suc n) xs fits =
    let rest : length (drop longest_block xs) ≤ n * 65535 = omega (arith, longest, length-drop longest_block xs) in
    let both = length-append (stored_block (take longest_block xs)) (stored_blocks n (drop longest_block xs)) in
    omega (arith, both, block_length (take longest_block xs), blocks_length n (drop longest_block xs) rest, length-drop longest_block xs, length-take longest_block xs)

pub stored_length : (xs : List ℕ) → length (stored xs) ≡ length xs + 5 * ((length xs + 65534) / 65535)
stored_length xs =
    let fits : length xs ≤ (length xs + 65534) / 65535 * 65535 = omega arith in
    blocks_length ((length xs + 65534) / 65535) xs fits

chunk_length : (kind content : List ℕ) → length (chunk kind content) ≡ 8 + length kind + length content
chunk_length kind content = simp length-append (omega arith)

fits : (w n : ℕ) → n ≡ (1 + 3 * w) + 5 * ((1 + 3 * w + 65534) / 65535) → w < 65536 → n < 2147483648
fits w n is narrow = omega arith

-- how long the chunk of a row of w pixels is
abbrev pub row_chunk_length : ℕ → ℕ
row_chunk_length w = 12 + 5 * ((1 + 3 * w + 65534) / 65535) + (1 + 3 * w)

with_blocks : (w n : ℕ) → n ≡ (1 + 3 * w) + 5 * ((1 + 3 * w + 65534) / 65535) → 8 + 4 + n ≡ row_chunk_length w
with_blocks w n is = omega arith

one_more_row : (row n rest : ℕ) → rest ≡ n * row → row + rest ≡ suc n * row
one_more_row row n rest is = omega arith

row_chunk_is : (picture : Picture) (w y : ℕ) → length (chunk (codes "IDAT") (stored (scanline picture w y))) ≡ row_chunk_length w
row_chunk_is picture w y =
    let line = scanline picture w y in
    let blocks : length (stored line) ≡ (1 + 3 * w) + 5 * ((1 + 3 * w + 65534) / 65535) = stored_length line ∙ ap (λ n. n + 5 * ((n + 65534) / 65535)) (line_length picture w y) in
    chunk_length (codes "IDAT") (stored line) ∙ with_blocks w (length (stored line)) blocks

rows_length : (picture : Picture) (w y n : ℕ) → length (row_chunks picture w y n) ≡ n * row_chunk_length w
rows_length picture w y zero = omega arith
rows_length picture w y (suc n) =
    let both = length-append (chunk (codes "IDAT") (stored (scanline picture w y))) (row_chunks picture w (y + 1) n) in
    both ∙ ap (λ k. k + length (row_chunks picture w (y + 1) n)) (row_chunk_is picture w y) ∙ one_more_row (row_chunk_length w) n (length (row_chunks picture w (y + 1) n)) (rows_length picture w (y + 1) n)

six_lengths : (a b c d e f : List ℕ) → length (a ++ (b ++ (c ++ (d ++ (e ++ f))))) ≡ length a + length b + length c + length d + length e + length f
six_lengths a b c d e f = simp length-append (omega arith)

six_parts : (a b c d e f rows : ℕ) → a ≡ 8 → b ≡ 25 → c ≡ 14 → d ≡ rows → e ≡ 21 → f ≡ 12 → a + b + c + d + e + f ≡ 8 + 25 + 14 + rows + 21 + 12
six_parts a b c d e f rows pa pb pc pd pe pf = omega arith

pub file_length : (w h : ℕ) (picture : Picture) → length (png_text w h picture) ≡ 8 + 25 + 14 + h * row_chunk_length w + 21 + 12
unfolding png_text
file_length w h picture =
    let header = chunk (codes "IHDR") (image_header w h) in
    let head = chunk (codes "IDAT") zlib_head in
    let rows = row_chunks picture w 0 h in
    let last = chunk (codes "IDAT") (zlib_end (scanlines picture w 0 h)) in
    let end = chunk (codes "IEND") [] in
    six_lengths signature header head rows last end
    ∙ six_parts (length signature) (length header) (length head) (length rows) (length last) (length end) (h * row_chunk_length w) refl
    (chunk_length (codes "IHDR") (image_header w h)) (chunk_length (codes "IDAT") zlib_head) (rows_length picture w 0 h)
    (chunk_length (codes "IDAT") (zlib_end (scanlines picture w 0 h))) (chunk_length (codes "IEND") [])

-- a row's chunk is no longer than a chunk may be
pub row_fits : (picture : Picture) (w y : ℕ) (content : List ℕ) → content ≡ stored (scanline picture w y) → w < 65536 → length content < 2147483648
row_fits picture w y content is narrow =
    let line = scanline picture w y in
    let blocks : length content ≡ (1 + 3 * w) + 5 * ((1 + 3 * w + 65534) / 65535) = ap length is ∙ stored_length line ∙ ap (λ n. n + 5 * ((n + 65534) / 65535)) (line_length picture w y) in
    fits w (length content) blocks narrow
