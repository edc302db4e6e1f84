-- PNG files (RFC 2083): eight bits each of red, green and blue, without compression.
use Rattle.std.specs.Prelude.{ℕ, zero, suc, ◌+◌, List, [], ◌∷◌, ◌++◌, codes}
use Rattle.pixel_format.specs.Canvas.{Picture}
use Rattle.pictures.specs.declared.plain.PlainFormat.TheVariants.{Ppm}
use Rattle.pictures.specs.Checksums.{adler32}
use Rattle.pictures.specs.Chunks.{big_endian, chunk, stored}
use Rattle.pictures.specs.Plain.{row_text}

abbrev pub signature : List ℕ
signature = 137 ∷ 80 ∷ 78 ∷ 71 ∷ 13 ∷ 10 ∷ 26 ∷ 10 ∷ []

-- width and height, 8 bits, colour type 2, and of compression, filter and interlace the method 0
abbrev pub image_header : ℕ → ℕ → List ℕ
image_header w h = big_endian w ++ (big_endian h ++ (8 ∷ 2 ∷ 0 ∷ 0 ∷ 0 ∷ []))

-- a row: filter type 0, and the bytes of its pixels, as PPM has them
abbrev pub scanline : Picture → ℕ → ℕ → List ℕ
scanline picture w y = 0 ∷ row_text Ppm picture y 0 w

-- so many rows, from row y on
abbrev pub scanlines : Picture → ℕ → ℕ → ℕ → List ℕ
scanlines picture w y zero = []
scanlines picture w y (suc n) = scanline picture w y ++ scanlines picture w (y + 1) n

-- The zlib stream of all rows stands in IDAT chunks, one after the other: its head, which names the
-- method deflate with a window of 32 KiB, each row in stored blocks, and the last block, which is
-- empty, with Adler-32 of all rows.
abbrev pub zlib_head : List ℕ
zlib_head = 120 ∷ 1 ∷ []

abbrev pub row_chunks : Picture → ℕ → ℕ → ℕ → List ℕ
row_chunks picture w y zero = []
row_chunks picture w y (suc n) = chunk (codes "IDAT") (stored (scanline picture w y)) ++ row_chunks picture w (y + 1) n

abbrev pub zlib_end : List ℕ → List ℕ
zlib_end rows = (1 ∷ 0 ∷ 0 ∷ 255 ∷ 255 ∷ []) ++ big_endian (adler32 rows)

-- the file of a picture of this size
unfoldable pub png_text : ℕ → ℕ → Picture → List ℕ
png_text w h picture = signature ++ (chunk (codes "IHDR") (image_header w h) ++ (chunk (codes "IDAT") zlib_head
    ++ (row_chunks picture w 0 h ++ (chunk (codes "IDAT") (zlib_end (scanlines picture w 0 h)) ++ chunk (codes "IEND") []))))
