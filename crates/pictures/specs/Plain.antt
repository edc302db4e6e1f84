-- Picture files whose pixels stand as they are: PPM in its binary form, and BMP of 32 bits a pixel without compression.
use Rattle.std.specs.Prelude.{⊤, ◌<◌, ◌^◌, ℕ, zero, suc, ◌+◌, ◌-◌, ◌*◌, ◌/◌, ◌%◌, List, [], ◌∷◌, ◌++◌, replicate, decimal}
use Rattle.pixel_format.specs.declared.Color.{Color}
use Rattle.pixel_format.specs.Canvas.{Picture}
use Rattle.pictures.specs.declared.plain.PlainFormat.{PlainFormat}
use Rattle.pictures.specs.declared.plain.PlainFormat.TheVariants as formats

-- numbers in two and in four bytes, the lowest first
abbrev pub two_bytes : ℕ → List ℕ
two_bytes n = n % 256 ∷ n / 256 ∷ []

abbrev pub four_bytes : ℕ → List ℕ
four_bytes n = n % 256 ∷ n / 256 % 256 ∷ n / 65536 % 256 ∷ n / 16777216 ∷ []

-- 'P6', width and height in decimals, and the greatest value of a channel, 255
unfoldable pub ppm_head : ℕ → ℕ → List ℕ
ppm_head w h = (80 ∷ 54 ∷ 10 ∷ []) ++ (decimal w ++ ((32 ∷ []) ++ (decimal h ++ (10 ∷ 50 ∷ 53 ∷ 53 ∷ 10 ∷ []))))

-- 'BM', the file's length, 0, and the offset at which the pixels begin; then the 40 bytes of
-- BITMAPINFOHEADER: its size, width, height, one plane, 32 bits a pixel, no compression, the length
-- of the pixels, and what is left open
unfoldable pub bmp_head : ℕ → ℕ → List ℕ
bmp_head w h = (66 ∷ 77 ∷ []) ++ (four_bytes (54 + 4 * w * h) ++ (four_bytes 0 ++ (four_bytes 54 ++ (four_bytes 40
    ++ (four_bytes w ++ (four_bytes h ++ (two_bytes 1 ++ (two_bytes 32 ++ (four_bytes 0 ++ (four_bytes (4 * w * h) ++ replicate 16 0))))))))))

abbrev pub head_text : PlainFormat → ℕ → ℕ → List ℕ
head_text formats.Ppm w h = ppm_head w h
head_text formats.Bmp w h = bmp_head w h

-- The length of a file of this size stands in it as it is: in BMP it has four bytes, and in PPM it
-- isn't said.
abbrev pub FitsIn : PlainFormat → ℕ → ℕ → Type 0
FitsIn formats.Ppm w h = ⊤
FitsIn formats.Bmp w h = 54 + 4 * w * h < 2 ^ 32

-- a pixel: red, green and blue; in BMP blue, green, red and a byte that says nothing
abbrev pub pixel_text : PlainFormat → Color → List ℕ
pixel_text formats.Ppm c = c.r ∷ c.g ∷ c.b ∷ []
pixel_text formats.Bmp c = c.b ∷ c.g ∷ c.r ∷ 0 ∷ []

-- so many pixels of row y, from column x on
abbrev pub row_text : PlainFormat → Picture → ℕ → ℕ → ℕ → List ℕ
row_text f picture y x zero = []
row_text f picture y x (suc n) = pixel_text f (picture x y) ++ row_text f picture y (x + 1) n

-- the row that stands at this position among those of a file: PPM has the uppermost first, BMP last
abbrev pub row_at : PlainFormat → ℕ → ℕ → ℕ
row_at formats.Ppm h slot = slot
row_at formats.Bmp h slot = h - 1 - slot

-- so many rows, from a position among those of the file on
abbrev pub rows_text : PlainFormat → Picture → ℕ → ℕ → ℕ → ℕ → List ℕ
rows_text f picture w h slot zero = []
rows_text f picture w h slot (suc n) = row_text f picture (row_at f h slot) 0 w ++ rows_text f picture w h (slot + 1) n

-- the file of a picture of this size
abbrev pub plain_text : PlainFormat → ℕ → ℕ → Picture → List ℕ
plain_text f w h picture = head_text f w h ++ rows_text f picture w h 0 h
