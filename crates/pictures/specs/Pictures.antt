-- The picture files of each format.
use Rattle.std.specs.Prelude.{⊤, ℕ, List}
use Rattle.pixel_format.specs.Canvas.{Picture}
use Rattle.pictures.specs.declared.picture.PictureFormat.{PictureFormat}
use Rattle.pictures.specs.declared.picture.PictureFormat.TheVariants as formats
use Rattle.pictures.specs.declared.plain.PlainFormat.TheVariants as plain
use Rattle.pictures.specs.Plain.{FitsIn, plain_text}
use Rattle.pictures.specs.Png.{png_text}

-- the file of a picture of this size
abbrev pub picture_text : PictureFormat → ℕ → ℕ → Picture → List ℕ
picture_text formats.Ppm w h picture = plain_text plain.Ppm w h picture
picture_text formats.Bmp w h picture = plain_text plain.Bmp w h picture
picture_text formats.Png w h picture = png_text w h picture

-- a file of this format and size says its own length right, if it says it
abbrev pub Fits : PictureFormat → ℕ → ℕ → Type 0
Fits formats.Ppm w h = FitsIn plain.Ppm w h
Fits formats.Bmp w h = FitsIn plain.Bmp w h
Fits formats.Png w h = ⊤
