-- What makes bytes a PNG file of a picture, however its pixels are divided into chunks and blocks.
use Rattle.std.specs.Prelude.{◌≡◌, ℕ, zero, suc, ◌+◌, ◌-◌, ◌*◌, ◌/◌, ◌%◌, ◌<◌, List, [], ◌∷◌, ◌++◌, length, map, codes}
use Rattle.std.specs.List.{concat}
use Rattle.pixel_format.specs.Canvas.{Picture}
use Rattle.pictures.specs.Checksums.{adler32}
use Rattle.pictures.specs.Chunks.{big_endian, chunk}
use Rattle.pictures.specs.Plain.{two_bytes}
use Rattle.pictures.specs.Png.{image_header, scanlines, signature}

-- a stored block of these bytes, with 1 in front if it is the last one, and 0 otherwise: their
-- number, lower byte first, its complement, and the bytes (RFC 1951, 3.2.3 and 3.2.4)
pub record IsStored (front : ℕ) (xs text : List ℕ) : Type 0 where
  pub short : length xs < 65536
  pub text_is : text ≡ (front ∷ two_bytes (length xs)) ++ (two_bytes (65535 - length xs) ++ xs)

-- bytes in so many stored blocks and a last one
abbrev pub AreStored : ℕ → List ℕ → List ℕ → Type 0
AreStored zero xs text = IsStored 1 xs text
AreStored (suc n) xs text = (front back block blocks : List ℕ) × IsStored 0 front block × AreStored n back blocks × (xs ≡ front ++ back) × (text ≡ block ++ blocks)

-- a zlib stream of these bytes: its head names the method deflate, whose number is 8, and no
-- dictionary; both bytes, as one number, are divided by 31; blocks, and Adler-32 (RFC 1950, 2.2)
pub record IsZlib (xs text : List ℕ) : Type 0 where
  pub method : ℕ
  pub flags : ℕ
  pub count : ℕ
  pub blocks : List ℕ
  pub deflate : method % 16 ≡ 8
  pub checked : (method * 256 + flags) % 31 ≡ 0
  pub alone : flags / 32 % 2 ≡ 0
  pub stored : AreStored count xs blocks
  pub text_is : text ≡ (method ∷ flags ∷ []) ++ (blocks ++ big_endian (adler32 xs))

-- a PNG file of a picture of this size: the signature, the header, a zlib stream of its rows in IDAT
-- chunks, and the end (RFC 2083, 2.3 and 4.1)
pub record IsPng (w h : ℕ) (picture : Picture) (text : List ℕ) : Type 0 where
  pub parts : List (List ℕ)
  pub wide : 0 < w
  pub high : 0 < h
  pub zlib : IsZlib (scanlines picture w 0 h) (concat parts)
  pub text_is : text ≡ signature ++ (chunk (codes "IHDR") (image_header w h) ++ (concat (map (chunk (codes "IDAT")) parts) ++ chunk (codes "IEND") []))
