-- The rows of a picture that is black everywhere.
use Rattle.std.proofs.Common.{◌≡◌, ℕ, zero, suc, ◌+◌, ◌-◌, ◌*◌, ◌<◌, ◌≤◌, List, ◌∷◌, length, take, drop, map, replicate, refl, sym, ap, ◌∙◌, subst, arith}
use Rattle.std.proofs.lemmas.List.{take-map, drop-map, take-replicate, drop-replicate, length-replicate}
use Rattle.std.proofs.Math.Nat.{mul-le-mul_left, mul_comm}
use Rattle.pixel_format.specs.declared.Color.{Color}
use Rattle.terms.specs.declared.screen_size.ScreenSize.{ScreenSize}
use Rattle.painter.specs.declared.pixel.Pixel.{Pixel}
use Rattle.painter.specs.Framebuffer.{Framebuffer, Has}
use Rattle.painter.specs.Picture.{black}
use Rattle.painter.specs.Pixels.{black_pixel, color_of}
use Rattle.painter.specs.WholeRows.{whole_row, first_rows, stacked, AreRows}
use Rattle.painter.proofs.Screens.{screen_of, is_black}
use Rattle.painter.proofs.SentColors.{are_filled}
use Rattle.painter.proofs.WholeRows.{snapshot_made}

-- a picture of this size that is black everywhere
abbrev pub dark : ℕ → ℕ → Framebuffer
dark width height = screen_of width height (replicate (width * height) black_pixel)

-- as many pixels of one colour
pub same_colors : (n : ℕ) (p q : Pixel) → color_of p ≡ color_of q → map color_of (replicate n p) ≡ map color_of (replicate n q)
same_colors zero p q same = refl
same_colors (suc n) p q same =
    ap (λ (c : Color). c ∷ map color_of (replicate n p)) same
    ∙ ap (λ (cs : List Color). color_of q ∷ cs) (same_colors n p q same)

dark_part : (width height start n : ℕ) → take n (drop start (dark width height).slots) ≡ map color_of (take n (replicate (width * height - start) black_pixel))
dark_part width height start n =
    ap (take n) (drop-map color_of start (replicate (width * height) black_pixel))
    ∙ take-map color_of n (drop start (replicate (width * height) black_pixel))
    ∙ ap (λ (ps : List Pixel). map color_of (take n ps)) (drop-replicate start (width * height) black_pixel)

-- one of its rows
pub dark_row : (width height y : ℕ) (row : List Color) → row ≡ map color_of (replicate width black_pixel) → y < height → row ≡ whole_row (dark width height) y
dark_row width height y row is down =
    let start : ℕ = y * width in
    let below : y + 1 ≤ height = omega (arith, down) in
    let enough : width ≤ width * height - start = omega (arith, mul_comm width height, mul-le-mul_left width below) in
    is ∙ sym (dark_part width height start width ∙ ap (map color_of) (take-replicate width (width * height - start) black_pixel enough))

-- What all of its rows make up.
pub record AreDark (size : ScreenSize) (rows : List (List Color)) : Type 0 where
  pub are : AreRows size.width size.height rows
  pub black : Has (stacked size.width size.height rows) black

pub dark_rows : (size : ScreenSize) (rows : List (List Color)) (count : ℕ) → size.height ≤ count → rows ≡ first_rows (dark size.width size.height) count → AreDark size rows
dark_rows size rows count enough are =
    let pixels = replicate (size.width * size.height) black_pixel in
    let long : length pixels ≡ size.height * size.width = length-replicate (size.width * size.height) black_pixel ∙ mul_comm size.width size.height in
    let made = snapshot_made (dark size.width size.height) size rows count refl (are_filled size.width size.height pixels long) enough are in
    record {
      are = made.0;
      black = subst (λ (s : Framebuffer). Has s black) (sym made.1) (is_black size.width size.height pixels black_pixel refl refl);
    }
