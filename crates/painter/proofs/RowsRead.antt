-- Reading an area row by row.
use Rattle.std.proofs.Common.{◌≡◌, ℕ, ◌+◌, ◌-◌, ◌*◌, ◌<◌, ◌≤◌, List, [], ◌++◌, length, take, drop, map, inl, inr, sym, ap, ◌∙◌, arith, subst}
use Rattle.std.proofs.lemmas.Bool.{cases_lt}
use Rattle.std.proofs.lemmas.List.{length-take, length-drop, length-append, take_at, drop-drop, drop_all, append-nil, get_or_default}
use Rattle.std.proofs.lemmas.Nat.{mul-add-lt}
use Rattle.std.proofs.Math.Nat.{mul-le-mul_left}
use borrow.Rule.Slice.PartMut.{put_mid}
use Rattle.pixel_format.specs.declared.Color.{Color}
use Rattle.pixel_format.specs.Pixel.{IsScreenColor}
use Rattle.pixel_format.specs.Canvas.{black, nth, rows_of}
use Rattle.terms.specs.declared.area.Area.{Area}
use Rattle.painter.specs.declared.pixel.Pixel.{Pixel}
use Rattle.painter.specs.Framebuffer.{Framebuffer, color_at, AppendsColors}
use Rattle.painter.specs.Pixels.{color_of, pixel_color_at}
use Rattle.painter.specs.Sent.{row_colors}
use Rattle.painter.proofs.Screens.{color_is}
use Rattle.painter.proofs.SentColors.{row_color}
use Rattle.painter.proofs.Region.{below_part, in_part}

-- a row that was read: its colours, in as many elements of the colours
pub record ReadsRow (screen : Framebuffer) (colors line : List Color) (area : Area) (row : ℕ) : Type 0 where
  pub fits : row * area.w + area.w ≤ length colors
  pub len : length line ≡ area.w
  pub value : (k : ℕ) → k < area.w → nth line k ≡ color_at screen (area.x + k) (area.y + row)
  pub channels : (k : ℕ) → k < area.w → IsScreenColor (nth line k)

-- what the code read
pub row_read : (screen : Framebuffer) (pixels : List Pixel) (colors line : List Color) (area : Area) (row : ℕ) → length colors ≡ area.h * area.w → row < area.h
    → map color_of pixels ≡ row_colors screen area row
    → length line ≡ length (take (row * area.w + area.w - row * area.w) (drop (row * area.w) colors))
    → ((k : ℕ) → k < length (take (row * area.w + area.w - row * area.w) (drop (row * area.w) colors)) → nth line k ≡ pixel_color_at pixels k)
    → ((k : ℕ) → k < length (take (row * area.w + area.w - row * area.w) (drop (row * area.w) colors)) → IsScreenColor (nth line k))
    → ReadsRow screen colors line area row
row_read screen pixels colors line area row size lt is len value each =
    let reach : row + 1 ≤ area.h = omega arith in
    let fits : row * area.w + area.w ≤ length colors = omega (arith, mul-le-mul_left area.w reach) in
    let part : length (take (row * area.w + area.w - row * area.w) (drop (row * area.w) colors)) ≡ area.w = simp (length-take, length-drop) (omega arith) in
    record {
      fits = fits;
      len = len ∙ part;
      value = λ k below. value k (omega arith) ∙ sym (color_is pixels k) ∙ ap (λ (cs : List Color). nth cs k) is ∙ row_color screen area row k below;
      channels = λ k below. each k (omega arith);
    }

-- the first rows, and the next one: their colours are those of the pixels
pub rows_more : (screen : Framebuffer) (colors line : List Color) (area : Area) (row n : ℕ) → n ≡ area.w → ReadsRow screen colors line area row
    → ((x y : ℕ) → x < area.w → y < row → nth colors (y * area.w + x) ≡ color_at screen (area.x + x) (area.y + y))
    → (x y : ℕ) → x < area.w → y < row + 1 → nth (put_mid (row * area.w) n colors line) (y * area.w + x) ≡ color_at screen (area.x + x) (area.y + y)
rows_more screen colors line area row n n_is read so_far x y across down =
    let fits = read.fits in
    let len = read.len in
    elim (cases_lt y row) [
      | inl above ↦
          below_part (row * area.w) n colors line (y * area.w + x) black (omega arith) (omega (arith, mul-add-lt y area.w x row above across))
          ∙ so_far x y across above
      | inr level ↦
          let same : y ≡ row = omega arith in
          ap (λ (r : ℕ). nth (put_mid (row * area.w) n colors line) (r * area.w + x)) same
          ∙ in_part (row * area.w) n colors line x black (omega arith) (omega arith)
          ∙ read.value x across
          ∙ ap (λ (r : ℕ). color_at screen (area.x + x) (area.y + r)) (sym same)
    ]

-- and are those of a screen
pub screen_more : (screen : Framebuffer) (colors line : List Color) (area : Area) (row n : ℕ) → ReadsRow screen colors line area row
    → ((k : ℕ) → k < row * area.w → IsScreenColor (nth colors k))
    → (k : ℕ) → k < (row + 1) * area.w → IsScreenColor (nth (put_mid (row * area.w) n colors line) k)
screen_more screen colors line area row n read so_far k lt =
    let fits = read.fits in
    let len = read.len in
    elim (cases_lt k (row * area.w)) [
      | inl before ↦
          subst IsScreenColor (sym (below_part (row * area.w) n colors line k black (omega arith) before)) (so_far k before)
      | inr following ↦
          let within : k - row * area.w < area.w = omega arith in
          let at : row * area.w + (k - row * area.w) ≡ k = omega arith in
          subst (λ (i : ℕ). IsScreenColor (nth (put_mid (row * area.w) n colors line) i)) at
          (subst IsScreenColor (sym (in_part (row * area.w) n colors line (k - row * area.w) black (omega arith) (omega arith))) (read.channels (k - row * area.w) within))
    ]

-- colours that are written into the room after a list are appended to it
pub colors_appended : (screen : Framebuffer) (area : Area) (old room pad all colors : List Color) (start size : ℕ) → start ≡ length old → size ≡ start + area.h * area.w
    → room ≡ old ++ pad → length pad ≡ area.h * area.w → all ≡ room → length colors ≡ length (take (length all - start) (drop start all))
    → ((x y : ℕ) → x < area.w → y < area.h → rows_of colors area.w x y ≡ color_at screen (area.x + x) (area.y + y))
    → ((k : ℕ) → k < length (take (length all - start) (drop start all)) → IsScreenColor (nth colors k))
    → AppendsColors screen area old
    (take size (put_mid start (length all - start) all colors ++ drop (length (put_mid start (length all - start) all colors)) room))
colors_appended screen area old room pad all colors start size begin ends room_is padded same whole shows each =
    let all_is : all ≡ old ++ pad = same ∙ room_is in
    let long : length all ≡ start + area.h * area.w = ap length all_is ∙ length-append old pad ∙ omega arith in
    let front : take start all ≡ old = ap (take start) all_is ∙ take_at old pad start (omega arith) in
    let none : drop (length all - start) (drop start all) ≡ [] = drop-drop (length all - start) start all ∙ drop_all _ all (omega arith) in
    let many : length colors ≡ area.h * area.w = whole ∙ simp (length-take, length-drop) (omega arith) in
    let part : put_mid start (length all - start) all colors ≡ old ++ colors =
    ap (λ (xs : List Color). xs ++ (colors ++ drop (length all - start) (drop start all))) front
    ∙ ap (λ (xs : List Color). old ++ (colors ++ xs)) none ∙ ap (λ (xs : List Color). old ++ xs) (append-nil colors) in
    let ends_here : length (put_mid start (length all - start) all colors) ≡ size = ap length part ∙ length-append old colors ∙ omega arith in
    record {
      colors = colors;
      new_is = take_at (put_mid start (length all - start) all colors) (drop (length (put_mid start (length all - start) all colors)) room) size ends_here ∙ part;
      has = record {
        size = many;
        shows = shows;
        each = λ k other lt. subst IsScreenColor (get_or_default colors k black other lt) (each k (omega (arith, whole)));
      };
    }
