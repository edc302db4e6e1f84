-- Painting an area row by row.
use Rattle.std.proofs.Common.{◌≡◌, ℕ, ◌+◌, ◌-◌, ◌*◌, ◌<◌, ◌≤◌, Bool, true, cond, List, length, take, drop, inl, inr, sym, ap, ◌∙◌, arith}
use Rattle.std.specs.List.{CopiedTo, SameBelow, SameFrom}
use Rattle.std.proofs.lemmas.Bool.{cases_Bool, cases_lt, cases_order, false_from_ne_true}
use Rattle.std.proofs.lemmas.List.{drop-drop, drop-take, take-take, length-take, length-drop}
use Rattle.std.proofs.Math.Nat.{mul-le-mul_left}
use borrow.Rule.Slice.PartMut.{put_mid}
use Rattle.pixel_format.specs.declared.Color.{Color}
use Rattle.pixel_format.specs.Canvas.{Picture}
use Rattle.pixel_format.specs.Pixel.{host_color}
use Rattle.terms.specs.declared.area.Area.{Area}
use Rattle.painter.specs.declared.pixel.Pixel.{Pixel}
use Rattle.pixel_format.specs.Format.{host_format}
use Rattle.terms.specs.Area.{is_in}
use Rattle.rect_codec.specs.Picture.{raw_picture, copied_picture}
use Rattle.painter.specs.Pixels.{black_pixel, color_of, pixel_color_at, color_in, pixel_at}
use Rattle.painter.proofs.Region.{IsIn, in_is, is_in_true, same_in, below_part, in_part, above_part, row_before}

-- the first rows of an area
abbrev pub rows_of : Area → ℕ → Area
rows_of area rows = record area { h = rows }

-- the rows of an area from this one on
abbrev pub rows_from : Area → ℕ → Area
rows_from area row = record area { y = area.y + row; h = area.h - row }

-- one row of an area
abbrev pub row_of : Area → ℕ → Area
row_of area row = record area { y = area.y + row; h = 1 }

-- the index at which a row of an area begins
abbrev pub row_start : ℕ → Area → ℕ → ℕ
row_start width area row = (area.y + row) * width + area.x

-- One row was written: its pixels have the picture's colours, and the others are as they were.
pub record WritesRow (old new : List Pixel) (width : ℕ) (area : Area) (picture : Picture) (row : ℕ) : Type 0 where
  pub columns : area.x + area.w ≤ width
  pub here : (k : ℕ) → k < area.w → pixel_color_at new (row_start width area row + k) ≡ picture (area.x + k) (area.y + row)
  pub before : (i : ℕ) → i < row_start width area row → pixel_color_at new i ≡ pixel_color_at old i
  pub following : (i : ℕ) → row_start width area row + area.w ≤ i → pixel_color_at new i ≡ pixel_color_at old i

-- a pixel of the row has the picture's colour
in_row : (old new : List Pixel) (width : ℕ) (area : Area) (picture : Picture) (row x y : ℕ) → WritesRow old new width area picture row → IsIn (row_of area row) x y
    → color_in new width x y ≡ picture x y
in_row old new width area picture row x y w slot =
    let left = slot.left in
    let right = slot.right in
    let same : y ≡ area.y + row = omega (arith, slot.top, slot.bottom) in
    let at : y * width + x ≡ row_start width area row + (x - area.x) = ap (λ (r : ℕ). r * width + x) same ∙ omega arith in
    let column : area.x + (x - area.x) ≡ x = omega arith in
    ap (λ (i : ℕ). pixel_color_at new i) at
    ∙ w.here (x - area.x) (omega arith)
    ∙ ap (λ (i : ℕ). picture i (area.y + row)) column
    ∙ ap (λ (i : ℕ). picture x i) (sym same)

-- what comes after the row's first pixel and isn't in the row comes after the row
past_row : (width : ℕ) (area : Area) (row x y : ℕ) → area.x + area.w ≤ width → (IsIn (row_of area row) x y → ⊥) → x < width → (area.y + row) * width + area.x ≤ y * width + x
    → (area.y + row) * width + area.x + area.w ≤ y * width + x
past_row width area row x y columns off across after =
    elim (cases_order y (area.y + row)) [
      | inl same ↦
          let level : y * width ≡ (area.y + row) * width = ap (λ (r : ℕ). r * width) same in
          elim (cases_lt x (area.x + area.w)) [
            | inl right ↦ absurd (off (record { left = omega (arith, level); right = right; top = omega arith; bottom = omega arith }))
            | inr past ↦ omega (arith, level)
          ]
      | inr (inl above) ↦ absurd (omega (arith, row_before width x y (area.y + row) across above))
      | inr (inr below) ↦ omega (arith, mul-le-mul_left width below)
    ]

-- another pixel is as it was
off_row : (old new : List Pixel) (width : ℕ) (area : Area) (picture : Picture) (row x y : ℕ) → WritesRow old new width area picture row → x < width → (IsIn (row_of area row) x y → ⊥)
    → color_in new width x y ≡ color_in old width x y
off_row old new width area picture row x y w across off =
    elim (cases_lt (y * width + x) (row_start width area row)) [
      | inl before ↦ w.before (y * width + x) before
      | inr after ↦ w.following (y * width + x) (past_row width area row x y w.columns off across after)
    ]

-- One row more: if an area and the row make up another, and the one is painted, then so is the
-- other.
row_joined : (old new : List Pixel) (width : ℕ) (area done more : Area) (picture : Picture) (color : Color) (row x y : ℕ) → WritesRow old new width area picture row → x < width
    → (IsIn (row_of area row) x y → IsIn more x y) → (IsIn done x y → IsIn more x y) → (IsIn more x y → (IsIn (row_of area row) x y → ⊥) → IsIn done x y)
    → color_in old width x y ≡ cond (is_in done x y) (picture x y) color → color_in new width x y ≡ cond (is_in more x y) (picture x y) color
row_joined old new width area done more picture color row x y w across row_in done_in from so_far =
    elim (cases_Bool (is_in (row_of area row) x y)) [
      | inl here ↦
          let slot = in_is (row_of area row) x y here in
          let painted : is_in more x y ≡ true = is_in_true more x y (row_in slot) in
          in_row old new width area picture row x y w slot ∙ sym (ap (λ (b : Bool). cond b (picture x y) color) painted)
      | inr away ↦
          let off : IsIn (row_of area row) x y → ⊥ = λ slot. let clash = is_in_true (row_of area row) x y slot in absurd cc in
          let same : is_in done x y ≡ is_in more x y = same_in done more x y done_in (λ slot. from slot off) in
          off_row old new width area picture row x y w across off ∙ so_far ∙ ap (λ (b : Bool). cond b (picture x y) color) same
    ]

-- the first rows, and the next one
pub row_below : (old new : List Pixel) (width : ℕ) (area : Area) (picture : Picture) (color : Color) (row x y : ℕ) → WritesRow old new width area picture row → x < width
    → color_in old width x y ≡ cond (is_in (rows_of area row) x y) (picture x y) color → color_in new width x y ≡ cond (is_in (rows_of area (row + 1)) x y) (picture x y) color
row_below old new width area picture color row x y w across so_far =
    row_joined old new width area (rows_of area row) (rows_of area (row + 1)) picture color row x y w across
    (λ slot. let top = slot.top in let bottom = slot.bottom in record { left = slot.left; right = slot.right; top = omega arith; bottom = omega arith })
    (λ slot. let lower = slot.bottom in record { left = slot.left; right = slot.right; top = slot.top; bottom = omega arith })
    (λ slot off. let lower = slot.bottom in record {
      left = slot.left;
      right = slot.right;
      top = slot.top;
      bottom = elim (cases_lt y (area.y + row)) [
        | inl above ↦ above
        | inr level ↦ absurd (off (record { left = slot.left; right = slot.right; top = level; bottom = omega arith }))
      ];
    }) so_far

-- the last rows, and the one before them
pub row_above : (old new : List Pixel) (width : ℕ) (area : Area) (picture : Picture) (color : Color) (row x y : ℕ) → WritesRow old new width area picture row → x < width → row < area.h
    → color_in old width x y ≡ cond (is_in (rows_from area (row + 1)) x y) (picture x y) color → color_in new width x y ≡ cond (is_in (rows_from area row) x y) (picture x y) color
row_above old new width area picture color row x y w across within so_far =
    row_joined old new width area (rows_from area (row + 1)) (rows_from area row) picture color row x y w across
    (λ slot. let top = slot.top in let bottom = slot.bottom in record { left = slot.left; right = slot.right; top = omega arith; bottom = omega arith })
    (λ slot. let top = slot.top in let bottom = slot.bottom in record { left = slot.left; right = slot.right; top = omega arith; bottom = omega arith })
    (λ slot off. let lower = slot.bottom in record {
      left = slot.left;
      right = slot.right;
      top = elim (cases_lt y (area.y + row + 1)) [
        | inl level ↦ absurd (off (record { left = slot.left; right = slot.right; top = slot.top; bottom = omega (arith, level) }))
        | inr under ↦ omega (arith, under)
      ];
      bottom = omega arith;
    }) so_far

-- ---- what writes a row

-- a pixel of a part of the data is one of the data
pixel_of_part : (bytes : List ℕ) (from count n : ℕ) → n < count → pixel_at (take (4 * count) (drop (4 * from) bytes)) n ≡ pixel_at bytes (from + n)
pixel_of_part bytes from count n lt =
    let split : 4 * count ≡ 4 * n + (4 * count - 4 * n) = omega arith in
    ap (λ (m : ℕ). take 4 (drop (4 * n) (take m (drop (4 * from) bytes)))) split
    ∙ ap (take 4) (drop-take (4 * n) (4 * count - 4 * n) (drop (4 * from) bytes))
    ∙ take-take 4 (4 * count - 4 * n) (drop (4 * n) (drop (4 * from) bytes)) (omega arith)
    ∙ ap (take 4) (drop-drop (4 * n) (4 * from) bytes)
    ∙ ap (λ (m : ℕ). take 4 (drop m bytes)) (omega arith)

-- a line that replaces the row
pub line_put : (pixels line : List Pixel) (width : ℕ) (area : Area) (picture : Picture) (row : ℕ) → area.x + area.w ≤ width → row_start width area row + area.w ≤ length pixels → length line ≡ area.w
    → ((k : ℕ) → k < area.w → pixel_color_at line k ≡ picture (area.x + k) (area.y + row))
    → WritesRow pixels (put_mid (row_start width area row) area.w pixels line) width area picture row
line_put pixels line width area picture row columns fits len colors = record {
  columns = columns;
  here = λ k lt. ap color_of (in_part (row_start width area row) area.w pixels line k black_pixel (omega (arith, fits)) (omega (arith, len))) ∙ colors k lt;
  before = λ i lt. ap color_of (below_part (row_start width area row) area.w pixels line i black_pixel (omega (arith, fits)) lt);
  following = λ i le. ap color_of (above_part (row_start width area row) area.w pixels line i black_pixel (omega (arith, fits)) len le);
}

-- the pixels of a row, from their bytes
pub raw_row : (area : Area) (bytes : List ℕ) (row k : ℕ) → k < area.w
    → host_color (pixel_at (take (4 * area.w) (drop (4 * (row * area.w)) bytes)) k) ≡ raw_picture host_format area bytes (area.x + k) (area.y + row)
unfolding raw_picture
raw_row area bytes row k lt =
    let column : area.x + k - area.x ≡ k = omega arith in
    let height : area.y + row - area.y ≡ row = omega arith in
    ap host_color (pixel_of_part bytes (row * area.w) area.w k lt)
    ∙ ap (λ (i : ℕ). host_color (take 4 (drop i bytes))) (omega arith)
    ∙ sym (ap (λ (c : ℕ). host_color (take 4 (drop (((area.y + row - area.y) * area.w + c) * 4) bytes))) column ∙ ap (λ (r : ℕ). host_color (take 4 (drop ((r * area.w + k) * 4) bytes))) height)

-- what stands at a row of the source, if it isn't painted over yet
source_left : (pixels : List Pixel) (width : ℕ) (source area done : Area) (before : Picture) (row k : ℕ) → source.x + k < width → (IsIn done (source.x + k) (source.y + row) → ⊥)
    → ((x y : ℕ) → x < width → color_in pixels width x y ≡ cond (is_in done x y) (copied_picture source area before x y) (before x y))
    → pixel_color_at pixels (row_start width source row + k) ≡ copied_picture source area before (area.x + k) (area.y + row)
unfolding copied_picture
source_left pixels width source area done before row k across off so_far =
    let at : row_start width source row + k ≡ (source.y + row) * width + (source.x + k) = omega arith in
    let column : area.x + k - area.x ≡ k = omega arith in
    let height : area.y + row - area.y ≡ row = omega arith in
    let away = false_from_ne_true (is_in done (source.x + k) (source.y + row)) (λ e. off (in_is done (source.x + k) (source.y + row) e)) in
    ap (λ (i : ℕ). pixel_color_at pixels i) at
    ∙ so_far (source.x + k) (source.y + row) across
    ∙ ap (λ (b : Bool). cond b (copied_picture source area before (source.x + k) (source.y + row)) (before (source.x + k) (source.y + row))) away
    ∙ sym (ap (λ (c : ℕ). before (source.x + c) (source.y + (area.y + row - area.y))) column ∙ ap (λ (r : ℕ). before (source.x + k) (source.y + r)) height)

-- a row that is copied
pub row_copied : (pixels new : List Pixel) (width : ℕ) (source area done : Area) (before : Picture) (row : ℕ) → area.x + area.w ≤ width → source.x + area.w ≤ width
    → ((k : ℕ) → IsIn done (source.x + k) (source.y + row) → ⊥)
    → ((x y : ℕ) → x < width → color_in pixels width x y ≡ cond (is_in done x y) (copied_picture source area before x y) (before x y))
    → CopiedTo pixels new (row_start width source row) (row_start width area row) area.w
    → SameBelow pixels new (row_start width area row) → SameFrom pixels new (row_start width area row + area.w)
    → WritesRow pixels new width area (copied_picture source area before) row
row_copied pixels new width source area done before row columns source_columns off so_far copied below above = record {
  columns = columns;
  here = λ k lt.
      let there : row_start width source row + (row_start width area row + k - row_start width area row) ≡ row_start width source row + k = omega arith in
      ap color_of (copied (row_start width area row + k) black_pixel (omega arith) (omega (arith, lt)))
      ∙ ap (λ (i : ℕ). pixel_color_at pixels i) there
      ∙ source_left pixels width source area done before row k (omega (arith, source_columns, lt)) (off k) so_far;
  before = λ i lt. ap color_of (below i black_pixel lt);
  following = λ i le. ap color_of (above i black_pixel le);
}

-- the length of a range
pub range_len : (start n : ℕ) → start + n - start ≡ n
range_len start n = omega arith

-- what the code wrote: n pixels of the bytes, to a part that begins at start
pub record Written (line : List Pixel) (bytes : List ℕ) (from n : ℕ) : Type 0 where
  pub len : length line ≡ n
  pub colors : (k : ℕ) → k < n → pixel_color_at line k ≡ host_color (pixel_at (take (4 * n) (drop (4 * from) bytes)) k)

pub written : (pixels line : List Pixel) (bytes : List ℕ) (start n from : ℕ) → start + n ≤ length pixels → length line ≡ length (take (start + n - start) (drop start pixels))
    → ((k : ℕ) → k < length (take (start + n - start) (drop start pixels)) → pixel_color_at line k ≡ host_color (pixel_at (take (4 * from + 4 * n - 4 * from) (drop (4 * from) bytes)) k))
    → Written line bytes from n
written pixels line bytes start n from fits len colors =
    let part : length (take (start + n - start) (drop start pixels)) ≡ n = simp (length-take, length-drop) (omega arith) in
    record {
      len = len ∙ part;
      colors = λ k lt. colors k (omega arith) ∙ ap (λ (m : ℕ). host_color (pixel_at (take m (drop (4 * from) bytes)) k)) (range_len (4 * from) (4 * n));
    }

-- if the pixels in front have a colour, so have those to the end of the part after them that is
-- given it
pub filled_further : (row line : List Pixel) (start end : ℕ) (color : Color) → start ≤ end → end ≤ length row → length line ≡ end - start
    → ((k : ℕ) → k < start → pixel_color_at row k ≡ color) → ((k : ℕ) → k < end - start → pixel_color_at line k ≡ color)
    → (k : ℕ) → k < end → pixel_color_at (put_mid start (end - start) row line) k ≡ color
filled_further row line start end color order fits len before here k lt =
    elim (cases_lt k start) [
      | inl low ↦ ap color_of (below_part start (end - start) row line k black_pixel (omega (arith, fits, order)) low) ∙ before k low
      | inr high ↦
          let at : k ≡ start + (k - start) = omega (arith, high) in
          ap (λ (i : ℕ). pixel_color_at (put_mid start (end - start) row line) i) at
          ∙ ap color_of (in_part start (end - start) row line (k - start) black_pixel (omega (arith, fits, order)) (omega (arith, len, lt, high)))
          ∙ here (k - start) (omega (arith, lt, high))
    ]
