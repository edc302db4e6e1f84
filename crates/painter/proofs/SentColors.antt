-- The colours of the pixels of an area, row by row.
use Rattle.std.proofs.Common.{◌≡◌, ℕ, zero, suc, ◌+◌, ◌*◌, ◌%◌, ◌<◌, ◌≤◌, List, [], ◌∷◌, ◌++◌, length, take, drop, get_or, map, sym, ap, subst, ◌∙◌, arith, length-append}
use Rattle.std.specs.Prelude.{All}
use Rattle.std.specs.List.{flat_map, range_with_len}
use Rattle.std.proofs.Math.ListN.{get_or-append}
use Rattle.std.proofs.Math.Nat.{mul-le-mul_left}
use Rattle.std.proofs.lemmas.List.Elements.{All-append, All-take, All-drop}
use Rattle.std.proofs.lemmas.List.{get_or-map, length-map, take-map, drop-map, get_or-append-add, length-take, length-drop, get_or-take, get_or-drop}
use Rattle.pixel_format.specs.declared.Color.{Color}
use Rattle.pixel_format.specs.Pixel.{IsScreenColor}
use Rattle.pixel_format.specs.Canvas.{black, nth}
use Rattle.terms.specs.declared.area.Area.{Area}
use Rattle.painter.specs.declared.pixel.Pixel.{Pixel}
use Rattle.painter.specs.Framebuffer.{Framebuffer, color_at, AreColorsOf}
use Rattle.painter.specs.Pixels.{black_pixel, color_of}
use Rattle.painter.specs.WholeRows.{IsFilled}
use Rattle.painter.specs.Sent.{row_colors, area_colors}
use Rattle.painter.proofs.Screens.{screen_of}

-- the colours of a row of pixels
pub row_is : (width height : ℕ) (pixels : List Pixel) (area : Area) (row : ℕ) → map color_of (take area.w (drop ((area.y + row) * width + area.x) pixels)) ≡ row_colors (screen_of width height pixels) area row
row_is width height pixels area row =
    sym (ap (take area.w) (drop-map color_of ((area.y + row) * width + area.x) pixels) ∙ take-map color_of area.w (drop ((area.y + row) * width + area.x) pixels))

-- a colour of a row
pub row_color : (screen : Framebuffer) (area : Area) (row k : ℕ) → k < area.w → nth (row_colors screen area row) k ≡ color_at screen (area.x + k) (area.y + row)
row_color screen area row k across =
    let slots_are = screen.slots in
    let at : (area.y + row) * screen.width + area.x + k ≡ (area.y + row) * screen.width + (area.x + k) = omega arith in
    get_or-take area.w (drop ((area.y + row) * screen.width + area.x) slots_are) k black across
    ∙ get_or-drop ((area.y + row) * screen.width + area.x) slots_are k black
    ∙ ap (nth slots_are) at

-- ---- pixels of rows that come one after the other

rows_long : {X : Type 0} (g : ℕ → List X) (w a n : ℕ) → ((k : ℕ) → k < a + n → length (g k) ≡ w) → length (flat_map g (range_with_len a n)) ≡ n * w
rows_long g w a zero long = omega arith
rows_long g w a (suc n) long =
    let first : length (g a) ≡ w = long a (omega arith) in
    let others : length (flat_map g (range_with_len (a + 1) n)) ≡ n * w = rows_long g w (a + 1) n (λ k less. long k (omega arith)) in
    length-append (g a) (flat_map g (range_with_len (a + 1) n)) ∙ omega arith

nth_of_rows : (g : ℕ → List Color) (w a n x y : ℕ) → ((k : ℕ) → k < a + n → length (g k) ≡ w) → x < w → y < n
    → nth (flat_map g (range_with_len a n)) (y * w + x) ≡ nth (g (a + y)) x
nth_of_rows g w a zero x y long across down = absurd (omega arith)
nth_of_rows g w a (suc n) x zero long across down =
    let first : length (g a) ≡ w = long a (omega arith) in
    let at : 0 * w + x ≡ x = omega arith in
    let same : a ≡ a + 0 = omega arith in
    ap (nth (g a ++ flat_map g (range_with_len (a + 1) n))) at
    ∙ get_or-append (g a) (flat_map g (range_with_len (a + 1) n)) black x (omega arith)
    ∙ ap (λ (k : ℕ). nth (g k) x) same
nth_of_rows g w a (suc n) x (suc y) long across down =
    let first : length (g a) ≡ w = long a (omega arith) in
    let at : suc y * w + x ≡ length (g a) + (y * w + x) = omega arith in
    let same : a + 1 + y ≡ a + suc y = omega arith in
    ap (nth (g a ++ flat_map g (range_with_len (a + 1) n))) at
    ∙ get_or-append-add (g a) (flat_map g (range_with_len (a + 1) n)) (y * w + x) black
    ∙ nth_of_rows g w (a + 1) n x y (λ k less. long k (omega arith)) across (omega arith)
    ∙ ap (λ (k : ℕ). nth (g k) x) same

-- ---- the colours of an area

channel_small : (n : ℕ) → n % 256 ≤ 255
channel_small n = omega arith

screen_color : (p : Pixel) → IsScreenColor (color_of p)
screen_color p = record { red = channel_small _; green = channel_small _; blue = channel_small _ }

all_screen : (pixels : List Pixel) → All IsScreenColor (map color_of pixels)
all_screen pixels k d less =
    subst IsScreenColor (sym (get_or-map color_of pixels k black_pixel d (omega (arith, length-map pixels color_of)))) (screen_color (get_or pixels k black_pixel))

-- the pixels of a screen have such colours, and as many
pub are_filled : (width height : ℕ) (pixels : List Pixel) → length pixels ≡ height * width → IsFilled (screen_of width height pixels)
are_filled width height pixels size = record { size = length-map pixels color_of ∙ size; colors = all_screen pixels }

all_rows : (screen : Framebuffer) (area : Area) (rows : List ℕ) → All IsScreenColor screen.slots → All IsScreenColor (flat_map (row_colors screen area) rows)
all_rows screen area [] each = λ k d less. absurd (omega arith)
all_rows screen area (row ∷ rows) each =
    All-append IsScreenColor (row_colors screen area row) (flat_map (row_colors screen area) rows)
    (All-take IsScreenColor area.w (drop ((area.y + row) * screen.width + area.x) screen.slots) (All-drop IsScreenColor ((area.y + row) * screen.width + area.x) screen.slots each))
    (all_rows screen area rows each)

-- they are those of its pixels
pub colors_are : (screen : Framebuffer) (area : Area) → IsFilled screen → area.x + area.w ≤ screen.width → area.y + area.h ≤ screen.height
    → AreColorsOf screen area (area_colors screen area)
colors_are screen area filled columns rows =
    let w = area.w in
    let slots_are = screen.slots in
    let many = filled.size in
    let fits : (k : ℕ) → k < area.h → (area.y + k) * screen.width + area.x + w ≤ length slots_are = λ k down.
    let below : area.y + k + 1 ≤ screen.height = omega arith in
    omega (arith, many, mul-le-mul_left screen.width below) in
    let long : (k : ℕ) → k < 0 + area.h → length (row_colors screen area k) ≡ w = λ k down. let room = fits k (omega arith) in simp (length-take, length-drop) (omega arith) in
    record {
      size = rows_long (row_colors screen area) w 0 area.h long;
      shows = λ x y across down.
          let none : 0 + y ≡ y = omega arith in
          nth_of_rows (row_colors screen area) w 0 area.h x y long across down
          ∙ ap (λ (k : ℕ). nth (row_colors screen area k) x) none
          ∙ row_color screen area y x across;
      each = all_rows screen area (range_with_len 0 area.h) filled.colors;
    }
