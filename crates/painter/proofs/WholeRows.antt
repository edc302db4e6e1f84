-- Pictures and their rows.
use Rattle.std.proofs.Common.{◌≡◌, ℕ, zero, suc, ◌+◌, ◌-◌, ◌*◌, ◌<◌, ◌≤◌, List, [], ◌∷◌, ◌++◌, length, take, drop, get_or, map, sym, ap, subst, ◌∙◌, arith, length-append}
use Rattle.std.specs.List.{flat_map, range_with_len}
use Rattle.std.proofs.lemmas.Grind.{flat_map-append}
use Rattle.std.proofs.lemmas.List.{append-nil, take_all, take_more, length-map, length-take, length-drop, drop-take, drop-drop, take-take, drop-map, take-map, map-append}
use Rattle.std.proofs.lemmas.List.Folds.{flat_map-map, length-flat_map-take}
use Rattle.std.proofs.lemmas.Slice.{take-put_mid}
use borrow.Rule.Slice.PartMut.{put_mid}
use Rattle.std.proofs.lemmas.List.FromFn.{get_or-map-range_with_len, length-map-range_with_len}
use Rattle.std.proofs.Math.Seq.{take-add}
use Rattle.std.proofs.Math.Nat.{mul-le-mul_left}
use Rattle.pixel_format.specs.declared.Color.{Color}
use Rattle.terms.specs.declared.area.Area.{Area}
use Rattle.terms.specs.declared.screen_size.ScreenSize.{ScreenSize}
use Rattle.painter.specs.declared.pixel.Pixel.{Pixel}
use Rattle.painter.specs.Framebuffer.{Framebuffer}
use Rattle.painter.specs.Pixels.{color_of}
use Rattle.painter.specs.WholeRows.{whole_row, first_rows, IsFilled, stacked, AreRows}
use Rattle.painter.specs.Sent.{row_colors}
use Rattle.painter.proofs.SentRows.{range_more, rows_joined}

-- ---- what rows make up

rows_join : (screen : Framebuffer) (n : ℕ) → flat_map (whole_row screen) (range_with_len 0 n) ≡ take (n * screen.width) screen.slots
rows_join screen zero =
    let none : 0 * screen.width ≡ 0 = omega arith in
    sym (ap (λ (m : ℕ). take m screen.slots) none)
rows_join screen (suc n) =
    let next : suc n ≡ n + 1 = omega arith in
    let many : n * screen.width + screen.width ≡ suc n * screen.width = omega arith in
    ap (λ (k : ℕ). flat_map (whole_row screen) (range_with_len 0 k)) next
    ∙ rows_joined (whole_row screen) n
    ∙ ap (λ (cs : List Color). cs ++ whole_row screen n) (rows_join screen n)
    ∙ sym (take-add (n * screen.width) screen.width screen.slots)
    ∙ ap (λ (m : ℕ). take m screen.slots) many

-- all rows of a picture make it up
pub made_up : (screen : Framebuffer) (count : ℕ) → IsFilled screen → screen.height ≤ count → stacked screen.width screen.height (first_rows screen count) ≡ screen
made_up screen count filled enough =
    let size = filled.size in
    let long : length screen.slots ≤ count * screen.width = omega (arith, size, mul-le-mul_left screen.width enough) in
    let all : flat_map (λ row. row) (first_rows screen count) ≡ screen.slots =
    flat_map-map (λ row. row) (whole_row screen) (range_with_len 0 count) ∙ rows_join screen count ∙ take_all (count * screen.width) screen.slots long in
    ap (λ (slots : List Color). record { width = screen.width; height = screen.height; slots = slots }) all

-- and are rows of what they make up
pub are_rows : (screen : Framebuffer) (count : ℕ) → IsFilled screen → screen.height ≤ count → AreRows screen.width screen.height (first_rows screen count)
are_rows screen count filled enough =
    let same = made_up screen count filled enough in
    let many : length (first_rows screen count) ≡ count = length-map-range_with_len (whole_row screen) 0 count in
    record {
      filled = subst IsFilled (sym same) filled;
      count = omega (arith, many, enough);
      are = sym (ap (λ (s : Framebuffer). first_rows s (length (first_rows screen count))) same ∙ ap (first_rows screen) many);
    }

-- what is made of all rows of a screen
pub snapshot_made : (screen : Framebuffer) (size : ScreenSize) (rows : List (List Color)) (count : ℕ) → size ≡ record { width = screen.width; height = screen.height } → IsFilled screen
    → screen.height ≤ count → rows ≡ first_rows screen count → AreRows size.width size.height rows × (stacked size.width size.height rows ≡ screen)
snapshot_made screen size rows count is filled enough all = (
  subst (λ (z : ScreenSize). AreRows z.width z.height rows) (sym is) (subst (AreRows screen.width screen.height) (sym all) (are_rows screen count filled enough)),
  ap (λ (z : ScreenSize). stacked z.width z.height rows) is ∙ ap (stacked screen.width screen.height) all ∙ made_up screen count filled enough,
)

-- one row more
pub rows_more : (screen : Framebuffer) (n : ℕ) (rows : List (List Color)) (row : List Color) → rows ≡ first_rows screen n → row ≡ whole_row screen n
    → rows ++ row ∷ [] ≡ first_rows screen (n + 1)
rows_more screen n rows row so_far is =
    let g : ℕ → List Color = whole_row screen in
    let next : n + 1 ≡ suc n = omega arith in
    let last : 0 + n ≡ n = omega arith in
    ap (λ (rs : List (List Color)). rs ++ row ∷ []) so_far
    ∙ ap (λ (r : List Color). first_rows screen n ++ r ∷ []) (is ∙ ap g (sym last))
    ∙ sym (map-append g (range_with_len 0 n) ((0 + n) ∷ []))
    ∙ ap (map g) (sym (range_more 0 n))
    ∙ ap (λ (k : ℕ). map g (range_with_len 0 k)) (sym next)

-- ---- what the code reads

-- a row of a picture has a colour for each column
pub row_long : (screen : Framebuffer) (y : ℕ) → IsFilled screen → y < screen.height → length (whole_row screen y) ≡ screen.width
row_long screen y filled down =
    let size = filled.size in
    let below : y + 1 ≤ screen.height = omega (arith, down) in
    simp (length-take, length-drop) (omega (arith, size, mul-le-mul_left screen.width below))

-- a part of a row
part_of_row : (screen : Framebuffer) (x w y : ℕ) → x + w ≤ screen.width → take w (drop x (whole_row screen y)) ≡ take w (drop (y * screen.width + x) screen.slots)
part_of_row screen x w y columns =
    let at : ℕ = y * screen.width in
    let split : screen.width ≡ x + (screen.width - x) = omega (arith, columns) in
    ap (λ (m : ℕ). take w (drop x (take m (drop at screen.slots)))) split
    ∙ ap (take w) (drop-take x (screen.width - x) (drop at screen.slots))
    ∙ take-take w (screen.width - x) (drop x (drop at screen.slots)) (omega (arith, columns))
    ∙ ap (take w) (drop-drop x at screen.slots)
    ∙ ap (λ (m : ℕ). take w (drop m screen.slots)) (omega arith)

-- a row of an area, of a row's pixels
pub part_read : (screen : Framebuffer) (area : Area) (row : ℕ) (pixels : List Pixel) → area.x + area.w ≤ screen.width → map color_of pixels ≡ whole_row screen (area.y + row)
    → map color_of (take area.w (drop area.x pixels)) ≡ row_colors screen area row
part_read screen area row pixels columns are =
    sym (ap (take area.w) (drop-map color_of area.x pixels) ∙ take-map color_of area.w (drop area.x pixels))
    ∙ ap (λ (cs : List Color). take area.w (drop area.x cs)) are
    ∙ part_of_row screen area.x area.w (area.y + row) columns

-- one of the rows of a picture
pub row_of : (width height : ℕ) (rows : List (List Color)) (y : ℕ) (row : List Color) → AreRows width height rows → y < length rows → row ≡ get_or rows y row
    → row ≡ whole_row (stacked width height rows) y
row_of width height rows y row are fits at =
    let screen = stacked width height rows in
    at ∙ ap (λ (rs : List (List Color)). get_or rs y row) are.are ∙ get_or-map-range_with_len (whole_row screen) 0 (length rows) y y row fits (omega arith)

-- its pixels are as many as the picture is wide
pub pixels_long : (width height : ℕ) (rows : List (List Color)) (y : ℕ) (pixels : List Pixel) → AreRows width height rows → y < height
    → map color_of pixels ≡ whole_row (stacked width height rows) y → length pixels ≡ width
pixels_long width height rows y pixels are down is =
    sym (length-map pixels color_of) ∙ ap length is ∙ row_long (stacked width height rows) y are.filled down

-- ---- what the code writes

-- a row more of those that are written, one after another
stack_more : (rows : List (List Color)) (k : ℕ) (d : List Color) → k < length rows
    → flat_map (λ row. row) (take (k + 1) rows) ≡ flat_map (λ row. row) (take k rows) ++ get_or rows k d
stack_more rows k d fits =
    ap (flat_map (λ (row : List Color). row)) (take_more rows k d fits)
    ∙ flat_map-append (λ (row : List Color). row) (take k rows) (get_or rows k d ∷ [])
    ∙ ap (λ (cs : List Color). flat_map (λ (row : List Color). row) (take k rows) ++ cs) (append-nil (get_or rows k d))

-- The first rows are written over pixels, from the first one on.
pub record AreWritten (rows : List (List Color)) (k start : ℕ) (pixels : List Pixel) : Type 0 where
  pub count : start ≡ length (flat_map (λ (row : List Color). row) (take k rows))
  pub colors : map color_of (take start pixels) ≡ flat_map (λ (row : List Color). row) (take k rows)

-- the next row ends where there still are pixels
pub row_fits : (rows : List (List Color)) (k start : ℕ) (pixels line : List Pixel) (d : List Color) → AreWritten rows k start pixels → k < length rows
    → length pixels ≡ length (flat_map (λ (row : List Color). row) rows) → map color_of line ≡ get_or rows k d → start + length line ≤ length pixels
row_fits rows k start pixels line d are fits size is =
    let here = are.count in
    let long : length line ≡ length (get_or rows k d) = sym (length-map line color_of) ∙ ap length is in
    let most = length-flat_map-take (λ (row : List Color). row) rows k d fits in
    omega (arith, here, long, most, size)

pub row_written : (rows : List (List Color)) (k start end : ℕ) (pixels line : List Pixel) (d : List Color) → AreWritten rows k start pixels → k < length rows
    → length pixels ≡ length (flat_map (λ (row : List Color). row) rows) → map color_of line ≡ get_or rows k d → end ≡ start + length line
    → AreWritten rows (k + 1) end (put_mid start (end - start) pixels line)
row_written rows k start end pixels line d are fits size is ends =
    let so_far = are.colors in
    let here = are.count in
    let inside = row_fits rows k start pixels line d are fits size is in
    let long : length line ≡ length (get_or rows k d) = sym (length-map line color_of) ∙ ap length is in
    let joined = stack_more rows k d fits in
    record {
      count = ends ∙ ap (λ (n : ℕ). n + length line) here ∙ ap (λ (n : ℕ). length (flat_map (λ (row : List Color). row) (take k rows)) + n) long
          ∙ sym (ap length joined ∙ length-append (flat_map (λ (row : List Color). row) (take k rows)) (get_or rows k d));
      colors = ap (map color_of) (take-put_mid start (end - start) pixels line end ends (omega (arith, inside)))
          ∙ map-append color_of (take start pixels) line
          ∙ ap (λ (cs : List Color). cs ++ map color_of line) so_far
          ∙ ap (λ (cs : List Color). flat_map (λ (row : List Color). row) (take k rows) ++ cs) is
          ∙ sym joined;
    }

pub all_written : (rows : List (List Color)) (k start : ℕ) (pixels : List Pixel) → AreWritten rows k start pixels → length rows ≤ k
    → length pixels ≡ length (flat_map (λ (row : List Color). row) rows) → map color_of pixels ≡ flat_map (λ (row : List Color). row) rows
all_written rows k start pixels are past size =
    let all = take_all k rows past in
    let here = are.count ∙ ap (λ (rs : List (List Color)). length (flat_map (λ (row : List Color). row) rs)) all in
    ap (map color_of) (sym (take_all start pixels (omega (arith, here, size))))
    ∙ are.colors ∙ ap (flat_map (λ (row : List Color). row)) all
