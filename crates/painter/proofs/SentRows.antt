-- Appending the pixels of an area.
use Rattle.std.proofs.Common.{◌≡◌, ℕ, zero, suc, ◌+◌, ◌-◌, ◌*◌, ◌/◌, ◌%◌, ◌<◌, ◌≤◌, List, [], ◌∷◌, ◌++◌, length, take, drop, get_or, map, refl, sym, ap, subst, ◌∙◌, arith}
use Rattle.std.specs.Prelude.{Result, Ok, Err, OnOk}
use Rattle.std.specs.List.{flat_map, range_with_len}
use Rattle.std.proofs.lemmas.List.{append-nil, get_or-map, length-map, map-append}
use Rattle.std.proofs.lemmas.Grind.{flat_map-append}
use Rattle.std.proofs.lemmas.Simd.{map-map}
use borrow.Rule.Slice.PartMut.{put_mid}
use Rattle.pixel_format.specs.declared.Color.{Color}
use Rattle.pixel_format.specs.Format.{Format, pixel_bytes, host_format}
use Rattle.pixel_format.specs.Number.{IsNumber}
use Rattle.pixel_format.specs.Pixel.{pixel_of, pixel_color, converted, converted_channel}
use Rattle.pixel_format.specs.Canvas.{black, nth}
use Rattle.terms.specs.Appending.{Appends, Grows}
use Rattle.terms.proofs.Appends.{grows_more}
use Rattle.terms.proofs.Progress.{Joins, joins_mapped, both_appended}
use Rattle.rect_codec.specs.Picture.{pixel_at}
use Rattle.rect_codec.specs.Written.{IsPixelOf, ArePixels}
use Rattle.rect_codec.proofs.PixelsJoined.{are_joined}
use Rattle.terms.specs.declared.area.Area.{Area}
use Rattle.painter.specs.declared.pixel.Pixel.{Pixel}
use Rattle.painter.specs.Pixels.{color_of}
use Rattle.painter.specs.Framebuffer.{Framebuffer}
use Rattle.painter.specs.Sent.{row_colors, seen_colors}
use Rattle.painter.proofs.PixelsPut.{pixel_more}

-- the host's format has a screen's colours as they are
same_channel : (v : ℕ) → converted_channel 255 v ≡ v
same_channel v = omega arith

pub same_color : (c : Color) → converted host_format c ≡ c
same_color c = rw (same_channel c.r, same_channel c.g, same_channel c.b) refl

small_channel : (n : ℕ) → n % 256 ≤ 255
small_channel n = omega arith

-- what a screen keeps for a pixel is the pixel's number
pub host_number : (p : Pixel) → IsNumber host_format p.number
host_number p =
    let short = p.short in
    let whole : p.number / 65536 % 256 * 65536 + p.number / 256 % 256 * 256 + p.number / 1 % 256 * 1 ≡ p.number = omega (arith, short) in
    record {
      fits = omega (arith, short);
      within = record { red = small_channel (p.number / 65536); green = small_channel (p.number / 256); blue = small_channel (p.number / 1) };
      is = whole;
    }

-- one pixel more of a row
pub row_more : (f : Format) (row : List Pixel) (bytes pixel : List ℕ) (k s : ℕ) (d : Pixel) (color : Color) → s ≡ pixel_bytes f → length bytes ≡ length row * s → k < length row
    → length pixel ≡ length (take (k * s + s - k * s) (drop (k * s) bytes))
    → ((j : ℕ) → j < k → IsPixelOf f (nth (seen_colors f row) j) (pixel_at f bytes j))
    → pixel ≡ pixel_of f color → pixel_color f pixel ≡ color → color ≡ converted f (color_of (get_or row k d))
    → (j : ℕ) → j < k + 1 → IsPixelOf f (nth (seen_colors f row) j) (pixel_at f (put_mid (k * s) (k * s + s - k * s) bytes pixel) j)
row_more f row bytes pixel k s d color e size lt whole done put back is =
    let all = seen_colors f row in
    let many : length all ≡ length row = length-map row (λ p. converted f (color_of p)) in
    let room : length bytes ≡ length all * pixel_bytes f = size ∙ ap (λ (n : ℕ). n * s) (sym many) ∙ ap (λ (n : ℕ). length all * n) e in
    let here : color ≡ nth all k = is ∙ sym (get_or-map (λ p. converted f (color_of p)) row k d black lt) in
    pixel_more f all bytes pixel k s e room (omega arith) whole done (record { bytes_are = put ∙ ap (pixel_of f) here; color_is = back ∙ here })

-- the pixels of a row
abbrev pub AreRowPixels : Format → List Pixel → List ℕ → Type 0
AreRowPixels f row = ArePixels f (seen_colors f row)

pub row_pixels_join : (f : Format) → Joins (AreRowPixels f)
row_pixels_join f = joins_mapped (λ p. converted f (color_of p)) (ArePixels f) (are_joined f)

-- one number more of a range
pub range_more : (a n : ℕ) → range_with_len a (suc n) ≡ range_with_len a n ++ (a + n) ∷ []
range_more a zero = ap (λ (k : ℕ). k ∷ []) (omega arith)
range_more a (suc n) =
    let last : a + 1 + n ≡ a + suc n = omega arith in
    ap (λ (ks : List ℕ). a ∷ ks) (range_more (a + 1) n) ∙ ap (λ (k : ℕ). a ∷ (range_with_len (a + 1) n ++ k ∷ [])) last

-- one row more
pub rows_joined : {X : Type 0} (g : ℕ → List X) (n : ℕ) → flat_map g (range_with_len 0 (n + 1)) ≡ flat_map g (range_with_len 0 n) ++ g n
rows_joined g n =
    let next : n + 1 ≡ suc n = omega arith in
    let last : 0 + n ≡ n = omega arith in
    ap (λ (k : ℕ). flat_map g (range_with_len 0 k)) next
    ∙ ap (flat_map g) (range_more 0 n)
    ∙ flat_map-append g (range_with_len 0 n) ((0 + n) ∷ [])
    ∙ ap (λ r. flat_map g (range_with_len 0 n) ++ r) (append-nil (g (0 + n)) ∙ ap g last)

-- the colours of the first so many rows of an area, as the format has them
abbrev pub sent_rows : Format → Framebuffer → Area → ℕ → List Color
sent_rows f screen area rows = map (converted f) (flat_map (row_colors screen area) (range_with_len 0 rows))

-- those of one row more, whose pixels were read
pub rows_appended : (Are : List Color → List ℕ → Type 0) → Joins Are → (f : Format) (screen : Framebuffer) (area : Area) (row : ℕ) (pixels : List Pixel) (old between new : List ℕ)
    → map color_of pixels ≡ row_colors screen area row → Appends (Are (sent_rows f screen area row)) old between → Appends (Are (seen_colors f pixels)) between new
    → Appends (Are (sent_rows f screen area (row + 1))) old new
rows_appended Are joins f screen area row pixels old between new is so_far more =
    let here : seen_colors f pixels ≡ map (converted f) (row_colors screen area row) = sym (map-map (converted f) color_of pixels) ∙ ap (map (converted f)) is in
    let all : sent_rows f screen area (row + 1) ≡ sent_rows f screen area row ++ map (converted f) (row_colors screen area row) =
    ap (map (converted f)) (rows_joined (row_colors screen area) row) ∙ map-append (converted f) (flat_map (row_colors screen area) (range_with_len 0 row)) (row_colors screen area row) in
    subst (λ (cs : List Color). Appends (Are cs) old new) (sym all)
    (both_appended Are joins (sent_rows f screen area row) (map (converted f) (row_colors screen area row)) old between new so_far (subst (λ (cs : List Color). Appends (Are cs) between new) here more))

-- what was appended so far, and what some bytes more are
pub grows_so_far : {P : List ℕ → Type 0} (old between new : List ℕ) → Appends P old between → Grows between new → Grows old new
grows_so_far old between new first more = grows_more old between new (record { bytes = first.bytes; is = first.is; are = tt }) more

-- what follows if two answers are one
pub both_ok : {T E : Type 0} (r a : Result T E) (A B C : Type 0) → r ≡ a → OnOk a A → OnOk r B → (A → B → C) → OnOk r C
both_ok (Ok x) a A B C same first second both = both (subst (λ z. OnOk z A) (sym same) first) second
both_ok (Err e) a A B C same first second both = tt
