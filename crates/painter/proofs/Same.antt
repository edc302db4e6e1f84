-- Two screens of one size that agree at each pixel have the same pixels, and so have their rows.
use Rattle.std.proofs.Common.{◌≡◌, ℕ, zero, suc, ◌+◌, ◌*◌, ◌/◌, ◌%◌, ◌<◌, List, length, map, get_or, Decides, refl, sym, subst, ap, ◌∙◌, arith}
use Rattle.std.specs.Prelude.{nat_eq, Bool, false, not, ◌↔◌}
use Rattle.std.specs.Cmp.Lexicographic.{pointwise}
use Rattle.std.proofs.lemmas.Bool.{eq-eqb, eqb-true, not-false}
use Rattle.std.proofs.lemmas.List.{ext_get_or}
use Rattle.std.proofs.lemmas.Slice.Eq.{slice_eq-Decides}
use Rattle.std.proofs.Math.Nat.{mod-lt, mod-add-div, div-lt_iff_lt-mul}
use Rattle.std.proofs.Props.{props}
use Rattle.pixel_format.specs.declared.Color.{Color}
use Rattle.pixel_format.specs.Canvas.{nth}
use Rattle.terms.specs.Area.{whole_area}
use Rattle.terms.specs.declared.area.Area.{Area}
use Rattle.painter.specs.declared.pixel.Pixel.{Pixel}
use Rattle.painter.specs.Framebuffer.{Framebuffer, color_at, Has, IsSame, AgreeIn}
use Rattle.painter.specs.Pixels.{black_pixel, color_of, pixel_color_at}
use Rattle.painter.specs.Sent.{row_colors}
use Rattle.painter.proofs.Screens.{screen_of, color_is}
use Rattle.painter.proofs.SentColors.{row_color}

made : (n : ℕ) → n < 16777216 → Pixel
made n short = record { number = n; short = short }

-- a pixel is known by its number
same_number : (p q : Pixel) → p.number ≡ q.number → p ≡ q
unfolding made
same_number p q e =
    let P : ℕ → Type 0 = λ n. (short : n < 16777216) → made p.number p.short ≡ made n short in
    let prop : IsProp (p.number < 16777216) = hlevel props in
    subst P e (λ short. ap (made p.number) (prop p.short short)) q.short

-- and by its colour
pixel_of : (p q : Pixel) → color_of p ≡ color_of q → p ≡ q
pixel_of p q e =
    let r : p.number / 65536 % 256 ≡ q.number / 65536 % 256 = ap (λ (c : Color). c.r) e in
    let g : p.number / 256 % 256 ≡ q.number / 256 % 256 = ap (λ (c : Color). c.g) e in
    let b : p.number / 1 % 256 ≡ q.number / 1 % 256 = ap (λ (c : Color). c.b) e in
    same_number p q (omega (arith, p.short, q.short))

positive : (i height width : ℕ) → i < height * width → 0 < width
positive i height zero less = absurd (omega arith)
positive i height (suc width) less = omega arith

row_below : (i height width : ℕ) → i < height * width → 0 < width → i / width < height
row_below i height width less some = (div-lt_iff_lt-mul some).1 less

pub same_pixels : (width height : ℕ) (ps qs : List Pixel) → length ps ≡ height * width → length qs ≡ height * width
    → Has (screen_of width height ps) (color_at (screen_of width height qs)) → ps ≡ qs
same_pixels width height ps qs long also same =
    ext_get_or black_pixel ps qs (long ∙ sym also) (λ i less.
    let within : i < height * width = omega (arith, less, long) in
    let some = positive i height width within in
    let at : i / width * width + i % width ≡ i = omega (arith, mod-add-div i width) in
    let here = same (i % width) (i / width) (mod-lt i some) (row_below i height width within some) in
    let colors : pixel_color_at ps i ≡ pixel_color_at qs i =
    ap (pixel_color_at ps) (sym at) ∙ sym (color_is ps (i / width * width + i % width)) ∙ here ∙ color_is qs (i / width * width + i % width) ∙ ap (pixel_color_at qs) at in
    pixel_of (get_or ps i black_pixel) (get_or qs i black_pixel) colors)

pub same_by_number : (p q : Pixel) → Decides (nat_eq p.number q.number) (p ≡ q)
same_by_number p q = (λ e. same_number p q (eqb-true p.number q.number e), λ e. eq-eqb p.number q.number (ap (λ (k : Pixel). k.number) e))

-- what equal pixels say of screens, by their views
pub screens_same : (a b : Framebuffer) (width height : ℕ) (ps qs : List Pixel) → screen_of width height ps ≡ a → screen_of width height qs ≡ b
    → length ps ≡ height * width → length qs ≡ height * width → (ps ≡ qs) ↔ IsSame a b
screens_same a b width height ps qs is other long also = (
  λ same.
      let screens : a ≡ b = sym is ∙ ap (screen_of width height) same ∙ other in
      record {
        size = record { width = ap (λ (s : Framebuffer). s.width) (sym screens); height = ap (λ (s : Framebuffer). s.height) (sym screens) };
        colors = λ x y across down. ap (λ (s : Framebuffer). color_at s x y) screens;
      },
  λ same_screen.
      let has = same_screen.colors in
      let P : Framebuffer → Type 0 = λ s. Has s (color_at b) in
      let own : Has (screen_of width height ps) (color_at b) = subst P (sym is) has in
      let Q : Framebuffer → Type 0 = λ s. Has (screen_of width height ps) (color_at s) in
      same_pixels width height ps qs long also (subst Q (sym other) own),
)

-- ---- rows

-- the colours that a row of pixels has
read_row : (screen : Framebuffer) (area : Area) (row : ℕ) (ps : List Pixel) → map color_of ps ≡ row_colors screen area row
    → (x : ℕ) → x < area.w → pixel_color_at ps x ≡ color_at screen (area.x + x) (area.y + row)
read_row screen area row ps is x across = sym (color_is ps x) ∙ ap (λ (cs : List Color). nth cs x) is ∙ row_color screen area row x across

-- what `!=` says of a row of an area of two pictures
pub row_same : {E : Pixel → Pixel → Bool} → ((p q : Pixel) → Decides (E p q) (p ≡ q)) → (one other : Framebuffer) (area : Area) (row : ℕ) (ps qs : List Pixel) (r : Bool)
    → r ≡ not (pointwise E ps qs) → length ps ≡ area.w → length qs ≡ area.w
    → map color_of ps ≡ row_colors one area row → map color_of qs ≡ row_colors other area row
    → (r ≡ false) ↔ ((x : ℕ) → x < area.w → color_at one (area.x + x) (area.y + row) ≡ color_at other (area.x + x) (area.y + row))
row_same {E} decides one other area row ps qs r differs long also is are =
    let d : Decides (pointwise E ps qs) (ps ≡ qs) = slice_eq-Decides decides ps qs (pointwise E ps qs) refl in
    let first = read_row one area row ps is in
    let second = read_row other area row qs are in (
      λ e x across.
          let same : ps ≡ qs = d.0 (not-false (pointwise E ps qs) (sym differs ∙ e)) in
          sym (first x across) ∙ ap (λ (line : List Pixel). pixel_color_at line x) same ∙ second x across,
      λ colors.
          let same : ps ≡ qs = ext_get_or black_pixel ps qs (long ∙ sym also) (λ i less.
          let across : i < area.w = omega (arith, less, long) in
          pixel_of (get_or ps i black_pixel) (get_or qs i black_pixel) (first i across ∙ colors i across ∙ sym (second i across))) in
          differs ∙ ap not (d.1 same),
    )

-- of the area of all pixels
pub agree_whole : (one other : Framebuffer) (width height : ℕ) → one.width ≡ width → one.height ≡ height
    → AgreeIn (whole_area width height) one other ↔ Has one (color_at other)
agree_whole one other width height wide high =
    let at : (n : ℕ) → 0 + n ≡ n = λ n. omega arith in
    let Agree : ℕ → ℕ → Type 0 = λ x y. color_at one x y ≡ color_at other x y in (
      λ agree x y across down.
          let here : Agree (0 + x) (0 + y) = agree x y (omega (arith, across, wide)) (omega (arith, down, high)) in
          subst (λ (k : ℕ). Agree x k) (at y) (subst (λ (k : ℕ). Agree k (0 + y)) (at x) here),
      λ has x y across down. has (0 + x) (0 + y) (omega (arith, across, wide)) (omega (arith, down, high)),
    )
