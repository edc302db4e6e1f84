-- Rectangles of a screen's colours.
use Rattle.std.proofs.Common.{zero, suc, ◌≡◌, ℕ, ◌+◌, ◌*◌, ◌/◌, ◌%◌, ◌<◌, List, sym, ap, ◌∙◌, arith}
use Rattle.std.proofs.Math.Nat.{div-add-mod, mul_comm, mod-lt, div-lt_iff_lt-mul}
use Rattle.std.proofs.lemmas.List.{ext_get_or}
use Rattle.pixel_format.specs.declared.Color.{Color}
use Rattle.pixel_format.specs.Canvas.{black, nth}
use Rattle.terms.specs.declared.area.Area.{Area}
use Rattle.rect_codec.specs.declared.parts.Part.{Part}
use Rattle.rect_codec.specs.declared.parts.Part.TheVariants as parts
use Rattle.painter.specs.Framebuffer.{Framebuffer, AreColorsOf}

-- one of no area
abbrev pub no_part : Part
no_part = parts.Copy (record { x = 0; y = 0; w = 0; h = 0 }) 0 0

some_width : (h w k : ℕ) → k < h * w → 0 < w
some_width h zero k less = absurd (omega arith)
some_width h (suc w) k less = omega arith

-- there is one list of an area's colours
pub colors_unique : (screen : Framebuffer) (area : Area) (a b : List Color) → AreColorsOf screen area a → AreColorsOf screen area b → a ≡ b
colors_unique screen area a b one other = ext_get_or black a b (one.size ∙ sym other.size) (λ k less.
    let w = area.w in
    let within : k < area.h * w = omega (arith, less, one.size) in
    let some : 0 < w = some_width area.h w k within in
    let column : k % w < w = mod-lt k some in
    let row : k / w < area.h = (div-lt_iff_lt-mul {x = k} {y = area.h} some).1 within in
    let at : k / w * w + k % w ≡ k = omega (arith, div-add-mod k w, mul_comm (k / w) w) in
    ap (nth a) (sym at) ∙ one.shows (k % w) (k / w) column row ∙ sym (other.shows (k % w) (k / w) column row) ∙ ap (nth b) at)
