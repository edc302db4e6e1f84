-- What a viewer sees once it has painted an update of some areas.
use Rattle.std.proofs.Common.{◌≡◌, ℕ, ◌+◌, ◌-◌, inl, inr, Bool, true, false, List, [], ◌∷◌, refl, sym, ap, ◌∙◌, subst, arith}
use Rattle.std.specs.Prelude.{◌||◌, ◌++◌, All, map}
use Rattle.std.specs.List.{AllZip, AllByRecursion}
use Rattle.std.proofs.lemmas.Bool.{cases_Bool}
use Rattle.std.proofs.lemmas.List.Elements.{All-nil, All-cons}
use Rattle.pixel_format.specs.declared.Color.{Color}
use Rattle.pixel_format.specs.Format.{Format}
use Rattle.pixel_format.specs.Pixel.{converted}
use Rattle.pixel_format.specs.Canvas.{Picture}
use Rattle.terms.specs.declared.area.Area.{Area}
use Rattle.terms.specs.Area.{is_in, LiesWithin}
use Rattle.terms.proofs.Areas.{in_is}
use Rattle.rect_data.specs.declared.encoding.Encoding.{Encoding}
use Rattle.rect_codec.specs.declared.parts.Part.{Part}
use Rattle.rect_codec.specs.declared.parts.Part.TheVariants as parts
use Rattle.rect_codec.specs.Parts.{Draws, DrawsCopy, PartLiesWithin}
use Rattle.rect_codec.specs.Update.{Drawn, HasColors, painted, all_painted}
use Rattle.painter.specs.Framebuffer.{Framebuffer, color_at}
use Rattle.pixel_sets.specs.Pixels.{is_in_some}
use Rattle.pixel_sets.proofs.Sent.{IsInside}
use Rattle.shared_updates.specs.declared.copy.KeptCopy.{KeptCopy}
use Rattle.shared_updates.specs.Copies.{IsCopyWithin, is_copied, copied, all_copied}
use Rattle.shared_updates.specs.Updates.{AreConverted}
use Rattle.viewer_session.specs.View.{AreDrawn, is_covered}
use Rattle.shared_updates.specs.Updates.{IsScreenPart, copy_parts}
use Rattle.viewer_session.proofs.Views.{neither}
use Rattle.viewer_session.proofs.Carried.{all_same}

-- what is painted shows the screen in an area, and is elsewhere as it was
pub record ShowsArea (f : Format) (screen : Framebuffer) (area : Area) (before after : Picture) : Type 0 where
  pub here : (x y : ℕ) → is_in area x y ≡ true → after x y ≡ converted f (color_at screen x y)
  pub elsewhere : (x y : ℕ) → is_in area x y ≡ false → after x y ≡ before x y

colors_shown : (f : Format) (screen : Framebuffer) (area : Area) (colors : List Color) (before after : Picture) → AreConverted f screen area colors → HasColors area colors before after
    → ShowsArea f screen area before after
colors_shown f screen area colors before after are has = record {
  here = λ x y e.
      let pixel = in_is area x y e in
      let l = pixel.left in
      let r = pixel.right in
      let column : area.x + (x - area.x) ≡ x = omega arith in
      let t = pixel.top in
      let u = pixel.bottom in
      let row : area.y + (y - area.y) ≡ y = omega arith in
      ap (λ (n : ℕ). after n y) (sym column) ∙ ap (λ (n : ℕ). after (area.x + (x - area.x)) n) (sym row)
      ∙ has.here (x - area.x) (y - area.y) (omega arith) (omega arith)
      ∙ are.value (x - area.x) (y - area.y) (omega arith) (omega arith)
      ∙ ap (λ (n : ℕ). converted f (color_at screen n (area.y + (y - area.y)))) column ∙ ap (λ (n : ℕ). converted f (color_at screen x n)) row;
  elsewhere = has.elsewhere;
}

-- the rectangle is of this area, and shows the screen there
pub record IsShown (f : Format) (screen : Framebuffer) (area : Area) (drawn : Drawn) : Type 0 where
  pub area_is : drawn.area ≡ area
  pub shows : (before : Picture) → ShowsArea f screen area before (painted f drawn before)

part_shown : (f : Format) (asked : Encoding) (screen : Framebuffer) (area : Area) (part : Part) (drawn : Drawn) → IsScreenPart f asked screen area part → Draws f part drawn → IsShown f screen area drawn
part_shown f asked screen area (parts.Copy to x y) drawn is draws = absurd is
part_shown f asked screen area (parts.Colors to colors encoding) drawn is draws = record {
  area_is = draws.area_is ∙ is.0;
  shows = λ before. colors_shown f screen area colors.now before (painted f drawn before) is.2
      (subst (λ (a : Area). HasColors a colors.now before (painted f drawn before)) is.0 (draws.paints before));
}

-- a rectangle for each area
pub all_shown : (f : Format) (asked : Encoding) (screen : Framebuffer) (areas : List Area) (list : List Part) (drawn : List Drawn)
    → AllZip (IsScreenPart f asked screen) areas list → AllZip (Draws f) list drawn → AllZip (IsShown f screen) areas drawn
all_shown f asked screen [] [] [] are draw = tt
all_shown f asked screen [] [] (d ∷ drawn) are draw = absurd draw
all_shown f asked screen [] (p ∷ list) drawn are draw = absurd are
all_shown f asked screen (a ∷ areas) [] drawn are draw = absurd are
all_shown f asked screen (a ∷ areas) (p ∷ list) [] are draw = absurd draw
all_shown f asked screen (a ∷ areas) (p ∷ list) (d ∷ drawn) are draw =
    (part_shown f asked screen a p d are.0 draw.0, all_shown f asked screen areas list drawn are.1 draw.1)

-- they cover the pixels of the areas
pub covered_is : (f : Format) (screen : Framebuffer) (areas : List Area) (drawn : List Drawn) → AllZip (IsShown f screen) areas drawn → (x y : ℕ) → is_covered drawn x y ≡ is_in_some areas x y
covered_is f screen [] [] are x y = refl
covered_is f screen [] (d ∷ drawn) are x y = absurd are
covered_is f screen (a ∷ areas) [] are x y = absurd are
covered_is f screen (a ∷ areas) (d ∷ drawn) are x y =
    ap (λ (b : Area). is_in b x y || is_covered drawn x y) are.0.area_is ∙ ap (λ (b : Bool). is_in a x y || b) (covered_is f screen areas drawn are.1 x y)

-- their areas are these
pub areas_are : (f : Format) (screen : Framebuffer) (areas : List Area) (drawn : List Drawn) → AllZip (IsShown f screen) areas drawn → map (λ (d : Drawn). d.area) drawn ≡ areas
areas_are f screen [] [] are = refl
areas_are f screen [] (d ∷ drawn) are = absurd are
areas_are f screen (a ∷ areas) [] are = absurd are
areas_are f screen (a ∷ areas) (d ∷ drawn) are = ap (λ (b : Area). b ∷ map (λ (e : Drawn). e.area) drawn) are.0.area_is ∙ ap (λ (l : List Area). a ∷ l) (areas_are f screen areas drawn are.1)

-- pixels of no area are as they were
pub elsewhere : (f : Format) (screen : Framebuffer) (areas : List Area) (drawn : List Drawn) → AllZip (IsShown f screen) areas drawn → (before : Picture) (x y : ℕ)
    → is_in_some areas x y ≡ false → all_painted f drawn before x y ≡ before x y
elsewhere f screen [] [] are before x y off = refl
elsewhere f screen [] (d ∷ drawn) are before x y off = absurd are
elsewhere f screen (a ∷ areas) [] are before x y off = absurd are
elsewhere f screen (a ∷ areas) (d ∷ drawn) are before x y off =
    let parts = neither (is_in a x y) (is_in_some areas x y) off in
    elsewhere f screen areas drawn are.1 (painted f d before) x y parts.1 ∙ (are.0.shows before).elsewhere x y parts.0

here_alone : (a b : Bool) → (a || b) ≡ true → b ≡ false → a ≡ true
here_alone true b on off = refl
here_alone false b on off = absurd (cc)

-- the others show the screen
pub shown : (f : Format) (screen : Framebuffer) (areas : List Area) (drawn : List Drawn) → AllZip (IsShown f screen) areas drawn → (before : Picture) (x y : ℕ)
    → is_in_some areas x y ≡ true → all_painted f drawn before x y ≡ converted f (color_at screen x y)
shown f screen [] [] are before x y on = absurd (cc)
shown f screen [] (d ∷ drawn) are before x y on = absurd are
shown f screen (a ∷ areas) [] are before x y on = absurd are
shown f screen (a ∷ areas) (d ∷ drawn) are before x y on = elim (cases_Bool (is_in_some areas x y)) [
  | inl later ↦ shown f screen areas drawn are.1 (painted f d before) x y later
  | inr last ↦ elsewhere f screen areas drawn are.1 (painted f d before) x y last ∙ (are.0.shows before).here x y (here_alone (is_in a x y) (is_in_some areas x y) on last)
]

-- ---- after copies

-- a rectangle for each copy, and one for each area
abbrev pub AreShown : Format → Framebuffer → List KeptCopy → List Area → List Drawn → Type 0
AreShown f screen [] areas drawn = AllZip (IsShown f screen) areas drawn
AreShown f screen (c ∷ cs) areas [] = ⊥
AreShown f screen (c ∷ cs) areas (d ∷ drawn) = DrawsCopy f c.area c.source_x c.source_y d × AreShown f screen cs areas drawn

pub parts_shown : (f : Format) (asked : Encoding) (screen : Framebuffer) (copies : List KeptCopy) (areas : List Area) (list : List Part) (drawn : List Drawn)
    → AllZip (IsScreenPart f asked screen) areas list → AllZip (Draws f) (copy_parts copies ++ list) drawn → AreShown f screen copies areas drawn
parts_shown f asked screen [] areas list drawn are draw = all_shown f asked screen areas list drawn are draw
parts_shown f asked screen (c ∷ cs) areas list [] are draw = absurd draw
parts_shown f asked screen (c ∷ cs) areas list (d ∷ drawn) are draw = (draw.0, parts_shown f asked screen cs areas list drawn are draw.1)

or_assoc : (a b c : Bool) → (a || (b || c)) ≡ ((a || b) || c)
or_assoc true b c = refl
or_assoc false b c = refl

pub all_covered : (f : Format) (screen : Framebuffer) (copies : List KeptCopy) (areas : List Area) (drawn : List Drawn) → AreShown f screen copies areas drawn
    → (x y : ℕ) → is_covered drawn x y ≡ (is_copied copies x y || is_in_some areas x y)
all_covered f screen [] areas drawn are x y = covered_is f screen areas drawn are x y
all_covered f screen (c ∷ cs) areas [] are x y = absurd are
all_covered f screen (c ∷ cs) areas (d ∷ drawn) are x y =
    ap (λ (a : Area). is_in a x y || is_covered drawn x y) are.0.area_is ∙ ap (λ (b : Bool). is_in c.area x y || b) (all_covered f screen cs areas drawn are.1 x y)
    ∙ or_assoc (is_in c.area x y) (is_copied cs x y) (is_in_some areas x y)

pub all_drawn : (f : Format) (screen : Framebuffer) (copies : List KeptCopy) (areas : List Area) (drawn : List Drawn) → AreShown f screen copies areas drawn → AreDrawn f copies areas drawn
all_drawn f screen [] areas drawn are = areas_are f screen areas drawn are
all_drawn f screen (c ∷ cs) areas [] are = absurd are
all_drawn f screen (c ∷ cs) areas (d ∷ drawn) are = (are.0, all_drawn f screen cs areas drawn are.1)

pub all_here : (f : Format) (screen : Framebuffer) (copies : List KeptCopy) (areas : List Area) (drawn : List Drawn) → AreShown f screen copies areas drawn → (before : Picture) (x y : ℕ)
    → is_in_some areas x y ≡ true → all_painted f drawn before x y ≡ converted f (color_at screen x y)
all_here f screen [] areas drawn are before x y on = shown f screen areas drawn are before x y on
all_here f screen (c ∷ cs) areas [] are before x y on = absurd are
all_here f screen (c ∷ cs) areas (d ∷ drawn) are before x y on = all_here f screen cs areas drawn are.1 (painted f d before) x y on

-- a rectangle that copies paints what its copy does
paints_copy : (f : Format) (c : KeptCopy) (d : Drawn) (before : Picture) → DrawsCopy f c.area c.source_x c.source_y d → (x y : ℕ) → painted f d before x y ≡ copied c before x y
paints_copy f c d before draws x y = elim (cases_Bool (is_in c.area x y)) [
  | inl here ↦
      (let pixel = in_is c.area x y here in
      let l = pixel.left in
      let r = pixel.right in
      let t = pixel.top in
      let u = pixel.bottom in
      let column : c.area.x + (x - c.area.x) ≡ x = omega arith in
      let row : c.area.y + (y - c.area.y) ≡ y = omega arith in
      rw here (
      ap (λ (n : ℕ). painted f d before n y) (sym column) ∙ ap (λ (n : ℕ). painted f d before (c.area.x + (x - c.area.x)) n) (sym row)
      ∙ (draws.paints before).here (x - c.area.x) (y - c.area.y) (omega arith) (omega arith)))
  | inr off ↦ rw off ((draws.paints before).elsewhere x y off)
]

-- a pixel of no area shows what it does once the copies are carried out
pub all_carried : (f : Format) (screen : Framebuffer) (copies : List KeptCopy) (areas : List Area) (drawn : List Drawn) → AreShown f screen copies areas drawn → (before : Picture) (x y : ℕ)
    → is_in_some areas x y ≡ false → all_painted f drawn before x y ≡ all_copied copies before x y
all_carried f screen [] areas drawn are before x y off = elsewhere f screen areas drawn are before x y off
all_carried f screen (c ∷ cs) areas [] are before x y off = absurd are
all_carried f screen (c ∷ cs) areas (d ∷ drawn) are before x y off =
    all_carried f screen cs areas drawn are.1 (painted f d before) x y off
    ∙ all_same cs (painted f d before) (copied c before) (paints_copy f c d before are.0) x y

-- ---- on a screen

-- parts of areas within a screen lie within it
part_within : (width height : ℕ) (f : Format) (asked : Encoding) (screen : Framebuffer) (area : Area) (part : Part) → LiesWithin width height area → IsScreenPart f asked screen area part → PartLiesWithin width height part
part_within width height f asked screen area (parts.Copy to x y) within is = absurd is
part_within width height f asked screen area (parts.Colors to colors encoding) within is = subst (λ (a : Area). LiesWithin width height a) (sym is.0) within

pub parts_within : (width height : ℕ) (f : Format) (asked : Encoding) (screen : Framebuffer) (outer : Area) (areas : List Area) (list : List Part)
    → AllByRecursion (IsInside width height outer) areas → AllZip (IsScreenPart f asked screen) areas list → All (PartLiesWithin width height) list
parts_within width height f asked screen outer [] [] within are = All-nil (PartLiesWithin width height)
parts_within width height f asked screen outer [] (p ∷ list) within are = absurd are
parts_within width height f asked screen outer (a ∷ areas) [] within are = absurd are
parts_within width height f asked screen outer (a ∷ areas) (p ∷ list) within are =
    All-cons (PartLiesWithin width height) p list (part_within width height f asked screen a p within.0.within are.0) (parts_within width height f asked screen outer areas list within.1 are.1)

pub parts_inside : (width height : ℕ) (f : Format) (asked : Encoding) (screen : Framebuffer) (copies : List KeptCopy) (outer : Area) (areas : List Area) (list : List Part)
    → AllByRecursion (IsCopyWithin width height) copies → AllByRecursion (IsInside width height outer) areas → AllZip (IsScreenPart f asked screen) areas list → All (PartLiesWithin width height) (copy_parts copies ++ list)
parts_inside width height f asked screen [] outer areas list copied within are = parts_within width height f asked screen outer areas list within are
parts_inside width height f asked screen (c ∷ cs) outer areas list copied within are =
    All-cons (PartLiesWithin width height) (parts.Copy c.area c.source_x c.source_y) (copy_parts cs ++ list) (copied.0.area.within, copied.0.source)
    (parts_inside width height f asked screen cs outer areas list copied.1 within are)
