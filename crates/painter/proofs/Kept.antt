-- Rows that are kept of a picture, and of what is painted over it.
use Rattle.std.proofs.Common.{◌≡◌, ℕ, ◌+◌, ◌-◌, ◌*◌, ◌<◌, ◌≤◌, zero, suc, false, true, Option, Some, None, List, [], ◌∷◌, ◌++◌, set, length, take, drop, get_or, inl, inr, refl, sym, ap, subst, ◌∙◌, arith}
use Rattle.std.proofs.lemmas.Bool.{cases_lt, cases_eq, false_from_ne_true}
use Rattle.std.proofs.lemmas.List.{length-set, length-take, length-drop, get_or-take, get_or-drop, get_or-set_same, get_or-set_other, get_or_past, ext_get_or}
use Rattle.std.proofs.Math.Nat.{mul-le-mul_left}
use Rattle.pixel_format.specs.declared.Color.{Color}
use Rattle.pixel_format.specs.Canvas.{Picture, black, nth}
use Rattle.pixel_format.specs.Format.{host_format}
use Rattle.terms.specs.declared.area.Area.{Area}
use Rattle.terms.specs.Area.{LiesWithin, is_in}
use Rattle.rect_data.specs.declared.encoding.Encoding.TheVariants as encodings
use Rattle.rect_data.specs.Grammar.{source_of}
use Rattle.rect_data.specs.Data.{IsSource}
use Rattle.rect_codec.specs.Picture.{painted_data, copied_picture}
use Rattle.painter.specs.Framebuffer.{Framebuffer, color_at, SameSize, Has}
use Rattle.painter.specs.WholeRows.{whole_row, IsFilled, AreKept, AreMoved}
use Rattle.painter.proofs.Region.{in_is, is_in_true}
use Rattle.painter.proofs.Screens.{source_within}
use Rattle.painter.proofs.Order.{unpainted}

-- ---- lists of rows

-- what is kept of a row has its place in the list
kept_fits : (kept : List (Option (List Color))) (y : ℕ) (row : List Color) → get_or kept y None ≡ Some row → y < length kept
kept_fits kept y row is = elim (cases_lt y (length kept)) [
  | inl fits ↦ fits
  | inr past ↦ (let clash = sym (get_or_past kept y None past) ∙ is in absurd cc)
]

pub none_kept : (screen : Framebuffer) → AreKept screen []
none_kept screen = record { count = omega arith; each = λ y row is. cc }

-- one that was written there is kept
pub one_kept : (screen : Framebuffer) (kept : List (Option (List Color))) (n : ℕ) (one : Option (List Color)) → n < length kept
    → ((row : List Color) → one ≡ Some row → row ≡ whole_row screen n) → AreKept screen kept → AreKept screen (set kept n one)
one_kept screen kept n one fits here are =
    let few = are.count in
    record {
      count = simp length-set (omega (arith, few));
      each = λ y row is. elim (cases_eq y n) [
        | inl same ↦ subst (λ (m : ℕ). row ≡ whole_row screen m) (sym same)
            (here row (sym (ap (λ (m : ℕ). get_or (set kept n one) m None) same ∙ get_or-set_same kept n one None fits) ∙ is))
        | inr other ↦ are.each y row (sym (get_or-set_other kept n y one None other) ∙ is)
      ];
    }

-- room for more of them keeps those that are kept
pub room_kept : (screen : Framebuffer) (kept more : List (Option (List Color))) (count : ℕ) → AreKept screen kept → count ≤ screen.height
    → ((y : ℕ) → get_or more y None ≡ get_or kept y None) → length more ≤ length kept + (count - length kept) → AreKept screen more
room_kept screen kept more count are few same long =
    let so_far = are.count in
    record {
      count = omega (arith, so_far, few, long);
      each = λ y row is. are.each y row (sym (same y) ∙ is);
    }

-- an element past the end of a list is as if it weren't there
pub padded : {X : Type 0} (xs : List X) (k : ℕ) (d : X) → get_or (xs ++ d ∷ []) k d ≡ get_or xs k d
padded [] zero d = refl
padded [] (suc k) d = refl
padded (x ∷ xs) zero d = refl
padded (x ∷ xs) (suc k) d = padded xs k d

-- ---- what painting leaves

-- a row with the colours of a row of another picture
same_row : (w h y z : ℕ) (a b : List Color) → length a ≡ h * w → length b ≡ h * w → y < h → z < h
    → ((x : ℕ) → x < w → nth a (y * w + x) ≡ nth b (z * w + x)) → take w (drop (y * w) a) ≡ take w (drop (z * w) b)
same_row w h y z a b size_a size_b down_a down_b same =
    let next_a : y + 1 ≤ h = omega (arith, down_a) in
    let next_b : z + 1 ≤ h = omega (arith, down_b) in
    let below_a = mul-le-mul_left w next_a in
    let below_b = mul-le-mul_left w next_b in
    let long : length (take w (drop (y * w) a)) ≡ w = simp (length-take, length-drop) (omega (arith, size_a, below_a)) in
    ext_get_or black (take w (drop (y * w) a)) (take w (drop (z * w) b)) (simp (length-take, length-drop) (omega (arith, size_a, size_b, below_a, below_b))) (λ x less.
    let across : x < w = omega (arith, less, long) in
    get_or-take w (drop (y * w) a) x black across ∙ get_or-drop (y * w) a x black
    ∙ same x across
    ∙ sym (get_or-take w (drop (z * w) b) x black across ∙ get_or-drop (z * w) b x black))

-- Row y of the new picture is row z of the old one, of which this was kept.
record IsRowOf (old new : Framebuffer) (kept : List (Option (List Color))) (y : ℕ) (row : List Color) : Type 0 where
  z : ℕ
  was : get_or kept z None ≡ Some row
  same : (x : ℕ) → x < new.width → color_at new x y ≡ color_at old x z

rows_follow : (old new : Framebuffer) (kept left : List (Option (List Color))) → IsFilled old → IsFilled new → SameSize old new → length left ≡ length kept
    → ((y : ℕ) (row : List Color) → y < new.height → get_or left y None ≡ Some row → IsRowOf old new kept y row) → AreKept old kept → AreKept new left
rows_follow old new kept left before now size long from are =
    let w : new.width ≡ old.width = size.width in
    let h : new.height ≡ old.height = size.height in
    let few = are.count in
    let slots_old = old.slots in
    let slots_new = new.slots in
    record {
      count = omega (arith, few, long, h);
      each = λ y row is.
          let here = kept_fits left y row is in
          let down : y < new.height = omega (arith, here, long, few, h) in
          let told = from y row down is in
          let z = told.z in
          let there = kept_fits kept z row told.was in
          are.each z row told.was
          ∙ ap (λ (n : ℕ). take n (drop (z * n) slots_old)) (sym w)
          ∙ sym (same_row new.width new.height y z slots_new slots_old now.size
          (before.size ∙ ap (λ (n : ℕ). n * old.width) (sym h) ∙ ap (λ (n : ℕ). new.height * n) (sym w)) down (omega (arith, there, few, h))
          (λ x across. told.same x across ∙ ap (λ (n : ℕ). nth slots_old (z * n + x)) (sym w)));
    }

-- rows that are not of a painted area are kept
pub still_kept : (old new : Framebuffer) (area : Area) (kept left : List (Option (List Color))) → IsFilled old → IsFilled new → SameSize old new → length left ≡ length kept
    → ((x y : ℕ) → x < new.width → y < new.height → is_in area x y ≡ false → color_at new x y ≡ color_at old x y)
    → ((y : ℕ) (row : List Color) → get_or left y None ≡ Some row → (get_or kept y None ≡ Some row) × (area.y ≤ y → area.y + area.h ≤ y))
    → AreKept old kept → AreKept new left
still_kept old new area kept left before now size long outside clear =
    rows_follow old new kept left before now size long (λ y row down is.
    let told = clear y row is in
    record {
      z = y;
      was = told.0;
      same = λ x across. outside x y across down (false_from_ne_true (is_in area x y) (λ inside.
          let slot = in_is area x y inside in
          let top = slot.top in
          let bottom = slot.bottom in
          let past = told.1 top in
          absurd (omega (arith, bottom, past))));
    })

-- and those that are copied whole were kept of their sources
pub moved_kept : (old new : Framebuffer) (from to count : ℕ) (kept left : List (Option (List Color))) → IsFilled old → IsFilled new → SameSize old new → length left ≡ length kept
    → ((x y : ℕ) → x < new.width → y < new.height → to ≤ y → y < to + count → color_at new x y ≡ color_at old x (from + (y - to)))
    → ((x y : ℕ) → x < new.width → y < new.height → (to ≤ y → to + count ≤ y) → color_at new x y ≡ color_at old x y)
    → AreMoved from to count kept left → AreKept old kept → AreKept new left
moved_kept old new from to count kept left before now size long copied outside are =
    let unmoved : (y : ℕ) (row : List Color) → y < new.height → (to ≤ y → to + count ≤ y) → get_or kept y None ≡ Some row → IsRowOf old new kept y row = λ y row down away was.
    record { z = y; was = was; same = λ x across. outside x y across down away } in
    rows_follow old new kept left before now size long (λ y row down is. elim (cases_lt y to) [
      | inl higher ↦ unmoved y row down (λ clash. absurd (omega (arith, higher, clash))) (are.above y row higher is)
      | inr level ↦ elim (cases_lt y (to + count)) [
        | inl inside ↦
            let at : to + (y - to) ≡ y = omega (arith, level) in
            record {
              z = from + (y - to);
              was = are.moved (y - to) row (omega (arith, level, inside)) (ap (λ (n : ℕ). get_or left n None) at ∙ is);
              same = λ x across. copied x y across down level inside;
            }
        | inr past ↦ unmoved y row down (λ _. past) (are.below y row past is)
      ]
    ])

-- what a copy leaves in its area
copied_there : (area : Area) (bytes : List ℕ) (before : Picture) (x y : ℕ) → is_in area x y ≡ true
    → painted_data host_format encodings.CopyRect area bytes before x y ≡ before ((source_of area bytes).x + (x - area.x)) ((source_of area bytes).y + (y - area.y))
unfolding painted_data copied_picture
copied_there area bytes before x y inside = rw inside refl

-- rows that a CopyRect of whole rows moves
pub copy_kept : (old new : Framebuffer) (width height : ℕ) (area : Area) (bytes : List ℕ) (kept left : List (Option (List Color))) → LiesWithin width height area
    → IsSource width height area bytes → area.w ≡ width → old.width ≡ width → IsFilled old → IsFilled new → SameSize old new → length left ≡ length kept
    → Has new (painted_data host_format encodings.CopyRect area bytes (color_at old)) → AreMoved (source_of area bytes).y area.y area.h kept left → AreKept old kept → AreKept new left
copy_kept old new width height area bytes kept left within is whole wide before now size long painted are =
    let source = source_of area bytes in
    let columns = within.columns in
    let inside = source_within width height area source bytes refl is in
    let from_left : source.x ≡ 0 = omega (arith, inside.0, whole) in
    let to_left : area.x ≡ 0 = omega (arith, columns, whole) in
    let same_width = size.width in
    moved_kept old new source.y area.y area.h kept left before now size long
    (λ x y across down top bottom.
    let here : is_in area x y ≡ true = is_in_true area x y (record { left = omega (arith, to_left); right = omega (arith, across, to_left, whole, wide, same_width); top = top; bottom = bottom }) in
    let column : source.x + (x - area.x) ≡ x = omega (arith, from_left, to_left) in
    painted x y across down ∙ copied_there area bytes (color_at old) x y here ∙ ap (λ (n : ℕ). color_at old n (source.y + (y - area.y))) column)
    (λ x y across down away.
    painted x y across down ∙ unpainted encodings.CopyRect area bytes (color_at old) x y (false_from_ne_true (is_in area x y) (λ clash.
    let slot = in_is area x y clash in
    let top = slot.top in
    let bottom = slot.bottom in
    let past = away top in
    absurd (omega (arith, bottom, past)))))
    are

-- ---- moving rows one by one

-- one more row above those that were moved down
pub one_more_down : (from to k count : ℕ) (kept between left : List (Option (List Color))) → from < to → 0 < k → k ≤ count → AreMoved (from + k) (to + k) (count - k) kept between
    → AreMoved (from + (k - 1)) (to + (k - 1)) 1 between left → AreMoved (from + (k - 1)) (to + (k - 1)) (count - (k - 1)) kept left
one_more_down from to k count kept between left down some within first one = record {
  moved = λ j row less is. elim (cases_lt 0 j) [
    | inl later ↦
        let to_here : to + k + (j - 1) ≡ to + (k - 1) + j = omega (arith, later, some) in
        let from_here : from + k + (j - 1) ≡ from + (k - 1) + j = omega (arith, later, some) in
        let was = one.below (to + (k - 1) + j) row (omega (arith, later)) is in
        ap (λ (m : ℕ). get_or kept m None) (sym from_here)
        ∙ first.moved (j - 1) row (omega (arith, less, later, some, within)) (ap (λ (m : ℕ). get_or between m None) to_here ∙ was)
    | inr none ↦
        let to_here : to + (k - 1) + 0 ≡ to + (k - 1) + j = omega (arith, none) in
        let from_here : from + (k - 1) + 0 ≡ from + (k - 1) + j = omega (arith, none) in
        let was = one.moved 0 row (omega arith) (ap (λ (m : ℕ). get_or left m None) to_here ∙ is) in
        first.above (from + (k - 1) + j) row (omega (arith, none, down)) (ap (λ (m : ℕ). get_or between m None) (sym from_here) ∙ was)
  ];
  above = λ y row higher is. first.above y row (omega (arith, higher)) (one.above y row higher is);
  below = λ y row past is. first.below y row (omega (arith, past, some, within)) (one.below y row (omega (arith, past, some, within)) is);
}
