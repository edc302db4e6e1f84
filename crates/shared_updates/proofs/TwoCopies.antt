-- Two copies as one.
use Rattle.std.proofs.Common.{◌≡◌, ℕ, ◌+◌, ◌-◌, inl, inr, Bool, true, false, refl, sym, ap, ◌∙◌, arith}
use Rattle.std.specs.Prelude.{◌&&◌, ◌||◌}
use Rattle.std.proofs.lemmas.Bool.{cases_Bool, and_parts, leb-true, le-leb}
use Rattle.pixel_format.specs.Canvas.{Picture}
use Rattle.terms.specs.declared.area.Area.{Area}
use Rattle.terms.specs.Area.{is_in, HasJust}
use Rattle.terms.proofs.Areas.{in_is, is_in_true}
use Rattle.shared_updates.specs.declared.copy.KeptCopy.{KeptCopy}
use Rattle.shared_updates.specs.Copies.{source, copied, lies_in, moved_by, AreOne}
use Rattle.shared_updates.specs.Inside.{LiesInside}

pub inside_is : (area outer : Area) → lies_in area outer ≡ true → LiesInside area outer
inside_is area outer e =
    let parts = and_parts _ _ e in
    let columns = and_parts _ _ parts.0 in
    let rows = and_parts _ _ parts.1 in
    record { left = leb-true _ _ columns.0; right = leb-true _ _ columns.1; top = leb-true _ _ rows.0; bottom = leb-true _ _ rows.1 }

pub inside_true : (area outer : Area) → LiesInside area outer → lies_in area outer ≡ true
inside_true area outer i = rw (
  le-leb outer.x area.x i.left,
  le-leb (area.x + area.w) (outer.x + outer.w) i.right,
  le-leb outer.y area.y i.top,
  le-leb (area.y + area.h) (outer.y + outer.h) i.bottom,
) refl

-- a pixel of an area is one of an area around it
pub in_outer : (inner outer : Area) (x y : ℕ) → LiesInside inner outer → is_in inner x y ≡ true → is_in outer x y ≡ true
in_outer inner outer x y i here =
    let pixel = in_is inner x y here in
    let pl = pixel.left in
    let pr = pixel.right in
    let pt = pixel.top in
    let pb = pixel.bottom in
    let il = i.left in
    let ir = i.right in
    let it = i.top in
    let ib = i.bottom in
    is_in_true outer x y (record { left = omega arith; right = omega arith; top = omega arith; bottom = omega arith })

-- what two areas have in common lies in each
pub record LiesInBoth (area one other : Area) : Type 0 where
  pub in_one : LiesInside area one
  pub in_other : LiesInside area other

pub common_inside : (one other area : Area) → HasJust (λ x y. is_in one x y && is_in other x y) area → LiesInBoth area one other
common_inside one other area is =
    let a = is.across in
    let d = is.down in
    let right : ℕ = area.x + area.w - 1 in
    let bottom : ℕ = area.y + area.h - 1 in
    let first : is_in area area.x area.y ≡ true = is_in_true area area.x area.y (record { left = omega arith; right = omega arith; top = omega arith; bottom = omega arith }) in
    let last : is_in area right bottom ≡ true = is_in_true area right bottom (record { left = omega arith; right = omega arith; top = omega arith; bottom = omega arith }) in
    let firsts = and_parts _ _ (sym (is.just area.x area.y) ∙ first) in
    let lasts = and_parts _ _ (sym (is.just right bottom) ∙ last) in
    let f = in_is one area.x area.y firsts.0 in
    let g = in_is other area.x area.y firsts.1 in
    let k = in_is one right bottom lasts.0 in
    let l = in_is other right bottom lasts.1 in
    let fl = f.left in
    let ft = f.top in
    let gl = g.left in
    let gt = g.top in
    let kr = k.right in
    let kb = k.bottom in
    let lr = l.right in
    let lb = l.bottom in
    record {
      in_one = record { left = fl; right = omega arith; top = ft; bottom = omega arith };
      in_other = record { left = gl; right = omega arith; top = gt; bottom = omega arith };
    }

-- where a copy takes a part of what it copies lies in what it goes to
pub moved_inside_area : (c : KeptCopy) (taken : Area) → LiesInside taken (source c) → LiesInside (moved_by c taken) c.area
moved_inside_area c taken i =
    let il = i.left in
    let ir = i.right in
    let it = i.top in
    let ib = i.bottom in
    record { left = omega arith; right = omega arith; top = omega arith; bottom = omega arith }

-- both copies as one that takes this of the first
abbrev pub one_of : KeptCopy → KeptCopy → Area → KeptCopy
one_of first second taken = record {
  area = moved_by second taken;
  source_x = first.source_x + (taken.x - first.area.x);
  source_y = first.source_y + (taken.y - first.area.y);
}

source_inside : (first second : KeptCopy) (taken : Area) → LiesInside taken first.area → LiesInside (source (one_of first second taken)) (source first)
source_inside first second taken i =
    let il = i.left in
    let ir = i.right in
    let it = i.top in
    let ib = i.bottom in
    record { left = omega arith; right = omega arith; top = omega arith; bottom = omega arith }

or_false_left : (a b : Bool) → (a || b) ≡ true → b ≡ false → a ≡ true
or_false_left true b e off = refl
or_false_left false b e off = sym off ∙ e

absorbed : (a b : Bool) → (a ≡ true → b ≡ true) → b ≡ (a || b)
absorbed true b inside = inside refl
absorbed false b inside = refl

none_left : (a b : Bool) → (a || b) ≡ false → a ≡ false
none_left true b e = e
none_left false b e = refl

not_inner : (a b : Bool) → (a ≡ true → b ≡ true) → b ≡ false → a ≡ false
not_inner true b inside off = sym (inside refl) ∙ off
not_inner false b inside off = refl

same_pixel : (first second : KeptCopy) (taken rest : Area) → LiesInside first.area second.area → LiesInBoth taken first.area (source second)
    → ((x y : ℕ) → (is_in (moved_by second taken) x y || is_in rest x y) ≡ is_in second.area x y)
    → (before : Picture) → (x y : ℕ) → is_in rest x y ≡ false → copied (one_of first second taken) before x y ≡ copied second (copied first before) x y
same_pixel first second taken rest inside both all before x y off = elim (cases_Bool (is_in second.area x y)) [
  | inl here ↦
      (let one : is_in (moved_by second taken) x y ≡ true = or_false_left (is_in (moved_by second taken) x y) (is_in rest x y) (all x y ∙ here) off in
      let pixel = in_is (moved_by second taken) x y one in
      let pl = pixel.left in
      let pr = pixel.right in
      let pt = pixel.top in
      let pb = pixel.bottom in
      let tl = both.in_one.left in
      let tr = both.in_one.right in
      let tt = both.in_one.top in
      let tb = both.in_one.bottom in
      let sl = both.in_other.left in
      let st = both.in_other.top in
      let qx : ℕ = second.source_x + (x - second.area.x) in
      let qy : ℕ = second.source_y + (y - second.area.y) in
      let from : is_in first.area qx qy ≡ true = is_in_true first.area qx qy (record { left = omega arith; right = omega arith; top = omega arith; bottom = omega arith }) in
      let across : first.source_x + (taken.x - first.area.x) + (x - (second.area.x + (taken.x - second.source_x))) ≡ first.source_x + (qx - first.area.x) = omega arith in
      let down : first.source_y + (taken.y - first.area.y) + (y - (second.area.y + (taken.y - second.source_y))) ≡ first.source_y + (qy - first.area.y) = omega arith in
      rw (one, here, from) (ap (λ (n : ℕ). before n (first.source_y + (taken.y - first.area.y) + (y - (second.area.y + (taken.y - second.source_y))))) across
      ∙ ap (λ (n : ℕ). before (first.source_x + (qx - first.area.x)) n) down))
  | inr away ↦
      (let parts : (is_in (moved_by second taken) x y || is_in rest x y) ≡ false = all x y ∙ away in
      let one : is_in (moved_by second taken) x y ≡ false = none_left (is_in (moved_by second taken) x y) (is_in rest x y) parts in
      let before_it : is_in first.area x y ≡ false = not_inner (is_in first.area x y) (is_in second.area x y) (in_outer first.area second.area x y inside) away in
      rw (one, away, before_it) refl)
]

pub as_one : (first second : KeptCopy) (taken rest : Area) → lies_in first.area second.area ≡ true → HasJust (λ x y. is_in first.area x y && is_in (source second) x y) taken
    → lies_in rest second.area ≡ true → ((x y : ℕ) → (is_in (moved_by second taken) x y || is_in rest x y) ≡ is_in second.area x y)
    → AreOne first second (one_of first second taken) rest
as_one first second taken rest inside is rest_inside all =
    let within = inside_is first.area second.area inside in
    let both = common_inside first.area (source second) taken is in
    record {
      same = same_pixel first second taken rest within both all;
      goes = λ x y. all x y ∙ absorbed (is_in first.area x y) (is_in second.area x y) (in_outer first.area second.area x y within);
      area = inside_true (moved_by second taken) second.area (moved_inside_area second taken both.in_other);
      rest_area = rest_inside;
      source_area = inside_true (source (one_of first second taken)) (source first) (source_inside first second taken both.in_one);
      across = is.across;
      down = is.down;
    }
