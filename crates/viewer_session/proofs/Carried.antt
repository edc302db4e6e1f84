-- Pictures once copies are carried out, and where their stale pixels go.
use Rattle.std.proofs.Common.{◌≡◌, ℕ, ◌+◌, ◌-◌, ◌<◌, ◌≤◌, inl, inr, Bool, true, false, List, [], ◌∷◌, ◌++◌, refl, sym, ap, ◌∙◌, subst, arith}
use Rattle.std.specs.Prelude.{◌&&◌, ◌||◌, Option, Some, None}
use Rattle.std.specs.List.{AllByRecursion}
use Rattle.std.proofs.lemmas.Bool.{cases_Bool, and_parts}
use Rattle.pixel_format.specs.Canvas.{Picture}
use Rattle.terms.specs.declared.area.Area.{Area}
use Rattle.terms.specs.Area.{is_in, IsSmallest, IsSmallestOf}
use Rattle.terms.proofs.Areas.{in_is, is_in_true}
use Rattle.pixel_sets.specs.Pixels.{PixelSet, holds}
use Rattle.shared_updates.specs.declared.copy.KeptCopy.{KeptCopy}
use Rattle.shared_updates.specs.Copies.{source, is_copied, copied, all_copied, moved_by, is_moved}
use Rattle.viewer_session.specs.declared.view.View.{View}
use Rattle.viewer_session.proofs.Views.{Converts, Sees, neither}

-- ---- pictures

-- one copy more
pub copied_more : (cs : List KeptCopy) (c : KeptCopy) (before : Picture) → all_copied (cs ++ c ∷ []) before ≡ copied c (all_copied cs before)
copied_more [] c before = refl
copied_more (b ∷ cs) c before = copied_more cs c (copied b before)

or_false : (a : Bool) → (a || false) ≡ a
or_false true = refl
or_false false = refl

or_assoc : (a b c : Bool) → (a || (b || c)) ≡ ((a || b) || c)
or_assoc true b c = refl
or_assoc false b c = refl

pub is_copied_more : (cs : List KeptCopy) (c : KeptCopy) (x y : ℕ) → is_copied (cs ++ c ∷ []) x y ≡ (is_copied cs x y || is_in c.area x y)
is_copied_more [] c x y = or_false (is_in c.area x y)
is_copied_more (b ∷ cs) c x y = ap (λ (t : Bool). is_in b.area x y || t) (is_copied_more cs c x y) ∙ or_assoc (is_in b.area x y) (is_copied cs x y) (is_in c.area x y)

-- a pixel that no copy goes to is as it was
off_copy : (c : KeptCopy) (before : Picture) (x y : ℕ) → is_in c.area x y ≡ false → copied c before x y ≡ before x y
off_copy c before x y off = rw off refl

pub uncopied : (cs : List KeptCopy) (before : Picture) (x y : ℕ) → is_copied cs x y ≡ false → all_copied cs before x y ≡ before x y
uncopied [] before x y off = refl
uncopied (c ∷ cs) before x y off =
    let parts = neither (is_in c.area x y) (is_copied cs x y) off in
    uncopied cs (copied c before) x y parts.1 ∙ off_copy c before x y parts.0

-- equal pictures stay equal
same_copied : (c : KeptCopy) (p q : Picture) → ((x y : ℕ) → p x y ≡ q x y) → (x y : ℕ) → copied c p x y ≡ copied c q x y
same_copied c p q same x y = elim (cases_Bool (is_in c.area x y)) [
  | inl here ↦ rw here (same (c.source_x + (x - c.area.x)) (c.source_y + (y - c.area.y)))
  | inr off ↦ rw off (same x y)
]

pub all_same : (cs : List KeptCopy) (p q : Picture) → ((x y : ℕ) → p x y ≡ q x y) → (x y : ℕ) → all_copied cs p x y ≡ all_copied cs q x y
all_same [] p q same = same
all_same (c ∷ cs) p q same = all_same cs (copied c p) (copied c q) (same_copied c p q same)

-- a viewer that has what isn't to be sent, once it has carried out the copies, has what isn't stale
pub converts_of : (v : View) (seen : Picture) → Sees v seen → Converts v seen
converts_of v seen sees x y across down clean =
    let parts = neither (holds v.stale x y) (is_copied v.copies x y) clean in
    sym (uncopied v.copies seen x y parts.1) ∙ sees x y across down parts.0

-- ---- stale pixels

-- the stale ones among those that a copy copies
abbrev pub stale_in : KeptCopy → PixelSet → ℕ → ℕ → Bool
stale_in c set x y = is_in (source c) x y && holds set x y

-- the smallest area that holds them lies among these
pub record LiesIn (outer area : Area) : Type 0 where
  pub left : outer.x ≤ area.x
  pub right : area.x + area.w ≤ outer.x + outer.w
  pub top : outer.y ≤ area.y
  pub bottom : area.y + area.h ≤ outer.y + outer.h
  pub across : 0 < area.w
  pub down : 0 < area.h

pub smallest_lies : (outer : Area) (p : ℕ → ℕ → Bool) (area : Area) → ((x y : ℕ) → p x y ≡ true → is_in outer x y ≡ true) → IsSmallest p area → LiesIn outer area
smallest_lies outer p area inside is =
    let l = in_is outer area.x is.left.0 (inside area.x is.left.0 is.left.1) in
    let r = in_is outer (area.x + area.w - 1) is.right.0 (inside (area.x + area.w - 1) is.right.0 is.right.1) in
    let t = in_is outer is.top.0 area.y (inside is.top.0 area.y is.top.1) in
    let b = in_is outer is.bottom.0 (area.y + area.h - 1) (inside is.bottom.0 (area.y + area.h - 1) is.bottom.1) in
    let here = in_is area area.x is.left.0 (is.holds_each area.x is.left.0 is.left.1) in
    let there = in_is area is.top.0 area.y (is.holds_each is.top.0 area.y is.top.1) in
    let hr = here.right in
    let tb = there.bottom in
    let ll = l.left in
    let rr = r.right in
    let tt = t.top in
    let bb = b.bottom in
    record { left = ll; right = omega arith; top = tt; bottom = omega arith; across = omega arith; down = omega arith }

among : (c : KeptCopy) (set : PixelSet) (x y : ℕ) → stale_in c set x y ≡ true → is_in (source c) x y ≡ true
among c set x y e = (and_parts (is_in (source c) x y) (holds set x y) e).0

pub stale_lies : (c : KeptCopy) (set : PixelSet) (area : Area) → IsSmallest (stale_in c set) area → LiesIn (source c) area
stale_lies c set area is = smallest_lies (source c) (stale_in c set) area (among c set) is

-- where they go is among the pixels that the copy goes to
pub moved_inside : (c : KeptCopy) (set : PixelSet) (o : Option Area) (x y : ℕ) → IsSmallestOf (stale_in c set) o → is_moved c o x y ≡ true → is_in c.area x y ≡ true
moved_inside c set None x y is e = absurd (cc)
moved_inside c set (Some a) x y is e =
    let lies = stale_lies c set a is in
    let ll = lies.left in
    let lr = lies.right in
    let lt = lies.top in
    let lb = lies.bottom in
    let pixel = in_is (moved_by c a) x y e in
    let pl = pixel.left in
    let pr = pixel.right in
    let pt = pixel.top in
    let pb = pixel.bottom in
    is_in_true c.area x y (record { left = omega arith; right = omega arith; top = omega arith; bottom = omega arith })

-- a pixel whose source is stale is one of those to which the copy takes that area
moved_at : (c : KeptCopy) (set : PixelSet) (o : Option Area) (x y : ℕ) → IsSmallestOf (stale_in c set) o → is_in c.area x y ≡ true
    → stale_in c set (c.source_x + (x - c.area.x)) (c.source_y + (y - c.area.y)) ≡ true → is_moved c o x y ≡ true
moved_at c set None x y is here both = absurd (is (c.source_x + (x - c.area.x)) (c.source_y + (y - c.area.y)) both)
moved_at c set (Some a) x y is here both =
    let pixel = in_is c.area x y here in
    let pl = pixel.left in
    let pr = pixel.right in
    let pt = pixel.top in
    let pb = pixel.bottom in
    let at = in_is a (c.source_x + (x - c.area.x)) (c.source_y + (y - c.area.y)) (is.holds_each (c.source_x + (x - c.area.x)) (c.source_y + (y - c.area.y)) both) in
    let al = at.left in
    let ar = at.right in
    let at_top = at.top in
    let ab = at.bottom in
    is_in_true (moved_by c a) x y (record { left = omega arith; right = omega arith; top = omega arith; bottom = omega arith })

pub moved_here : (c : KeptCopy) (set : PixelSet) (o : Option Area) (x y : ℕ) → IsSmallestOf (stale_in c set) o → is_in c.area x y ≡ true
    → holds set (c.source_x + (x - c.area.x)) (c.source_y + (y - c.area.y)) ≡ true → is_moved c o x y ≡ true
moved_here c set o x y is here held =
    let pixel = in_is c.area x y here in
    let pl = pixel.left in
    let pr = pixel.right in
    let pt = pixel.top in
    let pb = pixel.bottom in
    let qx : ℕ = c.source_x + (x - c.area.x) in
    let qy : ℕ = c.source_y + (y - c.area.y) in
    let from : is_in (source c) qx qy ≡ true = is_in_true (source c) qx qy (record { left = omega arith; right = omega arith; top = omega arith; bottom = omega arith }) in
    let both : stale_in c set qx qy ≡ true = rw (from, held) refl in
    moved_at c set o x y is here both

-- ---- the smallest area

leq : (one other : Area) (p : ℕ → ℕ → Bool) → IsSmallest p one → IsSmallest p other → LiesIn other one
leq one other p a b = smallest_lies other p one (λ x y e. b.holds_each x y e) a

-- there is one alone
pub same_size : (one other : Area) (p : ℕ → ℕ → Bool) → IsSmallest p one → IsSmallest p other → (one.w ≡ other.w) × (one.h ≡ other.h)
same_size one other p a b =
    let f = leq one other p a b in
    let g = leq other one p b a in
    let fl = f.left in
    let fr = f.right in
    let ft = f.top in
    let fb = f.bottom in
    let gl = g.left in
    let gr = g.right in
    let gt = g.top in
    let gb = g.bottom in
    (omega arith, omega arith)

-- one that is as large as the area in which all lie is that
pub all_of_it : (outer area : Area) (p : ℕ → ℕ → Bool) → ((x y : ℕ) → p x y ≡ true → is_in outer x y ≡ true) → IsSmallest p area → area.w ≡ outer.w → area.h ≡ outer.h → IsSmallest p outer
all_of_it outer area p inside is wide high =
    let lies = smallest_lies outer p area inside is in
    let ll = lies.left in
    let lr = lies.right in
    let lt = lies.top in
    let lb = lies.bottom in
    let x : area.x ≡ outer.x = omega arith in
    let y : area.y ≡ outer.y = omega arith in
    record {
      holds_each = inside;
      left = (is.left.0, subst (λ (k : ℕ). p k is.left.0 ≡ true) x is.left.1);
      right = (is.right.0, subst (λ (k : ℕ). p k is.right.0 ≡ true) (ap (λ (k : ℕ). k + area.w - 1) x ∙ ap (λ (k : ℕ). outer.x + k - 1) wide) is.right.1);
      top = (is.top.0, subst (λ (k : ℕ). p is.top.0 k ≡ true) y is.top.1);
      bottom = (is.bottom.0, subst (λ (k : ℕ). p is.bottom.0 k ≡ true) (ap (λ (k : ℕ). k + area.h - 1) y ∙ ap (λ (k : ℕ). outer.y + k - 1) high) is.bottom.1);
    }

-- ---- lists

pub all_more : (P : KeptCopy → Type 0) (cs : List KeptCopy) (c : KeptCopy) → AllByRecursion P cs → P c → AllByRecursion P (cs ++ c ∷ [])
all_more P [] c all last = (last, tt)
all_more P (b ∷ cs) c all last = (all.0, all_more P cs c all.1 last)

pub all_weaker : (P Q : KeptCopy → Type 0) (cs : List KeptCopy) → ((c : KeptCopy) → P c → Q c) → AllByRecursion P cs → AllByRecursion Q cs
all_weaker P Q [] more all = tt
all_weaker P Q (c ∷ cs) more all = (more c all.0, all_weaker P Q cs more all.1)
