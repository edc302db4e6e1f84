-- Views whose last two copies become one.
use Rattle.std.proofs.Common.{◌≡◌, ℕ, ◌+◌, ◌<◌, ◌≤◌, inl, inr, Bool, true, false, List, [], ◌∷◌, ◌++◌, length, refl, sym, ap, ◌∙◌, subst, length-append, arith}
use Rattle.std.specs.Prelude.{◌||◌, Option, Some, None}
use Rattle.std.specs.List.{AllByRecursion}
use Rattle.pixel_format.specs.Canvas.{Picture}
use Rattle.terms.specs.declared.area.Area.{Area}
use Rattle.terms.specs.Area.{is_in}
use Rattle.pixel_sets.specs.Pixels.{PixelSet, holds}
use Rattle.shared_updates.specs.declared.copy.KeptCopy.{KeptCopy}
use Rattle.shared_updates.specs.Copies.{source, is_copied, copied, all_copied, lies_in, AreJoined, GivesUpLast}
use Rattle.shared_updates.proofs.TwoCopies.{inside_is, inside_true}
use Rattle.viewer_session.specs.declared.view.View.{View}
use Rattle.viewer_session.specs.View.{IsAskedFor, IsKept}
use Rattle.viewer_session.proofs.Views.{neither}
use Rattle.viewer_session.proofs.Carried.{all_more, uncopied}

-- ---- tests

or_true : (a : Bool) → (a || true) ≡ true
or_true true = refl
or_true false = refl

or_false : (a : Bool) → (a || false) ≡ a
or_false true = refl
or_false false = refl

or_turned : (a b : Bool) → (a || b) ≡ (b || a)
or_turned true b = sym (or_true b)
or_turned false b = sym (or_false b)

or_three : (a b c : Bool) → ((a || b) || c) ≡ (b || (c || a))
or_three true b c = sym (ap (λ (d : Bool). b || d) (or_true c) ∙ or_true b)
or_three false b c = ap (λ (d : Bool). b || d) (sym (or_false c))

or_assoc : (a b c : Bool) → (a || (b || c)) ≡ ((a || b) || c)
or_assoc true b c = refl
or_assoc false b c = refl

-- ---- lists that end with two copies

is_copied_after : (cs ds : List KeptCopy) (x y : ℕ) → is_copied (cs ++ ds) x y ≡ (is_copied cs x y || is_copied ds x y)
is_copied_after [] ds x y = refl
is_copied_after (c ∷ cs) ds x y = ap (λ (b : Bool). is_in c.area x y || b) (is_copied_after cs ds x y) ∙ or_assoc (is_in c.area x y) (is_copied cs x y) (is_copied ds x y)

all_copied_after : (cs ds : List KeptCopy) (before : Picture) → all_copied (cs ++ ds) before ≡ all_copied ds (all_copied cs before)
all_copied_after [] ds before = refl
all_copied_after (c ∷ cs) ds before = all_copied_after cs ds (copied c before)

all_front : (P : KeptCopy → Type 0) (cs ds : List KeptCopy) → AllByRecursion P (cs ++ ds) → AllByRecursion P cs
all_front P [] ds all = tt
all_front P (c ∷ cs) ds all = (all.0, all_front P cs ds all.1)

all_back : (P : KeptCopy → Type 0) (cs ds : List KeptCopy) → AllByRecursion P (cs ++ ds) → AllByRecursion P ds
all_back P [] ds all = all
all_back P (c ∷ cs) ds all = all_back P cs ds all.1

-- ---- pixels

-- which pixels are stale doesn't change
joined_pixel : (one rest first second others held : Bool) → (one || rest) ≡ (first || second)
    → ((rest || held) || (others || (one || false))) ≡ (held || (others || (first || (second || false))))
joined_pixel one rest first second others true goes = ap (λ (b : Bool). b || (others || (one || false))) (or_true rest)
joined_pixel one rest first second true false goes = or_true (rest || false)
joined_pixel one rest first second false false goes =
    ap (λ (b : Bool). b || (one || false)) (or_false rest) ∙ ap (λ (b : Bool). rest || b) (or_false one) ∙ or_turned rest one ∙ goes ∙ ap (λ (b : Bool). first || b) (sym (or_false second))

pub joined_stale : (sent : Option Area) (old new : List KeptCopy) (stale left : PixelSet) → AreJoined sent old stale new left → (x y : ℕ) → x < left.width → y < left.height
    → (holds left x y || is_copied new x y) ≡ (holds stale x y || is_copied old x y)
joined_stale sent old new stale left (inl joins) x y across down =
    ap (λ (b : Bool). b || is_copied new x y) (joins.left_are x y across down)
    ∙ ap (λ (l : List KeptCopy). (is_in joins.rest x y || holds stale x y) || is_copied l x y) joins.new_are
    ∙ ap (λ (b : Bool). (is_in joins.rest x y || holds stale x y) || b) (is_copied_after joins.others (joins.one ∷ []) x y)
    ∙ joined_pixel (is_in joins.one.area x y) (is_in joins.rest x y) (is_in joins.first.area x y) (is_in joins.second.area x y) (is_copied joins.others x y) (holds stale x y) (joins.are.goes x y)
    ∙ ap (λ (b : Bool). holds stale x y || b) (sym (is_copied_after joins.others (joins.first ∷ joins.second ∷ []) x y))
    ∙ ap (λ (l : List KeptCopy). holds stale x y || is_copied l x y) (sym joins.old_are)
joined_stale sent old new stale left (inr same) x y across down = rw (same.0, same.1) refl

-- a pixel that isn't to be sent then wasn't to be sent, and the copies give it the same colour
pub record IsAsBefore (old new : List KeptCopy) (stale : PixelSet) (x y : ℕ) : Type 0 where
  pub clean : holds stale x y ≡ false
  pub same : (before : Picture) → all_copied new before x y ≡ all_copied old before x y

pub joined_clean : (sent : Option Area) (old new : List KeptCopy) (stale left : PixelSet) → AreJoined sent old stale new left → (x y : ℕ) → x < left.width → y < left.height
    → holds left x y ≡ false → IsAsBefore old new stale x y
joined_clean sent old new stale left (inl joins) x y across down clean =
    let parts = neither (is_in joins.rest x y) (holds stale x y) (sym (joins.left_are x y across down) ∙ clean) in
    record {
      clean = parts.1;
      same = λ before.
          ap (λ (l : List KeptCopy). all_copied l before x y) joins.new_are
          ∙ ap (λ (p : Picture). p x y) (all_copied_after joins.others (joins.one ∷ []) before)
          ∙ joins.are.same (all_copied joins.others before) x y parts.0
          ∙ ap (λ (p : Picture). p x y) (sym (all_copied_after joins.others (joins.first ∷ joins.second ∷ []) before))
          ∙ ap (λ (l : List KeptCopy). all_copied l before x y) (sym joins.old_are);
    }
joined_clean sent old new stale left (inr same) x y across down clean = record {
  clean = ap (λ (s : PixelSet). holds s x y) (sym same.1) ∙ clean;
  same = λ before. ap (λ (l : List KeptCopy). all_copied l before x y) same.0;
}

-- ---- the last are given up

-- the same pixels are stale
pub given_up_stale : (old new : List KeptCopy) (stale left : PixelSet) → GivesUpLast old stale new left → (x y : ℕ) → x < left.width → y < left.height
    → (holds left x y || is_copied new x y) ≡ (holds stale x y || is_copied old x y)
given_up_stale old new stale left gives x y across down =
    ap (λ (b : Bool). b || is_copied new x y) (gives.left_are x y across down)
    ∙ or_three (is_copied gives.given_up x y) (holds stale x y) (is_copied new x y)
    ∙ ap (λ (b : Bool). holds stale x y || b) (sym (is_copied_after new gives.given_up x y))
    ∙ ap (λ (l : List KeptCopy). holds stale x y || is_copied l x y) (sym gives.old_are)

-- and those that aren't to be sent then have the same colour
pub given_up_clean : (old new : List KeptCopy) (stale left : PixelSet) → GivesUpLast old stale new left → (x y : ℕ) → x < left.width → y < left.height
    → holds left x y ≡ false → IsAsBefore old new stale x y
given_up_clean old new stale left gives x y across down clean =
    let parts = neither (is_copied gives.given_up x y) (holds stale x y) (sym (gives.left_are x y across down) ∙ clean) in
    record {
      clean = parts.1;
      same = λ before.
          sym (uncopied gives.given_up (all_copied new before) x y parts.0)
          ∙ ap (λ (p : Picture). p x y) (sym (all_copied_after new gives.given_up before))
          ∙ ap (λ (l : List KeptCopy). all_copied l before x y) (sym gives.old_are);
    }

pub given_up_kept : (P : KeptCopy → Type 0) (old new : List KeptCopy) (stale left : PixelSet) → GivesUpLast old stale new left → AllByRecursion P old → AllByRecursion P new
given_up_kept P old new stale left gives all = all_front P new gives.given_up (subst (λ (l : List KeptCopy). AllByRecursion P l) gives.old_are all)

pub given_up_few : (old new : List KeptCopy) (stale left : PixelSet) → GivesUpLast old stale new left → length new ≤ length old
given_up_few old new stale left gives =
    let many : length old ≡ length new + length gives.given_up = ap (λ (l : List KeptCopy). length l) gives.old_are ∙ length-append new gives.given_up in
    omega arith

-- ---- what is kept

inside_inside : (area mid outer : Area) → lies_in area mid ≡ true → lies_in mid outer ≡ true → lies_in area outer ≡ true
inside_inside area mid outer a b =
    let i = inside_is area mid a in
    let j = inside_is mid outer b in
    inside_true area outer (record { left = omega (arith, i.left, j.left); right = omega (arith, i.right, j.right); top = omega (arith, i.top, j.top); bottom = omega (arith, i.bottom, j.bottom) })

asked_inside : (pending : Option Area) (area outer : Area) → lies_in area outer ≡ true → IsAskedFor pending outer → IsAskedFor pending area
asked_inside None area outer inside asked = tt
asked_inside (Some p) area outer inside asked = inside_inside area outer p inside asked

pub joined_kept : (v : View) (sent : Option Area) (old new : List KeptCopy) (stale left : PixelSet) → AreJoined sent old stale new left → AllByRecursion (IsKept v) old → AllByRecursion (IsKept v) new
joined_kept v sent old new stale left (inl joins) all =
    let are = subst (λ (l : List KeptCopy). AllByRecursion (IsKept v) l) joins.old_are all in
    let two = all_back (IsKept v) joins.others (joins.first ∷ joins.second ∷ []) are in
    let first = two.0 in
    let second = two.1.0 in
    let area = inside_is joins.one.area joins.second.area joins.are.area in
    let from = inside_is (source joins.one) (source joins.first) joins.are.source_area in
    let right = area.right in
    let bottom = area.bottom in
    let from_right = from.right in
    let from_bottom = from.bottom in
    let columns = second.within.area.within.columns in
    let rows = second.within.area.within.rows in
    let source_columns = first.within.source.columns in
    let source_rows = first.within.source.rows in
    let one : IsKept v joins.one = record {
      within = record {
        area = record { within = record { columns = omega arith; rows = omega arith }; across = joins.are.across; down = joins.are.down };
        source = record { columns = omega arith; rows = omega arith };
      };
      asked = asked_inside v.pending joins.one.area joins.second.area joins.are.area second.asked;
    } in
    subst (λ (l : List KeptCopy). AllByRecursion (IsKept v) l) (sym joins.new_are) (all_more (IsKept v) joins.others joins.one (all_front (IsKept v) joins.others (joins.first ∷ joins.second ∷ []) are) one)
joined_kept v sent old new stale left (inr same) all = subst (λ (l : List KeptCopy). AllByRecursion (IsKept v) l) (sym same.0) all

pub joined_few : (sent : Option Area) (old new : List KeptCopy) (stale left : PixelSet) → AreJoined sent old stale new left → length new ≤ length old
joined_few sent old new stale left (inl joins) =
    let before : length old ≡ length joins.others + 2 = ap (λ (l : List KeptCopy). length l) joins.old_are ∙ length-append joins.others (joins.first ∷ joins.second ∷ []) in
    let after : length new ≡ length joins.others + 1 = ap (λ (l : List KeptCopy). length l) joins.new_are ∙ length-append joins.others (joins.one ∷ []) in
    omega arith
joined_few sent old new stale left (inr same) =
    let equal : length new ≡ length old = ap (λ (l : List KeptCopy). length l) same.0 in
    omega arith
