-- The areas by which pixels are sent.
use Rattle.std.proofs.Common.{◌≡◌, ℕ, ◌+◌, ◌-◌, ◌<◌, ◌≤◌, inl, inr, Bool, true, false, List, [], ◌∷◌, ◌++◌, length, take, get_or, refl, sym, ap, ◌∙◌, subst, arith, eq-eqb, nat_eq}
use Rattle.std.specs.Prelude.{◌||◌, ◌&&◌, not}
use Rattle.std.specs.List.{AllByRecursion}
use Rattle.std.proofs.lemmas.Bool.{and_parts, cases_order}
use Rattle.std.proofs.lemmas.List.{take_more}
use Rattle.std.proofs.Math.ListN.{length-append}
use Rattle.terms.specs.declared.area.Area.{Area}
use Rattle.terms.specs.Area.{is_in, IsSmallest, LiesWithin}
use Rattle.terms.proofs.Areas.{in_is, is_in_true, or_left, or_right, both_true}
use Rattle.pixel_sets.specs.declared.pixels.TilePart.{TilePart}
use Rattle.pixel_sets.specs.Pixels.{PixelSet, holds, tile_of, is_in_some, IsFirstTile, HasNoTile, AreFirstTiles, IsAlone, AreSent}

-- one tile more
pub tile_more : (set : PixelSet) (area : Area) (from next : ℕ) (areas : List Area) (part : TilePart) → AreFirstTiles set area from next areas → IsFirstTile set next area part
    → AreFirstTiles set area from (part.tile + 1) (areas ++ part.area ∷ [])
tile_more set area from next [] part is first = (part.tile, subst (λ (n : ℕ). IsFirstTile set n area part) (sym is) first, refl)
tile_more set area from next (a ∷ others) part is first = (is.0, is.1, tile_more set area (is.0 + 1) next others part is.2 first)

-- the smallest area of pixels of another lies in it
pub inside : (outer : Area) (q : ℕ → ℕ → Bool) (area : Area) → IsSmallest (λ x y. is_in outer x y && q x y) area
    → (x y : ℕ) → is_in area x y ≡ true → is_in outer x y ≡ true
inside outer q area is x y e =
    let l = in_is outer area.x is.left.0 (and_parts (is_in outer area.x is.left.0) (q area.x is.left.0) is.left.1).0 in
    let r = in_is outer (area.x + area.w - 1) is.right.0 (and_parts (is_in outer (area.x + area.w - 1) is.right.0) (q (area.x + area.w - 1) is.right.0) is.right.1).0 in
    let t = in_is outer is.top.0 area.y (and_parts (is_in outer is.top.0 area.y) (q is.top.0 area.y) is.top.1).0 in
    let b = in_is outer is.bottom.0 (area.y + area.h - 1) (and_parts (is_in outer is.bottom.0 (area.y + area.h - 1)) (q is.bottom.0 (area.y + area.h - 1)) is.bottom.1).0 in
    let pixel = in_is area x y e in
    is_in_true outer x y (record { left = omega arith; right = omega arith; top = omega arith; bottom = omega arith })

-- and on its screen
pub on_screen : (width height : ℕ) (outer : Area) (q : ℕ → ℕ → Bool) (area : Area) → LiesWithin width height outer → IsSmallest (λ x y. is_in outer x y && q x y) area → LiesWithin width height area
on_screen width height outer q area within is =
    let r = in_is outer (area.x + area.w - 1) is.right.0 (and_parts (is_in outer (area.x + area.w - 1) is.right.0) (q (area.x + area.w - 1) is.right.0) is.right.1).0 in
    let b = in_is outer is.bottom.0 (area.y + area.h - 1) (and_parts (is_in outer is.bottom.0 (area.y + area.h - 1)) (q is.bottom.0 (area.y + area.h - 1)) is.bottom.1).0 in
    record { columns = omega arith; rows = omega arith }

-- an area inside another, on a screen
pub record IsInside (width height : ℕ) (outer area : Area) : Type 0 where
  pub pixels : (x y : ℕ) → is_in area x y ≡ true → is_in outer x y ≡ true
  pub within : LiesWithin width height area

is_inside : (width height : ℕ) (outer : Area) (q : ℕ → ℕ → Bool) (area : Area) → LiesWithin width height outer → IsSmallest (λ x y. is_in outer x y && q x y) area → IsInside width height outer area
is_inside width height outer q area within is = record { pixels = inside outer q area is; within = on_screen width height outer q area within is }

tiles_inside : (set : PixelSet) (width height : ℕ) (area : Area) (from end : ℕ) (areas : List Area) → LiesWithin width height area → AreFirstTiles set area from end areas
    → AllByRecursion (IsInside width height area) areas
tiles_inside set width height area from end [] within are = tt
tiles_inside set width height area from end (a ∷ others) within are =
    (is_inside width height area (λ x y. nat_eq (tile_of set x y) are.0 && holds set x y) a within are.1.smallest, tiles_inside set width height area (are.0 + 1) end others within are.2)

-- all areas lie inside
pub sent_inside : (set : PixelSet) (width height : ℕ) (area : Area) (areas : List Area) → LiesWithin width height area → AreSent set area areas → AllByRecursion (IsInside width height area) areas
sent_inside set width height area areas within (inl are) = tiles_inside set width height area 0 are.end areas within are.first
sent_inside set width height area areas within (inr is) =
    subst (λ (all : List Area). AllByRecursion (IsInside width height area) all) (sym is.alone.areas_are) (is_inside width height area (holds set) is.alone.one within is.alone.smallest, tt)

tiles_cover : (set : PixelSet) (area : Area) (from end : ℕ) (areas : List Area) → AreFirstTiles set area from end areas → HasNoTile set end area
    → (x y : ℕ) → is_in area x y ≡ true → holds set x y ≡ true → from ≤ tile_of set x y → is_in_some areas x y ≡ true
tiles_cover set area from end [] are none x y here held on = let less = none x y here held in absurd (omega arith)
tiles_cover set area from end (a ∷ others) are none x y here held on =
    let reach = are.1.first x y here held on in
    elim (cases_order (tile_of set x y) are.0) [
      | inl same ↦ or_left (is_in a x y) (is_in_some others x y) (are.1.smallest.holds_each x y (both_true _ _ here (both_true _ _ (eq-eqb (tile_of set x y) are.0 same) held)))
      | inr (inl less) ↦ absurd (omega arith)
      | inr (inr more) ↦ or_right (is_in a x y) (is_in_some others x y) (tiles_cover set area (are.0 + 1) end others are.2 none x y here held (omega arith))
    ]

-- they cover the pixels of the set
pub sent_cover : (set : PixelSet) (area : Area) (areas : List Area) → AreSent set area areas → (x y : ℕ) → is_in area x y ≡ true → holds set x y ≡ true → is_in_some areas x y ≡ true
sent_cover set area areas (inl are) x y here held = tiles_cover set area 0 are.end areas are.first are.none_left x y here held (omega arith)
sent_cover set area areas (inr is) x y here held =
    subst (λ (all : List Area). is_in_some all x y ≡ true) (sym is.alone.areas_are) (or_left (is_in is.alone.one x y) false (is.alone.smallest.holds_each x y (both_true _ _ here held)))

-- ---- areas that are taken out

regroup : (a b c : Bool) → (a || (b || c)) ≡ ((a || b) || c)
regroup true b c = refl
regroup false b c = refl

some_append : (xs ys : List Area) (x y : ℕ) → is_in_some (xs ++ ys) x y ≡ (is_in_some xs x y || is_in_some ys x y)
some_append [] ys x y = refl
some_append (a ∷ xs) ys x y = ap (λ (b : Bool). is_in a x y || b) (some_append xs ys x y) ∙ regroup (is_in a x y) (is_in_some xs x y) (is_in_some ys x y)

taken_twice : (h a b : Bool) → ((h && not a) && not b) ≡ (h && not (a || (b || false)))
taken_twice true true true = refl
taken_twice true true false = refl
taken_twice true false true = refl
taken_twice true false false = refl
taken_twice false a b = refl

-- one area more
pub taken_more : (areas : List Area) (i x y : ℕ) (d : Area) (held : Bool) → i < length areas
    → ((held && not (is_in_some (take i areas) x y)) && not (is_in (get_or areas i d) x y)) ≡ (held && not (is_in_some (take (i + 1) areas) x y))
taken_more areas i x y d held lt =
    taken_twice held (is_in_some (take i areas) x y) (is_in (get_or areas i d) x y)
    ∙ ap (λ (b : Bool). held && not b) (sym (ap (λ (z : List Area). is_in_some z x y) (take_more areas i d lt) ∙ some_append (take i areas) (get_or areas i d ∷ []) x y))

pub none_taken : (h : Bool) → h ≡ (h && not false)
none_taken true = refl
none_taken false = refl

-- what is held once the next area is taken out
pub taken_step : (areas : List Area) (i x y : ℕ) (d : Area) (held before now : Bool) → i < length areas → now ≡ (before && not (is_in (get_or areas i d) x y))
    → before ≡ (held && not (is_in_some (take i areas) x y)) → now ≡ (held && not (is_in_some (take (i + 1) areas) x y))
taken_step areas i x y d held before now lt is was =
    is ∙ ap (λ (b : Bool). b && not (is_in (get_or areas i d) x y)) was ∙ taken_more areas i x y d held lt

-- ---- more tiles than are sent

length_one_more : (areas : List Area) (a : Area) → length (areas ++ a ∷ []) ≡ length areas + 1
length_one_more areas a = length-append areas (a ∷ [])

-- the one area alone
pub sent_alone : (set : PixelSet) (area : Area) (next : ℕ) (tiles areas : List Area) (part : TilePart) → AreFirstTiles set area 0 next tiles → IsFirstTile set next area part
    → length tiles ≡ 4096 → ((x y : ℕ) → is_in area x y ≡ true → holds set x y ≡ true → IsAlone set area areas) → AreSent set area areas
sent_alone set area next tiles areas part are first many alone =
    let y = first.smallest.left.0 in
    let a = and_parts (is_in area part.area.x y) (nat_eq (tile_of set part.area.x y) part.tile && holds set part.area.x y) first.smallest.left.1 in
    let b = and_parts (nat_eq (tile_of set part.area.x y) part.tile) (holds set part.area.x y) a.1 in
    inr (record {
      tiles = tiles ++ part.area ∷ [];
      end = part.tile + 1;
      first = tile_more set area 0 next tiles part are first;
      many = omega (arith, length_one_more tiles part.area);
      alone = alone part.area.x y a.0 b.1;
    })

-- ---- what is sent

-- a pixel of the set in an area
pub record HasPixel (set : PixelSet) (area : Area) : Type 0 where
  pub x : ℕ
  pub y : ℕ
  pub there : is_in area x y ≡ true
  pub held : holds set x y ≡ true

-- if an area is sent there is one
pub sent_pixel : (set : PixelSet) (area first : Area) (others : List Area) → AreSent set area (first ∷ others) → HasPixel set area
sent_pixel set area first others (inl are) =
    let tile = are.first.0 in
    let top = are.first.1.smallest.left in
    let a = and_parts (is_in area first.x top.0) (nat_eq (tile_of set first.x top.0) tile && holds set first.x top.0) top.1 in
    let b = and_parts (nat_eq (tile_of set first.x top.0) tile) (holds set first.x top.0) a.1 in
    record { x = first.x; y = top.0; there = a.0; held = b.1 }
sent_pixel set area first others (inr is) =
    let one = is.alone.one in
    let top = is.alone.smallest.left in
    let a = and_parts (is_in area one.x top.0) (holds set one.x top.0) top.1 in
    record { x = one.x; y = top.0; there = a.0; held = a.1 }

-- and else there is none
pub none_sent : (set : PixelSet) (area : Area) → AreSent set area [] → (x y : ℕ) → is_in area x y ≡ true → holds set x y ≡ true → ⊥
none_sent set area sent x y here held = let none = sent_cover set area [] sent x y here held in absurd (cc)

pub sent_few : (set : PixelSet) (area : Area) (areas : List Area) → AreSent set area areas → length areas ≤ 4096
sent_few set area areas (inl are) = are.few
sent_few set area areas (inr is) = subst (λ (all : List Area). length all ≤ 4096) (sym is.alone.areas_are) (omega arith)
