-- Areas that have no pixel of a set.
use Rattle.std.proofs.Common.{◌≡◌, ◌+◌, ◌-◌, ◌<◌, ◌≤◌, ap, arith, ℕ, Bool, true, false, refl, sym, ◌∙◌}
use Rattle.std.specs.Prelude.{◌&&◌, not, ◌↔◌, nat_eq, Option, Some, None, MatchOption, IsTrue}
use Rattle.std.specs.Option.{is_some}
use Rattle.std.proofs.lemmas.Bool.{and_parts}
use Rattle.terms.specs.declared.area.Area.{Area}
use Rattle.terms.specs.Area.{is_in, HasJust, IsSmallest}
use Rattle.terms.proofs.Areas.{in_is, is_in_true, both_true}
use Rattle.pixel_sets.specs.declared.pixels.TilePart.{TilePart}
use Rattle.pixel_sets.specs.Pixels.{PixelSet, holds, tile_of, IsFirstTile, HasNoTile, HasNone}
use Rattle.pixel_sets.proofs.Sent.{HasPixel}

-- a tile that has a pixel of the set in a part of an area
pub not_clean : (set : PixelSet) (area other part : Area) (found : Option TilePart) → HasJust (λ x y. is_in area x y && is_in other x y) part → is_some found ≡ true
    → MatchOption found (HasNoTile set 0 part) (IsFirstTile set 0 part) → IsTrue false ↔ HasNone set area
not_clean set area other part None just some is = absurd (cc)
not_clean set area other part (Some tile) just some is = (
  λ no. absurd (cc),
  λ none.
      let top = is.smallest.left in
      let a = and_parts (is_in part tile.area.x top.0) (nat_eq (tile_of set tile.area.x top.0) tile.tile && holds set tile.area.x top.0) top.1 in
      let b = and_parts (nat_eq (tile_of set tile.area.x top.0) tile.tile) (holds set tile.area.x top.0) a.1 in
      let here : is_in area tile.area.x top.0 ≡ true = (and_parts (is_in area tile.area.x top.0) (is_in other tile.area.x top.0) (sym (just.just tile.area.x top.0) ∙ a.0)).0 in
      let off = none tile.area.x top.0 here in
      absurd (cc),
)

-- ---- edges

-- a tile that has a pixel of the set in a part of an area
edge_pixel : (set : PixelSet) (part : Area) (found : Option TilePart) → is_some found ≡ true → MatchOption found (HasNoTile set 0 part) (IsFirstTile set 0 part) → HasPixel set part
edge_pixel set part None some is = absurd (cc)
edge_pixel set part (Some tile) some is =
    let top = is.smallest.left in
    let a = and_parts (is_in part tile.area.x top.0) (nat_eq (tile_of set tile.area.x top.0) tile.tile && holds set tile.area.x top.0) top.1 in
    let b = and_parts (nat_eq (tile_of set tile.area.x top.0) tile.tile) (holds set tile.area.x top.0) a.1 in
    record { x = tile.area.x; y = top.0; there = a.0; held = b.1 }

-- the edges of an area
abbrev pub first_row : Area → Area
first_row area = record { x = area.x; y = area.y; w = area.w; h = 1 }

abbrev pub last_row : Area → Area
last_row area = record { x = area.x; y = area.y + (area.h - 1); w = area.w; h = 1 }

abbrev pub first_column : Area → Area
first_column area = record { x = area.x; y = area.y; w = 1; h = area.h }

abbrev pub last_column : Area → Area
last_column area = record { x = area.x + (area.w - 1); y = area.y; w = 1; h = area.h }

-- a part of an area
inner : (area part : Area) (x y : ℕ) → area.x ≤ part.x → part.x + part.w ≤ area.x + area.w → area.y ≤ part.y → part.y + part.h ≤ area.y + area.h → is_in part x y ≡ true → is_in area x y ≡ true
inner area part x y l r t b here =
    let pixel = in_is part x y here in
    is_in_true area x y (record { left = omega (arith, pixel.left); right = omega (arith, pixel.right); top = omega (arith, pixel.top); bottom = omega (arith, pixel.bottom) })

-- a pixel of the set on each edge
pub edges_reached : (set : PixelSet) (area : Area) (top bottom left right : Option TilePart) → 0 < area.w → 0 < area.h
    → is_some top ≡ true → is_some bottom ≡ true → is_some left ≡ true → is_some right ≡ true
    → MatchOption top (HasNoTile set 0 (first_row area)) (IsFirstTile set 0 (first_row area))
    → MatchOption bottom (HasNoTile set 0 (last_row area)) (IsFirstTile set 0 (last_row area))
    → MatchOption left (HasNoTile set 0 (first_column area)) (IsFirstTile set 0 (first_column area))
    → MatchOption right (HasNoTile set 0 (last_column area)) (IsFirstTile set 0 (last_column area))
    → IsSmallest (λ x y. is_in area x y && holds set x y) area
edges_reached set area top bottom left right across down st sb sl sr t b l r =
    let tp = edge_pixel set (first_row area) top st t in
    let bp = edge_pixel set (last_row area) bottom sb b in
    let lp = edge_pixel set (first_column area) left sl l in
    let rp = edge_pixel set (last_column area) right sr r in
    let ti = in_is (first_row area) tp.x tp.y tp.there in
    let bi = in_is (last_row area) bp.x bp.y bp.there in
    let li = in_is (first_column area) lp.x lp.y lp.there in
    let ri = in_is (last_column area) rp.x rp.y rp.there in
    let top_above = ti.top in
    let top_below = ti.bottom in
    let bottom_above = bi.top in
    let bottom_below = bi.bottom in
    let left_before = li.left in
    let left_after = li.right in
    let right_before = ri.left in
    let right_after = ri.right in
    let ty : tp.y ≡ area.y = omega arith in
    let by : bp.y ≡ area.y + area.h - 1 = omega arith in
    let lx : lp.x ≡ area.x = omega arith in
    let rx : rp.x ≡ area.x + area.w - 1 = omega arith in
    record {
      holds_each = λ x y e. (and_parts (is_in area x y) (holds set x y) e).0;
      left = (lp.y, ap (λ (n : ℕ). is_in area n lp.y && holds set n lp.y) (sym lx) ∙ both_true _ _ (inner area (first_column area) lp.x lp.y (omega arith) (omega arith) (omega arith) (omega arith) lp.there) lp.held);
      right = (rp.y, ap (λ (n : ℕ). is_in area n rp.y && holds set n rp.y) (sym rx) ∙ both_true _ _ (inner area (last_column area) rp.x rp.y (omega arith) (omega arith) (omega arith) (omega arith) rp.there) rp.held);
      top = (tp.x, ap (λ (n : ℕ). is_in area tp.x n && holds set tp.x n) (sym ty) ∙ both_true _ _ (inner area (first_row area) tp.x tp.y (omega arith) (omega arith) (omega arith) (omega arith) tp.there) tp.held);
      bottom = (bp.x, ap (λ (n : ℕ). is_in area bp.x n && holds set bp.x n) (sym by) ∙ both_true _ _ (inner area (last_row area) bp.x bp.y (omega arith) (omega arith) (omega arith) (omega arith) bp.there) bp.held);
    }

-- ---- what is taken out

-- the smallest area that holds the pixels of a set in an area lies in it
smallest_within : (set : PixelSet) (area part : Area) → IsSmallest (λ x y. is_in area x y && holds set x y) part
    → (part.x + part.w ≤ area.x + area.w) × (part.y + part.h ≤ area.y + area.h) × (area.x ≤ part.x) × (area.y ≤ part.y)
smallest_within set area part is =
    let l = in_is area part.x is.left.0 (and_parts _ _ is.left.1).0 in
    let r = in_is area (part.x + part.w - 1) is.right.0 (and_parts _ _ is.right.1).0 in
    let t = in_is area is.top.0 part.y (and_parts _ _ is.top.1).0 in
    let b = in_is area is.bottom.0 (part.y + part.h - 1) (and_parts _ _ is.bottom.1).0 in
    (omega arith, omega arith, omega arith, omega arith)

-- a pixel that isn't in a set isn't either once others are taken out
gone : (old here there : Bool) → (old ≡ true → there ≡ true → here ≡ true) → (here ≡ true → there ≡ true) → (old && not here) ≡ (old && not there)
gone false here there to from = refl
gone true true true to from = refl
gone true true false to from = absurd (let e = from refl in cc)
gone true false true to from = absurd (let e = to refl refl in cc)
gone true false false to from = refl

-- to take out the smallest area takes out all
pub smallest_taken : (set : PixelSet) (area part : Area) → IsSmallest (λ x y. is_in area x y && holds set x y) part
    → (x y : ℕ) → (holds set x y && not (is_in part x y)) ≡ (holds set x y && not (is_in area x y))
smallest_taken set area part is x y =
    let within = smallest_within set area part is in
    gone (holds set x y) (is_in part x y) (is_in area x y)
    (λ held here. is.holds_each x y (both_true _ _ here held))
    (λ e. inner area part x y (omega arith) (omega arith) (omega arith) (omega arith) e)
