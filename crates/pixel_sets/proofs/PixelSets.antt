-- Pixels of an area, tile by tile and row by row.
use Rattle.std.proofs.Common.{◌≡◌, ℕ, ◌+◌, ◌-◌, ◌*◌, ◌<◌, ◌≤◌, inl, inr, Bool, true, false, cond, List, length, nat_eq, nat_lt, ◌/◌, refl, sym, ap, ◌∙◌, arith, eqb-true, eq-eqb}
use Rattle.std.specs.Prelude.{◌||◌, ◌&&◌, min, max, Option, Some, None, IfSome}
use Rattle.std.proofs.lemmas.Bool.{cases_Bool, cases_lt, cases_order, and_parts, ltb-true, lt-ltb, false_from_ne_true}
use Rattle.std.proofs.Math.Nat.{mul-le-mul_left}
use Rattle.terms.specs.declared.area.Area.{Area}
use Rattle.terms.specs.Area.{is_in, HasJust, IsSmallest, IsSmallestOf}
use Rattle.terms.proofs.Areas.{in_is, is_in_true, same_test, or_left, or_right, or_parts, both_true, same_smallest}
use Rattle.pixel_sets.specs.Bits.{is_set, is_between, AreEnds, AreEndsOf}
use Rattle.pixel_sets.specs.declared.bits.Ends.{Ends}
use Rattle.pixel_sets.specs.Pixels.{tiles_of, tile_at, number_at, is_marked, IsSummary, IsRow, IsTilePart, HasTiles}
use Rattle.pixel_sets.proofs.BitSets.{between_is, is_between_true, is_between_false}
use Rattle.pixel_sets.proofs.Numbers.{further, row_between}
use Rattle.pixel_sets.proofs.Rows.{rows, row_of, rows_more, chosen_twice}

-- ---- a part of an area

-- an area lies within another
pub record IsWithin (outer inner : Area) : Type 0 where
  pub left : outer.x ≤ inner.x
  pub right : inner.x + inner.w ≤ outer.x + outer.w
  pub top : outer.y ≤ inner.y
  pub bottom : inner.y + inner.h ≤ outer.y + outer.h

pub common_within : (one other part : Area) → HasJust (λ x y. is_in one x y && is_in other x y) part → IsWithin one part × IsWithin other part
common_within one other part is =
    let first : is_in part part.x part.y ≡ true = is_in_true part part.x part.y (record { left = omega arith; right = omega arith; top = omega arith; bottom = omega arith }) in
    let last : is_in part (part.x + part.w - 1) (part.y + part.h - 1) ≡ true = is_in_true part (part.x + part.w - 1) (part.y + part.h - 1) (record { left = omega arith; right = omega arith; top = omega arith; bottom = omega arith }) in
    let a = and_parts (is_in one part.x part.y) (is_in other part.x part.y) (sym (is.just part.x part.y) ∙ first) in
    let b = and_parts (is_in one (part.x + part.w - 1) (part.y + part.h - 1)) (is_in other (part.x + part.w - 1) (part.y + part.h - 1)) (sym (is.just (part.x + part.w - 1) (part.y + part.h - 1)) ∙ last) in
    let p = in_is one part.x part.y a.0 in
    let q = in_is other part.x part.y a.1 in
    let r = in_is one (part.x + part.w - 1) (part.y + part.h - 1) b.0 in
    let s = in_is other (part.x + part.w - 1) (part.y + part.h - 1) b.1 in
    (record { left = omega arith; right = omega arith; top = omega arith; bottom = omega arith }, record { left = omega arith; right = omega arith; top = omega arith; bottom = omega arith })

-- the pixels of a tile
abbrev pub square : ℕ → ℕ → Area
square column row = record { x = 16 * column; y = 16 * row; w = 16; h = 16 }

pub square_true : (column row x y : ℕ) → x / 16 ≡ column → y / 16 ≡ row → is_in (square column row) x y ≡ true
square_true column row x y a d = is_in_true (square column row) x y (record { left = omega arith; right = omega arith; top = omega arith; bottom = omega arith })

pub in_square : (column row x y : ℕ) → is_in (square column row) x y ≡ true → (x / 16 ≡ column) × (y / 16 ≡ row)
in_square column row x y e =
    let pixel = in_is (square column row) x y e in
    (omega arith, omega arith)

-- lists as long have as many bits
pub as_long : (columns : ℕ) (area : Area) (words summary now new : List ℕ) → HasTiles columns area words summary → length now ≡ length words → length new ≡ length summary → HasTiles columns area now new
as_long columns area words summary now new has a b = record {
  few = has.few;
  across = has.across;
  wide = has.wide;
  high = has.high;
  bits = omega (arith, has.bits);
  tiles = omega (arith, has.tiles);
}

-- the tile of a part of an area is one of those that the area's rows of tiles have
part_tile_low : (columns column row : ℕ) (area part : Area) → area.x + area.w ≤ 16 * columns → row < tiles_of (area.y + area.h)
    → HasJust (λ x y. is_in area x y && is_in (square column row) x y) part → tile_at columns part.x part.y < tiles_of (area.y + area.h) * columns
part_tile_low columns column row area part fits low is =
    let both = common_within area (square column row) part is in
    let p = both.0 in
    let q = both.1 in
    let level : part.y / 16 ≡ row = omega arith in
    let less : part.x / 16 < columns = omega arith in
    let same : part.y / 16 * columns ≡ row * columns = ap (λ (n : ℕ). n * columns) level in
    let reach : row + 1 ≤ tiles_of (area.y + area.h) = omega arith in
    let room : columns * (row + 1) ≤ columns * tiles_of (area.y + area.h) = mul-le-mul_left columns reach in
    omega arith

-- the part of an area in a tile
pub part_is : (columns column row : ℕ) (area part : Area) (words summary : List ℕ) → HasTiles columns area words summary → row < tiles_of (area.y + area.h)
    → HasJust (λ x y. is_in area x y && is_in (square column row) x y) part → IsTilePart columns part words
part_is columns column row area part words summary has low is =
    let both = common_within area (square column row) part is in
    let p = both.0 in
    let q = both.1 in
    let tile = part_tile_low columns column row area part has.across low is in
    record { few = has.few; column = omega arith; row = omega arith; across = omega arith; wide = omega arith; high = omega arith; room = omega arith }

pub part_tile : (columns column row : ℕ) (area part : Area) (words summary : List ℕ) → HasTiles columns area words summary → row < tiles_of (area.y + area.h)
    → HasJust (λ x y. is_in area x y && is_in (square column row) x y) part → tile_at columns part.x part.y < 64 * length summary
part_tile columns column row area part words summary has low is = omega (arith, part_tile_low columns column row area part has.across low is)

-- ---- filling

-- more pixels are filled
pub filled_more : (a b c value before old new : Bool) → new ≡ cond b value old → old ≡ cond a value before → (a || b) ≡ c → new ≡ cond c value before
filled_more a b c value before old new filled so_far is =
    filled ∙ ap (λ (z : Bool). cond b value z) so_far ∙ chosen_twice a b value before ∙ ap (λ (z : Bool). cond z value before) is

-- the tile of the filled part is summed up
pub summed : (columns : ℕ) (part : Area) (words now summary new : List ℕ) (value some : Bool) → IsTilePart columns part words
    → ((x y : ℕ) → x < 16 * columns → is_marked columns now x y ≡ cond (is_in part x y) value (is_marked columns words x y))
    → ((k : ℕ) → is_set new k ≡ cond (is_between (tile_at columns part.x part.y) (tile_at columns part.x part.y + 1) k) some (is_set summary k))
    → ((k : ℕ) → (is_between (tile_at columns part.x part.y * 256) ((tile_at columns part.x part.y + 1) * 256) k && is_set now k) ≡ true → some ≡ true)
    → IsSummary columns words summary → IsSummary columns now new
summed columns part words now summary new value some is filled put has are x y across marked =
    let tile = tile_at columns part.x part.y in
    elim (cases_order (tile_at columns x y) tile) [
      | inl same ↦
          (let here : is_between tile (tile + 1) (tile_at columns x y) ≡ true = is_between_true tile (tile + 1) (tile_at columns x y) (omega arith) (omega arith) in
          let bit : is_between (tile * 256) ((tile + 1) * 256) (number_at columns x y) ≡ true = is_between_true (tile * 256) ((tile + 1) * 256) (number_at columns x y) (omega arith) (omega arith) in
          put (tile_at columns x y) ∙ ap (λ (z : Bool). cond z some (is_set summary (tile_at columns x y))) here ∙ has (number_at columns x y) (both_true _ _ bit marked))
      | inr other ↦
          (let off : tile_at columns x y ≡ tile → ⊥ = λ e. elim other [ inl less ↦ absurd (omega arith) | inr more ↦ absurd (omega arith) ] in
          let away : is_between tile (tile + 1) (tile_at columns x y) ≡ false = is_between_false tile (tile + 1) (tile_at columns x y) (λ b. off (omega arith)) in
          let out : is_in part x y ≡ false = false_from_ne_true (is_in part x y) (λ e.
          let pixel = in_is part x y e in
          let level : y / 16 ≡ part.y / 16 = omega arith in
          let even : y / 16 * columns ≡ part.y / 16 * columns = ap (λ (n : ℕ). n * columns) level in
          off (omega arith)) in
          let old : is_marked columns words x y ≡ true = sym (filled x y across ∙ ap (λ (z : Bool). cond z value (is_marked columns words x y)) out) ∙ marked in
          put (tile_at columns x y) ∙ ap (λ (z : Bool). cond z some (is_set summary (tile_at columns x y))) away ∙ are x y across old)
    ]

pub eq_true : (n : ℕ) → nat_eq n n ≡ true
eq_true n = eq-eqb n n refl

-- the pixels of some tiles of a row, from a column of tiles to another, and those of the next tile
pub tiles_more : (area : Area) (from column row x y : ℕ) → from ≤ column
    → ((is_in area x y && (nat_eq (y / 16) row && is_between from column (x / 16))) || (is_in area x y && is_in (square column row) x y)) ≡ (is_in area x y && (nat_eq (y / 16) row && is_between from (column + 1) (x / 16)))
tiles_more area from column row x y order =
    same_test ((is_in area x y && (nat_eq (y / 16) row && is_between from column (x / 16))) || (is_in area x y && is_in (square column row) x y)) (is_in area x y && (nat_eq (y / 16) row && is_between from (column + 1) (x / 16)))
    (λ e. elim (or_parts (is_in area x y && (nat_eq (y / 16) row && is_between from column (x / 16))) (is_in area x y && is_in (square column row) x y) e) [
      | inl before ↦
          (let a = and_parts (is_in area x y) (nat_eq (y / 16) row && is_between from column (x / 16)) before in
          let b = and_parts (nat_eq (y / 16) row) (is_between from column (x / 16)) a.1 in
          let between = between_is from column (x / 16) b.1 in
          both_true _ _ a.0 (both_true _ _ b.0 (is_between_true from (column + 1) (x / 16) between.above (omega arith))))
      | inr here ↦
          (let a = and_parts (is_in area x y) (is_in (square column row) x y) here in
          let at = in_square column row x y a.1 in
          let across = at.0 in
          both_true _ _ a.0 (both_true _ _ (rw (at.1) (eq_true row)) (is_between_true from (column + 1) (x / 16) (omega arith) (omega arith))))
    ])
    (λ e. let a = and_parts (is_in area x y) (nat_eq (y / 16) row && is_between from (column + 1) (x / 16)) e in
    let b = and_parts (nat_eq (y / 16) row) (is_between from (column + 1) (x / 16)) a.1 in
    let between = between_is from (column + 1) (x / 16) b.1 in
    elim (cases_lt (x / 16) column) [
      | inl before ↦ or_left _ _ (both_true _ _ a.0 (both_true _ _ b.0 (is_between_true from column (x / 16) between.above before)))
      | inr following ↦ or_right _ _ (both_true _ _ a.0 (square_true column row x y (omega arith) (eqb-true (y / 16) row b.0)))
    ])

-- no tile, no pixel
pub no_tiles : (area : Area) (from row x y : ℕ) → (is_in area x y && (nat_eq (y / 16) row && is_between from from (x / 16))) ≡ false
no_tiles area from row x y = false_from_ne_true _ (λ e.
    let a = and_parts (is_in area x y) (nat_eq (y / 16) row && is_between from from (x / 16)) e in
    let b = and_parts (nat_eq (y / 16) row) (is_between from from (x / 16)) a.1 in
    let between = between_is from from (x / 16) b.1 in
    absurd (omega arith))

-- ---- whole tiles

-- a tile is one of some in a row, by its number or by its row and column
tile_between : (columns row from to x y : ℕ) → to ≤ columns → x < 16 * columns
    → is_between (row * columns + from) (row * columns + to) (tile_at columns x y) ≡ (nat_eq (y / 16) row && is_between from to (x / 16))
tile_between columns row from to x y within across =
    same_test (is_between (row * columns + from) (row * columns + to) (tile_at columns x y)) (nat_eq (y / 16) row && is_between from to (x / 16))
    (λ e. let b = between_is (row * columns + from) (row * columns + to) (tile_at columns x y) e in
    elim (cases_order (y / 16) row) [
      | inl level ↦
          (let same : y / 16 * columns ≡ row * columns = ap (λ (n : ℕ). n * columns) level in
          both_true _ _ (rw level (eq_true row)) (is_between_true from to (x / 16) (omega arith) (omega arith)))
      | inr other ↦ elim other [
        | inl higher ↦
            (let reach : y / 16 + 1 ≤ row = omega arith in
            let room : columns * (y / 16 + 1) ≤ columns * row = mul-le-mul_left columns reach in
            absurd (omega arith))
        | inr lower ↦
            (let reach : row + 1 ≤ y / 16 = omega arith in
            let room : columns * (row + 1) ≤ columns * (y / 16) = mul-le-mul_left columns reach in
            absurd (omega arith))
      ]
    ])
    (λ e. let a = and_parts (nat_eq (y / 16) row) (is_between from to (x / 16)) e in
    let level : y / 16 ≡ row = eqb-true (y / 16) row a.0 in
    let same : y / 16 * columns ≡ row * columns = ap (λ (n : ℕ). n * columns) level in
    let b = between_is from to (x / 16) a.1 in
    is_between_true (row * columns + from) (row * columns + to) (tile_at columns x y) (omega arith) (omega arith))

-- and its pixels are, by their bits' numbers
pub tiles_between : (columns row from to x y : ℕ) → to ≤ columns → x < 16 * columns
    → is_between ((row * columns + from) * 256) ((row * columns + to) * 256) (number_at columns x y) ≡ (nat_eq (y / 16) row && is_between from to (x / 16))
tiles_between columns row from to x y within across =
    let first = row * columns + from in
    let end = row * columns + to in
    same_test (is_between (first * 256) (end * 256) (number_at columns x y)) (is_between first end (tile_at columns x y))
    (λ e. let b = between_is (first * 256) (end * 256) (number_at columns x y) e in
    is_between_true first end (tile_at columns x y) (omega arith) (omega arith))
    (λ e. let b = between_is first end (tile_at columns x y) e in
    is_between_true (first * 256) (end * 256) (number_at columns x y) (omega arith) (omega arith))
    ∙ tile_between columns row from to x y within across

-- they are summed up
pub whole_summed : (columns row from to : ℕ) (words now summary new : List ℕ) (value : Bool) → to ≤ columns
    → ((x y : ℕ) → x < 16 * columns → is_marked columns now x y ≡ cond (nat_eq (y / 16) row && is_between from to (x / 16)) value (is_marked columns words x y))
    → ((k : ℕ) → is_set new k ≡ cond (is_between (row * columns + from) (row * columns + to) k) value (is_set summary k))
    → IsSummary columns words summary → IsSummary columns now new
whole_summed columns row from to words now summary new value within filled put are x y across marked =
    let tile = tile_at columns x y in
    let test = nat_eq (y / 16) row && is_between from to (x / 16) in
    let told : is_set new tile ≡ cond test value (is_set summary tile) = put tile ∙ ap (λ (z : Bool). cond z value (is_set summary tile)) (tile_between columns row from to x y within across) in
    elim (cases_Bool test) [
      | inl here ↦
          told ∙ ap (λ (z : Bool). cond z value (is_set summary tile)) here
          ∙ sym (ap (λ (z : Bool). cond z value (is_marked columns words x y)) here) ∙ sym (filled x y across) ∙ marked
      | inr away ↦
          told ∙ ap (λ (z : Bool). cond z value (is_set summary tile)) away
          ∙ are x y across (sym (filled x y across ∙ ap (λ (z : Bool). cond z value (is_marked columns words x y)) away) ∙ marked)
    ]

-- the pixels of a row of tiles are those of the parts before whole tiles, of these, and of the
-- parts after them
row_of_parts : (area : Area) (row from to x y : ℕ) → ((nat_eq (y / 16) row && is_between from to (x / 16)) ≡ true → is_in area x y ≡ true)
    → (((is_in area x y && (nat_eq (y / 16) row && is_between (area.x / 16) from (x / 16))) || (nat_eq (y / 16) row && is_between from to (x / 16)))
    || (is_in area x y && (nat_eq (y / 16) row && is_between to (tiles_of (area.x + area.w)) (x / 16)))) ≡ (is_in area x y && nat_eq (y / 16) row)
row_of_parts area row from to x y inside =
    let a = is_in area x y && (nat_eq (y / 16) row && is_between (area.x / 16) from (x / 16)) in
    let b = nat_eq (y / 16) row && is_between from to (x / 16) in
    let c = is_in area x y && (nat_eq (y / 16) row && is_between to (tiles_of (area.x + area.w)) (x / 16)) in
    same_test ((a || b) || c) (is_in area x y && nat_eq (y / 16) row)
    (λ e. elim (or_parts (a || b) c e) [
      | inl first ↦ elim (or_parts a b first) [
        | inl before ↦
            (let p = and_parts (is_in area x y) (nat_eq (y / 16) row && is_between (area.x / 16) from (x / 16)) before in
            both_true _ _ p.0 (and_parts (nat_eq (y / 16) row) (is_between (area.x / 16) from (x / 16)) p.1).0)
        | inr here ↦ both_true _ _ (inside here) (and_parts (nat_eq (y / 16) row) (is_between from to (x / 16)) here).0
      ]
      | inr following ↦
          (let p = and_parts (is_in area x y) (nat_eq (y / 16) row && is_between to (tiles_of (area.x + area.w)) (x / 16)) following in
          both_true _ _ p.0 (and_parts (nat_eq (y / 16) row) (is_between to (tiles_of (area.x + area.w)) (x / 16)) p.1).0)
    ])
    (λ e. let p = and_parts (is_in area x y) (nat_eq (y / 16) row) e in
    let pixel = in_is area x y p.0 in
    elim (cases_lt (x / 16) from) [
      | inl before ↦ or_left (a || b) c (or_left a b (both_true _ _ p.0 (both_true _ _ p.1 (is_between_true (area.x / 16) from (x / 16) (omega arith) before))))
      | inr on ↦ elim (cases_lt (x / 16) to) [
        | inl here ↦ or_left (a || b) c (or_right a b (both_true _ _ p.1 (is_between_true from to (x / 16) on here)))
        | inr following ↦ or_right (a || b) c (both_true _ _ p.0 (both_true _ _ p.1 (is_between_true to (tiles_of (area.x + area.w)) (x / 16) following (omega arith))))
      ]
    ])

pub row_filled : (area : Area) (row from to x y : ℕ) (value before first second last : Bool) → ((nat_eq (y / 16) row && is_between from to (x / 16)) ≡ true → is_in area x y ≡ true)
    → first ≡ cond (is_in area x y && (nat_eq (y / 16) row && is_between (area.x / 16) from (x / 16))) value before
    → second ≡ cond (nat_eq (y / 16) row && is_between from to (x / 16)) value first
    → last ≡ cond (is_in area x y && (nat_eq (y / 16) row && is_between to (tiles_of (area.x + area.w)) (x / 16))) value second
    → last ≡ cond (is_in area x y && nat_eq (y / 16) row) value before
row_filled area row from to x y value before first second last inside one two three =
    let a = is_in area x y && (nat_eq (y / 16) row && is_between (area.x / 16) from (x / 16)) in
    let b = nat_eq (y / 16) row && is_between from to (x / 16) in
    let c = is_in area x y && (nat_eq (y / 16) row && is_between to (tiles_of (area.x + area.w)) (x / 16)) in
    filled_more (a || b) c (is_in area x y && nat_eq (y / 16) row) value before second last three (filled_more a b (a || b) value before first second two one refl)
    (row_of_parts area row from to x y inside)

-- the pixels of rows of tiles, and those of the next one
pub rows_of_tiles : (area : Area) (row x y : ℕ) → ((is_in area x y && nat_lt (y / 16) row) || (is_in area x y && nat_eq (y / 16) row)) ≡ (is_in area x y && nat_lt (y / 16) (row + 1))
rows_of_tiles area row x y =
    same_test ((is_in area x y && nat_lt (y / 16) row) || (is_in area x y && nat_eq (y / 16) row)) (is_in area x y && nat_lt (y / 16) (row + 1))
    (λ e. elim (or_parts (is_in area x y && nat_lt (y / 16) row) (is_in area x y && nat_eq (y / 16) row) e) [
      | inl before ↦
          (let a = and_parts (is_in area x y) (nat_lt (y / 16) row) before in
          let less = ltb-true (y / 16) row a.1 in
          both_true _ _ a.0 (lt-ltb (y / 16) (row + 1) (omega arith)))
      | inr here ↦
          (let a = and_parts (is_in area x y) (nat_eq (y / 16) row) here in
          let at = eqb-true (y / 16) row a.1 in
          both_true _ _ a.0 (lt-ltb (y / 16) (row + 1) (omega arith)))
    ])
    (λ e. let a = and_parts (is_in area x y) (nat_lt (y / 16) (row + 1)) e in
    let less = ltb-true (y / 16) (row + 1) a.1 in
    elim (cases_lt (y / 16) row) [
      | inl before ↦ or_left _ _ (both_true _ _ a.0 (lt-ltb (y / 16) row before))
      | inr following ↦ (let level : y / 16 ≡ row = omega arith in or_right _ _ (both_true _ _ a.0 (rw level (eq_true row))))
    ])

-- nothing stands in a tile beside the area
pub none_there : (area : Area) (column row x y : ℕ) → ((a b : ℕ) → (is_in area a b && is_in (square column row) a b) ≡ true → ⊥) → (is_in area x y && is_in (square column row) x y) ≡ false
none_there area column row x y none = false_from_ne_true (is_in area x y && is_in (square column row) x y) (none x y)

-- no pixel stands above an area's first tile
pub none_above : (area : Area) (x y : ℕ) → (is_in area x y && nat_lt (y / 16) (area.y / 16)) ≡ false
none_above area x y = false_from_ne_true _ (λ e.
    let a = and_parts (is_in area x y) (nat_lt (y / 16) (area.y / 16)) e in
    let less = ltb-true (y / 16) (area.y / 16) a.1 in
    let t = (in_is area x y a.0).top in
    absurd (omega arith))

-- all its pixels stand in its rows of tiles
pub all_above : (area : Area) (x y row : ℕ) → tiles_of (area.y + area.h) ≤ row → (is_in area x y && nat_lt (y / 16) row) ≡ is_in area x y
all_above area x y row le =
    same_test (is_in area x y && nat_lt (y / 16) row) (is_in area x y)
    (λ e. (and_parts (is_in area x y) (nat_lt (y / 16) row) e).0)
    (λ e. let b = (in_is area x y e).bottom in
    both_true _ _ e (lt-ltb (y / 16) row (omega arith)))

-- ---- the smallest area

pub if_some : (P Q : Area → Type 0) → ((a : Area) → P a → Q a) → (o : Option Area) → IfSome o P → IfSome o Q
if_some P Q then None is = tt
if_some P Q then (Some a) is = then a is

-- nothing is added
pub none_added : (p q : ℕ → ℕ → Bool) → ((x y : ℕ) → q x y ≡ true → ⊥) → (o : Option Area) → IsSmallestOf p o → IsSmallestOf (λ x y. p x y || q x y) o
none_added p q none o is = same_smallest p (λ x y. p x y || q x y) (λ x y. same_test (p x y) (p x y || q x y) (or_left (p x y) (q x y)) (λ e. elim (or_parts (p x y) (q x y) e) [
  | inl old ↦ old
  | inr new ↦ absurd (none x y new)
])) o is

-- a row, if there was nothing before
pub first_row : (p q : ℕ → ℕ → Bool) (left right y : ℕ) → left ≤ right → IsSmallestOf p None → IsRow q left right y
    → IsSmallest (λ a b. p a b || q a b) (record { x = left; y = y; w = right - left + 1; h = 1 })
first_row p q left right y order none row =
    let last : left + (right - left + 1) - 1 ≡ right = omega arith in
    let level : y + 1 - 1 ≡ y = omega arith in
    record {
      holds_each = λ a b e. elim (or_parts (p a b) (q a b) e) [
        | inl old ↦ absurd (none a b old)
        | inr new ↦
            (let same = row.level a b new in
            let ends = row.between a b new in
            let low = ends.0 in
            let high = ends.1 in
            is_in_true (record { x = left; y = y; w = right - left + 1; h = 1 }) a b (record { left = low; right = omega arith; top = omega arith; bottom = omega arith }))
      ];
      left = (y, or_right (p left y) (q left y) row.first);
      right = (y, rw last (or_right (p right y) (q right y) row.last));
      top = (left, or_right (p left y) (q left y) row.first);
      bottom = (left, rw level (or_right (p left y) (q left y) row.first));
    }

-- a row after an area
pub more_row : (p q : ℕ → ℕ → Bool) (area : Area) (left right y x end : ℕ) → left ≤ right → area.y + area.h ≤ y → x ≡ min area.x left → end ≡ max (area.x + area.w) (right + 1)
    → IsSmallest p area → IsRow q left right y
    → IsSmallest (λ a b. p a b || q a b) (record { x = x; y = area.y; w = end - x; h = y + 1 - area.y })
more_row p q area left right y x end order above x_is end_is is row =
    let corner = in_is area area.x is.left.0 (is.holds_each area.x is.left.0 is.left.1) in
    let some : 0 < area.w = omega (arith, corner.right) in
    let high : 0 < area.h = omega (arith, corner.top, corner.bottom) in
    let level : area.y + (y + 1 - area.y) - 1 ≡ y = omega arith in
    let width : x + (end - x) ≡ end = omega arith in
    record {
      holds_each = λ a b e. elim (or_parts (p a b) (q a b) e) [
        | inl old ↦
            (let pixel = in_is area a b (is.holds_each a b old) in
            is_in_true (record { x = x; y = area.y; w = end - x; h = y + 1 - area.y }) a b (record { left = omega arith; right = omega arith; top = pixel.top; bottom = omega arith }))
        | inr new ↦
            (let same = row.level a b new in
            let ends = row.between a b new in
            let l = ends.0 in
            let r = ends.1 in
            is_in_true (record { x = x; y = area.y; w = end - x; h = y + 1 - area.y }) a b (record { left = omega arith; right = omega arith; top = omega arith; bottom = omega arith }))
      ];
      left = elim (cases_lt left area.x) [
        | inl before ↦ (let at : x ≡ left = omega arith in (y, rw at (or_right (p left y) (q left y) row.first)))
        | inr following ↦ (let at : x ≡ area.x = omega arith in (is.left.0, rw at (or_left (p area.x is.left.0) (q area.x is.left.0) is.left.1)))
      ];
      right = elim (cases_lt right (area.x + area.w)) [
        | inl before ↦ (let at : x + (end - x) - 1 ≡ area.x + area.w - 1 = omega arith in (is.right.0, rw at (or_left (p (area.x + area.w - 1) is.right.0) (q (area.x + area.w - 1) is.right.0) is.right.1)))
        | inr following ↦ (let at : x + (end - x) - 1 ≡ right = omega arith in (y, rw at (or_right (p right y) (q right y) row.last)))
      ];
      top = (is.top.0, or_left (p is.top.0 area.y) (q is.top.0 area.y) is.top.1);
      bottom = (left, rw level (or_right (p left y) (q left y) row.first));
    }

-- ---- the pixels of a row that have a 1

pub row_is : (words : List ℕ) (columns : ℕ) (part : Area) (row from : ℕ) (ends : Ends) → IsTilePart columns part words → row < part.h → from ≡ number_at columns part.x part.y + row * 16
    → AreEnds (λ k. is_between from (from + part.w) k && is_set words k) ends
    → IsRow (λ a b. is_in (row_of part row) a b && is_marked columns words a b) (part.x + (ends.first - from)) (part.x + (ends.last - from)) (part.y + row)
row_is words columns part row from ends is low from_is are =
    let p = and_parts (is_between from (from + part.w) ends.first) (is_set words ends.first) are.first in
    let q = and_parts (is_between from (from + part.w) ends.last) (is_set words ends.last) are.last in
    let a = between_is from (from + part.w) ends.first p.0 in
    let b = between_is from (from + part.w) ends.last q.0 in
    let first_at : number_at columns (part.x + (ends.first - from)) (part.y + row) ≡ ends.first = omega (arith, further columns part.x part.y row (ends.first - from) (omega arith) (omega arith)) in
    let last_at : number_at columns (part.x + (ends.last - from)) (part.y + row) ≡ ends.last = omega (arith, further columns part.x part.y row (ends.last - from) (omega arith) (omega arith)) in
    record {
      first = both_true _ _ (is_in_true (row_of part row) (part.x + (ends.first - from)) (part.y + row) (record { left = omega arith; right = omega arith; top = omega arith; bottom = omega arith })) (ap (is_set words) first_at ∙ p.1);
      last = both_true _ _ (is_in_true (row_of part row) (part.x + (ends.last - from)) (part.y + row) (record { left = omega arith; right = omega arith; top = omega arith; bottom = omega arith })) (ap (is_set words) last_at ∙ q.1);
      level = λ x y e.
          let pixel = in_is (row_of part row) x y (and_parts (is_in (row_of part row) x y) (is_marked columns words x y) e).0 in
          omega arith;
      between = λ x y e.
          let parts = and_parts (is_in (row_of part row) x y) (is_marked columns words x y) e in
          let pixel = in_is (row_of part row) x y parts.0 in
          let n = x - part.x in
          let column : part.x + n ≡ x = omega arith in
          let level : part.y + row ≡ y = omega arith in
          let number : number_at columns x y ≡ from + n = rw (column, level) at (further columns part.x part.y row n (omega arith) (omega arith)) ∙ ap (λ (k : ℕ). k + n) (sym from_is) in
          let at = are.between (number_at columns x y) (both_true _ _ (is_between_true from (from + part.w) (number_at columns x y) (omega (arith, number)) (omega (arith, number))) parts.1) in
          let first = at.0 in
          let last = at.1 in
          (omega (arith, number), omega (arith, number));
    }

pub none_in_row : (words : List ℕ) (columns : ℕ) (part : Area) (row from : ℕ) → IsTilePart columns part words → row < part.h → from ≡ number_at columns part.x part.y + row * 16
    → AreEndsOf (λ k. is_between from (from + part.w) k && is_set words k) None → (x y : ℕ) → (is_in (row_of part row) x y && is_marked columns words x y) ≡ true → ⊥
none_in_row words columns part row from is low from_is none x y e =
    let parts = and_parts (is_in (row_of part row) x y) (is_marked columns words x y) e in
    let pixel = in_is (row_of part row) x y parts.0 in
    let within : x < 16 * columns = omega arith in
    let here = row_between columns row part x y is.column (omega arith) is.across within ∙ parts.0 in
    none (number_at columns x y) (both_true _ _ (rw (← from_is) at here) parts.1)

either_and : (a b s : Bool) → ((a && s) || (b && s)) ≡ ((a || b) && s)
either_and true true true = refl
either_and true true false = refl
either_and true false true = refl
either_and true false false = refl
either_and false true true = refl
either_and false true false = refl
either_and false false true = refl
either_and false false false = refl

-- the first rows, and the next one
pub rows_looked : (q : ℕ → ℕ → Bool) (area : Area) (row : ℕ) (o : Option Area) → IsSmallestOf (λ x y. (is_in (rows area row) x y && q x y) || (is_in (row_of area row) x y && q x y)) o
    → IsSmallestOf (λ x y. is_in (rows area (row + 1)) x y && q x y) o
rows_looked q area row o is =
    same_smallest (λ x y. (is_in (rows area row) x y && q x y) || (is_in (row_of area row) x y && q x y)) (λ x y. is_in (rows area (row + 1)) x y && q x y)
    (λ x y. either_and (is_in (rows area row) x y) (is_in (row_of area row) x y) (q x y) ∙ ap (λ (b : Bool). b && q x y) (rows_more area row x y)) o is

-- the row's last pixel lies in the part
pub row_right : (q : ℕ → ℕ → Bool) (area : Area) (row left right y : ℕ) → IsRow (λ a b. is_in (row_of area row) a b && q a b) left right y → right < area.x + area.w
row_right q area row left right y is =
    (in_is (row_of area row) right y (and_parts (is_in (row_of area row) right y) (q right y) is.last).0).right

-- ---- corners

-- no smaller area holds the first and the last pixel of an area
pub corners : (q : ℕ → ℕ → Bool) (part : Area) → 0 < part.w → 0 < part.h → q part.x part.y ≡ true → q (part.x + (part.w - 1)) (part.y + (part.h - 1)) ≡ true
    → IsSmallest (λ x y. is_in part x y && q x y) part
corners q part across down first last =
    let right : part.x + part.w - 1 ≡ part.x + (part.w - 1) = omega arith in
    let bottom : part.y + part.h - 1 ≡ part.y + (part.h - 1) = omega arith in
    let one : is_in part part.x part.y ≡ true = is_in_true part part.x part.y (record { left = omega arith; right = omega arith; top = omega arith; bottom = omega arith }) in
    let other : is_in part (part.x + (part.w - 1)) (part.y + (part.h - 1)) ≡ true
    = is_in_true part (part.x + (part.w - 1)) (part.y + (part.h - 1)) (record { left = omega arith; right = omega arith; top = omega arith; bottom = omega arith }) in
    let a = both_true _ _ one first in
    let b = both_true _ _ other last in
    record {
      holds_each = λ x y e. (and_parts (is_in part x y) (q x y) e).0;
      left = (part.y, a);
      right = (part.y + (part.h - 1), rw right b);
      top = (part.x, a);
      bottom = (part.x + (part.w - 1), rw bottom b);
    }
