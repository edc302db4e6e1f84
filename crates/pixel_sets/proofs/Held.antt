-- Sets of pixels as contracts see them, and the bits of their pixels.
use Rattle.std.proofs.Common.{◌≡◌, ℕ, ◌+◌, ◌-◌, ◌*◌, ◌<◌, ◌≤◌, inl, inr, Bool, true, false, cond, List, replicate, get_or, nat_eq, ◌/◌, ◌%◌, ◌^◌, refl, sym, ap, ◌∙◌, arith, eqb-true, eq-eqb}
use Rattle.std.specs.Prelude.{◌&&◌, Option}
use Rattle.std.proofs.lemmas.Bool.{cases_Bool, cases_lt, and_parts}
use Rattle.std.proofs.lemmas.List.{get_or-replicate, get_or_past, length-replicate}
use Rattle.std.proofs.lemmas.List.FromFn.{get_or-map-range_with_len}
use Rattle.std.proofs.lemmas.Nat.Bits.{bit_at-zero}
use Rattle.std.proofs.lemmas.Nat.{div-mul-add, mod-mul-add, mul-add-lt}
use Rattle.std.proofs.Math.Nat.{mul-le-mul_left, mod-add-div'}
use Rattle.terms.specs.declared.area.Area.{Area}
use Rattle.terms.specs.Area.{is_in, HasJust, IsSmallestOf}
use Rattle.terms.proofs.Areas.{in_is, same_test, both_true, same_smallest}
use Rattle.std.specs.Int.{bit_at}
use Rattle.pixel_sets.specs.Bits.{bit, is_set}
use Rattle.pixel_sets.specs.Pixels.{PixelSet, holds, AreJust, pixels_of, tiles_of, tile_at, tile_of, is_marked, is_in_tile, IsTilePart, AreTiles, HasTiles}
use Rattle.pixel_sets.proofs.PixelSets.{square, in_square, square_true, common_within, part_is}

-- the pixel is in the set if its bit is 1
pub holds_marked : (width height : ℕ) (words : List ℕ) (x y : ℕ) → x < width → y < height → holds (pixels_of width height words) x y ≡ is_marked (tiles_of width) words x y
holds_marked width height words x y across down =
    get_or-map-range_with_len (λ (k : ℕ). is_marked (tiles_of width) words (k % width) (k / width)) 0 (height * width) (y * width + x) (y * width + x) false (omega (arith, mul-add-lt y width x height down across)) (omega arith)
    ∙ ap (λ (k : ℕ). is_marked (tiles_of width) words k ((y * width + x) / width)) (mod-mul-add y width x across)
    ∙ ap (λ (k : ℕ). is_marked (tiles_of width) words x k) (div-mul-add y width x across)

-- an area is filled
pub filled_just : (width height : ℕ) (old new : List ℕ) (area : Area) (value : Bool)
    → ((x y : ℕ) → x < 16 * tiles_of width → is_marked (tiles_of width) new x y ≡ cond (is_in area x y) value (is_marked (tiles_of width) old x y))
    → AreJust (pixels_of width height new) (λ x y. cond (is_in area x y) value (holds (pixels_of width height old) x y))
filled_just width height old new area value filled x y across down =
    holds_marked width height new x y across down ∙ filled x y (omega arith)
    ∙ ap (λ (b : Bool). cond (is_in area x y) value b) (sym (holds_marked width height old x y across down))

none_in_zero : (i : ℕ) → bit 0 i ≡ true → ⊥
none_in_zero i e =
    let zero_is = bit_at-zero i in
    let one_is : bit_at 0 i ≡ 1 = eqb-true (bit_at 0 i) 1 e in
    omega arith

-- no bit is 1 in words of 0
pub none_set : (n k : ℕ) → is_set (replicate n 0) k ≡ true → ⊥
unfolding is_set
none_set n k e = elim (cases_lt (k / 64) n) [
  | inl within ↦
      (let is : bit (get_or (replicate n 0) (k / 64) 0) (k % 64) ≡ bit 0 (k % 64) = ap (λ (w : ℕ). bit w (k % 64)) (get_or-replicate n (k / 64) 0 0 within) in
      none_in_zero (k % 64) (sym is ∙ e))
  | inr beyond ↦
      (let is : bit (get_or (replicate n 0) (k / 64) 0) (k % 64) ≡ bit 0 (k % 64) = ap (λ (w : ℕ). bit w (k % 64)) (get_or_past (replicate n 0) (k / 64) 0 (omega (arith, length-replicate {A = ℕ} n 0))) in
      none_in_zero (k % 64) (sym is ∙ e))
]

-- ---- tiles of a screen

-- the parts of a screen have bits
pub has_tiles : (width height : ℕ) (words summary : List ℕ) (area : Area) → AreTiles width height words summary → area.x + area.w ≤ width → area.y + area.h ≤ height
    → HasTiles (tiles_of width) area words summary
has_tiles width height words summary area are columns rows =
    let less : tiles_of (area.y + area.h) ≤ tiles_of height = omega arith in
    let room : tiles_of width * tiles_of (area.y + area.h) ≤ tiles_of width * tiles_of height = mul-le-mul_left (tiles_of width) less in
    record { few = omega arith; across = omega arith; wide = omega arith; high = omega arith; bits = omega arith; tiles = omega arith }

-- a pixel of the screen stands in one of its tiles
pub tile_within : (width height x y : ℕ) → x < width → y < height → tile_at (tiles_of width) x y < tiles_of height * tiles_of width
tile_within width height x y across down = omega (arith, mul-add-lt (y / 16) (tiles_of width) (x / 16) (tiles_of height) (omega arith) (omega arith))

pub tile_few : (width height tile : ℕ) → width < 2 ^ 16 → height < 2 ^ 16 → tile < tiles_of height * tiles_of width → tile < 2 ^ 24
tile_few width height tile wide high within =
    let tall : tiles_of height ≤ 4096 = omega arith in
    let most : tiles_of width * tiles_of height ≤ tiles_of width * 4096 = mul-le-mul_left (tiles_of width) tall in
    omega arith

-- the pixels of a tile are those with its number
pub square_is : (columns tile x y : ℕ) → x < 16 * columns → is_in (square (tile % columns) (tile / columns)) x y ≡ nat_eq (tile_at columns x y) tile
square_is columns tile x y across =
    same_test (is_in (square (tile % columns) (tile / columns)) x y) (nat_eq (tile_at columns x y) tile)
    (λ e. let at = in_square (tile % columns) (tile / columns) x y e in
    let column = at.0 in
    let row = at.1 in
    let level : y / 16 * columns ≡ tile / columns * columns = ap (λ (n : ℕ). n * columns) row in
    eq-eqb (tile_at columns x y) tile (omega (arith, mod-add-div' tile columns)))
    (λ e. let is : tile_at columns x y ≡ tile = eqb-true (tile_at columns x y) tile e in
    square_true (tile % columns) (tile / columns) x y
    (sym (mod-mul-add (y / 16) columns (x / 16) (omega arith)) ∙ ap (λ (n : ℕ). n % columns) is)
    (sym (div-mul-add (y / 16) columns (x / 16) (omega arith)) ∙ ap (λ (n : ℕ). n / columns) is))

-- the area doesn't meet the tile
pub no_part : (set : PixelSet) (tile : ℕ) (area : Area) → area.x + area.w ≤ set.width
    → ((x y : ℕ) → (is_in area x y && is_in (square (tile % tiles_of set.width) (tile / tiles_of set.width)) x y) ≡ true → ⊥) → (x y : ℕ) → is_in_tile set tile area x y ≡ true → ⊥
no_part set tile area columns none x y e =
    let a = and_parts (is_in area x y) (nat_eq (tile_of set x y) tile && holds set x y) e in
    let b = and_parts (nat_eq (tile_of set x y) tile) (holds set x y) a.1 in
    let r = (in_is area x y a.0).right in
    none x y (both_true _ _ a.0 (square_is (tiles_of set.width) tile x y (omega arith) ∙ b.0))

and_regroup : (a s m : Bool) → ((a && s) && m) ≡ (a && (s && m))
and_regroup true s m = refl
and_regroup false s m = refl

-- what it has in the tile
pub part_smallest : (width height : ℕ) (words : List ℕ) (tile : ℕ) (area part : Area) (o : Option Area) → area.x + area.w ≤ width → area.y + area.h ≤ height
    → HasJust (λ x y. is_in area x y && is_in (square (tile % tiles_of width) (tile / tiles_of width)) x y) part
    → IsSmallestOf (λ x y. is_in part x y && is_marked (tiles_of width) words x y) o → IsSmallestOf (is_in_tile (pixels_of width height words) tile area) o
part_smallest width height words tile area part o columns rows just is =
    same_smallest (λ x y. is_in part x y && is_marked (tiles_of width) words x y) (is_in_tile (pixels_of width height words) tile area)
    (λ x y. ap (λ (b : Bool). b && is_marked (tiles_of width) words x y) (just.just x y)
    ∙ and_regroup (is_in area x y) (is_in (square (tile % tiles_of width) (tile / tiles_of width)) x y) (is_marked (tiles_of width) words x y)
    ∙ elim (cases_Bool (is_in area x y)) [
      | inl here ↦
          (let pixel = in_is area x y here in
          ap (λ (s : Bool). is_in area x y && (s && is_marked (tiles_of width) words x y)) (square_is (tiles_of width) tile x y (omega arith))
          ∙ ap (λ (m : Bool). is_in area x y && (nat_eq (tile_at (tiles_of width) x y) tile && m)) (sym (holds_marked width height words x y (omega arith) (omega arith))))
      | inr away ↦ rw away refl
    ]) o is

-- the part of an area in a tile is a part of a tile
pub tile_part : (width height tile : ℕ) (words summary : List ℕ) (area part : Area) → AreTiles width height words summary → area.x + area.w ≤ width → area.y + area.h ≤ height
    → HasJust (λ x y. is_in area x y && is_in (square (tile % tiles_of width) (tile / tiles_of width)) x y) part → IsTilePart (tiles_of width) part words
tile_part width height tile words summary area part are columns rows just =
    let both = common_within area (square (tile % tiles_of width) (tile / tiles_of width)) part just in
    part_is (tiles_of width) (tile % tiles_of width) (tile / tiles_of width) area part words summary (has_tiles width height words summary area are columns rows) (omega arith) just
