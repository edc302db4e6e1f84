-- Tiles that are looked at in their order.
use Rattle.std.proofs.Common.{◌≡◌, ℕ, ◌+◌, ◌-◌, ◌*◌, ◌<◌, ◌≤◌, inl, inr, Bool, true, List, nat_eq, nat_lt, ◌/◌, ◌^◌, sym, ap, ◌∙◌, arith, eqb-true, eq-eqb}
use Rattle.std.specs.Prelude.{◌||◌, ◌&&◌, Some}
use Rattle.std.proofs.lemmas.Bool.{cases_lt, cases_order, and_parts, ltb-true, lt-ltb}
use Rattle.std.proofs.Math.Nat.{mul-le-mul_left}
use Rattle.terms.specs.declared.area.Area.{Area}
use Rattle.terms.specs.Area.{is_in, HasPixels, IsSmallest, LiesWithin}
use Rattle.terms.proofs.Areas.{in_is, same_test, or_left, or_right, or_parts, both_true, same_smallest}
use Rattle.pixel_sets.specs.Bits.{is_set, is_between, IsFirst}
use Rattle.pixel_sets.specs.declared.pixels.TilePart.{TilePart}
use Rattle.pixel_sets.specs.Pixels.{PixelSet, holds, pixels_of, tiles_of, tile_at, tile_of, is_in_tile, IsFirstTile, HasNoTile, AreTiles}
use Rattle.pixel_sets.proofs.BitSets.{between_is, is_between_true}
use Rattle.pixel_sets.proofs.Held.{holds_marked, tile_within, tile_few}

-- the smallest area of some pixels of another
pub has_pixels : (p : ℕ → ℕ → Bool) (outer area : Area) (width height : ℕ) → width < 2 ^ 16 → height < 2 ^ 16 → outer.x + outer.w ≤ width → outer.y + outer.h ≤ height
    → ((x y : ℕ) → p x y ≡ true → is_in outer x y ≡ true) → IsSmallest p area → HasPixels area
has_pixels p outer area width height wide high columns rows of is =
    let l = in_is area area.x is.left.0 (is.holds_each area.x is.left.0 is.left.1) in
    let r = in_is outer (area.x + area.w - 1) is.right.0 (of (area.x + area.w - 1) is.right.0 is.right.1) in
    let b = in_is outer is.bottom.0 (area.y + area.h - 1) (of is.bottom.0 (area.y + area.h - 1) is.bottom.1) in
    record { across = omega arith; down = omega arith; columns = omega arith; rows = omega arith }

-- no tile before this one has a pixel of the set in the area, of those from a number on
abbrev pub NoneBefore : PixelSet → ℕ → ℕ → Area → Type 0
NoneBefore set from next area = (x y : ℕ) → is_in area x y ≡ true → holds set x y ≡ true → from ≤ tile_of set x y → next ≤ tile_of set x y

-- the number after the last tile of an area
abbrev pub end_of : ℕ → Area → ℕ
end_of columns area = tile_at columns (area.x + area.w - 1) (area.y + area.h - 1) + 1

pub before_end : (columns : ℕ) (area : Area) (x y : ℕ) → is_in area x y ≡ true → tile_at columns x y < end_of columns area
before_end columns area x y e =
    let pixel = in_is area x y e in
    let above : y / 16 ≤ (area.y + area.h - 1) / 16 = omega arith in
    let rows : columns * (y / 16) ≤ columns * ((area.y + area.h - 1) / 16) = mul-le-mul_left columns above in
    let left : x / 16 ≤ (area.x + area.w - 1) / 16 = omega arith in
    omega arith

-- a pixel of the set in the area has its tile's bit in the summary
pub summed_up : (width height : ℕ) (words summary : List ℕ) (area : Area) (next x y : ℕ) → AreTiles width height words summary → area.x + area.w ≤ width → area.y + area.h ≤ height
    → is_in area x y ≡ true → holds (pixels_of width height words) x y ≡ true → next ≤ tile_at (tiles_of width) x y
    → (is_between next (end_of (tiles_of width) area) (tile_at (tiles_of width) x y) && is_set summary (tile_at (tiles_of width) x y)) ≡ true
summed_up width height words summary area next x y are columns rows here held from =
    let pixel = in_is area x y here in
    let across : x < width = omega arith in
    let down : y < height = omega arith in
    both_true _ _ (is_between_true next (end_of (tiles_of width) area) (tile_at (tiles_of width) x y) from (before_end (tiles_of width) area x y here))
    (are.are x y (omega arith) (sym (holds_marked width height words x y across down) ∙ held))

-- no tile is left
pub none_left_over : (width height : ℕ) (words summary : List ℕ) (area : Area) (from next : ℕ) → AreTiles width height words summary → area.x + area.w ≤ width → area.y + area.h ≤ height
    → NoneBefore (pixels_of width height words) from next area → ((k : ℕ) → (is_between next (end_of (tiles_of width) area) k && is_set summary k) ≡ true → ⊥)
    → HasNoTile (pixels_of width height words) from area
none_left_over width height words summary area from next are columns rows before none x y here held =
    elim (cases_lt (tile_at (tiles_of width) x y) from) [
      | inl less ↦ less
      | inr on ↦ absurd (none (tile_at (tiles_of width) x y) (summed_up width height words summary area next x y are columns rows here held (before x y here held on)))
    ]

-- after the area's last tile none is left
pub none_after : (set : PixelSet) (area : Area) (from next : ℕ) → NoneBefore set from next area → end_of (tiles_of set.width) area ≤ next → HasNoTile set from area
none_after set area from next before le x y here held =
    elim (cases_lt (tile_of set x y) from) [
      | inl less ↦ less
      | inr on ↦ (let reach = before x y here held on in let below = before_end (tiles_of set.width) area x y here in absurd (omega arith))
    ]

-- none before the next tile that is summed up
pub before_first : (width height : ℕ) (words summary : List ℕ) (area : Area) (from next tile : ℕ) → AreTiles width height words summary → area.x + area.w ≤ width → area.y + area.h ≤ height
    → NoneBefore (pixels_of width height words) from next area → IsFirst (λ k. is_between next (end_of (tiles_of width) area) k && is_set summary k) tile
    → NoneBefore (pixels_of width height words) from tile area
before_first width height words summary area from next tile are columns rows before first x y here held on =
    first.least (tile_at (tiles_of width) x y) (summed_up width height words summary area next x y are columns rows here held (before x y here held on))

-- which isn't before the next one
pub first_on : (summary : List ℕ) (next end tile : ℕ) → IsFirst (λ k. is_between next end k && is_set summary k) tile → next ≤ tile
first_on summary next end tile first = (between_is next end tile (and_parts (is_between next end tile) (is_set summary tile) first.passes).0).above

-- nor in it, if it has none
pub before_next : (set : PixelSet) (area : Area) (from tile : ℕ) → NoneBefore set from tile area → ((x y : ℕ) → is_in_tile set tile area x y ≡ true → ⊥) → NoneBefore set from (tile + 1) area
before_next set area from tile before none x y here held on =
    let reach = before x y here held on in
    elim (cases_order (tile_of set x y) tile) [
      | inl same ↦ absurd (none x y (both_true _ _ here (both_true _ _ (eq-eqb (tile_of set x y) tile same) held)))
      | inr (inl less) ↦ absurd (omega arith)
      | inr (inr more) ↦ omega arith
    ]

-- the first that has one
pub first_tile : (width height : ℕ) (words summary : List ℕ) (area : Area) (from next tile : ℕ) (found : Area) → AreTiles width height words summary
    → area.x + area.w ≤ width → area.y + area.h ≤ height → 0 < area.w → 0 < area.h → from ≤ next → NoneBefore (pixels_of width height words) from next area
    → IsFirst (λ k. is_between next (end_of (tiles_of width) area) k && is_set summary k) tile → IsSmallest (is_in_tile (pixels_of width height words) tile area) found
    → IsFirstTile (pixels_of width height words) from area (record { tile = tile; area = found })
first_tile width height words summary area from next tile found are columns rows across down on before first is =
    let b = between_is next (end_of (tiles_of width) area) tile (and_parts (is_between next (end_of (tiles_of width) area) tile) (is_set summary tile) first.passes).0 in
    let last = tile_within width height (area.x + area.w - 1) (area.y + area.h - 1) (omega arith) (omega arith) in
    let within : tile < tiles_of height * tiles_of width = omega arith in
    record {
      from_on = omega arith;
      within = within;
      few = tile_few width height tile are.wide are.high within;
      pixels = has_pixels (is_in_tile (pixels_of width height words) tile area) area found width height are.wide are.high columns rows (λ x y e. (and_parts (is_in area x y) _ e).0) is;
      smallest = is;
      first = before_first width height words summary area from next tile are columns rows before first;
    }

-- ---- the smallest area round several tiles

-- the smallest area round two smallest areas
pub smallest_around : (p q : ℕ → ℕ → Bool) (a b c : Area) → IsSmallest p a → IsSmallest q b → IsSmallest (λ x y. is_in a x y || is_in b x y) c → IsSmallest (λ x y. p x y || q x y) c
smallest_around p q a b c is of round =
    let in_a : (x y : ℕ) → p x y ≡ true → is_in c x y ≡ true = λ x y e. round.holds_each x y (or_left (is_in a x y) (is_in b x y) (is.holds_each x y e)) in
    let in_b : (x y : ℕ) → q x y ≡ true → is_in c x y ≡ true = λ x y e. round.holds_each x y (or_right (is_in a x y) (is_in b x y) (of.holds_each x y e)) in
    record {
      holds_each = λ x y e. elim (or_parts (p x y) (q x y) e) [ inl one ↦ in_a x y one | inr other ↦ in_b x y other ];
      left = elim (or_parts (is_in a c.x round.left.0) (is_in b c.x round.left.0) round.left.1) [
        | inl one ↦
            (let low = (in_is a c.x round.left.0 one).left in
            let edge = (in_is c a.x is.left.0 (in_a a.x is.left.0 is.left.1)).left in
            let at : c.x ≡ a.x = omega arith in
            (is.left.0, or_left (p c.x is.left.0) (q c.x is.left.0) (ap (λ (n : ℕ). p n is.left.0) at ∙ is.left.1)))
        | inr other ↦
            (let low = (in_is b c.x round.left.0 other).left in
            let edge = (in_is c b.x of.left.0 (in_b b.x of.left.0 of.left.1)).left in
            let at : c.x ≡ b.x = omega arith in
            (of.left.0, or_right (p c.x of.left.0) (q c.x of.left.0) (ap (λ (n : ℕ). q n of.left.0) at ∙ of.left.1)))
      ];
      right = elim (or_parts (is_in a (c.x + c.w - 1) round.right.0) (is_in b (c.x + c.w - 1) round.right.0) round.right.1) [
        | inl one ↦
            (let high = (in_is a (c.x + c.w - 1) round.right.0 one).right in
            let edge = (in_is c (a.x + a.w - 1) is.right.0 (in_a (a.x + a.w - 1) is.right.0 is.right.1)).right in
            let at : c.x + c.w - 1 ≡ a.x + a.w - 1 = omega arith in
            (is.right.0, or_left (p (c.x + c.w - 1) is.right.0) (q (c.x + c.w - 1) is.right.0) (ap (λ (n : ℕ). p n is.right.0) at ∙ is.right.1)))
        | inr other ↦
            (let high = (in_is b (c.x + c.w - 1) round.right.0 other).right in
            let edge = (in_is c (b.x + b.w - 1) of.right.0 (in_b (b.x + b.w - 1) of.right.0 of.right.1)).right in
            let at : c.x + c.w - 1 ≡ b.x + b.w - 1 = omega arith in
            (of.right.0, or_right (p (c.x + c.w - 1) of.right.0) (q (c.x + c.w - 1) of.right.0) (ap (λ (n : ℕ). q n of.right.0) at ∙ of.right.1)))
      ];
      top = elim (or_parts (is_in a round.top.0 c.y) (is_in b round.top.0 c.y) round.top.1) [
        | inl one ↦
            (let low = (in_is a round.top.0 c.y one).top in
            let edge = (in_is c is.top.0 a.y (in_a is.top.0 a.y is.top.1)).top in
            let at : c.y ≡ a.y = omega arith in
            (is.top.0, or_left (p is.top.0 c.y) (q is.top.0 c.y) (ap (λ (n : ℕ). p is.top.0 n) at ∙ is.top.1)))
        | inr other ↦
            (let low = (in_is b round.top.0 c.y other).top in
            let edge = (in_is c of.top.0 b.y (in_b of.top.0 b.y of.top.1)).top in
            let at : c.y ≡ b.y = omega arith in
            (of.top.0, or_right (p of.top.0 c.y) (q of.top.0 c.y) (ap (λ (n : ℕ). q of.top.0 n) at ∙ of.top.1)))
      ];
      bottom = elim (or_parts (is_in a round.bottom.0 (c.y + c.h - 1)) (is_in b round.bottom.0 (c.y + c.h - 1)) round.bottom.1) [
        | inl one ↦
            (let high = (in_is a round.bottom.0 (c.y + c.h - 1) one).bottom in
            let edge = (in_is c is.bottom.0 (a.y + a.h - 1) (in_a is.bottom.0 (a.y + a.h - 1) is.bottom.1)).bottom in
            let at : c.y + c.h - 1 ≡ a.y + a.h - 1 = omega arith in
            (is.bottom.0, or_left (p is.bottom.0 (c.y + c.h - 1)) (q is.bottom.0 (c.y + c.h - 1)) (ap (λ (n : ℕ). p is.bottom.0 n) at ∙ is.bottom.1)))
        | inr other ↦
            (let high = (in_is b round.bottom.0 (c.y + c.h - 1) other).bottom in
            let edge = (in_is c of.bottom.0 (b.y + b.h - 1) (in_b of.bottom.0 (b.y + b.h - 1) of.bottom.1)).bottom in
            let at : c.y + c.h - 1 ≡ b.y + b.h - 1 = omega arith in
            (of.bottom.0, or_right (p of.bottom.0 (c.y + c.h - 1)) (q of.bottom.0 (c.y + c.h - 1)) (ap (λ (n : ℕ). q of.bottom.0 n) at ∙ of.bottom.1)))
      ];
    }

-- the area round two that lie within these bounds lies within them
pub around_within : (width height : ℕ) (a b c : Area) → LiesWithin width height a → LiesWithin width height b → IsSmallest (λ x y. is_in a x y || is_in b x y) c → LiesWithin width height c
around_within width height a b c p q round =
    let pc = p.columns in
    let pr = p.rows in
    let qc = q.columns in
    let qr = q.rows in
    record {
      columns = elim (or_parts (is_in a (c.x + c.w - 1) round.right.0) (is_in b (c.x + c.w - 1) round.right.0) round.right.1) [
        | inl one ↦ (let high = (in_is a (c.x + c.w - 1) round.right.0 one).right in omega arith)
        | inr other ↦ (let high = (in_is b (c.x + c.w - 1) round.right.0 other).right in omega arith)
      ];
      rows = elim (or_parts (is_in a round.bottom.0 (c.y + c.h - 1)) (is_in b round.bottom.0 (c.y + c.h - 1)) round.bottom.1) [
        | inl one ↦ (let high = (in_is a round.bottom.0 (c.y + c.h - 1) one).bottom in omega arith)
        | inr other ↦ (let high = (in_is b round.bottom.0 (c.y + c.h - 1) other).bottom in omega arith)
      ];
    }

-- the area round two has pixels
pub around_pixels : (a b c : Area) → HasPixels a → HasPixels b → IsSmallest (λ x y. is_in a x y || is_in b x y) c → HasPixels c
around_pixels a b c p q round =
    let l = in_is c c.x round.left.0 (round.holds_each c.x round.left.0 round.left.1) in
    let on = around_within 65535 65535 a b c (record { columns = omega (arith, p.columns); rows = omega (arith, p.rows) }) (record { columns = omega (arith, q.columns); rows = omega (arith, q.rows) }) round in
    record { across = omega arith; down = omega arith; columns = omega (arith, on.columns); rows = omega (arith, on.rows) }

-- the pixels of the set in the tiles before one
abbrev pub is_looked_at : PixelSet → Area → ℕ → ℕ → ℕ → Bool
is_looked_at set area next x y = is_in area x y && (holds set x y && nat_lt (tile_of set x y) next)

-- and those of the next tile that has some
pub looked_more : (set : PixelSet) (area : Area) (next : ℕ) (part : TilePart) (x y : ℕ) → IsFirstTile set next area part
    → (is_looked_at set area next x y || is_in_tile set part.tile area x y) ≡ is_looked_at set area (part.tile + 1) x y
looked_more set area next part x y is =
    let on = is.from_on in
    same_test (is_looked_at set area next x y || is_in_tile set part.tile area x y) (is_looked_at set area (part.tile + 1) x y)
    (λ e. elim (or_parts (is_looked_at set area next x y) (is_in_tile set part.tile area x y) e) [
      | inl before ↦
          (let a = and_parts (is_in area x y) (holds set x y && nat_lt (tile_of set x y) next) before in
          let b = and_parts (holds set x y) (nat_lt (tile_of set x y) next) a.1 in
          let less = ltb-true (tile_of set x y) next b.1 in
          both_true _ _ a.0 (both_true _ _ b.0 (lt-ltb (tile_of set x y) (part.tile + 1) (omega arith))))
      | inr here ↦
          (let a = and_parts (is_in area x y) (nat_eq (tile_of set x y) part.tile && holds set x y) here in
          let b = and_parts (nat_eq (tile_of set x y) part.tile) (holds set x y) a.1 in
          let same = eqb-true (tile_of set x y) part.tile b.0 in
          both_true _ _ a.0 (both_true _ _ b.1 (lt-ltb (tile_of set x y) (part.tile + 1) (omega arith))))
    ])
    (λ e. let a = and_parts (is_in area x y) (holds set x y && nat_lt (tile_of set x y) (part.tile + 1)) e in
    let b = and_parts (holds set x y) (nat_lt (tile_of set x y) (part.tile + 1)) a.1 in
    let less = ltb-true (tile_of set x y) (part.tile + 1) b.1 in
    elim (cases_lt (tile_of set x y) next) [
      | inl before ↦ or_left _ _ (both_true _ _ a.0 (both_true _ _ b.0 (lt-ltb (tile_of set x y) next before)))
      | inr following ↦
          (let reach = is.first x y a.0 b.0 following in
          or_right _ _ (both_true _ _ a.0 (both_true _ _ (eq-eqb (tile_of set x y) part.tile (omega arith)) b.0)))
    ])

-- the first tile's pixels, if there were none
pub only_these : (p q : ℕ → ℕ → Bool) (area : Area) → ((x y : ℕ) → p x y ≡ true → ⊥) → IsSmallest q area → IsSmallest (λ x y. p x y || q x y) area
only_these p q area none is =
    same_smallest q (λ x y. p x y || q x y) (λ x y. same_test (q x y) (p x y || q x y) (or_right (p x y) (q x y)) (λ e. elim (or_parts (p x y) (q x y) e) [
      | inl old ↦ absurd (none x y old)
      | inr new ↦ new
    ])) (Some area) is

-- all pixels of the set are in tiles before the one from which on there is none
pub all_looked_at : (set : PixelSet) (area : Area) (next x y : ℕ) → HasNoTile set next area → is_looked_at set area next x y ≡ (is_in area x y && holds set x y)
all_looked_at set area next x y none =
    same_test (is_looked_at set area next x y) (is_in area x y && holds set x y)
    (λ e. let a = and_parts (is_in area x y) (holds set x y && nat_lt (tile_of set x y) next) e in
    both_true _ _ a.0 (and_parts (holds set x y) (nat_lt (tile_of set x y) next) a.1).0)
    (λ e. let a = and_parts (is_in area x y) (holds set x y) e in
    both_true _ _ a.0 (both_true _ _ a.1 (lt-ltb (tile_of set x y) next (none x y a.0 a.1))))
