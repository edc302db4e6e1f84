-- Copies that a viewer can be sent instead of colours (RFC 6143, section 7.7.2).
use Rattle.std.specs.Prelude.{◌≡◌, ◌⊎◌, ℕ, ◌+◌, ◌-◌, ◌*◌, ◌<◌, ◌≤◌, length, nat_le, Bool, true, false, ◌&&◌, ◌||◌, List, [], ◌∷◌, ◌++◌, Option, Some, None, if◌then◌else◌}
use Rattle.terms.specs.declared.area.Area.{Area}
use Rattle.terms.specs.Area.{is_in, HasJustOf, LiesWithin}
use Rattle.pixel_format.specs.Canvas.{Picture}
use Rattle.pixel_sets.specs.Pixels.{PixelSet, holds, AreJust}
use Rattle.shared_updates.specs.declared.copy.KeptCopy.{KeptCopy}

-- the area that is copied
abbrev pub source : KeptCopy → Area
source c = record { x = c.source_x; y = c.source_y; w = c.area.w; h = c.area.h }

-- a part of a screen of this size, of some pixels
pub record IsPart (width height : ℕ) (area : Area) : Type 0 where
  pub within : LiesWithin width height area
  pub across : 0 < area.w
  pub down : 0 < area.h

-- a copy of some pixels to others of a screen of this size
pub record IsCopyWithin (width height : ℕ) (c : KeptCopy) : Type 0 where
  pub area : IsPart width height c.area
  pub source : LiesWithin width height (source c)

-- the pixel is one of those that one of the copies goes to
abbrev pub is_copied : List KeptCopy → ℕ → ℕ → Bool
is_copied [] x y = false
is_copied (c ∷ cs) x y = is_in c.area x y || is_copied cs x y

-- how many pixels copies go to, one that several go to as often
abbrev pub pixels_copied : List KeptCopy → ℕ
pixels_copied [] = 0
pixels_copied (c ∷ cs) = c.area.w * c.area.h + pixels_copied cs

-- One more copy, to this area, may be kept on a screen of this size. A viewer carries each out: they
-- are no more than 64 with it, and copy no more than 16 screens' pixels.
pub record HasRoom (width height : ℕ) (copies : List KeptCopy) (area : Area) : Type 0 where
  pub few : length copies < 64
  pub pixels : pixels_copied copies + area.w * area.h ≤ 16 * (width * height)

-- a picture once a copy is carried out: each pixel that it goes to has the colour that its source had
abbrev pub copied : KeptCopy → Picture → Picture
copied c before x y = if is_in c.area x y then before (c.source_x + (x - c.area.x)) (c.source_y + (y - c.area.y)) else before x y

-- once copies are carried out, one after another
abbrev pub all_copied : List KeptCopy → Picture → Picture
all_copied [] before = before
all_copied (c ∷ cs) before = all_copied cs (copied c before)

-- the area lies in another
abbrev pub lies_in : Area → Area → Bool
lies_in area outer =
    (nat_le outer.x area.x && nat_le (area.x + area.w) (outer.x + outer.w)) && (nat_le outer.y area.y && nat_le (area.y + area.h) (outer.y + outer.h))

-- all that the copies go to does
abbrev pub all_in : List KeptCopy → Area → Bool
all_in [] outer = true
all_in (c ∷ cs) outer = lies_in c.area outer && all_in cs outer

-- where a copy takes an area of what it copies
abbrev pub moved_by : KeptCopy → Area → Area
moved_by c a = record { x = c.area.x + (a.x - c.source_x); y = c.area.y + (a.y - c.source_y); w = a.w; h = a.h }

-- the pixel is one of those that a copy takes an area to, if there is one
abbrev pub is_moved : KeptCopy → Option Area → ℕ → ℕ → Bool
is_moved c None x y = false
is_moved c (Some a) x y = is_in (moved_by c a) x y

-- ---- two copies as one

-- Two copies, one after the other, as one: whatever a picture is, that gives what the two give, but for
-- a rest of the pixels that they go to.
pub record AreOne (first second one : KeptCopy) (rest : Area) : Type 0 where
  pub same : (before : Picture) → (x y : ℕ) → is_in rest x y ≡ false → copied one before x y ≡ copied second (copied first before) x y
  pub goes : (x y : ℕ) → (is_in one.area x y || is_in rest x y) ≡ (is_in first.area x y || is_in second.area x y)
  pub area : lies_in one.area second.area ≡ true
  pub rest_area : lies_in rest second.area ≡ true
  pub source_area : lies_in (source one) (source first) ≡ true
  pub across : 0 < one.area.w
  pub down : 0 < one.area.h

-- how many pixels an area has, if there is one
abbrev pub size_of : Option Area → ℕ
size_of None = 0
size_of (Some area) = area.w * area.h

abbrev pub is_in_any : Option Area → ℕ → ℕ → Bool
is_in_any None x y = false
is_in_any (Some area) x y = is_in area x y

-- It is cheap to send a rest instead of copying it, where an area is sent in any case: the pixels that
-- are sent for it are no more than an eighth of those that are still copied.
pub record IsCheap (sent : Option Area) (copied rest : Area) : Type 0 where
  pub both : Option Area
  pub both_are : HasJustOf (λ x y. is_in rest x y && is_in_any sent x y) both
  pub few : 8 * (rest.w * rest.h) ≤ copied.w * copied.h + 8 * size_of both

-- The last two of some copies become one, and the rest of what they go to is to be sent.
pub record JoinsLast (sent : Option Area) (old : List KeptCopy) (stale : PixelSet) (new : List KeptCopy) (left : PixelSet) : Type 0 where
  pub others : List KeptCopy
  pub first : KeptCopy
  pub second : KeptCopy
  pub old_are : old ≡ others ++ first ∷ second ∷ []
  pub one : KeptCopy
  pub rest : Area
  pub are : AreOne first second one rest
  pub cheap : IsCheap sent one.area rest
  pub new_are : new ≡ others ++ one ∷ []
  pub left_are : AreJust left (λ x y. is_in rest x y || holds stale x y)

-- Some of the last copies are given up, and what they go to is to be sent.
pub record GivesUpLast (old : List KeptCopy) (stale : PixelSet) (new : List KeptCopy) (left : PixelSet) : Type 0 where
  pub given_up : List KeptCopy
  pub old_are : old ≡ new ++ given_up
  pub left_are : AreJust left (λ x y. is_copied given_up x y || holds stale x y)

-- They are joined so, or all stays as it is.
abbrev pub AreJoined : Option Area → List KeptCopy → PixelSet → List KeptCopy → PixelSet → Type 0
AreJoined sent old stale new left = JoinsLast sent old stale new left ⊎ ((new ≡ old) × (left ≡ stale))
