-- Areas: the pixels that one has, and how it stands on the wire (RFC 6143, sections 7.5.3 and
-- 7.6.1).
use Rattle.std.specs.Prelude.{◌≡◌, ℕ, ◌+◌, ◌-◌, ◌/◌, ◌%◌, ◌<◌, ◌≤◌, ◌^◌, nat_le, nat_lt, Bool, true, ◌&&◌, List, [], ◌∷◌, Option, Some, None}
use Rattle.terms.specs.Number.{u16_at}
use Rattle.terms.specs.declared.area.Area.{Area}

-- the area whose four numbers a field has, from its byte i on
abbrev pub area_at : List ℕ → ℕ → Area
area_at f i = record { x = u16_at f i; y = u16_at f (i + 2); w = u16_at f (i + 4); h = u16_at f (i + 6) }

-- all pixels of a screen of this width and height
abbrev pub whole_area : ℕ → ℕ → Area
whole_area width height = record { x = 0; y = 0; w = width; h = height }

-- x, y, width and height
abbrev pub area_bytes : Area → List ℕ
area_bytes a = a.x / 256 ∷ a.x % 256 ∷ a.y / 256 ∷ a.y % 256 ∷ a.w / 256 ∷ a.w % 256 ∷ a.h / 256 ∷ a.h % 256 ∷ []

-- the pixel of this column and row lies in the area
abbrev pub is_in : Area → ℕ → ℕ → Bool
is_in area x y = (nat_le area.x x && nat_lt x (area.x + area.w)) && (nat_le area.y y && nat_lt y (area.y + area.h))

-- all of the area lies within a width and a height, those of a screen say
pub record LiesWithin (width height : ℕ) (area : Area) : Type 0 where
  pub columns : area.x + area.w ≤ width
  pub rows : area.y + area.h ≤ height

-- an area of some pixels, all of whose ends have a number of 16 bits
pub record HasPixels (area : Area) : Type 0 where
  pub across : 0 < area.w
  pub down : 0 < area.h
  pub columns : area.x + area.w < 2 ^ 16
  pub rows : area.y + area.h < 2 ^ 16

-- The area has just the pixels that pass a test, and there are some.
pub record HasJust (p : ℕ → ℕ → Bool) (area : Area) : Type 0 where
  pub across : 0 < area.w
  pub down : 0 < area.h
  pub just : (x y : ℕ) → is_in area x y ≡ p x y

-- or no pixel passes
abbrev pub HasJustOf : (ℕ → ℕ → Bool) → Option Area → Type 0
HasJustOf p None = (x y : ℕ) → p x y ≡ true → ⊥
HasJustOf p (Some area) = HasJust p area

-- The smallest area that holds each pixel that passes a test: one stands on each of its edges.
pub record IsSmallest (p : ℕ → ℕ → Bool) (area : Area) : Type 0 where
  pub holds_each : (x y : ℕ) → p x y ≡ true → is_in area x y ≡ true
  pub left : (y : ℕ) × (p area.x y ≡ true)
  pub right : (y : ℕ) × (p (area.x + area.w - 1) y ≡ true)
  pub top : (x : ℕ) × (p x area.y ≡ true)
  pub bottom : (x : ℕ) × (p x (area.y + area.h - 1) ≡ true)

-- or no pixel passes
abbrev pub IsSmallestOf : (ℕ → ℕ → Bool) → Option Area → Type 0
IsSmallestOf p None = (x y : ℕ) → p x y ≡ true → ⊥
IsSmallestOf p (Some area) = IsSmallest p area
