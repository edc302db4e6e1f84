-- Covering the pixels of a row, one subrectangle after the other.
use Rattle.std.proofs.Common.{◌≡◌, ℕ, ◌+◌, ◌-◌, ◌⊎◌, inl, inr, cond, List, [], ◌∷◌, ◌++◌, slice_index, refl, sym, ◌∙◌, arith, length-append}
use Rattle.std.specs.Prelude.{nat_le, nat_lt, ◌&&◌}
use Rattle.std.proofs.lemmas.Bool.{cases_Bool, cases_lt, le-leb, lt-ltb, lt-leb, le-ltb}
use Rattle.pixel_format.specs.declared.Color.{Color}
use Rattle.pixel_format.specs.Canvas.{covers, rows_of}
use Rattle.pixel_format.proofs.Covering.{IsIn, in_is, is_in}
use Rattle.rre.specs.declared.data.Subrectangle.{Subrectangle}
use Rattle.rre.specs.Encoded.{IsUniform, AreUniform, part_picture, Reaches}
use Rattle.rre.proofs.Painted.{one_more}

-- the pixels of a subrectangle have its colour, which is theirs
good_here : (colors : List Color) (w h : ℕ) (background : Color) (parts : List Subrectangle) (s : Subrectangle) (c r : ℕ) → IsUniform colors w h s → IsIn s.x s.y s.w s.h c r
    → part_picture background (parts ++ s ∷ []) c r ≡ rows_of colors w c r
good_here colors w h background parts s c r u is =
    let l = is.left in
    let o = is.right in
    let t = is.top in
    let b = is.bottom in
    let column : s.x + (c - s.x) ≡ c = omega arith in
    let row : s.y + (r - s.y) ≡ r = omega arith in
    let color : rows_of colors w (s.x + (c - s.x)) (s.y + (r - s.y)) ≡ s.color = u.same (c - s.x) (r - s.y) (omega arith) (omega arith) in
    let color : rows_of colors w c r ≡ s.color = rw (column, row) at color in
    one_more background parts s c r ∙ rw (is_in s.x s.y s.w s.h c r is) (sym color)

-- what had its colour keeps it
good_more : (colors : List Color) (w h : ℕ) (background : Color) (parts : List Subrectangle) (s : Subrectangle) (c r : ℕ) → IsUniform colors w h s
    → part_picture background parts c r ≡ rows_of colors w c r → part_picture background (parts ++ s ∷ []) c r ≡ rows_of colors w c r
good_more colors w h background parts s c r u good =
    elim (cases_Bool (covers s.x s.y s.w s.h c r)) [
      | inl here ↦ good_here colors w h background parts s c r u (in_is s.x s.y s.w s.h c r here)
      | inr away ↦ one_more background parts s c r ∙ rw away good
    ]

sound_more : (colors : List Color) (w h : ℕ) (background : Color) (parts : List Subrectangle) (s : Subrectangle) (c r : ℕ) → IsUniform colors w h s
    → (part_picture background parts c r ≡ rows_of colors w c r) ⊎ (part_picture background parts c r ≡ background)
    → (part_picture background (parts ++ s ∷ []) c r ≡ rows_of colors w c r) ⊎ (part_picture background (parts ++ s ∷ []) c r ≡ background)
sound_more colors w h background parts s c r u (inl good) = inl (good_more colors w h background parts s c r u good)
sound_more colors w h background parts s c r u (inr under) =
    elim (cases_Bool (covers s.x s.y s.w s.h c r)) [
      | inl here ↦ inl (good_here colors w h background parts s c r u (in_is s.x s.y s.w s.h c r here))
      | inr away ↦ inr (one_more background parts s c r ∙ rw away under)
    ]

uniform_more : (colors : List Color) (w h : ℕ) (parts : List Subrectangle) (s : Subrectangle) → AreUniform colors w h parts → IsUniform colors w h s
    → AreUniform colors w h (parts ++ s ∷ [])
uniform_more colors w h [] s are u = (u, tt)
uniform_more colors w h (first ∷ parts) s are u = (are.0, uniform_more colors w h parts s are.1 u)

-- a subrectangle more is listed
pub part_listed : (colors : List Color) (w h : ℕ) (background : Color) (parts : List Subrectangle) (s : Subrectangle) (reach raised : List ℕ) (column row : ℕ)
    → Reaches colors w h background parts reach column row → IsUniform colors w h s → s.x ≡ column → s.y ≡ row
    → ((c : ℕ) → slice_index raised c ≡ cond (nat_le column c && nat_lt c (column + s.w)) (row + s.h) (slice_index reach c))
    → Reaches colors w h background (parts ++ s ∷ []) raised (column + s.w) row
part_listed colors w h background parts s reach raised column row so_far u x y raises =
    let across = u.across in
    let down = u.down in
    let few = so_far.few in
    record {
      uniform = uniform_more colors w h parts s so_far.uniform u;
      few = omega (arith, length-append parts (s ∷ []));
      sound = λ c r inside above. sound_more colors w h background parts s c r u (so_far.sound c r inside above);
      before = λ c r inside above stands. elim stands [
        | inl higher ↦ good_more colors w h background parts s c r u (so_far.before c r inside above (inl higher))
        | inr level ↦
            let same = level.0 in
            let ahead = level.1 in
            elim (cases_lt c column) [
              | inl earlier ↦ good_more colors w h background parts s c r u (so_far.before c r inside above (inr (same, earlier)))
              | inr later ↦ good_here colors w h background parts s c r u (record { left = omega arith; right = omega arith; top = omega arith; bottom = omega arith })
            ]
      ];
      below = λ c r inside above from reaches. elim (cases_lt c column) [
        | inl earlier ↦
            let as_before : slice_index raised c ≡ slice_index reach c = raises c ∙ rw (lt-leb column c earlier) refl in
            good_more colors w h background parts s c r u (so_far.below c r inside above from (omega (arith, as_before)))
        | inr later ↦ elim (cases_lt c (column + s.w)) [
          | inl within ↦
              let to : slice_index raised c ≡ row + s.h = raises c ∙ rw (le-leb column c later, lt-ltb c (column + s.w) within) refl in
              good_here colors w h background parts s c r u (record { left = omega arith; right = omega arith; top = omega arith; bottom = omega (arith, to) })
          | inr past ↦
              let as_before : slice_index raised c ≡ slice_index reach c = raises c ∙ rw (le-leb column c later, le-ltb c (column + s.w) past) refl in
              good_more colors w h background parts s c r u (so_far.below c r inside above from (omega (arith, as_before)))
        ]
      ];
    }
