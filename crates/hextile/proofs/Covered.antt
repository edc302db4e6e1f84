-- Parts that show the colours of a tile.
use Rattle.std.proofs.Common.{◌≡◌, ℕ, ◌+◌, ◌-◌, ◌*◌, ◌/◌, ◌%◌, ◌<◌, ◌≤◌, false, inl, inr, true, cond, List, [], ◌∷◌, ◌++◌, length, refl, sym, ap, ◌∙◌, arith}
use Rattle.std.specs.Prelude.{reverse, nat_lt, nat_le, ◌&&◌}
use Rattle.std.proofs.Math.Nat.{div-add-mod, mul_comm}
use Rattle.std.proofs.lemmas.Nat.{div-mul-add, mod-mul-add, mul-add-lt}
use Rattle.std.proofs.lemmas.Bool.{cases_Bool, cases_eq, lt-ltb, le-leb, leb-true, ltb-true, and_parts, and_from}
use Rattle.std.proofs.lemmas.List.{reverse-append}
use Rattle.std.proofs.lemmas.List.Elements.{All-nil, All-push}
use Rattle.pixel_format.specs.declared.Color.{Color}
use Rattle.pixel_format.specs.Format.{Format}
use Rattle.pixel_format.specs.Canvas.{covers, nth}
use Rattle.pixel_format.proofs.Covering.{in_is, is_in, not_in}
use Rattle.hextile.specs.declared.cover.Part.{Part}
use Rattle.hextile.specs.Encoded.{IsPart, IsUniform, IsCover, ShownUpto, part_picture}

-- the pixel of an index
pub index_of : (w k : ℕ) → k / w * w + k % w ≡ k
index_of w k = omega (arith, div-add-mod k w, mul_comm (k / w) w)

-- a pixel that is shown rightly
pub goes_on : (f : Format) (w h : ℕ) (colors : List Color) (background : Color) (parts : List Part) (shown : List Color) (k : ℕ) → nth shown k ≡ nth colors k
    → ShownUpto f w h colors background parts shown k → ShownUpto f w h colors background parts shown (k + 1)
goes_on f w h colors background parts shown k here s = record {
  parts_are = s.parts_are;
  picture = s.picture;
  right = λ i less. elim (cases_eq i k) [
    | inl same ↦ rw same here
    | inr other ↦ s.right i (omega (arith, other))
  ];
}

-- a part more
pub part_added : (f : Format) (w h : ℕ) (colors : List Color) (background : Color) (parts : List Part) (shown new : List Color) (k : ℕ) (part : Part) → 0 < w → k < length colors
    → IsPart f w h part → part.x ≡ k % w → part.y ≡ k / w → IsUniform colors w part
    → ((i : ℕ) → i < length colors → nth new i ≡ cond (covers part.x part.y part.w part.h (i % w) (i / w)) part.color (nth shown i))
    → ShownUpto f w h colors background parts shown k → ShownUpto f w h colors background (parts ++ part ∷ []) new (k + 1)
part_added f w h colors background parts shown new k part some less is x_is y_is uniform shows s =
    let uncovered : (i : ℕ) → covers part.x part.y part.w part.h (i % w) (i / w) ≡ true → part.color ≡ nth colors i = λ (i : ℕ) (e : covers part.x part.y part.w part.h (i % w) (i / w) ≡ true).
    let p = in_is part.x part.y part.w part.h (i % w) (i / w) e in
    let l = p.left in
    let r = p.right in
    let t = p.top in
    let b = p.bottom in
    let across : part.x + (i % w - part.x) ≡ i % w = omega arith in
    let down : part.y + (i / w - part.y) ≡ i / w = omega arith in
    sym (uniform.same (i % w - part.x) (i / w - part.y) (omega arith) (omega arith))
    ∙ ap (λ n. nth colors ((part.y + (i / w - part.y)) * w + n)) across ∙ ap (λ n. nth colors (n * w + i % w)) down ∙ ap (nth colors) (index_of w i) in
    record {
      parts_are = All-push (IsPart f w h) parts part s.parts_are is;
      picture = λ i in_it.
          shows i in_it ∙ ap (λ (z : Color). cond (covers part.x part.y part.w part.h (i % w) (i / w)) part.color z) (s.picture i in_it)
          ∙ ap (λ (z : List Part). part_picture background z (i % w) (i / w)) (sym (reverse-append parts (part ∷ [])));
      right = λ i before.
          let in_it : i < length colors = omega arith in
          elim (cases_Bool (covers part.x part.y part.w part.h (i % w) (i / w))) [
            | inl here ↦ shows i in_it ∙ rw here (uncovered i here)
            | inr away ↦ elim (cases_eq i k) [
              | inl same ↦
                  let across = is.across in
                  let down = is.down in
                  let itself : covers part.x part.y part.w part.h (k % w) (k / w) ≡ true =
                  is_in part.x part.y part.w part.h (k % w) (k / w) (record { left = omega (arith, x_is); right = omega (arith, x_is); top = omega (arith, y_is); bottom = omega (arith, y_is) }) in
                  let clash = ap (λ n. covers part.x part.y part.w part.h (n % w) (n / w)) same ∙ itself in
                  absurd (cc)
              | inr other ↦ shows i in_it ∙ rw away (s.right i (omega (arith, other)))
            ]
          ];
    }

pub nothing_shown : (f : Format) (w h : ℕ) (colors : List Color) (background : Color) (shown : List Color)
    → ((i : ℕ) → i < length colors → nth shown i ≡ background) → ShownUpto f w h colors background [] shown 0
nothing_shown f w h colors background shown all = record {
  parts_are = All-nil (IsPart f w h);
  picture = λ i less. all i less;
  right = λ i less. absurd (omega arith);
}

pub all_shown : (f : Format) (w h : ℕ) (colors : List Color) (background : Color) (parts : List Part) (shown : List Color) → length colors ≡ w * h
    → ShownUpto f w h colors background parts shown (length colors) → IsCover f w h colors background parts
all_shown f w h colors background parts shown size s = record {
  parts_are = s.parts_are;
  picture = λ column row across down.
      let i = row * w + column in
      let less : i < length colors = let m = mul-add-lt row w column h down across in omega (arith, size, m) in
      let c_is : i % w ≡ column = mod-mul-add row w column across in
      let r_is : i / w ≡ row = div-mul-add row w column across in
      sym (ap (λ n. part_picture background (reverse parts) n row) c_is)
      ∙ sym (ap (λ n. part_picture background (reverse parts) (i % w) n) r_is) ∙ sym (s.picture i less) ∙ s.right i less;
}

-- ---- the pixels of a part

-- a run of pixels is a row of a part
run_at : (w row x n i : ℕ) → x + n ≤ w → row * w + x ≤ i → i < row * w + x + n → (i / w ≡ row) × (i % w ≡ i - row * w)
run_at w row x n i fits from to =
    let c = i - row * w in
    let across : c < w = omega arith in
    let at : row * w + c ≡ i = omega arith in
    (ap (λ k. k / w) (sym at) ∙ div-mul-add row w c across, ap (λ k. k % w) (sym at) ∙ mod-mul-add row w c across)

-- a pixel beside a row of a part is in the part with that row if it is in the part without it
same_rows : (w x y v done i : ℕ) → x + v ≤ w → (nat_le ((y + done) * w + x) i && nat_lt i ((y + done) * w + x + v)) ≡ false
    → covers x y v done (i % w) (i / w) ≡ covers x y v (done + 1) (i % w) (i / w)
same_rows w x y v done i fits off = elim (cases_Bool (covers x y v (done + 1) (i % w) (i / w))) [
  | inl here ↦
      let is = in_is x y v (done + 1) (i % w) (i / w) here in
      let l = is.left in
      let r = is.right in
      let t = is.top in
      let b = is.bottom in
      elim (cases_eq (i / w) (y + done)) [
        | inl level ↦
            let whole = index_of w i in
            let down : i / w * w ≡ (y + done) * w = ap (λ n. n * w) level in
            let run = and_from _ _ (le-leb ((y + done) * w + x) i (omega (arith, whole, down))) (lt-ltb i ((y + done) * w + x + v) (omega (arith, whole, down))) in
            absurd (cc)
        | inr other ↦ is_in x y v done (i % w) (i / w) (record { left = l; right = r; top = t; bottom = omega (arith, other) }) ∙ sym here
      ]
  | inr away ↦ not_in x y v done (i % w) (i / w) (λ is.
      let b = is.bottom in
      let here = is_in x y v (done + 1) (i % w) (i / w) (record { left = is.left; right = is.right; top = is.top; bottom = omega arith }) in
      absurd (cc)) ∙ sym away
]

-- a row more of a part is shown
pub row_shown : {X : Type 0} (w x y v done i : ℕ) (color before : X) → x + v ≤ w
    → cond (nat_le ((y + done) * w + x) i && nat_lt i ((y + done) * w + x + v)) color (cond (covers x y v done (i % w) (i / w)) color before)
    ≡ cond (covers x y v (done + 1) (i % w) (i / w)) color before
row_shown w x y v done i color before fits =
    let row = y + done in
    let start = row * w + x in
    elim (cases_Bool (nat_le start i && nat_lt i (start + v))) [
      | inl run ↦
          let parts = and_parts _ _ run in
          let from = leb-true _ _ parts.0 in
          let to = ltb-true _ _ parts.1 in
          let at = run_at w row x v i fits from to in
          let level = at.0 in
          let column = at.1 in
          let here : covers x y v (done + 1) (i % w) (i / w) ≡ true =
          is_in x y v (done + 1) (i % w) (i / w) (record { left = omega arith; right = omega arith; top = omega arith; bottom = omega arith }) in
          rw (run, here) refl
      | inr off ↦ rw off (ap (λ t. cond t color before) (same_rows w x y v done i fits off))
    ]
