use Rattle.std.proofs.Common.{◌≡◌, ℕ, ◌+◌, ◌*◌, ◌/◌, ◌%◌, ◌<◌, ◌≤◌, inl, inr, Bool, false, cond, List, length, set, get_or, arith, refl, ap, ◌∙◌}
use Rattle.std.specs.Prelude.{nat_lt, ◌&&◌}
use Rattle.std.proofs.lemmas.Bool.{cases_eq, cases_lt, lt-ltb, le-ltb}
use Rattle.std.proofs.lemmas.Bool.Decides.{nat_tests}
use Rattle.std.proofs.lemmas.List.{get_or-set_same, get_or-set_other}
use Rattle.pixel_format.specs.declared.Color.{Color}
use Rattle.terms.specs.declared.area.Area.{Area}
use Rattle.terms.specs.Area.{is_in}
use Rattle.wire_tests.proofs.test_canvas.fill_area.Goals as goal

abbrev black : Color
black = record { r = 0; g = 0; b = 0 }

-- pixels above an area, and below it, aren't in it
above : (a : Area) (x y : ℕ) → y < a.y → is_in a x y ≡ false
above a x y lt = grind (arith, nat_tests)

below : (a : Area) (x y : ℕ) → a.y + a.h ≤ y → is_in a x y ≡ false
below a x y le = grind (arith, nat_tests)

-- one pixel more is filled
one_more : (initial colors : List Color) (k i : ℕ) (color new : Color) (here : ℕ → Bool) → k < length colors
    → ((j : ℕ) → j < 38400 → get_or colors j black ≡ cond (nat_lt j k && here j) color (get_or initial j black))
    → k < 38400 → new ≡ cond (here k) color (get_or colors k black) → i < 38400
    → get_or (set colors k new) i black ≡ cond (nat_lt i (k + 1) && here i) color (get_or initial i black)
one_more initial colors k i color new here fits done less is lt =
    elim (cases_eq i k) [
      | inl same ↦
          rw (same, get_or-set_same colors k new black fits, lt-ltb k (k + 1) (omega arith), is, done k less, le-ltb k k (omega arith)) refl
      | inr other ↦
          let same : nat_lt i (k + 1) ≡ nat_lt i k = elim (cases_lt i k) [
            | inl below ↦ rw (lt-ltb i k below, lt-ltb i (k + 1) (omega arith)) refl
            | inr above ↦ rw (le-ltb i k above, le-ltb i (k + 1) (omega (arith, other))) refl
          ] in
          rw (get_or-set_other colors k i new black other, same) (done i lt)
    ]

pub loop-k-init : goal.loop-k-init
loop-k-init c = λ i lt.
    elim (cases_lt i (320 * c.args.area.y)) [
      | inl less ↦ rw (lt-ltb i (320 * c.args.area.y) less, above c.args.area (i % 320) (i / 320) (omega arith)) refl
      | inr more ↦ rw (le-ltb i (320 * c.args.area.y) more) refl
    ]

pub loop-k-preserved : goal.loop-k-preserved
loop-k-preserved c = λ i lt.
    one_more c.args.colors.now c.loop-k.colors c.loop-k.k i c.args.color c.chosen.result (λ j. is_in c.args.area (j % 320) (j / 320))
    (omega (arith, c.loop-k.auto.colors, c.requires.size)) c.loop-k.invariant (omega arith)
    (c.chosen.ensures ∙ ap (λ b. cond b c.args.color (get_or c.loop-k.colors c.loop-k.k black)) c.is_inside-here.ensures) lt

pub returns : goal.returns
returns c = λ i lt.
    let told = c.loop-k.invariant i lt in
    elim (cases_lt i c.loop-k.k) [
      | inl less ↦ rw (lt-ltb i c.loop-k.k less) at told
      | inr more ↦
          let out = below c.args.area (i % 320) (i / 320) (omega arith) in
          rw out (rw (le-ltb i c.loop-k.k more) at told)
    ]
