-- Moments of what may crash, a disk or a folder of files: a crash may come at each of them, in the
-- middle of a call too.
use Rattle.std.specs.Prelude.{◌≡◌, ℕ, ◌<◌, ◌≤◌, refl}
use Rattle.std.proofs.Common.{arith, sym, ◌∙◌, subst, inl, inr}
use Rattle.std.proofs.lemmas.Bool.{cases_lt}

-- what stood at each moment, from the first (0) to the present one; a moment that has been stays as
-- it was
pub record Moments (State : Type 0) : Type 0 where
  pub moment : ℕ
  pub at : ℕ → State

abbrev pub present : {State : Type 0} → Moments State → State
present h = h.at h.moment

-- The new moments go on from the old ones, and each new one has P: what a call ensures.
pub record GoesOn {State : Type 0} (old new : Moments State) (P : State → Type 0) : Type 0 where
  pub later : old.moment ≤ new.moment
  pub kept : (m : ℕ) → m ≤ old.moment → new.at m ≡ old.at m
  pub each : (m : ℕ) → old.moment < m → m ≤ new.moment → P (new.at m)

-- no call yet
pub GoesOn-start : {State : Type 0} (h : Moments State) (P : State → Type 0) → GoesOn h h P
GoesOn-start h P = record { later = omega arith; kept = λ m l. refl; each = λ m after to. absurd (omega arith) }

-- a call that changes nothing
pub GoesOn-same : {State : Type 0} (old new : Moments State) (P : State → Type 0) → new ≡ old → GoesOn old new P
GoesOn-same {State} old new P same = subst (λ (h : Moments State). GoesOn old h P) (sym same) (GoesOn-start old P)

-- a weaker fact of each moment
pub GoesOn-weaken : {State : Type 0} (old new : Moments State) (P Q : State → Type 0) → ((s : State) → P s → Q s) → GoesOn old new P → GoesOn old new Q
GoesOn-weaken old new P Q weaker run =
    record { later = run.later; kept = run.kept; each = λ m after to. weaker (new.at m) (run.each m after to) }

-- two runs one after the other
pub GoesOn-then : {State : Type 0} (first second third : Moments State) (P : State → Type 0) → GoesOn first second P → GoesOn second third P → GoesOn first third P
GoesOn-then first second third P run more = record {
  later = omega (arith, run.later, more.later);
  kept = λ m l. more.kept m (omega (arith, run.later)) ∙ run.kept m l;
  each = λ m after to. elim (cases_lt second.moment m) [
    | inl later ↦ more.each m later to
    | inr within ↦ subst P (sym (more.kept m within)) (run.each m after within)
  ];
}

-- what holds of the present at first, and of each moment since, holds of the present now
pub GoesOn-present : {State : Type 0} (old new : Moments State) (P : State → Type 0) → P (present old) → GoesOn old new P → P (present new)
GoesOn-present old new P first run = elim (cases_lt old.moment new.moment) [
  | inl later ↦ run.each new.moment later (omega arith)
  | inr within ↦
      let here : new.moment ≡ old.moment = omega (arith, run.later) in
      let Q : ℕ → Type 0 = λ m. P (old.at m) in
      subst P (sym (run.kept new.moment within)) (subst Q (sym here) first)
]
