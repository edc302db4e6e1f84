-- What is appended to a list of bytes.
use Rattle.std.specs.Prelude.{◌≡◌, ℕ, ◌+◌, ◌*◌, Bool, true, false, List, [], ◌∷◌, ◌++◌, Result, IfOk, OnErr}

-- bytes of which this holds follow the old ones
pub record Appends (P : List ℕ → Type 0) (old new : List ℕ) : Type 0 where
  pub bytes : List ℕ
  pub is : new ≡ old ++ bytes
  pub are : P bytes

-- some bytes
abbrev pub Grows : List ℕ → List ℕ → Type 0
Grows = Appends (λ _. Unit {0})

-- What is answered says whether such bytes follow the old ones. If they don't, and when memory runs
-- out, the old ones stay as they were.
pub record AppendsIf {E : Type 0} (P : List ℕ → Type 0) (old new : List ℕ) (result : Result Bool E) : Type 0 where
  pub ok : IfOk result (λ whole. whole ≡ true → Appends P old new)
  pub unchanged : IfOk result (λ whole. whole ≡ false → new ≡ old)
  pub err : OnErr result (new ≡ old)

-- bytes of each of a list, one after the other
abbrev pub AreEach : {A : Type 0} → (A → List ℕ → Type 0) → List A → List ℕ → Type 0
AreEach Is [] bytes = bytes ≡ []
AreEach Is (a ∷ others) bytes = (first : List ℕ) × (rest : List ℕ) × (bytes ≡ first ++ rest) × Is a first × AreEach Is others rest

-- The room that may be taken for so many bytes once they have come: for twice as many, so that bytes
-- that come one by one are seldom moved, and 8.
abbrev pub room_for : ℕ → ℕ
room_for n = 2 * n + 8
