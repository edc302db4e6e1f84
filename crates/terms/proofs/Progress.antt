-- A list whose items are appended some at a time.
use Rattle.std.proofs.Common.{◌≡◌, ℕ, List, [], ◌∷◌, ◌++◌, length, map, refl, sym, ap, subst, ◌∙◌, append_assoc, arith}
use Rattle.std.proofs.lemmas.List.{append-nil, map-append}
use Rattle.terms.specs.Appending.{Appends}
use Rattle.terms.proofs.Appends.{joined}

-- what was appended is that of the items before the rest
pub record Progress {X : Type 0} (Are : List X → List ℕ → Type 0) (items rest : List X) (old new : List ℕ) : Type 0 where
  pub done : List X
  pub all : items ≡ done ++ rest
  pub are : Appends (Are done) old new

-- what holds of some items and of others holds of both, one after the other
abbrev pub Joins : {X : Type 0} → (List X → List ℕ → Type 0) → Type 0
Joins {X} Are = (a b : List X) (p q : List ℕ) → Are a p → Are b q → Are (a ++ b) (p ++ q)

pub joins_mapped : {X Y : Type 0} (g : X → Y) (Are : List Y → List ℕ → Type 0) → Joins Are → Joins (λ (items : List X). Are (map g items))
joins_mapped {Y = Y} g Are joins a b p q first second =
    subst (λ (items : List Y). Are items (p ++ q)) (sym (map-append g a b)) (joins (map g a) (map g b) p q first second)

pub both_appended : {X : Type 0} (Are : List X → List ℕ → Type 0) → Joins Are → (a b : List X) (old between new : List ℕ) → Appends (Are a) old between → Appends (Are b) between new
    → Appends (Are (a ++ b)) old new
both_appended Are joins a b old between new first second = record {
  bytes = first.bytes ++ second.bytes;
  is = joined old first.bytes second.bytes between new first.is second.is;
  are = joins a b first.bytes second.bytes first.are second.are;
}

pub begins : {X : Type 0} (Are : List X → List ℕ → Type 0) → Are [] [] → (items : List X) (old : List ℕ) → Progress Are items items old old
begins Are none items old = record { done = []; all = refl; are = record { bytes = []; is = sym (append-nil old); are = none } }

pub goes_on : {X : Type 0} (Are : List X → List ℕ → Type 0) → Joins Are → (items rest some following : List X) (old between new : List ℕ) → rest ≡ some ++ following
    → Progress Are items rest old between → Appends (Are some) between new → Progress Are items following old new
goes_on Are joins items rest some following old between new split so_far more = record {
  done = so_far.done ++ some;
  all = so_far.all ∙ ap (λ z. so_far.done ++ z) split ∙ sym (append_assoc so_far.done some following);
  are = both_appended Are joins so_far.done some old between new so_far.are more;
}

pub ends : {X : Type 0} (Are : List X → List ℕ → Type 0) (items rest : List X) (old new : List ℕ) → length rest ≡ 0 → Progress Are items rest old new → Appends (Are items) old new
ends {X} Are items [] old new none so_far =
    let all : items ≡ so_far.done = so_far.all ∙ append-nil so_far.done in
    subst (λ (z : List X). Appends (Are z) old new) (sym all) so_far.are
ends Are items (x ∷ rest) old new none so_far = absurd (omega arith)
