-- What a crash leaves at a name, by the clauses of the account.
use Rattle.std.specs.Prelude.{◌≡◌, ◌≢◌, ◌⊎◌, ℕ, List, [], ◌∷◌, Option, None, Some, Contains}
use Rattle.std.proofs.Common.{subst, inl, inr, arith, ◌∙◌}
use Rattle.disk.specs.Contents.{Contents}
use Rattle.disk.specs.Contents as disk
use Rattle.recording_name.specs.Folder.{Folder, Left, MayLeave, IsMade}
use Rattle.recording_name.specs.Kept.{IsAsAt, IsWhole, Keeps, IsNew, HasOnly, KeepsOrIsWhole, IsSettled, WritesOnly}
use Rattle.recording_name.specs.KeptLaws.{Keeps-then, first_or_rest}

pub IsAsAt-kept : (f g : Folder) (name : List ℕ) (left : Left) → Keeps f name g → MayLeave g left → IsAsAt f name left
IsAsAt-kept f g name left kept may = record {
  names = kept.names (left.names name) (may.names name);
  bytes = λ file named. kept.bytes file (left.bytes file) (subst (Contains (g.recent name)) named (may.names name)) (may.bytes file);
}

pub free_left : (f : Folder) (name : List ℕ) (left : Left) → f.recent name ≡ None ∷ [] → IsAsAt f name left → left.names name ≡ None
free_left f name left free as_at =
    elim (first_or_rest None [] (left.names name) (subst (λ (r : List (Option ℕ)). Contains r (left.names name)) free as_at.names)) [
      | inl this ↦ this
      | inr rest ↦ absurd (omega (arith, rest.1))
    ]

-- Writing a new file keeps each name but its own.
pub Keeps-written : (f g : Folder) (draft name : List ℕ) (file : ℕ) → name ≢ draft → IsNew draft file f → WritesOnly file f g → Keeps f name g
Keeps-written f g draft name file other new writes = record {
  names = λ x has. subst (λ (r : List (Option ℕ)). Contains r x) (writes.recent name) has;
  bytes = λ i bytes has left.
      let named : Contains (f.recent name) (Some i) = subst (λ (r : List (Option ℕ)). Contains r (Some i)) (writes.recent name) has in
      let differ : i ≢ file = λ same. new.alone name other (subst (λ (k : ℕ). Contains (f.recent name) (Some k)) same named) in
      subst (λ (c : Contents). disk.MayLeave c bytes) (writes.other_files i differ) left;
}

pub kept_or_whole_left : (f w g : Folder) (name : List ℕ) (file : ℕ) (bytes : List ℕ) (left : Left) → Keeps f name w → KeepsOrIsWhole w name file bytes g → MayLeave g left → IsAsAt f name left ⊎ IsWhole name file bytes left
kept_or_whole_left f w g name file bytes left first second may = elim (second (left.names name) (may.names name)) [
  | inl kept ↦ inl (record {
    names = first.names (left.names name) kept.names;
    bytes = λ i named. first.bytes i (left.bytes i) (subst (Contains (w.recent name)) named kept.names) (kept.bytes i (left.bytes i) named (may.bytes i));
  })
  | inr whole ↦ inr (record { named = whole.0; whole = whole.1 (left.bytes file) (may.bytes file) })
]

pub made_left : (f made written g : Folder) (draft path : List ℕ) (file : ℕ) (bytes : List ℕ) (left : Left) → path ≢ draft → Keeps f path made → IsNew draft file made → WritesOnly file made written → KeepsOrIsWhole written path file bytes g → MayLeave g left → IsAsAt f path left ⊎ IsWhole path file bytes left
made_left f made written g draft path file bytes left other kept new writes published may =
    kept_or_whole_left f written g path file bytes left
    (Keeps-then f made written path kept (Keeps-written made written draft path file other new writes)) published may

pub settled_left : (g : Folder) (path : List ℕ) (file : ℕ) (bytes : List ℕ) (left : Left) → IsSettled path file g → HasOnly (g.files file) bytes → MayLeave g left → IsWhole path file bytes left
settled_left g path file bytes left settled only may =
    record { named = settled (left.names path) (may.names path); whole = only (left.bytes file) (may.bytes file) }

pub later_left : (f g : Folder) (path : List ℕ) (file : ℕ) (left : Left) → IsSettled path file f → g.recent path ≡ f.recent path → MayLeave g left → (left.names path ≡ Some file) × disk.MayLeave (g.files file) (left.bytes file)
later_left f g path file left settled same may =
    (settled (left.names path) (subst (λ (r : List (Option ℕ)). Contains r (left.names path)) same (may.names path)), may.bytes file)

pub target_left : (f made written : Folder) (path : List ℕ) (file : ℕ) (left : Left) → IsMade path file f made → WritesOnly file made written → MayLeave written left → IsAsAt f path left ⊎ ((left.names path ≡ Some file) × disk.MayLeave (written.files file) (left.bytes file))
target_left f made written path file left is writes may =
    let named : Contains (Some file ∷ f.recent path) (left.names path) =
    subst (λ (r : List (Option ℕ)). Contains r (left.names path)) (writes.recent path ∙ is.recent) (may.names path) in
    elim (first_or_rest (Some file) (f.recent path) (left.names path) named) [
      | inl this ↦ inr (this, may.bytes file)
      | inr before ↦ inl (record {
        names = before;
        bytes = λ i there.
            let there_before : Contains (f.recent path) (Some i) = subst (Contains (f.recent path)) there before in
            let differ : i ≢ file = λ same. is.fresh path (subst (λ (k : ℕ). Contains (f.recent path) (Some k)) same there_before) in
            subst (λ (c : Contents). disk.MayLeave c (left.bytes i)) (writes.other_files i differ ∙ is.other_files i differ) (may.bytes i);
      })
    ]
