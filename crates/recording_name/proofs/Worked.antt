-- Worked cases: what the definitions of a folder say of three crashes.
use Rattle.std.specs.Prelude.{◌≡◌, ℕ, List, [], ◌∷◌, Option, None, Some, Contains, length}
use Rattle.std.proofs.Common.{sym, ap, subst, arith}
use Rattle.disk.specs.Contents.{Contents}
use Rattle.disk.specs.Contents as disk
use Rattle.recording_name.specs.Folder.{Folder, Agrees, IsMade, IsMoved}
use Rattle.recording_name.specs.KeptLaws.{has_first, in_rest}

-- A name is made, and the folder isn't synced: a crash may leave the file there, or nothing.
pub made_unsynced : (f g : Folder) (name : List ℕ) (file : ℕ) → Agrees f → IsMade name file f g → Contains (g.recent name) (Some file) × Contains (g.recent name) None
made_unsynced f g name file agrees made =
    let before : Contains (f.recent name) None = subst (Contains (f.recent name)) made.free (agrees.names name) in
    let P : Option ℕ → Type 0 = λ x. Contains (Some file ∷ f.recent name) x in (
      subst (λ (r : List (Option ℕ)). Contains r (Some file)) (sym made.recent) (has_first (Some file) (f.recent name)),
      subst (λ (r : List (Option ℕ)). Contains r None) (sym made.recent) (in_rest (Some file) (f.recent name) None before),
    )

-- A file without held bytes is renamed before its sync: a crash may leave it at its new name, empty.
pub renamed_unsynced : (f g : Folder) (from to : List ℕ) (file : ℕ) → f.names from ≡ Some file → (f.files file).held ≡ [] → IsMoved from to f g → Contains (g.recent to) (Some file) × disk.MayLeave (g.files file) []
renamed_unsynced f g from to file named held moved =
    let first : Contains (f.names from ∷ f.recent to) (f.names from) = has_first (f.names from) (f.recent to) in
    let there : Contains (g.recent to) (f.names from) = subst (λ (r : List (Option ℕ)). Contains r (f.names from)) (sym moved.recent_there) first in
    let none : length (f.files file).held ≡ 0 = ap length held in
    let left : disk.MayLeave (f.files file) [] =
    record { no_shorter = omega arith; no_longer = omega arith; untouched = λ p l e. absurd (omega arith) } in
    (subst (Contains (g.recent to)) named there, subst (λ (c : Contents). disk.MayLeave c []) (sym (moved.files file)) left)

-- Two files are renamed to one name, and the folder isn't synced: a crash leaves the second there,
-- the first, or what was there before; after a sync of the folder the second.
pub renamed_twice : (f g h : Folder) (a b to : List ℕ) (first second : ℕ) → f.names a ≡ Some first → g.names b ≡ Some second → IsMoved a to f g → IsMoved b to g h → Contains (h.recent to) (Some second) × Contains (h.recent to) (Some first)
renamed_twice f g h a b to first second one two once twice =
    let front : h.recent to ≡ Some second ∷ g.recent to = subst (λ (x : Option ℕ). h.recent to ≡ x ∷ g.recent to) two twice.recent_there in
    let back : g.recent to ≡ Some first ∷ f.recent to = subst (λ (x : Option ℕ). g.recent to ≡ x ∷ f.recent to) one once.recent_there in
    let before : Contains (g.recent to) (Some first) = subst (λ (r : List (Option ℕ)). Contains r (Some first)) (sym back) (has_first (Some first) (f.recent to)) in (
      subst (λ (r : List (Option ℕ)). Contains r (Some second)) (sym front) (has_first (Some second) (g.recent to)),
      subst (λ (r : List (Option ℕ)). Contains r (Some first)) (sym front) (in_rest (Some second) (g.recent to) (Some first) before),
    )
