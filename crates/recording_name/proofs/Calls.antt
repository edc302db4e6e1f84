-- What each call keeps at a name, at each of its moments.
use Rattle.std.specs.Prelude.{◌≡◌, ◌≢◌, ◌⊎◌, ℕ, List, Option, Some, None, Result, Ok, Err, OnOk, Contains, refl}
use Rattle.std.proofs.Common.{◌∙◌, subst, sym, inl, inr}
use Rattle.disk.specs.Contents.{Contents}
use Rattle.recording_name.specs.Folder.{Folder, Agrees, IsNamed, IsMade, IsWithinRename, IsFileSynced, IsFolderSynced}
use Rattle.disk.specs.Moments.{GoesOn-same, GoesOn-weaken, GoesOn-present, GoesOn-then}
use Rattle.recording_name.specs.FolderHistory.{History, present, GoesOn}
use Rattle.recording_name.specs.Kept.{Keeps, IsNew, HasOnly, KeepsOrIsWhole}
use Rattle.recording_name.specs.KeptLaws.{Keeps-same, Keeps-named, Keeps-made, Keeps-renamed, Keeps-file_synced, Keeps-folder_synced, HasOnly-synced, KeepsOrIsWhole-kept, KeepsOrIsWhole-then, KeepsOrIsWhole-renamed, GoesOn-keeps}

-- what follows of a success
pub on_ok : {T E P Q : Type 0} (r : Result T E) → (P → Q) → OnOk r P → OnOk r Q
on_ok (Ok x) f p = f p
on_ok (Err e) f p = tt

pub keeps_unchanged : (a b : History) (n : List ℕ) → b ≡ a → GoesOn a b (Keeps (present a) n)
keeps_unchanged a b n same = GoesOn-same a b (Keeps (present a) n) same

-- what comes after a call that changes nothing
pub after_same : (a b c : History) (n : List ℕ) → b ≡ a → GoesOn b c (Keeps (present b) n) → GoesOn a c (Keeps (present a) n)
after_same a b c n same run = subst (λ (h : History). GoesOn h c (Keeps (present h) n)) same run

pub keeps_file_sync : (a b : History) (file : ℕ) (n : List ℕ) → Agrees (present a) → GoesOn a b (λ f. (f ≡ present a) ⊎ IsFileSynced file (present a) f) → GoesOn a b (Keeps (present a) n)
keeps_file_sync a b file n agrees run = GoesOn-weaken a b _ (Keeps (present a) n) (λ f step. elim step [
  | inl same ↦ Keeps-same (present a) f n same
  | inr synced ↦ Keeps-file_synced (present a) f file n agrees synced
]) run

pub keeps_folder_sync : (a b : History) (n : List ℕ) → Agrees (present a) → GoesOn a b (λ f. (f ≡ present a) ⊎ IsFolderSynced (present a) f) → GoesOn a b (Keeps (present a) n)
keeps_folder_sync a b n agrees run = GoesOn-weaken a b _ (Keeps (present a) n) (λ f step. elim step [
  | inl same ↦ Keeps-same (present a) f n same
  | inr synced ↦ Keeps-folder_synced (present a) f n agrees synced
]) run

pub keeps_rename : (a b : History) (from to n : List ℕ) → n ≢ from → n ≢ to → GoesOn a b (IsWithinRename from to (present a)) → GoesOn a b (Keeps (present a) n)
keeps_rename a b from to n other another run =
    GoesOn-weaken a b _ (Keeps (present a) n) (λ f step. Keeps-renamed (present a) f from to n other another step) run

pub keeps_remove : (a b : History) (name n : List ℕ) → n ≢ name → GoesOn a b (λ f. (f ≡ present a) ⊎ IsNamed name None (present a) f) → GoesOn a b (Keeps (present a) n)
keeps_remove a b name n other run = GoesOn-weaken a b _ (Keeps (present a) n) (λ f step. elim step [
  | inl same ↦ Keeps-same (present a) f n same
  | inr named ↦ Keeps-named (present a) f name n None other named
]) run

pub keeps_make : (a b : History) (name n : List ℕ) → n ≢ name → GoesOn a b (λ f. (f ≡ present a) ⊎ ((i : ℕ) × IsMade name i (present a) f)) → GoesOn a b (Keeps (present a) n)
keeps_make a b name n other run = GoesOn-weaken a b _ (Keeps (present a) n) (λ f step. elim step [
  | inl same ↦ Keeps-same (present a) f n same
  | inr made ↦ Keeps-made (present a) f name n made.0 other made.1
]) run

-- the bytes of a file that was synced, after a step that leaves them
pub HasOnly-after : (f g h : Folder) (file : ℕ) → IsFileSynced file f g → h.files file ≡ g.files file → HasOnly (h.files file) (f.files file).now
HasOnly-after f g h file synced same =
    subst (λ (c : Contents). HasOnly c (f.files file).now) (sym same) (HasOnly-synced (f.files file) (g.files file) synced.synced)

-- runs of which the first keeps a name or makes it name the whole file, and the second keeps it
pub whole_then : (a b c : History) (n : List ℕ) (file : ℕ) (bytes : List ℕ) → GoesOn a b (KeepsOrIsWhole (present a) n file bytes) → GoesOn b c (Keeps (present b) n) → GoesOn a c (KeepsOrIsWhole (present a) n file bytes)
whole_then a b c n file bytes first second =
    let P : Folder → Type 0 = KeepsOrIsWhole (present a) n file bytes in
    let at_first : P (present a) = KeepsOrIsWhole-kept (present a) (present a) n file bytes (Keeps-same (present a) (present a) n refl) in
    let then : P (present b) = GoesOn-present a b P at_first first in
    GoesOn-then a b c P first (GoesOn-weaken b c (Keeps (present b) n) P (λ f kept. KeepsOrIsWhole-then (present a) (present b) f n file bytes then kept) second)

-- a run that keeps a name
pub whole_kept : (a b : History) (n : List ℕ) (file : ℕ) (bytes : List ℕ) → GoesOn a b (Keeps (present a) n) → GoesOn a b (KeepsOrIsWhole (present a) n file bytes)
whole_kept a b n file bytes run = GoesOn-weaken a b (Keeps (present a) n) (KeepsOrIsWhole (present a) n file bytes) (λ f kept. KeepsOrIsWhole-kept (present a) f n file bytes kept) run

-- a rename of a file whose bytes are held, after a run that keeps its new name
pub whole_renamed : (a b c : History) (from to : List ℕ) (file : ℕ) (bytes : List ℕ) → GoesOn a b (Keeps (present a) to) → (present b).names from ≡ Some file → HasOnly ((present b).files file) bytes → GoesOn b c (IsWithinRename from to (present b)) → GoesOn a c (KeepsOrIsWhole (present a) to file bytes)
whole_renamed a b c from to file bytes first named only second =
    let P : Folder → Type 0 = KeepsOrIsWhole (present a) to file bytes in
    let kept : Keeps (present a) to (present b) = GoesOn-present a b (Keeps (present a) to) (Keeps-same (present a) (present a) to refl) first in
    GoesOn-then a b c P (whole_kept a b to file bytes first)
    (GoesOn-weaken b c (IsWithinRename from to (present b)) P (λ f within. KeepsOrIsWhole-renamed (present a) (present b) f from to file bytes kept named only within) second)

-- a file that was made is new
pub new_made : (f g : Folder) (name : List ℕ) (file : ℕ) → IsMade name file f g → IsNew name file g
new_made f g name file made = record {
  named = made.names;
  alone = λ n other has. made.fresh n (subst (λ (r : List (Option ℕ)). Contains r (Some file)) (made.other_recent n other) has);
  empty = made.empty;
}

-- a sync of a file, and then a rename of its name: other names, and the new one
pub keeps_synced_rename : (a b c : History) (file : ℕ) (from to n : List ℕ) → n ≢ from → n ≢ to → Agrees (present a) → GoesOn a b (λ f. (f ≡ present a) ⊎ IsFileSynced file (present a) f) → GoesOn b c (IsWithinRename from to (present b)) → GoesOn a c (Keeps (present a) n)
keeps_synced_rename a b c file from to n other another agrees first second =
    GoesOn-keeps a b c n (keeps_file_sync a b file n agrees first) (keeps_rename b c from to n other another second)

pub whole_synced_rename : (a b c : History) (file : ℕ) (from to : List ℕ) → Agrees (present a) → (present a).names from ≡ Some file → GoesOn a b (λ f. (f ≡ present a) ⊎ IsFileSynced file (present a) f) → IsFileSynced file (present a) (present b) → GoesOn b c (IsWithinRename from to (present b)) → GoesOn a c (KeepsOrIsWhole (present a) to file ((present a).files file).now)
whole_synced_rename a b c file from to agrees named first synced second =
    whole_renamed a b c from to file ((present a).files file).now (keeps_file_sync a b file to agrees first) (synced.names from ∙ named)
    (HasOnly-synced ((present a).files file) ((present b).files file) synced.synced) second
