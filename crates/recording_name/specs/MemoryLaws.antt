-- What follows of a folder in memory: what its calls have to show.
use Rattle.std.specs.Prelude.{◌≡◌, ◌≢◌, ◌⊎◌, ◌==◌, ◌||◌, ℕ, ◌+◌, ◌<◌, ◌≤◌, min, max, Bool, true, false, List, [], ◌∷◌, ◌++◌, length, take, fold, Option, Some, None, Contains, if◌then◌else◌, string_bytes, refl}
use Rattle.std.proofs.Common.{sym, ap, ◌∙◌, subst, arith, inl, inr, length-append}
use Rattle.std.proofs.lemmas.Bool.{eq-eqb, ne_eqb, cases_lt}
use Rattle.std.proofs.lemmas.List.{take_all, take-append-le, drop_all}
use Rattle.std.proofs.lemmas.List.Sums.{fold_push}
use Rattle.std.proofs.lemmas.Slice.Eq.{bytes_eq-Decides}
use Rattle.std.specs.Str.{bytes_eq}
use Rattle.disk.specs.Contents.{Contents, IsSynced, put, is_between}
use Rattle.disk.specs.ContentsLaws.{not_between}
use Rattle.disk.specs.Put.{length-put, put_elsewhere}
use Rattle.disk.specs.Contents as disk
use Rattle.recording_name.specs.Folder.{Folder, Agrees, IsNamed, IsMade, IsMoved, IsFileSynced, IsFolderSynced, empty_file}
use Rattle.recording_name.specs.FolderHistory.{present, GoesOn}
use Rattle.recording_name.specs.Kept.{WritesOnly}
use Rattle.recording_name.specs.KeptLaws.{has_first}
use Rattle.recording_name.specs.Memory.{empty_folder, written, held_whole, with_name, with_file, after, state_of, history_of}
use Rattle.recording_name.specs.declared.memory_folder.Event.{Event}
use Rattle.recording_name.specs.declared.memory_folder.Event.TheVariants.{Named, Made, Wrote, FileSynced, FolderSynced}

pub present_of : (events : List Event) → present (history_of events) ≡ state_of events
unfolding history_of
present_of events = ap state_of (take_all (length events) events (omega arith))

pub state_push : (events : List Event) (e : Event) → state_of (events ++ e ∷ []) ≡ after (state_of events) e
state_push events e = fold_push after empty_folder events e

-- one event more
pub GoesOn-event : (events : List Event) (e : Event) (P : Folder → Type 0) → P (after (state_of events) e) → GoesOn (history_of events) (history_of (events ++ e ∷ [])) P
unfolding history_of
GoesOn-event events e P now =
    let longer : length (events ++ e ∷ []) ≡ length events + 1 = length-append events (e ∷ []) in
    record {
      later = omega arith;
      kept = λ m l. ap state_of (take-append-le m events (e ∷ []) l);
      each = λ m from to.
          let all : take m (events ++ e ∷ []) ≡ events ++ e ∷ [] = take_all m (events ++ e ∷ []) (omega arith) in
          subst P (sym (ap state_of all ∙ state_push events e)) now;
    }

untrue : (b : Bool) → (b ≡ true → ⊥) → b ≡ false
untrue true h = absurd (h refl)
untrue false h = refl

same_name : (name : List ℕ) → bytes_eq name name ≡ true
same_name name = (bytes_eq-Decides name name).1 refl

other_name : (name n : List ℕ) → n ≢ name → bytes_eq name n ≡ false
other_name name n other = untrue (bytes_eq name n) (λ is. other (sym ((bytes_eq-Decides name n).0 is)))

pub this_file : (file : ℕ) (c : Contents) (f : Folder) → with_file file c f file ≡ c
this_file file c f = ap (λ (b : Bool). if b then c else f.files file) (eq-eqb file file refl)

other_file : (file : ℕ) (c : Contents) (f : Folder) (i : ℕ) → i ≢ file → with_file file c f i ≡ f.files i
other_file file c f i other = ap (λ (b : Bool). if b then c else f.files i) (ne_eqb i file other)

names_this : (name : List ℕ) (file : Option ℕ) (files : ℕ → Contents) (f : Folder) → (with_name name file files f).names name ≡ file
names_this name file files f = ap (λ (b : Bool). if b then file else f.names name) (same_name name)

recent_this : (name : List ℕ) (file : Option ℕ) (files : ℕ → Contents) (f : Folder) → (with_name name file files f).recent name ≡ file ∷ f.recent name
recent_this name file files f = ap (λ (b : Bool). if b then file ∷ f.recent name else f.recent name) (same_name name)

names_other : (name : List ℕ) (file : Option ℕ) (files : ℕ → Contents) (f : Folder) (n : List ℕ) → n ≢ name → (with_name name file files f).names n ≡ f.names n
names_other name file files f n other = ap (λ (b : Bool). if b then file else f.names n) (other_name name n other)

recent_other : (name : List ℕ) (file : Option ℕ) (files : ℕ → Contents) (f : Folder) (n : List ℕ) → n ≢ name → (with_name name file files f).recent n ≡ f.recent n
recent_other name file files f n other = ap (λ (b : Bool). if b then file ∷ f.recent n else f.recent n) (other_name name n other)

pub IsNamed-with : (name : List ℕ) (file : Option ℕ) (f : Folder) → IsNamed name file f (with_name name file f.files f)
IsNamed-with name file f = record {
  names = names_this name file f.files f;
  recent = recent_this name file f.files f;
  other_names = names_other name file f.files f;
  other_recent = recent_other name file f.files f;
  files = λ i. refl;
}

pub IsMade-with : (name : List ℕ) (file : ℕ) (f : Folder) → f.names name ≡ None → ((n : List ℕ) → Contains (f.recent n) (Some file) → ⊥) → IsMade name file f (with_name name (Some file) (with_file file empty_file f) f)
IsMade-with name file f free fresh = record {
  free = free;
  fresh = fresh;
  names = names_this name (Some file) (with_file file empty_file f) f;
  recent = recent_this name (Some file) (with_file file empty_file f) f;
  other_names = names_other name (Some file) (with_file file empty_file f) f;
  other_recent = recent_other name (Some file) (with_file file empty_file f) f;
  empty = this_file file empty_file f;
  other_files = other_file file empty_file f;
}

IsSynced-whole : (c : Contents) → IsSynced c (held_whole c)
IsSynced-whole c = record { now = refl; held = refl; untouched = λ p. refl }

pub IsFileSynced-after : (f : Folder) (file : ℕ) → IsFileSynced file f (after f (FileSynced file))
IsFileSynced-after f file = record {
  names = λ n. refl;
  recent = λ n. refl;
  synced = subst (IsSynced (f.files file)) (sym (this_file file (held_whole (f.files file)) f)) (IsSynced-whole (f.files file));
  other_files = other_file file (held_whole (f.files file)) f;
}

pub IsFolderSynced-after : (f : Folder) → IsFolderSynced f (after f FolderSynced)
IsFolderSynced-after f = record { names = λ n. refl; recent = λ n. refl; files = λ i. refl }

pub WritesOnly-after : (f : Folder) (file : ℕ) (c : Contents) → WritesOnly file f (record { names = f.names; recent = f.recent; files = with_file file c f })
WritesOnly-after f file c = record { names = λ n. refl; recent = λ n. refl; other_files = other_file file c f }

-- A rename is two events: the new name names the file, and then the old one nothing.
pub IsMoved-named : (f g h : Folder) (from to : List ℕ) (file : ℕ) → f.names from ≡ Some file → f.names to ≢ Some file → IsNamed to (Some file) f g → IsNamed from None g h → IsMoved from to f h
IsMoved-named f g h from to file named other first second =
    let differ : to ≢ from = λ same. other (ap f.names same ∙ named) in
    record {
      there = second.other_names to differ ∙ first.names ∙ sym named;
      recent_there = second.other_recent to differ ∙ first.recent ∙ ap (λ (x : Option ℕ). x ∷ f.recent to) (sym named);
      gone = second.names;
      recent_gone = second.recent ∙ ap (λ (r : List (Option ℕ)). None ∷ r) (first.other_recent from (λ same. differ (sym same)));
      other_names = λ n a b. second.other_names n a ∙ first.other_names n b;
      other_recent = λ n a b. second.other_recent n a ∙ first.other_recent n b;
      files = λ i. second.files i ∙ first.files i;
    }

-- what names name is among what they have named, and what reads give is a file that a crash may leave
agrees_named : (name : List ℕ) (file : Option ℕ) (files : ℕ → Contents) (f : Folder) → Agrees f → ((i : ℕ) → disk.Agrees (files i)) → Agrees (with_name name file files f)
agrees_named name file files f agrees more = record {
  names = λ n. at n (bytes_eq name n);
  files = more;
}
  where
    at : (n : List ℕ) (b : Bool) → Contains (if b then file ∷ f.recent n else f.recent n) (if b then file else f.names n)
    at n true = has_first file (f.recent n)
    at n false = agrees.names n

agrees_empty : disk.Agrees empty_file
agrees_empty = record { no_shorter = omega arith; no_longer = omega arith; untouched = λ p l e. refl }

agrees_whole : (c : Contents) → disk.Agrees (held_whole c)
agrees_whole c = record { no_shorter = omega arith; no_longer = omega arith; untouched = λ p l e. refl }

or_false : (a b : Bool) → (a || b) ≡ false → (a ≡ false) × (b ≡ false)
or_false true b e = cc
or_false false b e = (refl, e)

-- An offset after a file's end is its end.
pub put_at_end : (file bytes : List ℕ) (offset : ℕ) → put file offset bytes ≡ put file (min offset (length file)) bytes
put_at_end file bytes offset = elim (cases_lt (length file) offset) [
  | inl past ↦
      let at : min offset (length file) ≡ length file = omega arith in
      rw (at, take_all offset file (omega arith), take_all (length file) file (omega arith), drop_all (offset + length bytes) file (omega arith), drop_all (length file + length bytes) file (omega arith)) refl
  | inr within ↦
      let at : min offset (length file) ≡ offset = omega arith in
      rw at refl
]

-- What is left before a write may be left after it.
pub left_unwritten : (c : Contents) (offset : ℕ) (bytes left : List ℕ) → disk.MayLeave c left → disk.MayLeave (written offset bytes c) left
left_unwritten c offset bytes left may =
    let longer : length (put c.now offset bytes) ≡ max (length c.now) (min offset (length c.now) + length bytes) =
    ap length (put_at_end c.now bytes offset) ∙ length-put c.now bytes (min offset (length c.now)) (omega arith) in
    record {
      no_shorter = may.no_shorter;
      no_longer = omega (arith, may.no_longer);
      untouched = λ p l e. may.untouched p l ((or_false (c.touched p) _ e).0);
    }

-- A part of what is left that a write doesn't reach is as it was, and what it reaches may be anything.
pub left_written : (c : Contents) (offset start : ℕ) (bytes left : List ℕ) → disk.MayLeave c left → start ≡ min offset (length c.now) → start ≤ length left → disk.MayLeave (written offset bytes c) (put left start bytes)
left_written c offset start bytes left may is within =
    let whole : length (put left start bytes) ≡ max (length left) (start + length bytes) = length-put left bytes start within in
    let longer : length (put c.now offset bytes) ≡ max (length c.now) (min offset (length c.now) + length bytes) =
    ap length (put_at_end c.now bytes offset) ∙ length-put c.now bytes (min offset (length c.now)) (omega arith) in
    record {
      no_shorter = omega (arith, may.no_shorter);
      no_longer = omega (arith, may.no_longer);
      untouched = λ p l e.
          let shorter : p < length left = omega (arith, may.no_shorter) in
          put_elsewhere left bytes start p shorter (outside p l e) ∙ may.untouched p l ((or_false (c.touched p) _ e).0);
    }
  where
    outside : (p : ℕ) → p < length c.held → (c.touched p || is_between offset (length bytes) p) ≡ false → (p < start) ⊎ (start + length bytes ≤ p)
    outside p l e =
        let held : length c.held ≤ length c.now = omega (arith, may.no_shorter, may.no_longer) in
        elim (not_between offset (length bytes) p ((or_false (c.touched p) _ e).1)) [
          | inl before ↦ inl (omega arith)
          | inr past ↦ elim (cases_lt p start) [
            | inl before ↦ inl before
            | inr from ↦ inr (omega arith)
          ]
        ]

agrees_written : (offset : ℕ) (bytes : List ℕ) (c : Contents) → disk.Agrees c → disk.Agrees (written offset bytes c)
agrees_written offset bytes c agrees =
    subst (disk.MayLeave (written offset bytes c)) (sym (put_at_end c.now bytes offset))
    (left_written c offset (min offset (length c.now)) bytes c.now agrees refl (omega arith))

agrees_with_file : (file : ℕ) (c : Contents) (f : Folder) → Agrees f → disk.Agrees c → (i : ℕ) → disk.Agrees (with_file file c f i)
agrees_with_file file c f agrees one i = at (i == file)
  where
    at : (b : Bool) → disk.Agrees (if b then c else f.files i)
    at true = one
    at false = agrees.files i

agrees_after : (f : Folder) (e : Event) → Agrees f → Agrees (after f e)
agrees_after f (Named name file) agrees = agrees_named (string_bytes name) file f.files f agrees agrees.files
agrees_after f (Made name file) agrees = agrees_named (string_bytes name) (Some file) (with_file file empty_file f) f agrees (agrees_with_file file empty_file f agrees agrees_empty)
agrees_after f (Wrote file offset bytes) agrees = record { names = agrees.names; files = agrees_with_file file (written offset bytes.items (f.files file)) f agrees (agrees_written offset bytes.items (f.files file) (agrees.files file)) }
agrees_after f (FileSynced file) agrees = record { names = agrees.names; files = agrees_with_file file (held_whole (f.files file)) f agrees (agrees_whole (f.files file)) }
agrees_after f FolderSynced agrees = record { names = λ n. has_first (f.names n) []; files = agrees.files }

agrees_fold : (events : List Event) (f : Folder) → Agrees f → Agrees (fold after f events)
agrees_fold [] f agrees = agrees
agrees_fold (e ∷ events) f agrees = agrees_fold events (after f e) (agrees_after f e agrees)

pub Agrees-state_of : (events : List Event) → Agrees (state_of events)
Agrees-state_of events = agrees_fold events empty_folder (record { names = λ n. has_first None []; files = λ i. agrees_empty })

pub Agrees-history_of : (events : List Event) → Agrees (present (history_of events))
Agrees-history_of events = subst Agrees (sym (present_of events)) (Agrees-state_of events)
