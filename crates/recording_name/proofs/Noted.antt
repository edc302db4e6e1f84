-- What an event that is noted does.
use Rattle.std.specs.Prelude.{◌≡◌, ◌⊎◌, ℕ, ◌+◌, ◌<◌, ◌≤◌, Bool, true, false, List, [], ◌∷◌, ◌++◌, length, take, Option, Some, Result, Ok, Err, IfOk, OnOk, OnErr, Contains, if◌then◌else◌, string_bytes, refl}
use Rattle.std.specs.Str.{bytes_eq}
use Rattle.std.proofs.Common.{sym, ap, ◌∙◌, subst, inl, inr, arith, get_or}
use Rattle.std.proofs.lemmas.List.Sums.{fold_more}
use Rattle.disk.specs.Contents.{Contents}
use Rattle.disk.specs.Contents as disk
use Rattle.recording_name.specs.Folder.{Folder, Agrees}
use Rattle.disk.specs.Moments.{GoesOn-same, GoesOn-weaken}
use Rattle.recording_name.specs.FolderHistory.{History, present, GoesOn}
use Rattle.recording_name.specs.KeptLaws.{first_or_rest, in_rest}
use Rattle.recording_name.specs.Memory.{empty_folder, after, state_of, history_of, given_of, IsBelow, syncs, with_name}
use Rattle.recording_name.specs.MemoryLaws.{present_of, state_push, GoesOn-event, Agrees-state_of}
use Rattle.recording_name.specs.declared.memory_folder.Event.{Event}
use Rattle.recording_name.specs.declared.memory_folder.Event.TheVariants.{Named, Made, Wrote, FileSynced, FolderSynced}

-- what stands after it
pub stands_noted : (old mid new : List Event) (e : Event) (R : Folder → Folder → Type 0) → mid ≡ old → R (state_of old) (after (state_of old) e) → new ≡ mid ++ e ∷ [] → R (present (history_of old)) (present (history_of new))
stands_noted old mid new e R same step noted =
    let there : present (history_of new) ≡ after (state_of old) e =
    present_of new ∙ ap state_of (noted ∙ ap (λ (events : List Event). events ++ e ∷ []) same) ∙ state_push old e in
    subst (λ (f : Folder). R f (present (history_of new))) (sym (present_of old)) (subst (R (state_of old)) (sym there) step)

-- the same, if it was noted
pub on_noted : {T E : Type 0} (r : Result T E) (old new : List Event) (e : Event) (R : Folder → Folder → Type 0) → R (state_of old) (after (state_of old) e) → OnOk r (new ≡ old ++ e ∷ []) → OnOk r (R (present (history_of old)) (present (history_of new)))
on_noted (Ok x) old new e R step noted = stands_noted old old new e R refl step noted
on_noted (Err x) old new e R step noted = tt

-- the moments until then, noted or not
pub goes_noted : {T E : Type 0} (r : Result T E) (old new : List Event) (e : Event) (R : Folder → Folder → Type 0) → R (state_of old) (after (state_of old) e) → OnOk r (new ≡ old ++ e ∷ []) → OnErr r (new ≡ old) → GoesOn (history_of old) (history_of new) (R (present (history_of old)))
goes_noted (Ok x) old new e R step noted same =
    let P : Folder → Type 0 = R (present (history_of old)) in
    let here : P (after (state_of old) e) = subst (λ (f : Folder). R f (after (state_of old) e)) (sym (present_of old)) step in
    subst (λ (events : List Event). GoesOn (history_of old) (history_of events) P) (sym noted) (GoesOn-event old e P here)
goes_noted (Err x) old new e R step noted same = GoesOn-same (history_of old) (history_of new) (R (present (history_of old))) (ap history_of same)

-- the same, as the rules of a folder have it
pub may_go : (a b : History) (P : Folder → Type 0) → GoesOn a b P → GoesOn a b (λ f. (f ≡ present a) ⊎ P f)
may_go a b P run = GoesOn-weaken a b P (λ f. (f ≡ present a) ⊎ P f) (λ f p. inr p) run

-- the same after a call that changes nothing
pub on_noted_after : {T E : Type 0} (r : Result T E) (old mid new : List Event) (e : Event) (R : Folder → Folder → Type 0) → mid ≡ old → R (state_of old) (after (state_of old) e) → OnOk r (new ≡ mid ++ e ∷ []) → OnOk r (R (present (history_of old)) (present (history_of new)))
on_noted_after r old mid new e R same step noted =
    on_noted r old new e R step (subst (λ (events : List Event). OnOk r (new ≡ events ++ e ∷ [])) same noted)

pub goes_noted_after : {T E : Type 0} (r : Result T E) (old mid new : List Event) (e : Event) (R : Folder → Folder → Type 0) → mid ≡ old → R (state_of old) (after (state_of old) e) → OnOk r (new ≡ mid ++ e ∷ []) → OnErr r (new ≡ mid) → GoesOn (history_of old) (history_of new) (λ f. (f ≡ present (history_of old)) ⊎ R (present (history_of old)) f)
goes_noted_after r old mid new e R same step noted unchanged =
    may_go (history_of old) (history_of new) (R (present (history_of old)))
    (goes_noted r old new e R step (subst (λ (events : List Event). OnOk r (new ≡ events ++ e ∷ [])) same noted) (subst (λ (events : List Event). OnErr r (new ≡ events)) same unchanged))

below_named : (f : Folder) (name : List ℕ) (file : Option ℕ) (files : ℕ → Contents) (n m : ℕ) → IsBelow n f → n ≤ m → ((k : ℕ) → file ≡ Some k → k < m) → IsBelow m (with_name name file files f)
below_named f name file files n m below more given other k = at (bytes_eq name other)
  where
    at : (b : Bool) → Contains (if b then file ∷ f.recent other else f.recent other) (Some k) → k < m
    at true has = elim (first_or_rest file (f.recent other) (Some k) has) [
      | inl this ↦ given k (sym this)
      | inr rest ↦ let less : k < n = below other k rest in omega arith
    ]
    at false has = let less : k < n = below other k has in omega arith

below_same : (f g : Folder) (n m : ℕ) → IsBelow n f → n ≤ m → ((name : List ℕ) (x : Option ℕ) → Contains (g.recent name) x → Contains (f.recent name) x) → IsBelow m g
below_same f g n m below more fewer name k has = let less : k < n = below name k (fewer name (Some k) has) in omega arith

below_after : (f : Folder) (e : Event) (n m : ℕ) → Agrees f → IsBelow n f → n ≤ m → ((k : ℕ) → given_of e ≡ Some k → k < m) → IsBelow m (after f e)
below_after f (Named name file) n m agrees below more given = below_named f (string_bytes name) file f.files n m below more given
below_after f (Made name file) n m agrees below more given = below_named f (string_bytes name) (Some file) (after f (Made name file)).files n m below more given
below_after f (Wrote file offset bytes) n m agrees below more given = below_same f (after f (Wrote file offset bytes)) n m below more (λ name x has. has)
below_after f (FileSynced file) n m agrees below more given = below_same f (after f (FileSynced file)) n m below more (λ name x has. has)
below_after f FolderSynced n m agrees below more given = below_same f (after f FolderSynced) n m below more (λ name x has.
    elim (first_or_rest (f.names name) [] x has) [
      | inl this ↦ subst (Contains (f.recent name)) (sym this) (agrees.names name)
      | inr rest ↦ absurd (omega (arith, rest.1))
    ])

-- one event more of those that are gone through
pub below_more : (events : List Event) (i : ℕ) (e : Event) (n m : ℕ) → i < length events → e ≡ get_or events i e → IsBelow n (state_of (take i events)) → n ≤ m → ((k : ℕ) → given_of e ≡ Some k → k < m) → IsBelow m (state_of (take (i + 1) events))
below_more events i e n m within is below more given =
    let next : state_of (take (i + 1) events) ≡ after (state_of (take i events)) e =
    fold_more after empty_folder events i e within ∙ ap (after (state_of (take i events))) (sym is) in
    subst (IsBelow m) (sym next) (below_after (state_of (take i events)) e n m (Agrees-state_of (take i events)) below more given)

recent_with : (n : List ℕ) (file : Option ℕ) (files : ℕ → Contents) (f : Folder) (name : List ℕ) (x : Option ℕ) → Contains (f.recent name) x → Contains ((with_name n file files f).recent name) x
recent_with n file files f name x has = at (bytes_eq n name)
  where
    at : (b : Bool) → Contains (if b then file ∷ f.recent name else f.recent name) x
    at true = in_rest file (f.recent name) x has
    at false = has

recent_after : (f : Folder) (e : Event) (name : List ℕ) (x : Option ℕ) → syncs e ≡ false → Contains (f.recent name) x → Contains ((after f e).recent name) x
recent_after f (Named n file) name x not has = recent_with (string_bytes n) file f.files f name x has
recent_after f (Made n file) name x not has = recent_with (string_bytes n) (Some file) (after f (Made n file)).files f name x has
recent_after f (Wrote file offset bytes) name x not has = has
recent_after f (FileSynced file) name x not has = has
recent_after f FolderSynced name x not has = cc

-- what a name has named is among the same still after one event more, if that doesn't sync the folder
pub recent_pushed : (before : List Event) (e : Event) (events : List Event) (name : List ℕ) (x : Option ℕ) → events ≡ before ++ e ∷ [] → syncs e ≡ false → Contains ((state_of before).recent name) x → Contains ((state_of events).recent name) x
recent_pushed before e events name x is not has =
    let next : state_of events ≡ after (state_of before) e = ap state_of is ∙ state_push before e in
    subst (λ (f : Folder). Contains (f.recent name) x) (sym next) (recent_after (state_of before) e name x not has)

-- what a name names is among what it has named
pub named_now : (events : List Event) (name : List ℕ) (x : Option ℕ) → x ≡ (state_of events).names name → Contains ((state_of events).recent name) x
named_now events name x is = subst (Contains ((state_of events).recent name)) (sym is) ((Agrees-state_of events).names name)
