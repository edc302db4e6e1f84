-- What follows of the calls for what a crash leaves at a name.
use Rattle.std.specs.Prelude.{◌≡◌, ◌≢◌, ◌⊎◌, ℕ, List, [], ◌∷◌, Option, Some, Contains, refl, slice_index_or}
use Rattle.std.proofs.Common.{sym, ap, ◌∙◌, subst, inl, inr, arith}
use Rattle.std.proofs.lemmas.List.Elements.{Contains-append_cases, Contains-append_left, Contains-append_right}
use Rattle.std.proofs.lemmas.Bool.{cases_lt}
use Rattle.disk.specs.Contents.{Contents, IsSynced, IsOnDisk}
use Rattle.disk.specs.Contents as disk
use Rattle.disk.specs.ContentsLaws.{now-left, IsOnDisk-synced}
use Rattle.recording_name.specs.Folder.{Folder, Agrees, IsNamed, IsMade, IsMoved, IsWithinRename, IsRenamed, IsFileSynced, IsFolderSynced}
use Rattle.disk.specs.Moments.{GoesOn-then, GoesOn-weaken, GoesOn-present}
use Rattle.recording_name.specs.FolderHistory.{History, present, GoesOn}
use Rattle.recording_name.specs.Kept.{Keeps, HasOnly, KeepsOrIsWhole, IsSettled}

only_one : {X : Type 0} (y x : X) → Contains (y ∷ []) x → x ≡ y
only_one y x has =
    let zero : has.0 ≡ 0 = omega (arith, has.1) in
    let P : ℕ → Type 0 = λ k. slice_index_or (y ∷ []) k x ≡ x in
    let here : y ≡ x = subst P zero has.2 in
    sym here

-- the first of a list, or one of the rest
pub first_or_rest : {X : Type 0} (y : X) (ys : List X) (x : X) → Contains (y ∷ ys) x → (x ≡ y) ⊎ Contains ys x
first_or_rest y ys x has = elim (Contains-append_cases (y ∷ []) ys x has) [
  | inl here ↦ inl (only_one y x here)
  | inr there ↦ inr there
]

pub has_first : {X : Type 0} (y : X) (ys : List X) → Contains (y ∷ ys) y
has_first y ys = Contains-append_left (y ∷ []) ys y (0, omega arith, refl)

pub in_rest : {X : Type 0} (y : X) (ys : List X) (x : X) → Contains ys x → Contains (y ∷ ys) x
in_rest y ys x has = Contains-append_right (y ∷ []) ys x has

-- Nothing is changed at a name if what it has named is the same, and the bytes of its files.
keeps_by : (f g : Folder) (n : List ℕ) → g.recent n ≡ f.recent n → ((i : ℕ) → Contains (f.recent n) (Some i) → g.files i ≡ f.files i) → Keeps f n g
keeps_by f g n same files = record {
  names = λ x has. subst (λ (r : List (Option ℕ)). Contains r x) same has;
  bytes = λ i bytes has left.
      let named : Contains (f.recent n) (Some i) = subst (λ (r : List (Option ℕ)). Contains r (Some i)) same has in
      subst (λ (c : Contents). disk.MayLeave c bytes) (files i named) left;
}

pub Keeps-same : (f g : Folder) (n : List ℕ) → g ≡ f → Keeps f n g
Keeps-same f g n same = keeps_by f g n (ap (λ (h : Folder). h.recent n) same) (λ i has. ap (λ (h : Folder). h.files i) same)

pub Keeps-then : (f g h : Folder) (n : List ℕ) → Keeps f n g → Keeps g n h → Keeps f n h
Keeps-then f g h n first second = record {
  names = λ x has. first.names x (second.names x has);
  bytes = λ i bytes has left. first.bytes i bytes (second.names (Some i) has) (second.bytes i bytes has left);
}

-- What is done to another name keeps this one.
pub Keeps-named : (f g : Folder) (name n : List ℕ) (file : Option ℕ) → n ≢ name → IsNamed name file f g → Keeps f n g
Keeps-named f g name n file other named = keeps_by f g n (named.other_recent n other) (λ i has. named.files i)

pub Keeps-made : (f g : Folder) (name n : List ℕ) (file : ℕ) → n ≢ name → IsMade name file f g → Keeps f n g
Keeps-made f g name n file other made = keeps_by f g n (made.other_recent n other) (λ i has.
    made.other_files i (λ same. made.fresh n (subst (λ (k : ℕ). Contains (f.recent n) (Some k)) same has)))

pub Keeps-moved : (f g : Folder) (from to n : List ℕ) → n ≢ from → n ≢ to → IsMoved from to f g → Keeps f n g
Keeps-moved f g from to n other another moved = keeps_by f g n (moved.other_recent n other another) (λ i has. moved.files i)

pub Keeps-renamed : (f g : Folder) (from to n : List ℕ) → n ≢ from → n ≢ to → IsWithinRename from to f g → Keeps f n g
Keeps-renamed f g from to n other another within = elim within [
  | inl same ↦ Keeps-same f g n same
  | inr begun ↦ elim begun [
    | inl named ↦ Keeps-named f g to n (f.names from) another named
    | inr moved ↦ Keeps-moved f g from to n other another moved
  ]
]

-- After a sync a crash leaves what reads gave.
pub HasOnly-synced : (old new : Contents) → IsSynced old new → HasOnly new old.now
HasOnly-synced old new synced left may = now-left new left (IsOnDisk-synced old new synced) may ∙ synced.now

fewer_left : (old new : Contents) (bytes : List ℕ) → disk.Agrees old → IsSynced old new → disk.MayLeave new bytes → disk.MayLeave old bytes
fewer_left old new bytes agrees synced may =
    subst (disk.MayLeave old) (sym (HasOnly-synced old new synced bytes may)) agrees

-- which file it is of two
one_or_other : (i j : ℕ) → (i ≡ j) ⊎ (i ≢ j)
one_or_other i j = elim (cases_lt i j) [
  | inl below ↦ inr (λ same. omega arith)
  | inr from ↦ elim (cases_lt j i) [
    | inl above ↦ inr (λ same. omega arith)
    | inr to ↦ inl (omega arith)
  ]
]

-- A sync of a file keeps every name.
pub Keeps-file_synced : (f g : Folder) (file : ℕ) (n : List ℕ) → Agrees f → IsFileSynced file f g → Keeps f n g
Keeps-file_synced f g file n agrees synced = record {
  names = λ x has. subst (λ (r : List (Option ℕ)). Contains r x) (synced.recent n) has;
  bytes = λ i bytes has left. elim (one_or_other i file) [
    | inl same ↦
        let P : ℕ → Type 0 = λ k. disk.MayLeave (g.files k) bytes → disk.MayLeave (f.files k) bytes in
        subst P (sym same) (fewer_left (f.files file) (g.files file) bytes (agrees.files file) synced.synced) left
    | inr other ↦ subst (λ (c : Contents). disk.MayLeave c bytes) (synced.other_files i other) left
  ];
}

-- A sync of the folder keeps every name.
pub Keeps-folder_synced : (f g : Folder) (n : List ℕ) → Agrees f → IsFolderSynced f g → Keeps f n g
Keeps-folder_synced f g n agrees synced = record {
  names = λ x has.
      let now : x ≡ f.names n = only_one (f.names n) x (subst (λ (r : List (Option ℕ)). Contains r x) (synced.recent n) has) in
      subst (Contains (f.recent n)) (sym now) (agrees.names n);
  bytes = λ i bytes has left. subst (λ (c : Contents). disk.MayLeave c bytes) (synced.files i) left;
}

-- runs of calls, each of which keeps a name
pub GoesOn-keeps : (a b c : History) (n : List ℕ) → GoesOn a b (Keeps (present a) n) → GoesOn b c (Keeps (present b) n) → GoesOn a c (Keeps (present a) n)
GoesOn-keeps a b c n first second =
    let kept : Keeps (present a) n (present b) = GoesOn-present a b (Keeps (present a) n) (Keeps-same (present a) (present a) n refl) first in
    GoesOn-then a b c (Keeps (present a) n) first
    (GoesOn-weaken b c (Keeps (present b) n) (Keeps (present a) n) (λ f more. Keeps-then (present a) (present b) f n kept more) second)

-- what keeps a name, and what follows: as it was, or whole
pub KeepsOrIsWhole-kept : (f g : Folder) (name : List ℕ) (file : ℕ) (bytes : List ℕ) → Keeps f name g → KeepsOrIsWhole f name file bytes g
KeepsOrIsWhole-kept f g name file bytes kept x has = inl (record {
  names = kept.names x has;
  bytes = λ i b is left. kept.bytes i b (subst (Contains (g.recent name)) is has) left;
})

pub KeepsOrIsWhole-then : (f g h : Folder) (name : List ℕ) (file : ℕ) (bytes : List ℕ) → KeepsOrIsWhole f name file bytes g → Keeps g name h → KeepsOrIsWhole f name file bytes h
KeepsOrIsWhole-then f g h name file bytes first second x has = elim (first x (second.names x has)) [
  | inl kept ↦ inl (record {
    names = kept.names;
    bytes = λ i b is left. kept.bytes i b is (second.bytes i b (subst (Contains (h.recent name)) is has) left);
  })
  | inr whole ↦ inr (whole.0, λ left may. whole.1 left (second.bytes file left (subst (Contains (h.recent name)) whole.0 has) may))
]

-- this name names a whole file now, and what it named before is kept
named_whole : (f g h : Folder) (name : List ℕ) (file : ℕ) (bytes : List ℕ) → Keeps f name g → HasOnly (g.files file) bytes → h.recent name ≡ Some file ∷ g.recent name → ((i : ℕ) → h.files i ≡ g.files i) → KeepsOrIsWhole f name file bytes h
named_whole f g h name file bytes kept only recent files x has =
    elim (first_or_rest (Some file) (g.recent name) x (subst (λ (r : List (Option ℕ)). Contains r x) recent has)) [
      | inl this ↦ inr (this, λ left may. only left (subst (λ (c : Contents). disk.MayLeave c left) (files file) may))
      | inr before ↦ inl (record {
        names = kept.names x before;
        bytes = λ i b is left. kept.bytes i b (subst (Contains (g.recent name)) is before) (subst (λ (c : Contents). disk.MayLeave c b) (files i) left);
      })
    ]

-- A rename of a file whose bytes are held leaves at the new name what was there, or the whole file.
pub KeepsOrIsWhole-renamed : (f g h : Folder) (from to : List ℕ) (file : ℕ) (bytes : List ℕ) → Keeps f to g → g.names from ≡ Some file → HasOnly (g.files file) bytes → IsWithinRename from to g h → KeepsOrIsWhole f to file bytes h
KeepsOrIsWhole-renamed f g h from to file bytes kept named only within = elim within [
  | inl same ↦ KeepsOrIsWhole-kept f h to file bytes (Keeps-then f g h to kept (Keeps-same g h to same))
  | inr begun ↦ elim begun [
    | inl there ↦ named_whole f g h to file bytes kept only (there.recent ∙ ap (λ (x : Option ℕ). x ∷ g.recent to) named) there.files
    | inr moved ↦ named_whole f g h to file bytes kept only (moved.recent_there ∙ ap (λ (x : Option ℕ). x ∷ g.recent to) named) moved.files
  ]
]

-- After a rename that succeeded the new name names the file.
pub names-renamed : (g h : Folder) (from to : List ℕ) (file : ℕ) → g.names from ≡ Some file → IsRenamed from to g h → h.names to ≡ Some file
names-renamed g h from to file named renamed = elim renamed [
  | inl moved ↦ moved.there ∙ named
  | inr nothing ↦ ap (λ (k : Folder). k.names to) nothing.0 ∙ nothing.1 ∙ named
]

-- and each of its files is as it was
pub files-renamed : (g h : Folder) (from to : List ℕ) (i : ℕ) → IsRenamed from to g h → h.files i ≡ g.files i
files-renamed g h from to i renamed = elim renamed [
  | inl moved ↦ moved.files i
  | inr nothing ↦ ap (λ (k : Folder). k.files i) nothing.0
]

-- after a sync of the folder a crash leaves each name naming what it names
pub IsSettled-synced : (f g : Folder) (name : List ℕ) (file : ℕ) → f.names name ≡ Some file → IsFolderSynced f g → IsSettled name file g
IsSettled-synced f g name file named synced x has =
    only_one (f.names name) x (subst (λ (r : List (Option ℕ)). Contains r x) (synced.recent name) has) ∙ named
