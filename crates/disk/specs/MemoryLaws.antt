-- What follows from a memory disk's definitions: what an impl of Disk has to show.
use Rattle.std.specs.Prelude.{◌≡◌, ◌⊎◌, ◌||◌, ℕ, ◌+◌, ◌-◌, ◌<◌, ◌≤◌, suc, min, max, Bool, true, false, List, [], ◌∷◌, length, take, drop, slice_index, refl}
use Rattle.std.proofs.Common.{arith, sym, ap, ◌∙◌, subst, inl, inr, length-drop}
use Rattle.std.proofs.lemmas.List.{length-take, get_or-take, get_or-drop, ext_get_or, take-take}
use Rattle.std.proofs.lemmas.Bool.{cases_lt}
use Rattle.disk.specs.Overwrite.{Overwrite}
use Rattle.disk.specs.Contents.{Contents, MayLeave, Agrees, IsOnDisk, IsWritten, IsWithinWrite, IsSynced, put, is_between}
use Rattle.disk.specs.Put.{length-put, put_before, put_within, put_after, put_elsewhere}
use Rattle.disk.specs.ContentsLaws.{not_between, IsWithinWrite-written}
use Rattle.disk.specs.History.{present, GoesOn}
use Rattle.disk.specs.Memory.{IsTakenBack, Kept, noted_write, before_write, before_event, held_of, is_touched, contents_of, contents_before, moments_of, history_of}
use Rattle.disk.specs.declared.memory.Event.{Event}
use Rattle.disk.specs.declared.memory.Event.TheVariants.{Wrote, Synced}

pub length-before_write : (w : Overwrite) (file : List ℕ) → length (before_write w file) ≤ length file
unfolding before_write
length-before_write w file = omega (arith, length-take (min w.length_before (length file)) (put file w.offset (take w.count w.replaced)))

pub before_write_elsewhere : (w : Overwrite) (file : List ℕ) (p : ℕ) → p < length (before_write w file) → is_between w.offset w.count p ≡ false → slice_index (before_write w file) p ≡ slice_index file p
unfolding before_write
before_write_elsewhere w file p l e =
    let old : List ℕ = put file w.offset (take w.count w.replaced) in
    let below : p < min w.length_before (length file) = omega (arith, length-take (min w.length_before (length file)) old) in
    let outside : (p < w.offset) ⊎ (w.offset + length (take w.count w.replaced) ≤ p) =
    elim (not_between w.offset w.count p e) [ inl h ↦ inl h | inr h ↦ inr (omega (arith, length-take w.count w.replaced)) ] in
    get_or-take (min w.length_before (length file)) old p 0 below
    ∙ put_elsewhere file (take w.count w.replaced) w.offset p (omega arith) outside

or_false : (a b : Bool) → (a || b) ≡ false → (a ≡ false) × (b ≡ false)
or_false true b e = cc
or_false false b e = (refl, e)

-- What reads give is one of the files that a crash may leave, whatever was noted.
pub Agrees-contents_of : (file : List ℕ) (events : List Event) → Agrees (contents_of file events)
Agrees-contents_of file [] = record { no_shorter = omega arith; no_longer = omega arith; untouched = λ p l e. refl }
Agrees-contents_of file (Synced ∷ earlier) = record { no_shorter = omega arith; no_longer = omega arith; untouched = λ p l e. refl }
Agrees-contents_of file (Wrote w ∷ earlier) =
    let before = Agrees-contents_of (before_write w file) earlier in
    record {
      no_shorter = omega (arith, before.no_shorter, length-before_write w file);
      no_longer = omega arith;
      untouched = λ p l e.
          let neither = or_false (is_touched earlier p) (is_between w.offset w.count p) e in
          sym (before_write_elsewhere w file p (omega (arith, before.no_shorter)) neither.1) ∙ before.untouched p l neither.0;
    }

pub present_of : (file : List ℕ) (events : List Event) → present (moments_of file events) ≡ contents_of file events
unfolding moments_of
present_of file events =
    let none : length events - length events ≡ 0 = omega arith in
    ap (λ (n : ℕ). contents_before n file events) none

pub IsOnDisk-made : (file : List ℕ) → IsOnDisk (present (moments_of file []))
IsOnDisk-made file = subst IsOnDisk (sym (present_of file [])) (record { held = refl; untouched = λ p l. refl })

pub Agrees-moments_of : (file : List ℕ) (events : List Event) → Agrees (present (moments_of file events))
Agrees-moments_of file events = subst Agrees (sym (present_of file events)) (Agrees-contents_of file events)

-- one event more
pub GoesOn-event : (file : List ℕ) (event : Event) (earlier : List Event) (P : Contents → Type 0) → P (contents_of file (event ∷ earlier)) → GoesOn (moments_of (before_event event file) earlier) (moments_of file (event ∷ earlier)) P
unfolding moments_of
GoesOn-event file event earlier P now = record {
  later = omega arith;
  kept = λ m l.
      let one_more : length (event ∷ earlier) - m ≡ suc (length earlier - m) = omega arith in
      ap (λ (n : ℕ). contents_before n file (event ∷ earlier)) one_more;
  each = λ m after to.
      let none : 0 ≡ length (event ∷ earlier) - m = omega arith in
      subst (λ (n : ℕ). P (contents_before n file (event ∷ earlier))) none now;
}

-- the same, for a disk before and after
pub GoesOn-noted : (old new : Kept) (event : Event) (P : Contents → Type 0) → new.events ≡ event ∷ old.events → before_event event new.bytes ≡ old.bytes → P (contents_of new.bytes (event ∷ old.events)) → GoesOn (history_of old) (history_of new) P
GoesOn-noted old new event P noted undone now =
    let F : List Event → Type 0 = λ events. GoesOn (history_of old) (moments_of new.bytes events) P in
    let G : List ℕ → Type 0 = λ file. GoesOn (moments_of file old.events) (moments_of new.bytes (event ∷ old.events)) P in
    subst F (sym noted) (subst G undone (GoesOn-event new.bytes event old.events P now))

-- the bytes that a write replaced, put back
put_back : (file bytes : List ℕ) (offset p : ℕ) → offset ≤ length file → p < length file → slice_index (put (put file offset bytes) offset (take (length bytes) (drop offset file))) p ≡ slice_index file p
put_back file bytes offset p h l =
    let new : List ℕ = put file offset bytes in
    let new_length : length new ≡ max (length file) (offset + length bytes) = length-put file bytes offset h in
    let replaced : List ℕ = take (length bytes) (drop offset file) in
    let replaced_length : length replaced ≡ min (length bytes) (length file - offset) = simp (length-take, length-drop) refl in
    elim (cases_lt p offset) [
      | inl before ↦ put_before new replaced offset p (omega arith) before ∙ put_before file bytes offset p l before
      | inr from ↦ elim (cases_lt p (offset + length replaced)) [
        | inl to ↦
            let at : offset + (p - offset) ≡ p = omega arith in
            put_within new replaced offset p (omega arith) from to
            ∙ get_or-take (length bytes) (drop offset file) (p - offset) 0 (omega arith)
            ∙ get_or-drop offset file (p - offset) 0
            ∙ ap (λ (k : ℕ). slice_index file k) at
        | inr following ↦
            put_after new replaced offset p (omega arith) following
            ∙ put_after file bytes offset p h (omega arith)
      ]
    ]

-- what undoing a write gives back
pub before_write-put : (file bytes : List ℕ) (offset : ℕ) → offset ≤ length file → before_write (noted_write offset bytes file) (put file offset bytes) ≡ file
unfolding before_write
before_write-put file bytes offset h =
    let new : List ℕ = put file offset bytes in
    let replaced : List ℕ = take (length bytes) (drop offset file) in
    let once : take (length bytes) replaced ≡ replaced = take-take (length bytes) (length bytes) (drop offset file) (omega arith) in
    let new_length : length new ≡ max (length file) (offset + length bytes) = length-put file bytes offset h in
    let whole : length (put new offset replaced) ≡ max (length new) (offset + length replaced) = length-put new replaced offset (omega arith) in
    let cut : length (take (min (length file) (length new)) (put new offset replaced)) ≡ length file =
    omega (arith, length-take (min (length file) (length new)) (put new offset replaced)) in
    rw once (ext_get_or 0 (take (min (length file) (length new)) (put new offset replaced)) file cut (λ p l.
    get_or-take (min (length file) (length new)) (put new offset replaced) p 0 (omega arith)
    ∙ put_back file bytes offset p h (omega arith)))

-- after a whole write that was noted
pub IsWritten-noted : (file bytes : List ℕ) (offset : ℕ) (earlier : List Event) → offset ≤ length file → IsWritten offset bytes (contents_of file earlier) (contents_of (put file offset bytes) (Wrote (noted_write offset bytes file) ∷ earlier))
IsWritten-noted file bytes offset earlier h = record {
  now = refl;
  held = ap (λ (before : List ℕ). held_of before earlier) (before_write-put file bytes offset h);
  touched = λ p. refl;
}

-- what a write does, with its note, to the moments
pub record NotesWrite (offset : ℕ) (bytes : List ℕ) (old new : Kept) : Type 0 where
  pub written : IsWritten offset bytes (present (history_of old)) (present (history_of new))
  pub goes_on : GoesOn (history_of old) (history_of new) (IsWithinWrite offset (length bytes) (present (history_of old)))

pub NotesWrite-noted : (offset : ℕ) (bytes : List ℕ) (old new : Kept) → offset ≤ length old.bytes → new.bytes ≡ put old.bytes offset bytes → new.events ≡ Wrote (noted_write offset bytes old.bytes) ∷ old.events → NotesWrite offset bytes old new
NotesWrite-noted offset bytes old new h file events =
    let w : Overwrite = noted_write offset bytes old.bytes in
    let before : Contents = contents_of old.bytes old.events in
    let noted : IsWritten offset bytes before (contents_of new.bytes (Wrote w ∷ old.events)) =
    rw file (IsWritten-noted old.bytes bytes offset old.events h) in
    let undone : before_write w new.bytes ≡ old.bytes = rw file (before_write-put old.bytes bytes offset h) in
    record {
      written = rw (present_of old.bytes old.events, present_of new.bytes new.events, events) noted;
      goes_on = rw (present_of old.bytes old.events)
          (GoesOn-noted old new (Wrote w) (IsWithinWrite offset (length bytes) before) events undone (IsWithinWrite-written offset bytes before (contents_of new.bytes (Wrote w ∷ old.events)) h noted));
    }

-- what a sync does, with its note, to the moments
pub record NotesSync (old new : Kept) : Type 0 where
  pub synced : IsSynced (present (history_of old)) (present (history_of new))
  pub goes_on : GoesOn (history_of old) (history_of new) (λ c. (c ≡ present (history_of old)) ⊎ IsSynced (present (history_of old)) c)

pub NotesSync-noted : (old new : Kept) → new.bytes ≡ old.bytes → new.events ≡ Synced ∷ old.events → NotesSync old new
NotesSync-noted old new file events =
    let noted : IsSynced (contents_of old.bytes old.events) (contents_of new.bytes (Synced ∷ old.events)) =
    record { now = file; held = file; untouched = λ p. refl } in
    record {
      synced = rw (present_of old.bytes old.events, present_of new.bytes new.events, events) noted;
      goes_on = rw (present_of old.bytes old.events)
          (GoesOn-noted old new Synced (λ c. (c ≡ contents_of old.bytes old.events) ⊎ IsSynced (contents_of old.bytes old.events) c) events file (inr noted));
    }

-- what a write that is taken back might have left, it might have left with it too
MayLeave-with_write : (w : Overwrite) (file : List ℕ) (earlier : List Event) (image : List ℕ) → MayLeave (contents_of (before_write w file) earlier) image → MayLeave (contents_of file (Wrote w ∷ earlier)) image
MayLeave-with_write w file earlier image before = record {
  no_shorter = before.no_shorter;
  no_longer = omega (arith, before.no_longer, length-before_write w file);
  untouched = λ p l e. before.untouched p l (or_false (is_touched earlier p) (is_between w.offset w.count p) e).0;
}

pub MayLeave-taken_back : (old new : Kept) (image : List ℕ) → IsTakenBack old new → MayLeave (present (history_of new)) image → MayLeave (present (history_of old)) image
MayLeave-taken_back old new image back left =
    let before : MayLeave (contents_of (before_write back.write old.bytes) new.events) image =
    rw (← back.undone, ← present_of new.bytes new.events) left in
    rw (present_of old.bytes old.events, back.noted) (MayLeave-with_write back.write old.bytes new.events image before)

pub present-taken_back : (old new : Kept) → IsTakenBack old new → (history_of old).at ((history_of old).moment - 1) ≡ present (history_of new)
unfolding moments_of
present-taken_back old new back =
    let count : length old.events ≡ suc (length new.events) = ap length back.noted in
    let one : length old.events - (length old.events - 1) ≡ 1 = omega arith in
    let none : length new.events - length new.events ≡ 0 = omega arith in
    rw (one, none, back.noted, back.undone)
