-- What is appended one after the other.
use Rattle.std.proofs.Common.{◌≡◌, ℕ, ◌+◌, ◌<◌, Bool, true, false, Ok, List, [], ◌∷◌, ◌++◌, length, take, get_or, sym, ap, subst, ◌∙◌, refl, append_assoc}
use Rattle.std.specs.List.{flat_map}
use Rattle.std.proofs.lemmas.List.{append-nil, take_at, take_more}
use Rattle.std.proofs.lemmas.Grind.{flat_map-append}
use Rattle.terms.specs.Appending.{Appends, AppendsIf, Grows, AreEach}

-- nothing
pub grows_none : (old : List ℕ) → Grows old old
grows_none old = record { bytes = []; is = sym (append-nil old); are = tt }

-- bytes, and bytes after them
pub joined : (old first second between new : List ℕ) → between ≡ old ++ first → new ≡ between ++ second → new ≡ old ++ (first ++ second)
joined old first second between new a b = b ∙ ap (λ z. z ++ second) a ∙ append_assoc old first second

pub grows_more : (old between new : List ℕ) → Grows old between → Grows between new → Grows old new
grows_more old between new a b = record { bytes = a.bytes ++ b.bytes; is = joined old a.bytes b.bytes between new a.is b.is; are = tt }

-- one more of a list, each of which has its bytes
pub each_push : {A : Type 0} (Is : A → List ℕ → Type 0) (all : List A) (a : A) (body last : List ℕ) → AreEach Is all body → Is a last
    → AreEach Is (all ++ a ∷ []) (body ++ last)
each_push Is [] a body last none is = (last, [], ap (λ z. z ++ last) none ∙ sym (append-nil last), is, refl)
each_push Is (head ∷ all) a body last are is =
    (are.0, are.1 ++ last, ap (λ z. z ++ last) are.2 ∙ append_assoc are.0 are.1 last, are.3, each_push Is all a are.1 last are.4 is)

pub each_more : {A : Type 0} (Is : A → List ℕ → Type 0) (all : List A) (k : ℕ) (d : A) (old between new : List ℕ) → k < length all
    → Appends (AreEach Is (take k all)) old between → Appends (Is (get_or all k d)) between new → Appends (AreEach Is (take (k + 1) all)) old new
each_more Is all k d old between new less before last = record {
  bytes = before.bytes ++ last.bytes;
  is = joined old before.bytes last.bytes between new before.is last.is;
  are = subst (λ some. AreEach Is some (before.bytes ++ last.bytes)) (sym (take_more all k d less))
      (each_push Is (take k all) (get_or all k d) before.bytes last.bytes before.are last.are);
}

-- the same if its bytes are given
pub mapped_more : {A : Type 0} (g : A → List ℕ) (all : List A) (k : ℕ) (d : A) (old between new : List ℕ) → k < length all
    → between ≡ old ++ flat_map g (take k all) → new ≡ between ++ g (get_or all k d) → new ≡ old ++ flat_map g (take (k + 1) all)
mapped_more g all k d old between new lt before last =
    let one : flat_map g (get_or all k d ∷ []) ≡ g (get_or all k d) = append-nil (g (get_or all k d)) in
    let more : flat_map g (take (k + 1) all) ≡ flat_map g (take k all) ++ g (get_or all k d) =
    ap (flat_map g) (take_more all k d lt) ∙ flat_map-append g (take k all) (get_or all k d ∷ []) ∙ ap (λ z. flat_map g (take k all) ++ z) one in
    joined old (flat_map g (take k all)) (g (get_or all k d)) between new before last ∙ ap (λ z. old ++ z) (sym more)

-- bytes that are kept, or taken back
pub kept_or_not : {E : Type 0} (P : List ℕ → Type 0) (old between new : List ℕ) (start : ℕ) (kept : Bool) → start ≡ length old → Appends P old between
    → (kept ≡ true → new ≡ between) → (kept ≡ false → new ≡ take start between) → AppendsIf {E = E} P old new (Ok kept)
kept_or_not P old between new start kept at a same back = record {
  ok = λ is. subst (Appends P old) (sym (same is)) a;
  unchanged = λ is. back is ∙ ap (take start) a.is ∙ take_at old a.bytes start (sym at);
  err = tt;
}
