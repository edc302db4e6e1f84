-- Messages that are written one by one.
use Rattle.std.proofs.Common.{◌≡◌, ◌<◌, ◌-◌, ℕ, suc, zero, List, [], ◌∷◌, ◌++◌, take, drop, sym, ap, ◌∙◌, subst, arith, append-nil, append_assoc}
use Rattle.std.specs.Prelude.{Option, Some, None, MatchOption}
use Rattle.std.specs.List.{slice_get}
use Rattle.std.specs.Option.{unwrap_or}
use Rattle.std.specs.Io.KnownBytes.{Appends}
use Rattle.std.proofs.lemmas.List.{length-take, drop_all}
use Rattle.keyed_entries.specs.declared.entry.Stamped.{Stamped}
use Rattle.fbs_export.specs.Export.{block_text, messages_text, messages_from, first_time, between}
use Rattle.fbs_export.specs.Written.{WroteFront}
use Rattle.fbs_export.proofs.Writes.{front_of_first, front_of_second}

-- the message that stands at a position below the end is the next one of those that are left
pub next_left : (all : List Stamped) (n to : ℕ) (s : Stamped) → slice_get all n ≡ Some s → n < to → drop n (take to all) ≡ s ∷ drop (suc n) (take to all)
next_left all n zero s e less = absurd (omega arith)
next_left [] n (suc to) s e less = absurd (cc)
next_left (x ∷ all) zero (suc to) s e less = let same : x ≡ s = cc in ap (λ z. z ∷ take to all) same
next_left (x ∷ all) (suc n) (suc to) s e less = next_left all n to s e (omega arith)

pub none_left : (all : List Stamped) (to : ℕ) → drop to (take to all) ≡ []
none_left all to = drop_all to (take to all) (omega (arith, length-take to all))

-- What is written so far, and what is left: all of it.
pub record SoFar (all : List Stamped) (from n to : ℕ) (a b : Option (List ℕ)) : Type 0 where
  pub done : List ℕ
  pub wrote : Appends a b done
  pub whole : done ++ messages_text (first_time (between all from to)) (drop n (take to all)) ≡ messages_from all from to

-- the time that others are told from, once it is known
abbrev pub IsBase : List Stamped → ℕ → ℕ → ℕ → Option ℕ → Type 0
IsBase all from n to first = MatchOption first (n ≡ from) (λ b. b ≡ first_time (between all from to))

pub base_is : (o : Option ℕ) (n from time t : ℕ) → MatchOption o (n ≡ from) (λ b. b ≡ t) → (n ≡ from → time ≡ t) → unwrap_or o time ≡ t
base_is None n from time t known start = start known
base_is (Some b) n from time t known start = known

-- if the first of them is the next
pub starts_here : (all : List Stamped) (from n to : ℕ) (s : Stamped) → drop n (take to all) ≡ s ∷ drop (suc n) (take to all) → n ≡ from → s.time ≡ first_time (between all from to)
starts_here all from n to s left here = ap first_time (sym left) ∙ ap (λ z. first_time (drop z (take to all))) here

pub front_so_far : (all : List Stamped) (from n to : ℕ) (a b : Option (List ℕ)) → SoFar all from n to a b → WroteFront a b (messages_from all from to)
front_so_far all from n to a b s = record {
  front = s.done;
  following = messages_text (first_time (between all from to)) (drop n (take to all));
  is = sym s.whole;
  wrote = s.wrote;
}

pub all_so_far : (all : List Stamped) (from n to : ℕ) (a b : Option (List ℕ)) → SoFar all from n to a b → n ≡ to → Appends a b (messages_from all from to)
all_so_far all from n to a b s end =
    let none : drop n (take to all) ≡ [] = ap (λ z. drop z (take to all)) end ∙ none_left all to in
    let whole : s.done ≡ messages_from all from to = sym (append-nil s.done) ∙ ap (λ z. s.done ++ messages_text (first_time (between all from to)) z) (sym none) ∙ s.whole in
    subst (Appends a b) whole s.wrote

pub front_within : (all : List Stamped) (from n to : ℕ) (a b c : Option (List ℕ)) (s : Stamped) (time : ℕ) (bytes : List ℕ) → SoFar all from n to a b
    → drop n (take to all) ≡ s ∷ drop (suc n) (take to all) → time ≡ s.time - first_time (between all from to) → bytes ≡ s.message.bytes → WroteFront b c (block_text time bytes)
    → WroteFront a c (messages_from all from to)
front_within all from n to a b c s time bytes far left is same w =
    let t : ℕ = first_time (between all from to) in
    let v : WroteFront b c (messages_text t (drop n (take to all))) =
    subst (λ z. WroteFront b c (messages_text t z)) (sym left) (front_of_first b c (block_text (s.time - t) s.message.bytes) (messages_text t (drop (suc n) (take to all)))
    (subst (λ z. WroteFront b c (block_text z s.message.bytes)) is (subst (λ z. WroteFront b c (block_text time z)) same w))) in
    subst (WroteFront a c) far.whole (front_of_second a b c far.done (messages_text t (drop n (take to all))) far.wrote v)

pub one_more_so_far : (all : List Stamped) (from n to : ℕ) (a b c : Option (List ℕ)) (s : Stamped) (time : ℕ) (bytes : List ℕ) → SoFar all from n to a b
    → drop n (take to all) ≡ s ∷ drop (suc n) (take to all) → time ≡ s.time - first_time (between all from to) → bytes ≡ s.message.bytes
    → ((x : List ℕ) → Appends a b x → Appends a c (x ++ block_text time bytes)) → SoFar all from (suc n) to a c
one_more_so_far all from n to a b c s time bytes far left is same w =
    let t : ℕ = first_time (between all from to) in
    let text : block_text time bytes ≡ block_text (s.time - t) s.message.bytes = ap (λ z. block_text z bytes) is ∙ ap (block_text (s.time - t)) same in
    record {
      done = far.done ++ block_text time bytes;
      wrote = w far.done far.wrote;
      whole = append_assoc far.done (block_text time bytes) (messages_text t (drop (suc n) (take to all)))
          ∙ ap (λ z. far.done ++ (z ++ messages_text t (drop (suc n) (take to all)))) text
          ∙ ap (λ z. far.done ++ messages_text t z) (sym left) ∙ far.whole;
    }
