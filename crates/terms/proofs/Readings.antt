-- Laws of reading: what a reading that gave a value says of its parts.
use Rattle.std.proofs.Common.{◌≡◌, ℕ, ◌<◌, ◌≤◌, ◌+◌, ◌⊎◌, inl, inr, Bool, true, false, List, [], ◌∷◌, ◌++◌, slice_index, length, take, drop, nat_lt, ◌-◌, refl, sym, subst, ap, ◌∙◌, arith}
use Rattle.std.proofs.lemmas.Bool.{ltb-true, ltb-false, le-ltb, lt-ltb}
use Rattle.std.proofs.lemmas.List.{take-append-le, drop-append-le, take_at, drop_at, take_all, drop_all, append-nil, take-append-drop, length-take-le, append_assoc, length-append}
use Rattle.std.proofs.Math.Seq.{take-append-add, drop-append-add}
use Rattle.terms.specs.Reading.{Reading, Got, More, Bad, ◌>>=◌, field, guard, beyond, within, Extends, IsLocal}

-- what gave a value first read its first part
pub record BindsTo {A B E : Type 0} (r : Reading A E) (f : A → List ℕ → Reading B E) (y : B) (after : List ℕ) : Type 0 where
  pub value : A
  pub rest : List ℕ
  pub first : r ≡ Got value rest
  pub then : f value rest ≡ Got y after

pub bind_got : {A B E : Type 0} (r : Reading A E) (f : A → List ℕ → Reading B E) (y : B) (after : List ℕ)
    → (r >>= f) ≡ Got y after → BindsTo r f y after
bind_got (Got x rest) f y after e = record { value = x; rest = rest; first = refl; then = e }
bind_got More f y after e = absurd (cc)
bind_got (Bad g) f y after e = absurd (cc)

pub guard_got : {A E : Type 0} (b : Bool) (g : E) (r : Reading A E) (x : A) (rest : List ℕ)
    → guard b g r ≡ Got x rest → (b ≡ true) × (r ≡ Got x rest)
guard_got true g r x rest e = (refl, e)
guard_got false g r x rest e = absurd (cc)

pub record FieldIs (n : ℕ) (bytes f rest : List ℕ) : Type 0 where
  pub enough : n ≤ length bytes
  pub is : f ≡ take n bytes
  pub rest_is : rest ≡ drop n bytes

-- a test is true or false
pub true_or_false : (b : Bool) → (b ≡ true) ⊎ (b ≡ false)
true_or_false true = inl refl
true_or_false false = inr refl

pub field_got : {E : Type 0} (n : ℕ) (bytes f rest : List ℕ) → field {E = E} n bytes ≡ Got f rest → FieldIs n bytes f rest
unfolding field
field_got n bytes f rest e = elim (true_or_false (nat_lt (length bytes) n)) [
  | inl short ↦ (let e' = rw short at e in absurd (cc))
  | inr long ↦
      (let e' = rw long at e in
      let a : f ≡ take n bytes = cc in
      let b : rest ≡ drop n bytes = cc in
      record { enough = ltb-false (length bytes) n long; is = a; rest_is = b })
]

-- a field and what follows it
pub field_front : (n : ℕ) (bytes f rest : List ℕ) → FieldIs n bytes f rest → (bytes ≡ f ++ rest) × (length f ≡ n)
field_front n bytes f rest is =
    (rw (is.is, is.rest_is) (sym (take-append-drop n bytes)), rw is.is (length-take-le n bytes is.enough))

-- a list of so many numbers
pub one_number : (f : List ℕ) → length f ≡ 1 → f ≡ slice_index f 0 ∷ []
one_number [] e = absurd (omega arith)
one_number (a ∷ []) e = refl
one_number (a ∷ b ∷ f) e = absurd (omega arith)

pub three_numbers : (f : List ℕ) → length f ≡ 3 → f ≡ slice_index f 0 ∷ slice_index f 1 ∷ slice_index f 2 ∷ []
three_numbers [] e = absurd (omega arith)
three_numbers (a ∷ []) e = absurd (omega arith)
three_numbers (a ∷ b ∷ []) e = absurd (omega arith)
three_numbers (a ∷ b ∷ c ∷ []) e = refl
three_numbers (a ∷ b ∷ c ∷ d ∷ f) e = absurd (omega arith)

-- what was read within a limit was read of the bytes up to the limit
pub record Within {A E : Type 0} (limit : ℕ) (read : List ℕ → Reading A E) (bytes : List ℕ) (x : A) (after : List ℕ) : Type 0 where
  pub rest : List ℕ
  pub first : read (take limit bytes) ≡ Got x rest
  pub after_is : after ≡ rest ++ drop limit bytes

beyond_got : {A E : Type 0} (limit : ℕ) (fault : E) (bytes : List ℕ) (r : Reading A E) (x : A) (after : List ℕ)
    → beyond limit fault bytes r ≡ Got x after → (rest : List ℕ) × (r ≡ Got x rest) × (after ≡ rest ++ drop limit bytes)
beyond_got limit fault bytes (Got y rest) x after e =
    let same : y ≡ x = cc in
    let a : after ≡ rest ++ drop limit bytes = cc in
    (rest, ap (λ z. Got z rest) same, a)
beyond_got limit fault bytes More x after e = elim (true_or_false (nat_lt limit (length bytes))) [
  | inl t ↦ (let e' = rw t at e in absurd (cc))
  | inr t ↦ (let e' = rw t at e in absurd (cc))
]
beyond_got limit fault bytes (Bad g) x after e = absurd (cc)

pub within_got : {A E : Type 0} (limit : ℕ) (fault : E) (read : List ℕ → Reading A E) (bytes : List ℕ) (x : A) (after : List ℕ)
    → within limit fault read bytes ≡ Got x after → Within limit read bytes x after
unfolding within
within_got limit fault read bytes x after e =
    let g = beyond_got limit fault bytes (read (take limit bytes)) x after e in
    record { rest = g.0; first = g.1; after_is = g.2 }

-- a whole field and what follows it
pub field-whole : {E : Type 0} (n : ℕ) (f more : List ℕ) → length f ≡ n → field {E = E} n (f ++ more) ≡ Got f more
unfolding field
field-whole n f more e =
    let long : nat_lt (length (f ++ more)) n ≡ false = le-ltb (length (f ++ more)) n (omega (arith, length-append f more)) in
    rw (long, take_at f more n e, drop_at f more n e) refl

-- too few bytes for a field
pub field-short : {E : Type 0} (n : ℕ) (bytes : List ℕ) → length bytes < n → field {E = E} n bytes ≡ More
unfolding field
field-short n bytes short = rw (lt-ltb (length bytes) n short) refl

-- bytes that are skipped, whatever they are: some of them, all of them, and none
pub skip_more : {A E : Type 0} (x : A) (j : ℕ) (taken more : List ℕ)
    → (field {E = E} (length taken + j) (taken ++ more) >>= λ skipped rest. Got x rest) ≡ (field j more >>= λ skipped rest. Got x rest)
unfolding field
skip_more x j taken more = elim (true_or_false (nat_lt (length more) j)) [
  | inl t ↦
      (let few = ltb-true (length more) j t in
      let longer : nat_lt (length (taken ++ more)) (length taken + j) ≡ true = lt-ltb (length (taken ++ more)) (length taken + j) (omega (arith, length-append taken more)) in
      rw (t, longer) refl)
  | inr t ↦
      (let enough = ltb-false (length more) j t in
      let longer : nat_lt (length (taken ++ more)) (length taken + j) ≡ false = le-ltb (length (taken ++ more)) (length taken + j) (omega (arith, length-append taken more)) in
      rw (t, longer, drop-append-add taken more j) refl)
]

pub skip_whole : {A E : Type 0} (x : A) (n : ℕ) (taken : List ℕ) → length taken ≡ n → (field {E = E} n taken >>= λ skipped rest. Got x rest) ≡ Got x []
skip_whole x n taken is =
    ap (λ (b : List ℕ). field n b >>= λ skipped rest. Got x rest) (sym (append-nil taken)) ∙ rw (field-whole n taken [] is) refl

pub skip_waits : {A E : Type 0} (x : A) (n : ℕ) → 0 < n → (field {E = E} n [] >>= λ skipped rest. Got x rest) ≡ More
skip_waits x n some = rw (field-short n [] some) refl

pub field_local : (E : Type 0) (n : ℕ) → IsLocal (field {E = E} n)
unfolding field
field_local E n bytes more = elim (true_or_false (nat_lt (length bytes) n)) [
  | inl short ↦ rw short tt
  | inr long ↦
      (let enough : n ≤ length bytes = ltb-false (length bytes) n long in
      let longer : nat_lt (length (bytes ++ more)) n ≡ false = le-ltb (length (bytes ++ more)) n (omega (arith, length-append bytes more)) in
      rw (long, longer, take-append-le n bytes more enough, drop-append-le n bytes more enough) refl)
]

-- two readings in a row
pub bind_local : {A B E : Type 0} (r longer : Reading A E) (more : List ℕ) (f g : A → List ℕ → Reading B E) → Extends r more longer
    → ((x : A) (rest : List ℕ) → Extends (f x rest) more (g x (rest ++ more))) → Extends (r >>= f) more (longer >>= g)
bind_local (Got x rest) longer more f g e then = rw e (then x rest)
bind_local More longer more f g e then = tt
bind_local (Bad h) longer more f g e then = rw e refl

pub guard_local : {A E : Type 0} (b : Bool) (h : E) (r longer : Reading A E) (more : List ℕ) → Extends r more longer
    → Extends (guard b h r) more (guard b h longer)
guard_local true h r longer more e = e
guard_local false h r longer more e = refl

-- within a limit that the bytes keep, the limit plays no part
beyond-short : {A E : Type 0} (limit : ℕ) (fault : E) (bytes : List ℕ) (r : Reading A E) → length bytes ≤ limit → beyond limit fault bytes r ≡ r
beyond-short limit fault bytes (Got x rest) small = rw (drop_all limit bytes small, append-nil) refl
beyond-short limit fault bytes More small = rw (le-ltb limit (length bytes) small) refl
beyond-short limit fault bytes (Bad e) small = refl

pub within-short : {A E : Type 0} (limit : ℕ) (fault : E) (read : List ℕ → Reading A E) (bytes : List ℕ) → length bytes ≤ limit
    → within limit fault read bytes ≡ read bytes
unfolding within
within-short limit fault read bytes small =
    rw (take_all limit bytes small) (beyond-short limit fault bytes (read bytes) small)

-- what isn't whole at the limit is too long, with one byte more
pub within-long : {A E : Type 0} (limit : ℕ) (fault : E) (read : List ℕ → Reading A E) (bytes : List ℕ) → limit < length bytes
    → read (take limit bytes) ≡ More → within limit fault read bytes ≡ Bad fault
unfolding within
within-long limit fault read bytes long e = rw (e, lt-ltb limit (length bytes) long) refl

beyond_local : {A E : Type 0} (limit : ℕ) (fault : E) (bytes more : List ℕ) (r : Reading A E) → limit ≤ length bytes
    → Extends (beyond limit fault bytes r) more (beyond limit fault (bytes ++ more) r)
beyond_local limit fault bytes more (Got x rest) long =
    rw (drop-append-le limit bytes more long, append_assoc) refl
beyond_local limit fault bytes more More long = elim (true_or_false (nat_lt limit (length bytes))) [
  | inl t ↦
      (let over = ltb-true limit (length bytes) t in
      let longer : nat_lt limit (length (bytes ++ more)) ≡ true = lt-ltb limit (length (bytes ++ more)) (omega (arith, length-append bytes more, over)) in
      rw (t, longer) refl)
  | inr t ↦ rw t tt
]
beyond_local limit fault bytes more (Bad e) long = refl

-- a reading of bytes below the limit, and the reading of more bytes up to it
below_local : {A E : Type 0} (limit : ℕ) (fault : E) (bytes more upto beyond_it : List ℕ) (r longer : Reading A E) → upto ++ beyond_it ≡ more
    → drop limit (bytes ++ more) ≡ beyond_it → Extends r upto longer → Extends r more (beyond limit fault (bytes ++ more) longer)
below_local limit fault bytes more upto beyond_it (Got x rest) longer all out e = rw (e, out, append_assoc, all) refl
below_local limit fault bytes more upto beyond_it More longer all out e = tt
below_local limit fault bytes more upto beyond_it (Bad g) longer all out e = rw e refl

pub within_local : {A E : Type 0} (limit : ℕ) (fault : E) (read : List ℕ → Reading A E) → IsLocal read → IsLocal (within limit fault read)
unfolding within
within_local limit fault read local bytes more = elim (true_or_false (nat_lt (length bytes) limit)) [
  | inr t ↦
      (let long : limit ≤ length bytes = ltb-false (length bytes) limit t in
      rw (take-append-le limit bytes more long) (beyond_local limit fault bytes more (read (take limit bytes)) long))
  | inl t ↦
      (let less : length bytes < limit = ltb-true (length bytes) limit t in
      let small : length bytes ≤ limit = omega arith in
      let k : ℕ = limit - length bytes in
      let is : limit ≡ length bytes + k = omega arith in
      let upto : take limit (bytes ++ more) ≡ bytes ++ take k more = subst (λ (z : ℕ). take z (bytes ++ more) ≡ bytes ++ take k more) (sym is) (take-append-add bytes more k) in
      let out : drop limit (bytes ++ more) ≡ drop k more = subst (λ (z : ℕ). drop z (bytes ++ more) ≡ drop k more) (sym is) (drop-append-add bytes more k) in
      rw (take_all limit bytes small, beyond-short limit fault bytes (read bytes) small, upto)
      (below_local limit fault bytes more (take k more) (drop k more) (read bytes) (read (bytes ++ take k more)) (take-append-drop k more) out (local bytes (take k more))))
]
