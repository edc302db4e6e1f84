-- What has a length is whole, and what is whole has its length.
use Rattle.std.proofs.Common.{◌≡◌, ℕ, ◌+◌, ◌-◌, ◌≤◌, List, ◌++◌, length, length-drop, take, drop, refl, sym, ap, ◌∙◌, subst, arith, length-append, Ok, Err}
use Rattle.std.specs.Prelude.{Option, Some, None, Result, IfOk, MatchOption}
use Rattle.std.proofs.lemmas.List.{take_at}
use Rattle.terms.specs.Reading.{Reading, Got, More, Bad}
use Rattle.terms.specs.Measuring.{judged, measured}
use Rattle.terms.specs.declared.measuring.NoLength.{NoLength}
use Rattle.terms.specs.declared.measuring.NoLength.TheVariants as answers

-- bytes of which this holds stand at the front
pub record Front {A : Type 0} (Is : List ℕ → A → Type 0) (bytes : List ℕ) (x : A) (rest : List ℕ) : Type 0 where
  pub front : List ℕ
  pub bytes_are : bytes ≡ front ++ rest
  pub is : Is front x

pub measured_bad : {A E : Type 0} (size : ℕ) (r : Reading A E) → measured size r ≡ Err answers.Bad
    → (fault : E) × (r ≡ Bad fault)
measured_bad size (Got x rest) e = absurd (cc)
measured_bad size More e = absurd (cc)
measured_bad size (Bad fault) e = (fault, refl)

record Measured {A E : Type 0} (size n : ℕ) (r : Reading A E) : Type 0 where
  pub value : A
  pub rest : List ℕ
  pub is : r ≡ Got value rest
  pub length_is : n ≡ size - length rest

measured_ok : {A E : Type 0} (size n : ℕ) (r : Reading A E) → measured size r ≡ Ok n → Measured size n r
measured_ok size n (Got x rest) e =
    let is : n ≡ size - length rest = cc in
    record { value = x; rest = rest; is = refl; length_is = is }
measured_ok size n More e = absurd (cc)
measured_ok size n (Bad fault) e = absurd (cc)

measured_is : {A E : Type 0} (read : List ℕ → Reading A E) (Is : List ℕ → A → Type 0)
    → ((bytes : List ℕ) (x : A) (rest : List ℕ) → read bytes ≡ Got x rest → Front Is bytes x rest)
    → (n : ℕ) (bytes : List ℕ) → measured (length bytes) (read bytes) ≡ Ok n → (n ≤ length bytes) × ((x : A) × Is (take n bytes) x)
measured_is read Is whole n bytes e =
    let m = measured_ok (length bytes) n (read bytes) e in
    let d = whole bytes m.value m.rest m.is in
    let size : length bytes ≡ length d.front + length m.rest = ap length d.bytes_are ∙ length-append d.front m.rest in
    let n_is : length d.front ≡ n = omega (arith, size, m.length_is) in
    let front : take n bytes ≡ d.front = ap (take n) d.bytes_are ∙ take_at d.front m.rest n n_is in
    (omega (arith, size, n_is), (m.value, subst (λ z. Is z m.value) (sym front) d.is))

-- the same of whatever was answered
pub if_measured : {A E : Type 0} (read : List ℕ → Reading A E) (Is : List ℕ → A → Type 0)
    → ((bytes : List ℕ) (x : A) (rest : List ℕ) → read bytes ≡ Got x rest → Front Is bytes x rest)
    → (bytes : List ℕ) (r : Result ℕ NoLength) → r ≡ measured (length bytes) (read bytes)
    → IfOk r (λ n. (n ≤ length bytes) × ((x : A) × Is (take n bytes) x))
if_measured read Is whole bytes (Ok n) e = measured_is read Is whole n bytes (sym e)
if_measured read Is whole bytes (Err fault) e = tt

pub whole_is_measured : {A E : Type 0} (read : List ℕ → Reading A E) (bytes front rest : List ℕ) (x : A) → bytes ≡ front ++ rest
    → read (front ++ rest) ≡ Got x rest → measured (length bytes) (read bytes) ≡ Ok (length front)
whole_is_measured read bytes front rest x is e =
    let size : length bytes ≡ length front + length rest = ap length is ∙ length-append front rest in
    let n : length bytes - length rest ≡ length front = omega (arith, size) in
    ap (measured (length bytes)) (ap read is ∙ e) ∙ ap (λ z. Ok z) n

-- ---- field by field

-- the length of what is whole is that of what is judged whole
measured_judged : {A E : Type 0} (size : ℕ) (r : Reading A E) → measured size (judged r) ≡ measured size r
measured_judged size (Got x rest) = refl
measured_judged size More = refl
measured_judged size (Bad fault) = refl

pub judged_whole : {A E : Type 0} (n : ℕ) (bytes : List ℕ) (r : Reading A E) → n ≤ length bytes → judged r ≡ Got tt (drop n bytes)
    → Ok n ≡ measured (length bytes) r
judged_whole n bytes r within whole =
    let size : length bytes - length (drop n bytes) ≡ n = rw (length-drop n bytes) (omega (arith, within)) in
    sym (sym (measured_judged (length bytes) r) ∙ ap (measured (length bytes)) whole ∙ ap (λ z. Ok z) size)

pub judged_waits : {A E : Type 0} (size : ℕ) (r : Reading A E) → judged r ≡ More → Err answers.NeedMore ≡ measured size r
judged_waits size r waits = sym (sym (measured_judged size r) ∙ ap (measured size) waits)

pub judged_bad : {A E : Type 0} (size : ℕ) (r : Reading A E) (fault : E) → judged r ≡ Bad fault → Err answers.Bad ≡ measured size r
judged_bad size r fault bad = sym (sym (measured_judged size r) ∙ ap (measured size) bad)

-- what is answered if the fields of so many bytes are whole
pub fields_measured : {F A E : Type 0} (n : ℕ) (following : Option F) (result : Result ℕ NoLength) (bytes : List ℕ) (r : Reading A E)
    → MatchOption following (result ≡ Ok n) (λ _. result ≡ Err answers.NeedMore) → n ≤ length bytes
    → (following ≡ None → judged r ≡ Got tt (drop n bytes)) → ((field : F) → following ≡ Some field → judged r ≡ More)
    → result ≡ measured (length bytes) r
fields_measured n None result bytes r is within whole waits = is ∙ judged_whole n bytes r within (whole refl)
fields_measured n (Some field) result bytes r is within whole waits = is ∙ judged_waits (length bytes) r (waits field refl)
