-- What a fault was met by.
use Rattle.std.proofs.Common.{◌≡◌, ℕ, ◌⊎◌, inl, inr, Bool, true, false, List, length, refl, ap}
use Rattle.std.specs.Prelude.{nat_lt}
use Rattle.terms.specs.Reading.{Reading, Got, More, Bad, ◌>>=◌, field, guard}
use Rattle.terms.proofs.Readings.{true_or_false}

-- the first part, or what follows it
pub record StopsAt {A B E : Type 0} (r : Reading A E) (f : A → List ℕ → Reading B E) (fault : E) : Type 0 where
  pub value : A
  pub rest : List ℕ
  pub first : r ≡ Got value rest
  pub then : f value rest ≡ Bad fault

pub bind_bad : {A B E : Type 0} (r : Reading A E) (f : A → List ℕ → Reading B E) (fault : E) → (r >>= f) ≡ Bad fault
    → (r ≡ Bad fault) ⊎ StopsAt r f fault
bind_bad (Got x rest) f fault e = inr (record { value = x; rest = rest; first = refl; then = e })
bind_bad More f fault e = absurd (cc)
bind_bad (Bad g) f fault e =
    let same : g ≡ fault = cc in
    inl (ap (λ z. Bad z) same)

pub field_never_bad : {E : Type 0} (n : ℕ) (bytes : List ℕ) (fault : E) → field n bytes ≡ Bad fault → ⊥
unfolding field
field_never_bad n bytes fault e = elim (true_or_false (nat_lt (length bytes) n)) [
  | inl short ↦ (let e' = rw short at e in cc)
  | inr long ↦ (let e' = rw long at e in cc)
]

pub got_never_bad : {A E : Type 0} (x : A) (rest : List ℕ) (fault : E) → Got x rest ≡ Bad fault → ⊥
got_never_bad x rest fault e = cc

pub guard_bad : {A E : Type 0} (b : Bool) (fault : E) (r : Reading A E) → guard b fault r ≡ Bad fault → (b ≡ false) ⊎ ((b ≡ true) × (r ≡ Bad fault))
guard_bad true fault r e = inr (refl, e)
guard_bad false fault r e = inl refl

-- a test in front of a value
pub guard_got_bad : {A E : Type 0} (b : Bool) (fault : E) (x : A) (rest : List ℕ) → guard b fault (Got x rest) ≡ Bad fault → b ≡ false
guard_got_bad true fault x rest e = absurd (cc)
guard_got_bad false fault x rest e = refl
