-- Hosts and ports.
use Rattle.std.proofs.Common.{◌≡◌, ℕ, suc, ◌+◌, ◌≤◌, Bool, true, false, List, [], ◌∷◌, ◌++◌, length, drop, take, get_or, refl, sym, ◌∙◌, inl, inr, arith, add-one, ◌-◌, length-drop, subst, ap, ◌≢◌, Result, Ok, Err, Option, Some, None}
use Rattle.std.proofs.lemmas.List.{take_all}
use Rattle.std.specs.Prelude.{IsTrue, MatchOption, MatchResult, is_ok}
use denote.Ref.{Bor}
use Rattle.std.specs.Char.{is_ascii_digit}
use Rattle.std.specs.List.{list_all}
use Rattle.std.proofs.lemmas.Bool.{and_parts, cases_lt}
use Rattle.request_head.specs.Hosts.{IsOwn, IsWithPort, IsAllowed}

-- what follows a front
pub cancel : (front rest other : List ℕ) → front ++ rest ≡ front ++ other → rest ≡ other
cancel [] rest other is = is
cancel (byte ∷ front) rest other is = cancel front rest other (cc is)

-- the colon before a port, and the port
pub at_colon : (host digits : List ℕ) → get_or (host ++ 58 ∷ digits) (length host) 0 ≡ 58
at_colon [] digits = refl
at_colon (byte ∷ host) digits = at_colon host digits

pub after_colon : (host digits : List ℕ) → drop (suc (length host)) (host ++ 58 ∷ digits) ≡ digits
after_colon [] digits = refl
after_colon (byte ∷ host) digits = after_colon host digits

-- a colon is no digit
no_colon : (text digits : List ℕ) → list_all is_ascii_digit (text ++ 58 ∷ digits) ≡ true → ⊥
no_colon [] digits is = absurd (cc (and_parts (is_ascii_digit 58) (list_all is_ascii_digit digits) is).0)
no_colon (byte ∷ text) digits is = no_colon text digits (and_parts (is_ascii_digit byte) (list_all is_ascii_digit (text ++ 58 ∷ digits)) is).1

-- a text has one port at most
same_host : (host other digits others : List ℕ) → list_all is_ascii_digit digits ≡ true → list_all is_ascii_digit others ≡ true → host ++ 58 ∷ digits ≡ other ++ 58 ∷ others → host ≡ other
same_host [] [] digits others d o is = refl
same_host [] (byte ∷ other) digits others d o is =
    let tails : digits ≡ other ++ 58 ∷ others = cc is in
    absurd (no_colon other others (rw (sym tails) d))
same_host (byte ∷ host) [] digits others d o is =
    let tails : host ++ 58 ∷ digits ≡ others = cc is in
    absurd (no_colon host digits (rw tails o))
same_host (byte ∷ host) (byte' ∷ other) digits others d o is =
    let heads : byte ≡ byte' = cc is in
    let tails : host ++ 58 ∷ digits ≡ other ++ 58 ∷ others = cc is in
    let rest = same_host host other digits others d o tails in
    cc (heads, rest)

pub one_port : (host other value : List ℕ) → IsWithPort host value → IsWithPort other value → host ≡ other
one_port host other value h o = same_host host other h.0 o.0 h.2 o.2 (sym h.1 ∙ o.1)

-- no name ends before a byte that no port follows
pub port_further : (value host : List ℕ) (end : ℕ) → IsWithPort host value → end ≤ length host
    → (get_or value end 0 ≡ 58 → list_all is_ascii_digit (drop (end + 1) value) ≡ true → ⊥) → end + 1 ≤ length host
port_further value host end h below none =
    elim (cases_lt end (length host)) [
      | inl less ↦ omega (arith, less)
      | inr more ↦
          let same : end ≡ length host = omega (arith, below, more) in
          let colon : get_or value end 0 ≡ 58 = rw (h.1, same) (at_colon host h.0) in
          let rest : list_all is_ascii_digit (drop (end + 1) value) ≡ true = rw (h.1, same, add-one, after_colon host h.0) h.2 in
          absurd (none colon rest)
    ]

-- a value with a port is allowed by its name alone
pub allowed_by_name : (names : List (Bor (List ℕ))) (host name : List ℕ) (whole here : Bool) → IsWithPort name host
    → (IsTrue whole → IsOwn names host) × (IsOwn names host → IsTrue whole) → whole ≡ false
    → (IsTrue here → IsOwn names name) × (IsOwn names name → IsTrue here)
    → (IsTrue here → IsAllowed names host) × (IsAllowed names host → IsTrue here)
allowed_by_name names host name whole here port w not_whole is = (
  (λ t. inr (name, port, is.0 t)),
  (λ allowed. elim allowed [
    | inl own ↦ let t : IsTrue false = subst (λ (b : Bool). IsTrue b) not_whole (w.1 own) in absurd (cc t)
    | inr other ↦ is.1 (subst (IsOwn names) (one_port other.0 name host other.1 port) other.2)
  ]),
)

pub allowed_by_none : (names : List (Bor (List ℕ))) (host : List ℕ) (whole : Bool) → ((name : List ℕ) → IsWithPort name host → ⊥)
    → (IsTrue whole → IsOwn names host) × (IsOwn names host → IsTrue whole) → whole ≡ false
    → (IsTrue false → IsAllowed names host) × (IsAllowed names host → IsTrue false)
allowed_by_none names host whole none w not_whole = (
  (λ t. absurd (cc t)),
  (λ allowed. elim allowed [
    | inl own ↦ subst (λ (b : Bool). IsTrue b) not_whole (w.1 own)
    | inr other ↦ absurd (none other.0 other.1)
  ]),
)

-- a test that failed
pub failed : (test fact : Bool) → test ≡ fact → test ≡ false → fact ≡ true → ⊥
failed test fact is f t = absurd (cc (is, f, t))

-- all that follows an index
pub to_the_end : (value : List ℕ) (index : ℕ) → list_all is_ascii_digit (drop index value) ≡ true → list_all is_ascii_digit (take (length value - index) (drop index value)) ≡ true
to_the_end value index digits =
    let all : take (length value - index) (drop index value) ≡ drop index value = take_all _ _ (omega (arith, length-drop index value)) in
    rw all digits

-- whether a text was parsed
pub is_parsed : {A E : Type 0} (Spells : A → Type 0) (r : Result A E) (b : Bool) → MatchResult r Spells (λ _. (a : A) → Spells a → ⊥) → b ≡ is_ok r
    → (IsTrue b → (a : A) × Spells a) × ((a : A) × Spells a → IsTrue b)
is_parsed Spells (Ok a) b spelled is = ((λ t. (a, spelled)), (λ found. is))
is_parsed Spells (Err e) b none is = ((λ t. absurd (cc (t, is))), (λ found. absurd (none found.0 found.1)))

-- what is in brackets
pub in_brackets : (name rest : List ℕ) (r : Option (Bor (List ℕ))) → name ≡ 91 ∷ rest
    → MatchOption r ((front : List ℕ) → rest ≢ front ++ 93 ∷ []) (λ text. rest ≡ text.now ++ 93 ∷ [])
    → MatchOption r ((text : List ℕ) → name ≡ 91 ∷ (text ++ 93 ∷ []) → ⊥) (λ text. name ≡ 91 ∷ (text.now ++ 93 ∷ []))
in_brackets name rest None first last = λ text is. last text (cancel (91 ∷ []) rest (text ++ 93 ∷ []) (sym first ∙ is))
in_brackets name rest (Some text) first last = first ∙ ap (λ (z : List ℕ). 91 ∷ z) last
