-- What follows a head, or what can't be one, changes nothing.
use Rattle.std.proofs.Common.{◌≡◌, ℕ, List, ◌++◌, sym, subst, append_assoc, inl, inr, refl}
use denote.Ref.{Bor}
use Rattle.httparse.specs.Grammar.{RequestHead}
use Rattle.httparse.proofs.GrammarLemmas.{ReadsRequest-append}
use Rattle.request_head.specs.declared.head.Fault.{Fault}
use Rattle.request_head.specs.declared.head.Fault.TheVariants.{BadRequest, Forbidden, NotFound, MethodNotAllowed, TooLarge}
use Rattle.request_head.specs.Heads.{HasNoHead, NeverHasHead}
use Rattle.request_head.specs.Judgement.{BeginWith, IsFaultOf}

pub still_begins : (bytes more : List ℕ) (P : RequestHead → Type 0) → BeginWith bytes P → BeginWith (bytes ++ more) P
still_begins bytes more P is = (is.0, is.1 ++ more, (ReadsRequest-append bytes is.0 is.1 more is.2.0, is.2.1), is.3)

still_never : (bytes more : List ℕ) → NeverHasHead bytes → NeverHasHead (bytes ++ more)
still_never bytes more never again = subst HasNoHead (sym (append_assoc bytes more again)) (never (more ++ again))

-- so the fault is the same, if it isn't the length
pub still_refused : (names : List (Bor (List ℕ))) (bytes more : List ℕ) (fault : Fault) → (fault ≡ TooLarge → ⊥) → IsFaultOf names bytes fault → IsFaultOf names (bytes ++ more) fault
still_refused names bytes more BadRequest other is = elim is [
  | inl never ↦ inl (still_never bytes more never)
  | inr head ↦ inr (still_begins bytes more _ head)
]
still_refused names bytes more Forbidden other is = still_begins bytes more _ is
still_refused names bytes more MethodNotAllowed other is = still_begins bytes more _ is
still_refused names bytes more NotFound other is = is
still_refused names bytes more TooLarge other is = absurd (other refl)
