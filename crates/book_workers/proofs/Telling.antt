-- A ticket that is told for the message that was given last.
use Rattle.std.proofs.Common.{◌≡◌, ℕ, suc, ◌+◌, List, [], ◌∷◌, ◌++◌, length, length-append, Some, Ok, Err, arith}
use Rattle.std.specs.Prelude.{Result, OnErr}
use Rattle.keyed_entries.specs.declared.entry.Stamped.{Stamped}
use Rattle.shared_book.specs.Receipts.{Accepted, IsTicketFor}
use Rattle.book_workers.specs.Accounts.{Account, AreTicketsFor, accepted_in, after_next, after_ticket}

pub told_last : (first : ℕ) (ms : List Stamped) (ts : List Accepted) (m : Stamped) (t : Accepted) → AreTicketsFor first ms ts → t.number ≡ first + length ts → IsTicketFor m.time m.message t → AreTicketsFor first (ms ++ m ∷ []) (ts ++ t ∷ [])
told_last first [] [] m t h number is = (omega (arith, number), is, tt)
told_last first [] (u ∷ ts) m t h number is = absurd h
told_last first (x ∷ ms) [] m t h number is = absurd h
told_last first (x ∷ ms) (u ∷ ts) m t h number is = (h.0, h.1, told_last (suc first) ms ts m t h.2 (omega (arith, number)) is)

-- what holds of any refusal
pub at_err : {A E : Type 0} {P : Type 0} (r : Result A E) → P → OnErr r P
at_err (Ok x) p = tt
at_err (Err e) p = p

-- one ticket more
pub one_more : (a : Account) (m : Stamped) (t : Accepted) → accepted_in (after_ticket t (after_next (Some m) a)) ≡ accepted_in a + 1
one_more a m t = omega (arith, length-append a.told (t ∷ []))
