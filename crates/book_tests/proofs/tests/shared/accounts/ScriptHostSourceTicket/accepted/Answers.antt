use Rattle.std.proofs.Common.{◌≡◌, ℕ, suc, ◌<◌, List, [], ◌∷◌, ◌++◌, length, sym, subst, vec_len, arith}
use Rattle.keyed_entries.specs.declared.entry.Stamped.{Stamped}
use Rattle.book_workers.specs.Receipts.{Accepted}
use Rattle.book_workers.specs.Accounts.{Account, AreTicketsFor, IsSettled, after_ticket}
use Rattle.book_tests.proofs.tests.shared.accounts.ScriptHostSourceTicket.accepted.Goals as goal

-- who is told a ticket had given a message more
fewer : (first : ℕ) (ms : List Stamped) (ts : List Accepted) (t : Accepted) → AreTicketsFor first ms (ts ++ t ∷ []) → length ts < length ms
fewer first [] [] t h = absurd h
fewer first [] (u ∷ ts) t h = absurd h
fewer first (m ∷ ms) [] t h = omega arith
fewer first (m ∷ ms) (u ∷ ts) t h = let rest = fewer (suc first) ms ts t h.2 in omega arith

pub push_reserved-requires : goal.push_reserved-requires
push_reserved-requires g c =
    let s = c.self.inside in
    let settled = subst (λ (a : Account). IsSettled (after_ticket c.args.ticket a)) (sym c.self.view_is) (c.requires.settled tt) in
    let less : length s.told.items < length s.given.items = fewer s.first s.given.items s.told.items c.args.ticket settled in
    let same : vec_len s.told ≡ length s.told.items = s.told.ok.0 in
    omega (arith, c.self.invariant.0)
