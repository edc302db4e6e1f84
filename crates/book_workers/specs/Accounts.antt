-- What a source of a host's messages keeps account of.
use Rattle.std.specs.Prelude.{◌≡◌, ◌+◌, ℕ, suc, List, [], ◌∷◌, ◌++◌, length, Option, None, Some, Bool, true}
use Rattle.keyed_entries.specs.declared.entry.Stamped.{Stamped}
use Rattle.shared_book.specs.Receipts.{Accepted, IsTicketFor}

-- the number that its first message is accepted under; the messages that it gave, with their times;
-- the tickets that it was told of; and whether it has ended
pub record Account : Type 0 where
  pub first : ℕ
  pub given : List Stamped
  pub told : List Accepted
  pub has_ended : Bool

-- The tickets are those of these messages, one for each and in their order: their numbers follow one
-- another, and each is for its message, at its time or, if that is later, at that of the message
-- accepted before it.
abbrev pub AreTicketsFor : ℕ → List Stamped → List Accepted → Type 0
AreTicketsFor first [] [] = Unit {0}
AreTicketsFor first [] (t ∷ ts) = ⊥
AreTicketsFor first (m ∷ ms) [] = ⊥
AreTicketsFor first (m ∷ ms) (t ∷ ts) = (t.number ≡ first) × IsTicketFor m.time m.message t × AreTicketsFor (suc first) ms ts

-- Each message that was given was accepted, and its ticket was told.
abbrev pub IsSettled : Account → Type 0
IsSettled a = AreTicketsFor a.first a.given a.told

-- So was each but the last one, which was not accepted.
pub record LacksLast (a : Account) : Type 0 where
  pub earlier : List Stamped
  pub last : Stamped
  pub given : a.given ≡ earlier ++ last ∷ []
  pub told : AreTicketsFor a.first earlier a.told

-- how many messages were accepted once the told ones were
abbrev pub accepted_in : Account → ℕ
accepted_in a = a.first + length a.told

-- after a message was given, or the end was
abbrev pub after_next : Option Stamped → Account → Account
after_next None a = record { first = a.first; given = a.given; told = a.told; has_ended = true }
after_next (Some m) a = record { first = a.first; given = a.given ++ m ∷ []; told = a.told; has_ended = a.has_ended }

-- after a ticket was told
abbrev pub after_ticket : Accepted → Account → Account
after_ticket t a = record { first = a.first; given = a.given; told = a.told ++ t ∷ []; has_ended = a.has_ended }
