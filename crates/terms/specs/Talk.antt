-- A conversation over a stream that is read from its front: what is heard, and what is said in
-- answer, each answer as soon as what it answers is whole.
use Rattle.std.specs.Prelude.{ℕ, List, [], ◌++◌}
use Rattle.terms.specs.Reading.{Reading, Got, More, Bad}

pub record Talk (A E : Type 0) : Type 0 where
  -- all that is due to be said after the bytes that have come
  pub said : List ℕ
  -- what the bytes that have come say
  pub heard : Reading A E

-- nothing more is said
abbrev pub silent : {A E : Type 0} → Reading A E → Talk A E
silent reading = record { said = []; heard = reading }

-- these bytes are said, and then it goes on
abbrev pub say : {A E : Type 0} → List ℕ → Talk A E → Talk A E
say bytes next = record { said = bytes ++ next.said; heard = next.heard }

-- it goes on once the value is there
abbrev pub hear : {A B E : Type 0} → Reading A E → (A → List ℕ → Talk B E) → Talk B E
hear (Got x rest) next = next x rest
hear More next = silent More
hear (Bad e) next = silent (Bad e)
