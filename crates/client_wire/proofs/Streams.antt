-- Streams of messages, over any reading that is local: what is given adds up, and a stream has one
-- reading.
use Rattle.std.proofs.Common.{◌≡◌, ℕ, ◌+◌, ◌-◌, ◌<◌, List, [], ◌∷◌, ◌++◌, length, take, drop, refl, sym, ap, ◌∙◌, subst, arith, append_assoc, length-append}
use Rattle.std.specs.List.{flat_map, AllByRecursion}
use Rattle.std.proofs.lemmas.List.{append-nil, append_cancel_right, length-replicate, take-append-drop, length-take-le, length-drop}
use Rattle.std.specs.Prelude.{replicate}
use Rattle.terms.specs.Reading.{Reading, Got, More, Bad, IsLocal}
use Rattle.terms.specs.declared.wire_fault.WireFault.{WireFault}
use Rattle.terms.specs.Fault.{UnlessMemory}
use Rattle.client_wire.specs.Stream.{Part, bytes_of, IsPart, Reads, BeginsNone, FaultOf, StandsFor, given_of, Gives, Grows, Moves, Stops}

-- a list made of those of two lists
pub flat_append : {A B : Type 0} (f : A → List B) (a b : List A) → flat_map f (a ++ b) ≡ flat_map f a ++ flat_map f b
flat_append f [] b = refl
flat_append f (m ∷ a) b = ap (λ z. f m ++ z) (flat_append f a b) ∙ sym (append_assoc (f m) (flat_map f a) (flat_map f b))

pub all_append : {A : Type 0} (P : A → Type 0) (a b : List A) → AllByRecursion P a → AllByRecursion P b → AllByRecursion P (a ++ b)
all_append P [] b all more = more
all_append P (m ∷ a) b all more = (all.0, all_append P a b all.1 more)

pub gives_none : {M G : Type 0} (read : List ℕ → Reading M WireFault) (give : M → List ℕ → List G) (old new : List G) (stream rest : List ℕ) → new ≡ old → stream ≡ rest
    → Gives read give old new stream rest
gives_none read give old new stream rest same is = record {
  parts = [];
  given = same ∙ sym (append-nil old);
  reads = record { each = tt; stream_is = is };
}

-- what is given is appended
pub given_grows : {M G : Type 0} (read : List ℕ → Reading M WireFault) (give : M → List ℕ → List G) (old new : List G) (stream rest : List ℕ)
    → Gives read give old new stream rest → Grows old new
given_grows read give old new stream rest g = record { more = given_of give g.parts; new_is = g.given }

pub same_grows : {G : Type 0} (old new : List G) → new ≡ old → Grows old new
same_grows old new same = record { more = []; new_is = same ∙ sym (append-nil old) }

-- a reader stands for some rest, whatever it is
pub some_rest : (kept : List ℕ) (passed : ℕ) → StandsFor kept passed (kept ++ replicate passed 0)
some_rest kept passed = record { skipped = replicate passed 0; count = length-replicate passed 0; is = refl }

pub gives_one : {M G : Type 0} (read : List ℕ → Reading M WireFault) (give : M → List ℕ → List G) (old new : List G) (m : M) (stream : List ℕ)
    → read stream ≡ Got m [] → new ≡ old ++ give m stream → Gives read give old new stream []
gives_one read give old new m stream is given = record {
  parts = record { message = m; bytes = stream } ∷ [];
  given = given ∙ ap (λ z. old ++ z) (sym (append-nil (give m stream)));
  reads = record { each = (is, tt); stream_is = sym (append-nil (stream ++ []) ∙ append-nil stream) };
}

pub gives_then : {M G : Type 0} (read : List ℕ → Reading M WireFault) (give : M → List ℕ → List G) (old mid new : List G) (stream rest more after : List ℕ)
    → Gives read give old mid stream rest → Gives read give mid new (rest ++ more) after → Gives read give old new (stream ++ more) after
gives_then read give old mid new stream rest more after a b =
    let both : stream ++ more ≡ flat_map bytes_of (a.parts ++ b.parts) ++ after =
    ap (λ z. z ++ more) a.reads.stream_is
    ∙ append_assoc (flat_map bytes_of a.parts) rest more
    ∙ ap (λ z. flat_map bytes_of a.parts ++ z) b.reads.stream_is
    ∙ sym (append_assoc (flat_map bytes_of a.parts) (flat_map bytes_of b.parts) after)
    ∙ ap (λ z. z ++ after) (sym (flat_append bytes_of a.parts b.parts)) in
    record {
      parts = a.parts ++ b.parts;
      given = b.given ∙ ap (λ z. z ++ given_of give b.parts) a.given ∙ append_assoc old (given_of give a.parts) (given_of give b.parts)
          ∙ ap (λ z. old ++ z) (sym (flat_append (λ p. give p.message p.bytes) a.parts b.parts));
      reads = record { each = all_append (IsPart read) a.parts b.parts a.reads.each b.reads.each; stream_is = both };
    }

-- a message is read from the front of any bytes that it begins
pub part_again : {M : Type 0} (read : List ℕ → Reading M WireFault) → IsLocal read → (p : Part M) (more : List ℕ) → IsPart read p
    → read (p.bytes ++ more) ≡ Got p.message more
part_again read local p more is =
    let l = local p.bytes more in
    rw is at l

pub same_part : {M : Type 0} (p q : Part M) → p.message ≡ q.message → p.bytes ≡ q.bytes → p ≡ q
same_part {M} p q a b =
    let same : record { message = p.message; bytes = p.bytes } ≡ q = rw (a, b) refl in
    same

-- a rest that gives no message begins none
none_begins : {M : Type 0} (read : List ℕ → Reading M WireFault) → IsLocal read → (rest : List ℕ)
    → ((m : M) (after : List ℕ) → read rest ≡ Got m after → ⊥) → BeginsNone read rest
none_begins read local rest never p more is e = never p.message more (ap read e ∙ part_again read local p more is)

pub waits_begins_none : {M : Type 0} (read : List ℕ → Reading M WireFault) → IsLocal read → (rest : List ℕ) → read rest ≡ More → BeginsNone read rest
waits_begins_none read local rest waits = none_begins read local rest (λ m after e. let both = sym waits ∙ e in absurd (cc))

pub fault_begins_none : {M : Type 0} (read : List ℕ → Reading M WireFault) → IsLocal read → (rest : List ℕ) (f : WireFault) → read rest ≡ Bad f → BeginsNone read rest
fault_begins_none read local rest f fault = none_begins read local rest (λ m after e. let both = sym fault ∙ e in absurd (cc))

-- two readings of a stream are one
pub one_reading : {M : Type 0} (read : List ℕ → Reading M WireFault) → IsLocal read → (stream other : List ℕ) (a b : List (Part M)) (r s : List ℕ) → stream ≡ other
    → Reads read stream a r → BeginsNone read r → Reads read other b s → BeginsNone read s → (a ≡ b) × (r ≡ s)
one_reading read local stream other [] [] r s is x none y empty = (refl, sym x.stream_is ∙ is ∙ y.stream_is)
one_reading read local stream other [] (n ∷ b) r s is x none y empty =
    absurd (none n (flat_map bytes_of b ++ s) y.each.0 (sym x.stream_is ∙ is ∙ y.stream_is ∙ append_assoc n.bytes (flat_map bytes_of b) s))
one_reading read local stream other (m ∷ a) [] r s is x none y empty =
    absurd (empty m (flat_map bytes_of a ++ r) x.each.0 (sym y.stream_is ∙ sym is ∙ x.stream_is ∙ append_assoc m.bytes (flat_map bytes_of a) r))
one_reading read local stream other (m ∷ a) (n ∷ b) r s is x none y empty =
    let front : m.bytes ++ (flat_map bytes_of a ++ r) ≡ n.bytes ++ (flat_map bytes_of b ++ s) =
    sym (append_assoc m.bytes (flat_map bytes_of a) r) ∙ sym x.stream_is ∙ is ∙ y.stream_is ∙ append_assoc n.bytes (flat_map bytes_of b) s in
    let got = sym (part_again read local m (flat_map bytes_of a ++ r) x.each.0) ∙ ap read front ∙ part_again read local n (flat_map bytes_of b ++ s) y.each.0 in
    let message : m.message ≡ n.message = cc in
    let rests : flat_map bytes_of a ++ r ≡ flat_map bytes_of b ++ s = cc in
    let bytes : m.bytes ≡ n.bytes = append_cancel_right m.bytes n.bytes (flat_map bytes_of b ++ s) (ap (λ z. m.bytes ++ z) (sym rests) ∙ front) in
    let first : m ≡ n = same_part m n message bytes in
    let others = one_reading read local (flat_map bytes_of a ++ r) (flat_map bytes_of b ++ s) a b r s rests
    (record { each = x.each.1; stream_is = refl }) none (record { each = y.each.1; stream_is = refl }) empty in
    (rw (first, others.0) refl, others.1)

-- a stream whose rest waits has no fault
pub no_fault : {M : Type 0} (read : List ℕ → Reading M WireFault) → IsLocal read → (stream : List ℕ) (parts : List (Part M)) (rest : List ℕ) (f : WireFault)
    → Reads read stream parts rest → read rest ≡ More → FaultOf read stream f → ⊥
no_fault read local stream parts rest f reads waits fault =
    let one = one_reading read local stream stream parts fault.parts rest fault.rest refl reads (waits_begins_none read local rest waits)
    fault.reads (fault_begins_none read local fault.rest f fault.fault) in
    let both = sym waits ∙ ap read one.1 ∙ fault.fault in
    absurd (cc)

-- a reader that stops in a piece, of which it has read a front
pub moves_stops : {M G : Type 0} (read : List ℕ → Reading M WireFault) (give : M → List ℕ → List G) (old mid new : List G) (kept front rest bytes : List ℕ) (passed : ℕ) (f : WireFault)
    → (moves : Moves read give bytes passed old mid (kept ++ front)) → new ≡ mid
    → UnlessMemory f (read (moves.rest ++ rest) ≡ Bad f)
    → Stops read give f old new (kept ++ (front ++ rest))
moves_stops read give old mid new kept front rest bytes passed f moves same fault =
    let last = gives_none read give mid new (moves.rest ++ rest) (moves.rest ++ rest) same refl in
    let all = gives_then read give old mid new (kept ++ front) moves.rest rest (moves.rest ++ rest) moves.gives last in
    record {
      rest = moves.rest ++ rest;
      gives = subst (λ z. Gives read give old new z (moves.rest ++ rest)) (append_assoc kept front rest) all;
      fault = fault;
    }

-- one turn more of a piece
pub moves_more : {M G : Type 0} (read : List ℕ → Reading M WireFault) (give : M → List ℕ → List G) (old mid new : List G) (kept front taken bytes after : List ℕ) (passed more : ℕ)
    → (a : Moves read give bytes passed old mid (kept ++ front)) → Moves read give after more mid new (a.rest ++ taken)
    → Moves read give after more old new (kept ++ (front ++ taken))
moves_more read give old mid new kept front taken bytes after passed more a b =
    let all = gives_then read give old mid new (kept ++ front) a.rest taken b.rest a.gives b.gives in
    record {
      rest = b.rest;
      gives = subst (λ z. Gives read give old new z b.rest) (append_assoc kept front taken) all;
      stands = b.stands;
    }

pub empty_list : (xs : List ℕ) → length xs ≡ 0 → xs ≡ []
empty_list [] e = refl
empty_list (x ∷ xs) e = absurd (omega arith)

-- if no byte is read over, what is kept is the rest
pub stands_kept : (kept : List ℕ) (passed : ℕ) (rest : List ℕ) → passed ≡ 0 → StandsFor kept passed rest → rest ≡ kept
stands_kept kept passed rest none s =
    let empty : s.skipped ≡ [] = empty_list s.skipped (s.count ∙ none) in
    s.is ∙ ap (λ z. kept ++ z) empty ∙ append-nil kept

pub stands_whole : (kept : List ℕ) → StandsFor kept 0 kept
stands_whole kept = record { skipped = []; count = refl; is = sym (append-nil kept) }

-- ---- bytes that are passed over

-- if some of the bytes that are left pass, the others are left
pub over_more : {A E : Type 0} (read : List ℕ → Reading A E) (over : ℕ → List ℕ → Reading A E)
    → ((j : ℕ) (taken more : List ℕ) → over (length taken + j) (taken ++ more) ≡ over j more) → (bytes : List ℕ) (passed left n : ℕ) → n < left
    → ((skipped more : List ℕ) → length skipped ≡ passed → read ((bytes ++ skipped) ++ more) ≡ over left more)
    → (skipped more : List ℕ) → length skipped ≡ passed + n → read ((bytes ++ skipped) ++ more) ≡ over (left - n) more
over_more read over skips bytes passed left n few link skipped more count =
    let a : List ℕ = take passed skipped in
    let b : List ℕ = drop passed skipped in
    let both : a ++ b ≡ skipped = take-append-drop passed skipped in
    let length_a : length a ≡ passed = length-take-le passed skipped (omega arith) in
    let length_b : length b ≡ n = length-drop passed skipped ∙ omega arith in
    let left_is : left ≡ length b + (left - n) = omega arith in
    let stream : (bytes ++ skipped) ++ more ≡ (bytes ++ a) ++ (b ++ more) =
    ap (λ z. (bytes ++ z) ++ more) (sym both) ∙ ap (λ z. z ++ more) (sym (append_assoc bytes a b)) ∙ append_assoc (bytes ++ a) b more in
    ap read stream ∙ link a (b ++ more) length_a ∙ ap (λ k. over k (b ++ more)) left_is ∙ skips (left - n) b more

-- if bytes pass, nothing is given
pub pass_goes : {M G : Type 0} (read : List ℕ → Reading M WireFault) (give : M → List ℕ → List G) (bytes : List ℕ) (passed n : ℕ) (old : List G) (rest taken : List ℕ)
    → StandsFor bytes passed rest → length taken ≡ n → Moves read give bytes (passed + n) old old (rest ++ taken)
pass_goes read give bytes passed n old rest taken s is = record {
  rest = rest ++ taken;
  gives = gives_none read give old old (rest ++ taken) (rest ++ taken) refl refl;
  stands = record {
    skipped = s.skipped ++ taken;
    count = rw length-append (omega (arith, s.count));
    is = ap (λ z. z ++ taken) s.is ∙ append_assoc bytes s.skipped taken;
  };
}
