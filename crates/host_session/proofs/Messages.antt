-- What is heard after the handshake.
use Rattle.std.proofs.Common.{◌≡◌, ℕ, List, ◌++◌, length, drop, refl, ap, ◌∙◌}
use Rattle.std.specs.Prelude.{Result, Ok, Err, OnOk, IfErr, None}
use Rattle.std.proofs.lemmas.List.{drop_at}
use Rattle.terms.specs.declared.wire_fault.WireFault.{WireFault}
use Rattle.terms.specs.declared.wire_fault.WireFault.TheVariants as faults
use Rattle.terms.specs.Fault.{UnlessMemory}
use Rattle.client_wire.specs.Stream.{StandsFor, Gives, Goes, Stops, given_of}
use Rattle.rfb_wire.specs.Grammar.{message_at, message_limit}
use Rattle.rfb_wire.specs.Host.{Host}
use Rattle.rfb_wire.specs.Stream.{given}
use Rattle.rfb_wire.specs.Reader.{Reader}
use Rattle.host_session.specs.Session.{requests_after}
use Rattle.host_session.specs.Listening.{Hears, Answers, ListensToSome}

-- the messages after those that there were
pub hears : (r : Reader) (rest piece tail : List ℕ) (old new : List Host)
    → Gives (message_at (message_limit r.format) r.width r.height) (given r.format r.width r.height) old new (rest ++ piece) tail
    → Hears r rest piece old new tail
hears r rest piece tail old new g = record {
  more = given_of (given r.format r.width r.height) g.parts;
  out = g.given;
  gives = record { parts = g.parts; given = refl; reads = g.reads };
}

-- and the requests for them
pub answers : (r : Reader) (rest piece tail : List ℕ) (old new : List Host) (due later : List ℕ) (start : ℕ) (slice : List Host)
    → Gives (message_at (message_limit r.format) r.width r.height) (given r.format r.width r.height) old new (rest ++ piece) tail
    → start ≡ length old → slice ≡ drop start new → later ≡ due ++ requests_after r.width r.height slice
    → Answers r rest piece old new due later tail
unfolding hears
answers r rest piece tail old new due later start slice g at is said =
    let more : List Host = given_of (given r.format r.width r.height) g.parts in
    let same : slice ≡ more = is ∙ ap (λ n. drop n new) at ∙ ap (drop (length old)) g.given ∙ drop_at old more (length old) refl in
    record {
      hears = hears r rest piece tail old new g;
      said = said ∙ ap (λ z. due ++ requests_after r.width r.height z) same;
    }

-- of a reader that is fed, messages are given whatever it answers
pub feed_hears : (r : Reader) (kept' : List ℕ) (passed' : ℕ) (old new : List Host) (piece : List ℕ) (U : Type 0) (result : Result U WireFault)
    → OnOk result ((rest : List ℕ) → StandsFor r.kept r.passed rest → Goes (message_at (message_limit r.format) r.width r.height) (given r.format r.width r.height) kept' passed' old new (rest ++ piece))
    → IfErr result (λ f. r.fault ≡ None → (rest : List ℕ) → StandsFor r.kept r.passed rest → Stops (message_at (message_limit r.format) r.width r.height) (given r.format r.width r.height) f old new (rest ++ piece))
    → r.fault ≡ None → ListensToSome r piece old new
feed_hears r kept' passed' old new piece U (Ok u) goes stops none = λ rest stands.
    let g = goes rest stands in
    record { tail = g.rest; hears = hears r rest piece g.rest old new g.gives }
feed_hears r kept' passed' old new piece U (Err f) goes stops none = λ rest stands.
    let g = stops none rest stands in
    record { tail = g.rest; hears = hears r rest piece g.rest old new g.gives }

-- what holds unless memory ran out, if it is known of each part unless memory ran out
pub unless_memory_by : (f : WireFault) (Q : Type 0) → (((P : Type 0) → UnlessMemory f P → P) → Q) → UnlessMemory f Q
unless_memory_by faults.UnknownType Q by = by (λ P p. p)
unless_memory_by faults.OutsideScreen Q by = by (λ P p. p)
unless_memory_by (faults.Encoding n) Q by = by (λ P p. p)
unless_memory_by faults.TooLong Q by = by (λ P p. p)
unless_memory_by faults.BadRre Q by = by (λ P p. p)
unless_memory_by faults.BadHextile Q by = by (λ P p. p)
unless_memory_by faults.SourceOutside Q by = by (λ P p. p)
unless_memory_by (faults.BadFormat e) Q by = by (λ P p. p)
unless_memory_by faults.NoMemory Q by = tt
