use Rattle.std.proofs.Common.{◌++◌}
use Rattle.std.specs.Prelude.{replicate}
use Rattle.client_wire.specs.Grammar.{message_at}
use Rattle.client_wire.specs.PartialMessage.{passed_in}
use Rattle.client_wire.specs.Stream.{StandsFor, itself}
use Rattle.client_wire.proofs.Local.{message_local}
use Rattle.client_wire.proofs.Streams.{no_fault, given_grows, some_rest}
use Rattle.client_wire.proofs.Turns.{at_waits, at_head}
use Rattle.client_wire.proofs.reader.ClientReader.feed.Goals as goal

pub returns-clause-goes : goal.returns-clause-goes
returns-clause-goes c = λ rest stands.
    let r = c.self.inside in
    let stands' : StandsFor r.partial.bytes.items (passed_in r.partial.position) rest = rw (← c.self.view_is) at stands in
    let m = c.in_default-read.ensures.moves rest stands' in
    record {
      rest = m.rest;
      gives = m.gives;
      stands = m.stands;
      waits = at_waits c.read-read.new.self c.in_default-read.ensures.at m.rest m.stands;
    }

pub returns-clause-none : goal.returns-clause-none
returns-clause-none c = λ rest f stands fault.
    let r = c.self.inside in
    let stands' : StandsFor r.partial.bytes.items (passed_in r.partial.position) rest = rw (← c.self.view_is) at stands in
    let m = c.in_default-read.ensures.moves rest stands' in
    no_fault message_at message_local (rest ++ c.args.piece.now) m.gives.parts m.rest f m.gives.reads
    (at_waits c.read-read.new.self c.in_default-read.ensures.at m.rest m.stands) fault

pub returns-in-Err-clause-grows : goal.returns-in-Err-clause-grows
returns-in-Err-clause-grows c =
    let p = c.self.inside.partial in
    let rest = p.bytes.items ++ replicate (passed_in p.position) 0 in
    let s = c.in-Err.ensures.faults rest (some_rest p.bytes.items (passed_in p.position)) in
    given_grows message_at itself c.args.out.now.items c.read-read.new.out.items (rest ++ c.args.piece.now) s.rest s.gives

pub returns-clause-grows : goal.returns-clause-grows
returns-clause-grows c =
    let p = c.self.inside.partial in
    let rest = p.bytes.items ++ replicate (passed_in p.position) 0 in
    let m = c.in_default-read.ensures.moves rest (some_rest p.bytes.items (passed_in p.position)) in
    given_grows message_at itself c.args.out.now.items c.read-read.new.out.items (rest ++ c.args.piece.now) m.rest m.gives

pub returns-in-Some-clause-head : goal.returns-in-Some-clause-head
returns-in-Some-clause-head c =
    rw (← c.self.view_is) (at_head c.self.inside.partial c.self.invariant)

pub returns-clause-head : goal.returns-clause-head
returns-clause-head c = at_head c.read-read.new.self c.in_default-read.ensures.at
