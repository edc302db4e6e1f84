use Rattle.std.proofs.Common.{◌++◌}
use Rattle.std.specs.Prelude.{replicate}
use Rattle.rfb_wire.specs.PartialMessage.{passed_in}
use Rattle.client_wire.specs.Stream.{StandsFor, FaultOf}
use Rattle.rfb_wire.proofs.Over.{at_waits}
use Rattle.rfb_wire.proofs.Short.{at_short}
use Rattle.client_wire.proofs.Streams.{no_fault, given_grows, some_rest}
use Rattle.rfb_wire.specs.Grammar.{message_at, message_limit}
use Rattle.rfb_wire.specs.Stream.{given}
use Rattle.rfb_wire.proofs.Local.{message_local}
use Rattle.rfb_wire.proofs.reader.ServerReader.feed.Goals as goal

pub invariant_of-self : goal.invariant_of-self
invariant_of-self c = c.new.ensures.at c.self.inside.screen.format c.self.inside.screen.size.width c.self.inside.screen.size.height

pub returns-clause-goes : goal.returns-clause-goes
returns-clause-goes c = λ rest stands.
    let r = c.self.inside in
    let stands' : StandsFor r.partial.bytes.items (passed_in r.partial.over) rest = rw (← c.self.view_is) at stands in
    let m = c.in_default-read.ensures.moves rest stands' in
    rw (← c.self.view_is) (record {
      rest = m.rest;
      gives = m.gives;
      stands = m.stands;
      waits = at_waits (message_limit r.screen.format) r.screen.size.width r.screen.size.height c.read-read.new.self c.in_default-read.ensures.at m.rest m.stands;
    })

pub returns-clause-none : goal.returns-clause-none
returns-clause-none c = λ rest f stands fault.
    let r = c.self.inside in
    let stands' : StandsFor r.partial.bytes.items (passed_in r.partial.over) rest = rw (← c.self.view_is) at stands in
    let here : FaultOf (message_at (message_limit r.screen.format) r.screen.size.width r.screen.size.height) (rest ++ c.args.piece.now) f = rw (← c.self.view_is) at fault in
    let m = c.in_default-read.ensures.moves rest stands' in
    no_fault (message_at (message_limit r.screen.format) r.screen.size.width r.screen.size.height) (message_local (message_limit r.screen.format) r.screen.size.width r.screen.size.height) (rest ++ c.args.piece.now) m.gives.parts m.rest f m.gives.reads
    (at_waits (message_limit r.screen.format) r.screen.size.width r.screen.size.height c.read-read.new.self c.in_default-read.ensures.at m.rest m.stands) here

pub returns-in-Err-clause-grows : goal.returns-in-Err-clause-grows
returns-in-Err-clause-grows c =
    let r = c.self.inside in
    let p = r.partial in
    let rest = p.bytes.items ++ replicate (passed_in p.over) 0 in
    let s = c.in-Err.ensures.faults rest (some_rest p.bytes.items (passed_in p.over)) in
    given_grows (message_at (message_limit r.screen.format) r.screen.size.width r.screen.size.height) (given r.screen.format r.screen.size.width r.screen.size.height) c.args.out.now.items c.read-read.new.out.items (rest ++ c.args.piece.now) s.rest s.gives

pub returns-clause-grows : goal.returns-clause-grows
returns-clause-grows c =
    let r = c.self.inside in
    let p = r.partial in
    let rest = p.bytes.items ++ replicate (passed_in p.over) 0 in
    let m = c.in_default-read.ensures.moves rest (some_rest p.bytes.items (passed_in p.over)) in
    given_grows (message_at (message_limit r.screen.format) r.screen.size.width r.screen.size.height) (given r.screen.format r.screen.size.width r.screen.size.height) c.args.out.now.items c.read-read.new.out.items (rest ++ c.args.piece.now) m.rest m.gives

pub returns-in-Some-clause-short : goal.returns-in-Some-clause-short
returns-in-Some-clause-short c =
    let r = c.self.inside in
    rw (← c.self.view_is) (at_short r.screen.format r.screen.size.width r.screen.size.height r.partial c.self.invariant)

pub returns-clause-short : goal.returns-clause-short
returns-clause-short c =
    let r = c.self.inside in
    at_short r.screen.format r.screen.size.width r.screen.size.height c.read-read.new.self c.in_default-read.ensures.at
