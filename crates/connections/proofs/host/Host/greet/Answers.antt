use Rattle.std.proofs.Common.{◌∙◌}
use Rattle.connections.proofs.Reading.{reads_on}
use Rattle.connections.proofs.host.Host.greet.Goals as goal

pub returns-in-Err-clause-read : goal.returns-in-Err-clause-read
returns-in-Err-clause-read g c = reads_on c.args.self.now c.loop.self c.read_piece.new.self c.loop.invariant.0 c.read_piece.ensures.read

pub returns-in_err-outcome-in_default-clause-read : goal.returns-in_err-outcome-in_default-clause-read
returns-in_err-outcome-in_default-clause-read g c = reads_on c.args.self.now c.loop.self c.read_piece.new.self c.loop.invariant.0 c.read_piece.ensures.read

pub returns-in_err-tell-clause-read : goal.returns-in_err-tell-clause-read
returns-in_err-tell-clause-read g c =
    let first = reads_on c.args.self.now c.loop.self c.read_piece.new.self c.loop.invariant.0 c.read_piece.ensures.read in
    reads_on c.args.self.now c.read_piece.new.self c.tell.new.self first c.tell.ensures.given

pub loop-preserved : goal.loop-preserved
loop-preserved g c =
    let first = reads_on c.args.self.now c.loop.self c.read_piece.new.self c.loop.invariant.0 c.read_piece.ensures.read in
    let same = c.loop.invariant.1 in (
      reads_on c.args.self.now c.read_piece.new.self c.tell.new.self first c.tell.ensures.given,
      (c.tell.ensures.same.0 ∙ c.read_piece.ensures.same.0 ∙ same.0, c.tell.ensures.same.1 ∙ c.read_piece.ensures.same.1 ∙ same.1),
    )
