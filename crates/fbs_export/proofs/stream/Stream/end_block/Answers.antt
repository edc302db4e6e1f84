use Rattle.std.proofs.Common.{refl}
use Rattle.fbs_export.proofs.Hearing.{block_over}
use Rattle.fbs_export.proofs.stream.Stream.end_block.Goals as goal

pub returns : goal.returns
returns g c = λ times s n long stands.
    block_over g.T.Tally.stands_for c.args.self.now _ times s n c.args.time long refl refl c.in_ok-stamp.ensures stands
