use Rattle.web_target.proofs.Splits.{no_query}
use Rattle.web_target.proofs.target.beginning.Goals as goal

pub returns-in_err-playback : goal.returns-in_err-playback
returns-in_err-playback c = rw c.from_residual-in_err-playback.ensures (no_query c.args.query.now c.in_default.ensures c.in_default-still.ensures c.in_err-playback.ensures)
