use Rattle.showing.proofs.Rows.{one_row}
use Rattle.showing.proofs.PlayRows.{one_played_row}
use Rattle.showing.proofs.laws.just_one_row.Goals as goal

pub returns-clause-live : goal.returns-clause-live
returns-clause-live c = one_row

pub returns-clause-played : goal.returns-clause-played
returns-clause-played c = one_played_row
