use Rattle.fbs_export.proofs.Once.{one_summary}
use Rattle.fbs_export.proofs.laws.one_summary_of_a_file.Goals as goal

pub returns : goal.returns
returns c = λ file said other a b. one_summary file said other a b
