use Rattle.fbs_export.proofs.Once.{no_fault_beside}
use Rattle.fbs_export.proofs.laws.no_fault_beside_a_summary.Goals as goal

pub returns : goal.returns
returns c = λ file said fault a b memory reader. no_fault_beside file said fault a b memory reader
