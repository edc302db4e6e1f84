use Rattle.drill_script.proofs.Lines.{one_command}
use Rattle.drill_script.proofs.reading.spells_one_line.Goals as goal

pub returns : goal.returns
returns c = one_command
