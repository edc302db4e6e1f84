use Rattle.drill_script.proofs.Lines.{line_spelled, line_read, line_bad}
use Rattle.drill_script.proofs.reading.read_line.Goals as goal

pub returns-clause-spelled : goal.returns-clause-spelled
returns-clause-spelled c = line_spelled c.args.text.now c.line.result c.line.ensures.read

pub returns-clause-only : goal.returns-clause-only
returns-clause-only c = λ command s. line_read c.args.text.now c.line.result command c.line.ensures.read s

pub returns-clause-bad : goal.returns-clause-bad
returns-clause-bad c = λ command e s. line_bad c.args.text.now c.line.result command c.line.ensures.read e s
