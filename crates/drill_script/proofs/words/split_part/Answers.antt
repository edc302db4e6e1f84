use Rattle.drill_script.proofs.Parts.{parts_whole, parts_first}
use Rattle.drill_script.proofs.words.split_part.Goals as goal

pub returns-in-None : goal.returns-in-None
returns-in-None c = parts_whole c.args.text.now (rw (← c.first_space.ensures) c.in-None.is)

pub returns-in-Some : goal.returns-in-Some
returns-in-Some c = parts_first c.args.text.now c.in-Some.end (rw (← c.first_space.ensures) c.in-Some.is)
