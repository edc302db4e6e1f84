use Rattle.drill_script.proofs.Parts.{over_is}
use Rattle.drill_script.proofs.words.Words.is_over.Goals as goal

pub returns : goal.returns
returns c = rw (← c.self.view_is) (over_is (λ t. t.now) c.self.inside.rest c.is_none.result c.is_none.ensures)
