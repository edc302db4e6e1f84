use Rattle.terms.proofs.Areas.{around_both}
use Rattle.terms.proofs.area.Area.around.Goals as goal

pub returns : goal.returns
returns c = around_both c.args.self c.args.other c.min-x.result c.min-y.result c.max.result c.max-2.result c.requires.one c.requires.other c.min-x.ensures c.min-y.ensures c.max.ensures c.max-2.ensures
