use Rattle.std.proofs.Common.{ap}
use Rattle.terms.specs.declared.area.Area.{Area}
use Rattle.rect_data.specs.Grammar.{source_of}
use Rattle.shared_updates.proofs.copy.KeptCopy.named.Goals as goal

pub returns-clause-source : goal.returns-clause-source
unfolding source_of
returns-clause-source c = ap (λ (a : Area). record { x = a.x; y = a.y; w = c.args.area.w; h = c.args.area.h }) c.source_at-source.ensures
