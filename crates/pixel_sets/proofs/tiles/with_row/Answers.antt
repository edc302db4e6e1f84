use Rattle.pixel_sets.proofs.PixelSets.{first_row, more_row}
use Rattle.pixel_sets.proofs.tiles.with_row.Goals as goal

pub returns-in_default-clause-smallest : goal.returns-in_default-clause-smallest
returns-in_default-clause-smallest c = λ p q none row. first_row p q c.args.left c.args.right c.args.y c.requires.order (rw c.in_default.is at none) row

pub returns-clause-smallest : goal.returns-clause-smallest
returns-clause-smallest c = λ p q is row.
    let area = c.in-Some.area in
    let above = rw c.in-Some.is at c.requires.above in
    more_row p q area c.args.left c.args.right c.args.y c.min-x.result c.max-end.result c.requires.order above.1 c.min-x.ensures c.max-end.ensures (rw c.in-Some.is at is) row
