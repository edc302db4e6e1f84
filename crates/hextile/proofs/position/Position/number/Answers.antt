use Rattle.std.proofs.Common.{arith}
use Rattle.hextile.proofs.Tiling.{some_tiles}
use Rattle.hextile.proofs.position.Position.number.Goals as goal

pub overflow_sub-count_tiles : goal.overflow_sub-count_tiles
overflow_sub-count_tiles c =
    let some = some_tiles c.args.self.w c.args.self.h c.args.self.across c.args.self.down in
    omega (arith, some, c.count_tiles.ensures)

pub returns-clause-within : goal.returns-clause-within
returns-clause-within c =
    let some = some_tiles c.args.self.w c.args.self.h c.args.self.across c.args.self.down in
    omega (arith, some, c.count_tiles.ensures)
