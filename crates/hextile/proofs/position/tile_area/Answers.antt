use Rattle.std.proofs.Common.{arith}
use Rattle.hextile.proofs.Tiling.{corner_in}
use Rattle.hextile.proofs.position.tile_area.Goals as goal

pub overflow_mul-y : goal.overflow_mul-y
overflow_mul-y c =
    let corner = corner_in c.args.w c.args.h c.args.number c.across-columns.result c.across-columns.ensures.value c.requires in
    omega (arith, corner, c.ranges.h.fits)

pub overflow_cast-result-2 : goal.overflow_cast-result-2
overflow_cast-result-2 c =
    let corner = corner_in c.args.w c.args.h c.args.number c.across-columns.result c.across-columns.ensures.value c.requires in
    omega (arith, corner, c.ranges.h.fits)

pub overflow_sub-w : goal.overflow_sub-w
overflow_sub-w c =
    let corner = corner_in c.args.w c.args.h c.args.number c.across-columns.result c.across-columns.ensures.value c.requires in
    omega (arith, corner)

pub overflow_sub-h : goal.overflow_sub-h
overflow_sub-h c =
    let corner = corner_in c.args.w c.args.h c.args.number c.across-columns.result c.across-columns.ensures.value c.requires in
    omega (arith, corner)

pub returns-clause-columns : goal.returns-clause-columns
returns-clause-columns c =
    let corner = corner_in c.args.w c.args.h c.args.number c.across-columns.result c.across-columns.ensures.value c.requires in
    omega (arith, corner)

pub returns-clause-rows : goal.returns-clause-rows
returns-clause-rows c =
    let corner = corner_in c.args.w c.args.h c.args.number c.across-columns.result c.across-columns.ensures.value c.requires in
    omega (arith, corner)

pub returns-clause-across : goal.returns-clause-across
returns-clause-across c =
    let corner = corner_in c.args.w c.args.h c.args.number c.across-columns.result c.across-columns.ensures.value c.requires in
    omega (arith, corner)

pub returns-clause-down : goal.returns-clause-down
returns-clause-down c =
    let corner = corner_in c.args.w c.args.h c.args.number c.across-columns.result c.across-columns.ensures.value c.requires in
    omega (arith, corner)
