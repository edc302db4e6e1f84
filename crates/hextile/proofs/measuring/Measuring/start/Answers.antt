use Rattle.std.proofs.Common.{◌≡◌, ◌-◌, ◌⊎◌, inl, inr, suc, arith, sym, ap}
use Rattle.hextile.specs.Tiles.{tile_count}
use Rattle.hextile.specs.Grammar.{none_named, tiles_at, data_at}
use Rattle.hextile.specs.Measuring.{go_on, resume}
use Rattle.terms.specs.Measuring.{judged}
use Rattle.hextile.proofs.Tiling.{some_tiles}
use Rattle.hextile.proofs.Steps.{no_data, no_pixels}
use Rattle.hextile.proofs.measuring.Measuring.start.Goals as goal

pub returns-then-w-eq0 : goal.returns-then-w-eq0
unfolding go_on
returns-then-w-eq0 c = λ format more.
    let none : (c.args.w ≡ 0) ⊎ (c.args.h ≡ 0) = elim c.then-w-eq0.either [ inl a ↦ inl a | inr b ↦ inr b.1 ] in
    sym (no_data format c.args.w c.args.h more (no_pixels c.args.w c.args.h none))

pub overflow_sub-result : goal.overflow_sub-result
overflow_sub-result c =
    let some = some_tiles c.args.w c.args.h (omega arith) (omega arith) in
    omega (arith, some, c.count_tiles.ensures)

pub returns : goal.returns
unfolding go_on resume data_at
returns c = λ format more.
    let some = some_tiles c.args.w c.args.h (omega arith) (omega arith) in
    let is : suc (c.count_tiles.result - 1) ≡ tile_count c.args.w c.args.h = omega (arith, some, c.count_tiles.ensures) in
    ap (λ n. judged (tiles_at format c.args.w c.args.h none_named n more)) is
