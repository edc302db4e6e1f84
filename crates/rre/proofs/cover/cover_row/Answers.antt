use Rattle.std.proofs.Common.{◌≡◌, ◌+◌, ◌-◌, ◌*◌, ◌<◌, ◌≤◌, ◌∙◌, ap, sym, arith, drop, length, length-append, length-take}
use Rattle.pixel_format.specs.Number.{number_color, colors_of}
use Rattle.rre.specs.Encoded.{IsUniform}
use Rattle.rre.proofs.Apart.{others_le, apart_on, apart_all, index_in, away_at, skip_run, skip_reached}
use Rattle.rre.proofs.Listed.{part_listed}
use Rattle.rre.proofs.cover.cover_row.Goals as goal

pub loop-column-preserved : goal.loop-column-preserved
loop-column-preserved c =
    let uniform : IsUniform (colors_of c.args.format.now c.args.ground.pixels.numbers.now) (length c.args.reach.now) c.args.ground.pixels.h c.grow-part.result = rw c.loop-column.auto.reach at c.grow-part.ensures.uniform in
    let columns = uniform.within.columns in
    let some = uniform.across in
    let listed = part_listed (colors_of c.args.format.now c.args.ground.pixels.numbers.now) (length c.args.reach.now) c.args.ground.pixels.h (number_color c.args.format.now c.args.ground.background) c.loop-column.parts.items c.grow-part.result c.loop-column.reach c.raise.new.reach c.loop-column.column c.args.row
    c.loop-column.invariant.reaches uniform c.grow-part.ensures.x c.grow-part.ensures.y c.raise.ensures in
    let w = length c.args.reach.now in
    let column = c.loop-column.column in
    let n = c.args.row * w + w - c.args.row * w in
    let inside : column < n = omega (arith, c.loop-column-test.true, length-take n (drop (c.args.row * w) c.args.ground.pixels.numbers.now)) in
    let other = away_at c.args.ground.pixels.numbers.now c.args.ground.background c.args.row w column n inside c.if-line-column.false in
    let size : length c.args.ground.pixels.numbers.now ≡ c.args.ground.pixels.h * w = c.args.ground.pixels.size ∙ ap (λ n. c.args.ground.pixels.h * n) (sym c.requires.columns) in
    let index : c.args.row * w + column < length c.args.ground.pixels.numbers.now = index_in c.args.row w column c.args.ground.pixels.h (length c.args.ground.pixels.numbers.now) c.requires.row (omega arith) size in
    let further : c.args.row * w + column < c.args.row * w + (column + c.grow-part.result.w) = omega arith in
    record {
      within = omega (arith, columns, c.grow-part.ensures.x, c.raise.auto.reach, c.loop-column.auto.reach);
      apart = rw (c.in_ok-push.ensures.items, length-append)
          (apart_on c.args.ground.background c.args.ground.pixels.numbers.now (length c.loop-column.parts.items) (c.args.row * w + column) (c.args.row * w + (column + c.grow-part.result.w)) further index other c.loop-column.invariant.apart);
      reaches = rw c.in_ok-push.ensures.items listed;
    }

pub loop-column-preserved-then-line-column : goal.loop-column-preserved-then-line-column
loop-column-preserved-then-line-column c =
    let w = length c.args.reach.now in
    let column = c.loop-column.column in
    let end = c.end_of_number-column.result in
    let n = c.args.row * w + w - c.args.row * w in
    let reached = c.end_of_number-column.ensures.reached in
    let within : end ≤ n = omega (arith, c.end_of_number-column.ensures.within, length-take n (drop (c.args.row * w) c.args.ground.pixels.numbers.now)) in
    record {
      within = omega (arith, within, c.loop-column.auto.reach);
      apart = omega (arith, c.loop-column.invariant.apart, others_le c.args.ground.background c.args.ground.pixels.numbers.now (c.args.row * w + column) (c.args.row * w + end) (omega arith));
      reaches = skip_run c.args.format.now c.args.ground.pixels.numbers.now w c.args.ground.pixels.h c.args.ground.background c.loop-column.parts.items c.loop-column.reach column c.args.row end n c.requires.row c.loop-column.invariant.reaches (omega arith) within
          c.if-line-column.true c.end_of_number-column.ensures.one_number;
    }

pub loop-column-preserved-then-reach-column : goal.loop-column-preserved-then-reach-column
loop-column-preserved-then-reach-column c =
    let w = length c.args.reach.now in
    let column = c.loop-column.column in
    let n = c.args.row * w + w - c.args.row * w in
    let inside : column < n = omega (arith, c.loop-column-test.true, length-take n (drop (c.args.row * w) c.args.ground.pixels.numbers.now)) in
    record {
      within = omega (arith, inside, c.loop-column.auto.reach);
      apart = omega (arith, c.loop-column.invariant.apart, others_le c.args.ground.background c.args.ground.pixels.numbers.now (c.args.row * w + column) (c.args.row * w + (column + 1)) (omega arith));
      reaches = skip_reached (colors_of c.args.format.now c.args.ground.pixels.numbers.now) w c.args.ground.pixels.h (number_color c.args.format.now c.args.ground.background) c.loop-column.parts.items c.loop-column.reach column c.args.row c.requires.row c.loop-column.invariant.reaches c.if-reach-column.true;
    }

pub returns-then-len-ground-clause-many : goal.returns-then-len-ground-clause-many
returns-then-len-ground-clause-many c = λ _.
    let w = length c.args.reach.now in
    let column = c.loop-column.column in
    let n = c.args.row * w + w - c.args.row * w in
    let inside : column < n = omega (arith, c.loop-column-test.true, length-take n (drop (c.args.row * w) c.args.ground.pixels.numbers.now)) in
    let other = away_at c.args.ground.pixels.numbers.now c.args.ground.background c.args.row w column n inside c.if-line-column.false in
    let size : length c.args.ground.pixels.numbers.now ≡ c.args.ground.pixels.h * w = c.args.ground.pixels.size ∙ ap (λ n. c.args.ground.pixels.h * n) (sym c.requires.columns) in
    let index : c.args.row * w + column < length c.args.ground.pixels.numbers.now = index_in c.args.row w column c.args.ground.pixels.h (length c.args.ground.pixels.numbers.now) c.requires.row (omega arith) size in
    apart_all c.args.ground.background c.args.ground.pixels.numbers.now c.args.ground.most (length c.loop-column.parts.items) (c.args.row * w + column) index other c.loop-column.invariant.apart (omega arith)
