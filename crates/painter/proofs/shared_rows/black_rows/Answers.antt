use Rattle.std.proofs.Common.{◌≡◌, ◌<◌, ◌≤◌, ◌∙◌, map, replicate, refl, ap, arith}
use Rattle.painter.specs.Pixels.{black_pixel, color_of}
use Rattle.painter.proofs.WholeRows.{rows_more}
use Rattle.painter.proofs.BlackRows.{dark, dark_row, dark_rows, same_colors}
use Rattle.painter.proofs.shared_rows.black_rows.Goals as goal

pub loop-preserved : goal.loop-preserved
loop-preserved c =
    let l = c.loop in
    let size = c.args.size in
    let row = c.in_ok-row.row in
    let all = rw c.from.ensures at (c.in_ok-pixels.ensures.items_if_clones_equal (λ _ e. e)) in
    let colors : map color_of c.deref.result.now ≡ map color_of (replicate size.width black_pixel) =
    ap (map color_of) (c.deref.ensures.value ∙ all) ∙ same_colors size.width _ black_pixel refl in
    let down : l.counter < size.height = omega (arith, c.loop-test.true) in
    record {
      rows = c.in_ok-push.ensures.items
          ∙ rows_more (dark size.width size.height) l.counter l.rows.items row l.invariant.rows
          (dark_row size.width size.height l.counter row (c.in_ok-row.ensures ∙ c.in_ok-black.ensures ∙ colors) down);
    }

pub returns-clause-rows : goal.returns-clause-rows
returns-clause-rows c =
    let l = c.loop in
    let size = c.args.size in
    let enough : size.height ≤ l.counter = omega (arith, c.loop-test.false) in
    (dark_rows size l.rows.items l.counter enough l.invariant.rows).are

pub returns-clause-black : goal.returns-clause-black
returns-clause-black c =
    let l = c.loop in
    let size = c.args.size in
    let enough : size.height ≤ l.counter = omega (arith, c.loop-test.false) in
    (dark_rows size l.rows.items l.counter enough l.invariant.rows).black
