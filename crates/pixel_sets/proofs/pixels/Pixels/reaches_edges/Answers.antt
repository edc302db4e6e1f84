use Rattle.std.proofs.Common.{sym, ◌∙◌, arith}
use Rattle.pixel_sets.proofs.Clean.{edges_reached}
use Rattle.pixel_sets.proofs.pixels.Pixels.reaches_edges.Goals as goal

pub overflow_add-last_row : goal.overflow_add-last_row
overflow_add-last_row c =
    let high = c.self.invariant.high in
    let rows = rw (← c.self.view_is) at c.requires.rows in
    omega arith

pub overflow_add-last_column : goal.overflow_add-last_column
overflow_add-last_column c =
    let wide = c.self.invariant.wide in
    let columns = rw (← c.self.view_is) at c.requires.columns in
    omega arith

pub returns : goal.returns
returns c = λ last.
    edges_reached c.args.self.now c.args.area c.next_tile.result c.next_tile-2.result c.next_tile-3.result c.next_tile-4.result (omega arith) (omega arith)
    c.if-is_none.ensures c.if-is_none-2.ensures c.if-is_none-3.ensures (sym c.is_some.ensures ∙ last)
    c.next_tile.ensures c.next_tile-2.ensures c.next_tile-3.ensures c.next_tile-4.ensures
