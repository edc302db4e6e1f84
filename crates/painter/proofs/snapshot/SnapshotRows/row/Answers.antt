use Rattle.std.proofs.Common.{◌≡◌, ◌+◌, ◌-◌, ◌<◌, ◌∙◌, ℕ, length, map, take, drop, ap, arith}
use Rattle.std.specs.Arc.{arc_value}
use Rattle.painter.specs.WholeRows.{stacked, whole_row}
use Rattle.painter.specs.Framebuffer.{Framebuffer}
use Rattle.painter.specs.Pixels.{color_of}
use Rattle.painter.specs.Sent.{row_colors}
use Rattle.painter.proofs.WholeRows.{row_of, part_read, pixels_long}
use Rattle.painter.proofs.snapshot.SnapshotRows.row.Goals as goal

pub slice_bounds-result-end : goal.slice_bounds-result-end
slice_bounds-result-end c =
    let s = c.self.inside in
    let area = c.args.area in
    let y : ℕ = area.y + c.args.row in
    let rows = (arc_value s.rows).items in
    let within = rw (← c.self.view_is) at c.requires.within in
    let below = within.rows in
    let columns = within.columns in
    let down = c.requires.row in
    let enough = c.self.invariant.count in
    let inside : area.y + c.args.row < s.size.height = omega (arith, below, down) in
    let fits : area.y + c.args.row < length rows = omega (arith, inside, enough) in
    let at = rw (c.deref.ensures, c.from.ensures) at c.index.ensures in
    let are : map color_of c.pixels-pixels.result.now ≡ whole_row (stacked s.size.width s.size.height (arc_value s.rows).items) (area.y + c.args.row) =
    c.pixels-pixels.ensures ∙ row_of s.size.width s.size.height rows y c.index.result.now c.self.invariant fits at in
    let long = pixels_long s.size.width s.size.height rows y c.pixels-pixels.result.now c.self.invariant inside are in
    omega (arith, long, columns, c.from-left.ensures, c.from-2.ensures)

pub returns-clause-colors : goal.returns-clause-colors
returns-clause-colors c =
    let s = c.self.inside in
    let area = c.args.area in
    let y : ℕ = area.y + c.args.row in
    let rows = (arc_value s.rows).items in
    let pixels = c.pixels-pixels.result.now in
    let within = rw (← c.self.view_is) at c.requires.within in
    let below = within.rows in
    let columns = within.columns in
    let down = c.requires.row in
    let enough = c.self.invariant.count in
    let fits : area.y + c.args.row < length rows = omega (arith, below, down, enough) in
    let at = rw (c.deref.ensures, c.from.ensures) at c.index.ensures in
    let are : map color_of c.pixels-pixels.result.now ≡ whole_row (stacked s.size.width s.size.height (arc_value s.rows).items) (area.y + c.args.row) =
    c.pixels-pixels.ensures ∙ row_of s.size.width s.size.height rows y c.index.result.now c.self.invariant fits at in
    let count : area.x + area.w - area.x ≡ area.w = omega arith in
    rw (c.from-left.ensures, c.from-2.ensures)
    (ap (λ (m : ℕ). map color_of (take m (drop area.x pixels))) count
    ∙ part_read (stacked s.size.width s.size.height (arc_value s.rows).items) area c.args.row pixels columns are
    ∙ ap (λ (picture : Framebuffer). row_colors picture area c.args.row) c.self.view_is)
