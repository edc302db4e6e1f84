use Rattle.std.proofs.Common.{◌+◌, ◌-◌, ◌∙◌, List, length, refl, subst, sym, arith}
use Rattle.painter.specs.declared.pixel.Pixel.{Pixel}
use Rattle.painter.proofs.WholeRows.{AreWritten, row_fits, row_written}
use borrow.Rule.Slice.PartMut.{put_mid}
use Rattle.painter.proofs.shared_rows.write_rows.Goals as goal

pub slice_bounds-copy_from_slice-end : goal.slice_bounds-copy_from_slice-end
slice_bounds-copy_from_slice-end c =
    let l = c.loop-row in
    let fits = row_fits c.args.rows.now l.row-index l.start l.pixels c.pixels-line.result.now c.row-item.result l.invariant c.loop-row-test.true (l.auto.pixels ∙ c.requires) (c.pixels-line.ensures ∙ c.row-item.is) in
    omega (arith, fits)

pub loop-row-preserved : goal.loop-row-preserved
loop-row-preserved c =
    let l = c.loop-row in
    let line = c.pixels-line.result.now in
    let end = l.start + length line in
    subst (λ (ys : List Pixel). AreWritten c.args.rows.now (l.row-index + 1) end (put_mid l.start (end - l.start) l.pixels ys)) (sym c.copy_from_slice.ensures.after)
    (row_written c.args.rows.now l.row-index l.start end l.pixels line c.row-item.result l.invariant c.loop-row-test.true (l.auto.pixels ∙ c.requires) (c.pixels-line.ensures ∙ c.row-item.is) refl)
