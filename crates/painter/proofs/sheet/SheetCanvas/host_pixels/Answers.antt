use Rattle.std.proofs.Common.{◌≡◌, ◌∙◌, length, vec_len, arith}
use Rattle.std.proofs.lemmas.Grind.{common_steps}
use Rattle.std.specs.Vec.{with_items}
use Rattle.std.proofs.lemmas.List.{with_items_is}
use Rattle.painter.proofs.Screens.{has_pixels}
use Rattle.painter.proofs.sheet.SheetCanvas.host_pixels.Goals as goal

pub returns-clause-painted : goal.returns-clause-painted
returns-clause-painted c =
    let fields = c.self.inside in
    let pixels = c.paint_raw.new.pixels in
    let kept : length pixels ≡ vec_len fields.pixels = c.paint_raw.auto.pixels ∙ c.deref_mut.ensures.len in
    let told = rw c.deref_mut.ensures.value at c.paint_raw.ensures in
    rw (← c.self.view_is)
    (has_pixels fields.size.width fields.size.height fields.pixels.items (with_items fields.pixels pixels).items c.args.area
    c.args.bytes.now (rw (with_items_is fields.pixels pixels kept) told))

pub paint_raw-requires-clause-area : goal.paint_raw-requires-clause-area
paint_raw-requires-clause-area c = grind (arith, common_steps)
