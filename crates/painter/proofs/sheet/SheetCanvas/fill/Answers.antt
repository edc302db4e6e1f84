use Rattle.std.proofs.Common.{◌≡◌, ◌∙◌, length, vec_len, arith}
use Rattle.std.proofs.lemmas.Grind.{common_steps}
use Rattle.std.specs.Vec.{with_items}
use Rattle.std.proofs.lemmas.List.{with_items_is}
use Rattle.painter.proofs.Screens.{has_filled}
use Rattle.painter.proofs.sheet.SheetCanvas.fill.Goals as goal

pub returns-clause-painted : goal.returns-clause-painted
returns-clause-painted c =
    let fields = c.self.inside in
    let pixels = c.fill_area.new.pixels in
    let kept : length pixels ≡ vec_len fields.pixels = c.fill_area.auto.pixels ∙ c.deref_mut.ensures.len in
    let told = rw c.deref_mut.ensures.value at c.fill_area.ensures in
    rw (← c.self.view_is)
    (has_filled fields.size.width fields.size.height fields.pixels.items (with_items fields.pixels pixels).items c.args.area
    c.pixel_of_color.result c.args.color c.pixel_of_color.ensures (rw (with_items_is fields.pixels pixels kept) told))

pub fill_area-requires : goal.fill_area-requires
fill_area-requires c = grind (arith, common_steps)
