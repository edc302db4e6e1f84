use Rattle.std.proofs.Common.{◌≡◌, ◌∙◌, length, vec_len, arith}
use Rattle.std.proofs.lemmas.Grind.{common_steps}
use Rattle.std.proofs.Math.Nat.{mul-le-mul_left}
use Rattle.std.specs.Vec.{with_items}
use Rattle.std.proofs.lemmas.List.{with_items_is}
use Rattle.rect_data.specs.declared.encoding.Encoding.TheVariants as encodings
use Rattle.painter.specs.Framebuffer.{color_at}
use Rattle.rect_codec.specs.Picture.{painted_data}
use Rattle.painter.proofs.Screens.{has_data, source_within, rre_painted, hextile_painted, host_colors}
use Rattle.painter.proofs.sheet.Sheet.paint_data.Goals as goal

pub copy_area-requires-clause-source : goal.copy_area-requires-clause-source
copy_area-requires-clause-source c =
    let content = rw (c.in-CopyRect.is, ← c.self.view_is) at c.requires.content in
    let within = source_within c.self.inside.size.width c.self.inside.size.height c.args.area c.source_at.result c.args.bytes.now c.source_at.ensures content in
    let rows = mul-le-mul_left c.self.inside.size.width within.1 in
    record { columns = within.0; rows = omega (arith, rows, c.self.invariant, c.deref_mut-in-CopyRect.ensures.len) }

pub paint-requires-clause-held : goal.paint-requires-clause-held
paint-requires-clause-held c = λ pixel. rw c.host-host.ensures (host_colors pixel)

pub paint-requires-in-Hextile-clause-held : goal.paint-requires-in-Hextile-clause-held
paint-requires-in-Hextile-clause-held c = λ pixel. rw c.host-host.ensures (host_colors pixel)

pub returns-in-Raw-clause-painted : goal.returns-in-Raw-clause-painted
unfolding painted_data
returns-in-Raw-clause-painted c =
    let fields = c.self.inside in
    let pixels = c.paint_raw.new.pixels in
    let kept : length pixels ≡ vec_len fields.pixels = c.paint_raw.auto.pixels ∙ c.deref_mut.ensures.len in
    let told = rw c.deref_mut.ensures.value at c.paint_raw.ensures in
    let content = rw c.in-Raw.is at c.requires.content in
    rw (← c.self.view_is, c.in-Raw.is)
    (has_data fields.size.width fields.size.height fields.pixels.items (with_items fields.pixels pixels).items encodings.Raw c.args.area c.args.bytes.now content
    (rw (with_items_is fields.pixels pixels kept) told))

pub returns-in-CopyRect-clause-painted : goal.returns-in-CopyRect-clause-painted
unfolding painted_data
returns-in-CopyRect-clause-painted c =
    let fields = c.self.inside in
    let pixels = c.copy_area.new.pixels in
    let kept : length pixels ≡ vec_len fields.pixels = c.copy_area.auto.pixels ∙ c.deref_mut-in-CopyRect.ensures.len in
    let told = rw (c.deref_mut-in-CopyRect.ensures.value, c.source_at.ensures) at c.copy_area.ensures in
    let content = rw (c.in-CopyRect.is, ← c.self.view_is) at c.requires.content in
    rw (← c.self.view_is, c.in-CopyRect.is)
    (has_data fields.size.width fields.size.height fields.pixels.items (with_items fields.pixels pixels).items encodings.CopyRect c.args.area c.args.bytes.now content
    (rw (with_items_is fields.pixels pixels kept) told))

pub returns-in-Rre-clause-painted : goal.returns-in-Rre-clause-painted
returns-in-Rre-clause-painted c = λ x y across down.
    let content = rw c.in-Rre.is at c.requires.content in
    let told = rw c.host-host.ensures at c.paint.ensures.painted in
    rw c.in-Rre.is
    (rre_painted c.args.self.now.width c.args.self.now.height c.args.area c.args.bytes.now content.0 (color_at c.args.self.now) (color_at c.paint.new.canvas) content.1
    (told content.0 content.1) x y (rw (← c.paint.ensures.width) across) (rw (← c.paint.ensures.height) down))

pub returns-in-Hextile-clause-painted : goal.returns-in-Hextile-clause-painted
returns-in-Hextile-clause-painted c = λ x y across down.
    let content = rw c.in-Hextile.is at c.requires.content in
    let told = rw c.host-host.ensures at c.paint-in-Hextile.ensures.painted in
    rw c.in-Hextile.is
    (hextile_painted c.args.self.now.width c.args.self.now.height c.args.area c.args.bytes.now content.0 (color_at c.args.self.now) (color_at c.paint-in-Hextile.new.canvas) content.1
    (told content.0 content.1) x y (rw (← c.paint-in-Hextile.ensures.width) across) (rw (← c.paint-in-Hextile.ensures.height) down))

pub paint_raw-requires-clause-area : goal.paint_raw-requires-clause-area
paint_raw-requires-clause-area c = grind (arith, common_steps)

pub copy_area-requires-clause-area : goal.copy_area-requires-clause-area
copy_area-requires-clause-area c = grind (arith, common_steps)
