use Rattle.std.proofs.Common.{◌≡◌, ◌∙◌, length, vec_len, arith}
use Rattle.std.proofs.lemmas.Grind.{common_steps}
use Rattle.std.specs.Vec.{with_items}
use Rattle.std.proofs.lemmas.List.{with_items_is}
use Rattle.pixel_sets.proofs.Held.{filled_just}
use Rattle.pixel_sets.proofs.pixels.Pixels.fill.Goals as goal

pub returns-clause-just : goal.returns-clause-just
returns-clause-just c =
    let s = c.self.inside in
    let words = c.fill_area.new.words in
    let kept : length words ≡ vec_len s.words = c.fill_area.auto.words ∙ c.deref_mut.ensures.len in
    let filled = rw (c.tiles_of-columns.ensures.is, c.deref_mut.ensures.value) at c.fill_area.ensures.filled in
    rw (← c.self.view_is) (filled_just s.size.width s.size.height s.words.items (with_items s.words words).items c.args.area c.args.value (rw (with_items_is s.words words kept) filled))

pub invariant_of-self : goal.invariant_of-self
invariant_of-self c = grind (arith, common_steps)
