use Rattle.std.proofs.Common.{◌≡◌, ◌∙◌, length, vec_len, sym, ap, subst}
use Rattle.std.proofs.lemmas.List.{with_items_is}
use Rattle.terms.specs.declared.screen_size.ScreenSize.{ScreenSize}
use Rattle.painter.specs.WholeRows.{AreKept}
use Rattle.painter.proofs.screen.Screen.paint_rectangle.Goals as goal

pub invariant_of-self : goal.invariant_of-self
invariant_of-self c =
    let s = c.self.inside in
    let left = c.follow.new.kept in
    let kept : length left ≡ vec_len s.kept = c.follow.auto.kept ∙ c.deref_mut.ensures.len in
    let follows = rw c.deref_mut.ensures.value at c.follow.ensures in
    let wide = ap (λ (z : ScreenSize). z.width) (sym c.size-size.ensures) in
    subst (AreKept c.paint_data.new.self) (sym (with_items_is s.kept left kept))
    (follows s.sheet c.paint_data.new.self wide c.known.ensures c.known-2.ensures c.paint_data.ensures.size c.paint_data.ensures.painted c.self.invariant)
