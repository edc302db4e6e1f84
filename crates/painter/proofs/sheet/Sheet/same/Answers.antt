use Rattle.std.proofs.Common.{◌≡◌, ◌*◌, Decides, length, refl, sym, ap, ◌∙◌, eqb-true}
use Rattle.std.proofs.Math.Dec.{eqb}
use Rattle.std.proofs.lemmas.Bool.{and_parts}
use Rattle.std.proofs.lemmas.Slice.Eq.{slice_eq-Decides}
use Rattle.terms.specs.declared.screen_size.ScreenSize.{ScreenSize}
use Rattle.painter.proofs.Same.{same_by_number, screens_same}
use Rattle.painter.proofs.Screens.{screen_of}
use Rattle.painter.proofs.sheet.Sheet.same.Goals as goal

pub returns-then-eq : goal.returns-then-eq
returns-then-eq c =
    let s = c.self.inside in
    let o = c.other.inside in
    let sides = and_parts (eqb s.size.width o.size.width) (eqb s.size.height o.size.height) (sym c.eq.ensures ∙ c.if-eq.true) in
    let size : o.size ≡ s.size = sym (rw (eqb-true s.size.width o.size.width sides.0, eqb-true s.size.height o.size.height sides.1) refl) in
    let d : Decides c.eq-then-eq.result (s.pixels.items ≡ o.pixels.items) = slice_eq-Decides same_by_number s.pixels.items o.pixels.items c.eq-then-eq.result c.eq-then-eq.ensures in
    let long : length o.pixels.items ≡ s.size.height * s.size.width =
    sym o.pixels.ok.0 ∙ c.other.invariant ∙ ap (λ (z : ScreenSize). z.height * z.width) size in
    let view : screen_of s.size.width s.size.height o.pixels.items ≡ c.args.other.now =
    ap (λ (z : ScreenSize). screen_of z.width z.height o.pixels.items) (sym size) ∙ c.other.view_is in
    let both = screens_same c.args.self.now c.args.other.now s.size.width s.size.height s.pixels.items o.pixels.items c.self.view_is view (sym s.pixels.ok.0 ∙ c.self.invariant) long in
    (λ t. both.0 (d.0 t), λ is. d.1 (both.1 is))
