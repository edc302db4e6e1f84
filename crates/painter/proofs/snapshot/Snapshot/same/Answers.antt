use Rattle.std.proofs.Common.{◌≡◌, ◌∙◌, sym, ap, eqb-true, arith}
use Rattle.std.proofs.Math.Dec.{eqb}
use Rattle.std.proofs.lemmas.Bool.{and_parts}
use Rattle.painter.specs.Framebuffer.{Framebuffer}
use Rattle.painter.proofs.Same.{agree_whole}
use Rattle.painter.proofs.snapshot.Snapshot.same.Goals as goal

pub same_in-requires-clause-within : goal.same_in-requires-clause-within
same_in-requires-clause-within c =
    let wide = ap (λ (f : Framebuffer). f.width) c.self.view_is in
    let high = ap (λ (f : Framebuffer). f.height) c.self.view_is in
    record { columns = omega (arith, wide); rows = omega (arith, high) }

pub same_in-requires-clause-other : goal.same_in-requires-clause-other
same_in-requires-clause-other c =
    let s = c.self.inside in
    let o = c.other.inside in
    let sides = and_parts (eqb s.size.width o.size.width) (eqb s.size.height o.size.height) (sym c.eq.ensures ∙ c.if-eq.true) in
    let wide = eqb-true s.size.width o.size.width sides.0 ∙ ap (λ (f : Framebuffer). f.width) c.other.view_is in
    let high = eqb-true s.size.height o.size.height sides.1 ∙ ap (λ (f : Framebuffer). f.height) c.other.view_is in
    record { columns = omega (arith, wide); rows = omega (arith, high) }

pub returns-then-eq : goal.returns-then-eq
returns-then-eq c =
    let s = c.self.inside in
    let o = c.other.inside in
    let sides = and_parts (eqb s.size.width o.size.width) (eqb s.size.height o.size.height) (sym c.eq.ensures ∙ c.if-eq.true) in
    let width : c.args.other.now.width ≡ c.args.self.now.width =
    ap (λ (f : Framebuffer). f.width) (sym c.other.view_is) ∙ sym (eqb-true s.size.width o.size.width sides.0) ∙ ap (λ (f : Framebuffer). f.width) c.self.view_is in
    let height : c.args.other.now.height ≡ c.args.self.now.height =
    ap (λ (f : Framebuffer). f.height) (sym c.other.view_is) ∙ sym (eqb-true s.size.height o.size.height sides.1) ∙ ap (λ (f : Framebuffer). f.height) c.self.view_is in
    let told = c.same_in.ensures in
    let whole = agree_whole c.args.self.now c.args.other.now s.size.width s.size.height
    (ap (λ (f : Framebuffer). f.width) (sym c.self.view_is)) (ap (λ (f : Framebuffer). f.height) (sym c.self.view_is)) in
    (λ t. record { size = record { width = width; height = height }; colors = whole.0 (told.0 t) }, λ is. told.1 (whole.1 is.colors))
