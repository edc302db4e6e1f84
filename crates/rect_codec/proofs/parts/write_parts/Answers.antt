use Rattle.std.proofs.Common.{◌≡◌, ◌++◌, length, subst, sym, rules, arith}
use Rattle.std.proofs.lemmas.Grind.{common_steps}
use Rattle.terms.specs.Appending.{Appends}
use Rattle.rect_codec.specs.Parts.{AreParts, parts_head}
use Rattle.rect_codec.proofs.PartsDrawn.{on_ok_both, update_of_parts}
use Rattle.rect_codec.proofs.parts.write_parts.Goals as goal

pub returns-clause-ok : goal.returns-clause-ok
returns-clause-ok c =
    let f = c.args.format.now in
    let parts = c.args.parts.now in
    let head : c.extend_from_slice.new.self.items ≡ c.args.out.now.items ++ parts_head (length parts) = search rules in
    let same = sym c.whole_or_none.ensures.outcome in
    on_ok_both c.whole_or_none.result (rw same at c.append_parts-appended.ensures.ok) c.whole_or_none.ensures.ok (λ rectangles kept.
    subst (Appends (AreParts f parts) c.args.out.now.items) (sym kept)
    (update_of_parts f parts c.args.out.now.items c.extend_from_slice.new.self.items c.append_parts-appended.new.out.items head rectangles))

pub returns-clause-err : goal.returns-clause-err
returns-clause-err c = grind (arith, common_steps)
