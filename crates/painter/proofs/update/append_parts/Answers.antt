use Rattle.std.proofs.Common.{◌<◌, ◌++◌, length, sym, subst, arith}
use Rattle.std.proofs.lemmas.Grind.{common_steps}
use Rattle.std.proofs.lemmas.List.{get_or-map, length-map}
use Rattle.rect_codec.specs.declared.parts.Part.{Part}
use Rattle.rect_codec.specs.Parts.{IsPart, parts_head}
use Rattle.terms.specs.Appending.{Appends}
use Rattle.terms.proofs.Appends.{each_more}
use Rattle.painter.specs.SentUpdate.{part_of, parts_of}
use Rattle.painter.proofs.SentParts.{no_part}
use Rattle.painter.proofs.update.append_parts.Goals as goal

pub loop-part-preserved : goal.loop-part-preserved
loop-part-preserved g c =
    let f = c.args.format.now in
    let screen = g.R.Rows.shown c.args.rows.now in
    let parts = c.args.parts.now in
    let k = c.loop-part.part-index in
    let less = c.loop-part-test.true in
    let inside : k < length (parts_of f screen parts) = omega (arith, length-map parts (part_of f screen), less) in
    each_more (IsPart f) (parts_of f screen parts) k no_part (c.args.out.now.items ++ parts_head (length parts)) c.loop-part.out.items c.append_part.new.out.items
    inside c.loop-part.invariant
    (subst (λ (p : Part). Appends (IsPart f p) c.loop-part.out.items c.append_part.new.out.items) (sym (get_or-map (part_of f screen) parts k _ no_part less)) c.in_default.ensures.ok)

pub returns-in-Err-clause-err : goal.returns-in-Err-clause-err
returns-in-Err-clause-err g c = grind (arith, common_steps)

pub returns-clause-ok : goal.returns-clause-ok
returns-clause-ok g c = grind (arith, common_steps)
