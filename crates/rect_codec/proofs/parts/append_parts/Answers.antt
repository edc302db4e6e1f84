use Rattle.std.proofs.Common.{arith}
use Rattle.std.proofs.lemmas.Grind.{common_steps}
use Rattle.terms.proofs.Appends.{each_more}
use Rattle.rect_codec.specs.Parts.{IsPart}
use Rattle.rect_codec.proofs.parts.append_parts.Goals as goal

pub loop-part-preserved : goal.loop-part-preserved
loop-part-preserved c =
    each_more (IsPart c.args.format.now) c.args.parts.now c.loop-part.part-index _ c.args.out.now.items c.loop-part.out.items c.append_part.new.out.items
    c.loop-part-test.true c.loop-part.invariant c.in_ok-append_part.ensures.ok

pub returns-clause-ok : goal.returns-clause-ok
returns-clause-ok c = grind (arith, common_steps)
