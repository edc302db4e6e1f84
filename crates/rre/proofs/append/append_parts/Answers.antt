use Rattle.std.proofs.Common.{arith}
use Rattle.std.proofs.lemmas.Grind.{common_steps}
use Rattle.terms.proofs.Appends.{each_more, mapped_more}
use Rattle.rre.specs.Data.{AreBytesOf}
use Rattle.rre.specs.Encoded.{part_bytes}
use Rattle.rre.proofs.append.append_parts.Goals as goal

pub loop-part-preserved : goal.loop-part-preserved
loop-part-preserved c = record {
  ok = each_more (AreBytesOf c.args.format.now) c.args.parts.now c.loop-part.part-index _ c.args.bytes.now.items c.loop-part.bytes.items c.append_part.new.bytes.items
      c.loop-part-test.true c.loop-part.invariant.ok c.in_ok-append_part.ensures.ok;
  written = mapped_more (part_bytes c.args.format.now) c.args.parts.now c.loop-part.part-index _ c.args.bytes.now.items c.loop-part.bytes.items c.append_part.new.bytes.items
      c.loop-part-test.true c.loop-part.invariant.written c.in_ok-append_part.ensures.written;
}

pub returns-in_err-append_part-clause-grows : goal.returns-in_err-append_part-clause-grows
returns-in_err-append_part-clause-grows c = grind (arith, common_steps)

pub returns-clause-ok : goal.returns-clause-ok
returns-clause-ok c = grind (arith, common_steps)

pub returns-clause-written : goal.returns-clause-written
returns-clause-written c = grind (arith, common_steps)
