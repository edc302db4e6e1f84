use Rattle.std.proofs.Common.{List, ◌++◌, map, subst, ap, ◌∙◌, arith}
use Rattle.std.proofs.lemmas.Grind.{common_steps}
use Rattle.std.specs.List.{flat_map}
use Rattle.std.proofs.lemmas.List.{take_all}
use Rattle.terms.specs.Appending.{Appends}
use Rattle.hextile.specs.declared.cover.Part.{Part}
use Rattle.hextile.specs.Data.{AreSubrectangles}
use Rattle.hextile.specs.Encoded.{drawn, part_bytes}
use Rattle.terms.proofs.Appends.{grows_more, mapped_more}
use Rattle.hextile.proofs.Written.{parts_more, flat_map-map}
use Rattle.hextile.proofs.writing.append_parts.Goals as goal

pub loop-part-preserved : goal.loop-part-preserved
loop-part-preserved c = record {
  grows = grows_more _ _ _ c.loop-part.invariant.grows c.append_part.ensures.grows;
  are = λ w h are.
      parts_more c.args.format.now c.args.colored w h c.args.parts.now c.loop-part.part-index _ c.args.bytes.now.items c.loop-part.bytes.items c.append_part.new.bytes.items
      c.loop-part-test.true (are c.loop-part.part-index _ c.loop-part-test.true) (c.loop-part.invariant.are w h are) c.in_ok-append_part.ensures.ok;
  written = mapped_more (λ s. part_bytes c.args.format.now (drawn c.args.colored s)) c.args.parts.now c.loop-part.part-index _ c.args.bytes.now.items c.loop-part.bytes.items c.append_part.new.bytes.items
      c.loop-part-test.true c.loop-part.invariant.written c.in_ok-append_part.ensures.written;
}

pub returns-clause-ok : goal.returns-clause-ok
returns-clause-ok c = λ w h are.
    subst (λ (ps : List Part). Appends (AreSubrectangles c.args.format.now c.args.colored w h (map (drawn c.args.colored) ps)) c.args.bytes.now.items c.loop-part.bytes.items)
    (take_all c.loop-part.part-index c.args.parts.now c.loop-part-test.false) (c.loop-part.invariant.are w h are)

pub returns-clause-written : goal.returns-clause-written
returns-clause-written c =
    let each = λ (s : Part). part_bytes c.args.format.now (drawn c.args.colored s) in
    c.loop-part.invariant.written
    ∙ ap (λ (ps : List Part). c.args.bytes.now.items ++ flat_map each ps) (take_all c.loop-part.part-index c.args.parts.now c.loop-part-test.false)
    ∙ ap (λ z. c.args.bytes.now.items ++ z) (flat_map-map (part_bytes c.args.format.now) (drawn c.args.colored) c.args.parts.now)

pub returns-in_err-append_part-clause-grows : goal.returns-in_err-append_part-clause-grows
returns-in_err-append_part-clause-grows c = grind (arith, common_steps)
