use Rattle.std.proofs.Common.{◌+◌, List, subst, sym, arith}
use Rattle.std.proofs.lemmas.Result.{IfOk-weaker}
use Rattle.terms.specs.declared.area.Area.{Area}
use Rattle.pixel_sets.specs.Pixels.{AreFirstTiles}
use Rattle.pixel_sets.proofs.Sent.{tile_more, sent_alone}
use Rattle.pixel_sets.proofs.pixels.Pixels.areas.Goals as goal

pub overflow_add-next : goal.overflow_add-next
overflow_add-next c = omega (arith, c.in-Some.ensures.few)

pub returns-then-len-eq-MOST_AREAS : goal.returns-then-len-eq-MOST_AREAS
returns-then-len-eq-MOST_AREAS c =
    let set = c.args.self.now in
    IfOk-weaker c.one_area.result _ _
    (λ areas alone. sent_alone set c.args.area c.tiles.next c.tiles.areas.items areas.items c.in-Some.part c.tiles.invariant.first c.in-Some.ensures (omega arith) alone)
    c.one_area.ensures

pub tiles-preserved : goal.tiles-preserved
tiles-preserved c =
    let set = c.args.self.now in
    let more = tile_more set c.args.area 0 c.tiles.next c.tiles.areas.items c.in-Some.part c.tiles.invariant.first c.in-Some.ensures in
    record {
      first = subst (λ (l : List Area). AreFirstTiles set c.args.area 0 (c.in-Some.part.tile + 1) l) (sym c.in_ok-push.ensures.items) more;
      few = omega (arith, c.in_ok-push.ensures.len);
    }
