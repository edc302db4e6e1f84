use Rattle.std.proofs.Common.{ℕ, ◌+◌, Bool, arith}
use Rattle.std.specs.Prelude.{◌||◌, Some}
use Rattle.terms.proofs.Areas.{same_smallest}
use Rattle.pixel_sets.specs.Pixels.{is_in_tile}
use Rattle.pixel_sets.proofs.Looked.{is_looked_at, looked_more, only_these, smallest_around, around_pixels, all_looked_at}
use Rattle.pixel_sets.proofs.pixels.Pixels.smallest.Goals as goal
use Rattle.pixel_sets.proofs.pixels.Pixels.smallest.Goals.{in-Some-found, in-None}

pub around-requires-clause-one : goal.around-requires-clause-one
around-requires-clause-one c = rw c.in-Some-found.is at c.tiles.invariant.pixels

pub around-requires-clause-other : goal.around-requires-clause-other
around-requires-clause-other c = c.in-Some.ensures.pixels

pub overflow_add-next : goal.overflow_add-next
overflow_add-next c = omega (arith, c.in-Some.ensures.few)

pub tiles-preserved : goal.tiles-preserved
tiles-preserved c =
    let set = c.args.self.now in
    let area = c.args.area in
    let next = c.tiles.next in
    let part = c.in-Some.part in
    let old : ℕ → ℕ → Bool = is_looked_at set area next in
    let here : ℕ → ℕ → Bool = is_in_tile set part.tile area in
    let more = λ (x y : ℕ). looked_more set area next part x y c.in-Some.ensures in
    elim c.match-found.branch [
      | in-Some-found w ↦
          (let found = w.in-Some-found.found in
          let is = rw w.in-Some-found.is at c.tiles.invariant.is in
          let pixels = rw w.in-Some-found.is at c.tiles.invariant.pixels in
          rw w.found-is (record {
            is = same_smallest (λ x y. old x y || here x y) (is_looked_at set area (part.tile + 1)) more (Some w.around.result)
                (smallest_around old here found part.area w.around.result is c.in-Some.ensures.smallest w.around.ensures);
            pixels = around_pixels found part.area w.around.result pixels c.in-Some.ensures.pixels w.around.ensures;
          }))
      | in-None w ↦
          (let none = rw w.in-None.is at c.tiles.invariant.is in
          rw w.found-is (record {
            is = same_smallest (λ x y. old x y || here x y) (is_looked_at set area (part.tile + 1)) more (Some part.area) (only_these old here part.area none c.in-Some.ensures.smallest);
            pixels = c.in-Some.ensures.pixels;
          }))
    ]

pub returns : goal.returns
returns c =
    let set = c.args.self.now in
    same_smallest (is_looked_at set c.args.area c.tiles.next) _ (λ x y. all_looked_at set c.args.area c.tiles.next x y (rw c.in_default.is at c.next_tile.ensures)) c.tiles.found c.tiles.invariant.is
