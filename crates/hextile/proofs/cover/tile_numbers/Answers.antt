use Rattle.std.proofs.Common.{◌≡◌, ◌∙◌, ◌<◌, ◌≤◌, ◌+◌, ◌*◌, ◌/◌, ◌%◌, ℕ, get_or, length, ap, sym, subst, arith}
use Rattle.std.proofs.lemmas.List.{length-set}
use Rattle.std.proofs.lemmas.Nat.{div-mul-add, mod-mul-add, mul-add-lt}
use Rattle.std.proofs.Math.Nat.{mul-le-mul}
use Rattle.std.specs.Prelude.{slice_set}
use Rattle.hextile.specs.Numbered.{AreTileNumbers}
use Rattle.hextile.proofs.NumberTiles.{numbers_more}
use Rattle.hextile.proofs.cover.tile_numbers.Goals as goal

pub loop-column-preserved : goal.loop-column-preserved
loop-column-preserved c =
    let area = c.args.area in
    let tw = area.w in
    let row = c.loop-row.row in
    let column = c.loop-column.column in
    let k = row * tw + column in
    let across : column < tw = omega (arith, c.loop-column-test.true) in
    let down : row < area.h = omega (arith, c.loop-row-test.true) in
    let most : tw * area.h ≤ 256 = mul-le-mul c.requires.wide c.requires.high in
    let fits : k < length c.loop-column.tile = omega (arith, most, c.loop-column.invariant.size, mul-add-lt row tw column area.h down across) in
    let at : (area.y + k / tw) * c.args.w + (area.x + k % tw) ≡ (area.y + row) * c.args.w + area.x + column =
    ap (λ (n : ℕ). (area.y + n) * c.args.w + (area.x + k % tw)) (div-mul-add row tw column across)
    ∙ ap (λ (n : ℕ). (area.y + row) * c.args.w + (area.x + n)) (mod-mul-add row tw column across) ∙ omega arith in
    let next : k + 1 ≡ row * tw + (column + 1) = omega arith in
    record {
      size = length-set _ _ _ ∙ c.loop-column.invariant.size;
      are = subst (λ (n : ℕ). AreTileNumbers c.args.numbers.now c.args.w area.x area.y tw
          (slice_set c.loop-column.tile k (get_or c.args.numbers.now ((area.y + row) * c.args.w + area.x + column) 0)) n) next
          (numbers_more c.args.numbers.now c.args.w area.x area.y tw c.loop-column.tile k _ fits c.loop-column.invariant.are (ap (λ n. get_or c.args.numbers.now n 0) (sym at)));
    }
