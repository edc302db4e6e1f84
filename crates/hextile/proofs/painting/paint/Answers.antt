use Rattle.std.proofs.Common.{◌≡◌, ◌∙◌, ◌<◌, ℕ, subst, arith, refl, []}
use Rattle.hextile.proofs.Held.{black_pixel}
use Rattle.hextile.specs.Tiles.{tile_count}
use Rattle.hextile.proofs.Tiling.{some_pixels}
use Rattle.hextile.proofs.PaintedTiles.{TilesProgress, tiles_begin, next_tile, tiles_go, tiles_end}
use Rattle.hextile.proofs.painting.paint.Goals as goal

pub loop-number-init : goal.loop-number-init
loop-number-init g c = record {
  width = refl;
  height = refl;
  background = subst g.C.Canvas.holds (black_pixel c.args.format.now) (c.requires.held []);
  foreground = subst g.C.Canvas.holds (black_pixel c.args.format.now) (c.requires.held []);
  painted = λ tiles is. tiles_begin c.args.format.now c.args.area.x c.args.area.y c.args.area.w c.args.area.h tiles c.args.bytes.now
      (g.C.Canvas.width c.args.canvas.now) (g.C.Canvas.height c.args.canvas.now) (g.C.Canvas.picture c.args.canvas.now) is;
}

pub paint_tile-rest-requires-clause-begin : goal.paint_tile-rest-requires-clause-begin
paint_tile-rest-requires-clause-begin g c =
    let w = c.args.area.w in
    let h = c.args.area.h in
    let number = c.loop-number.number in
    let less : number < tile_count w h = omega (arith, c.loop-number-test.true, c.count_tiles-number-end.ensures) in
    let some = some_pixels w h number less in
    let p = c.loop-number.invariant.painted c.requires.whole.0 c.requires.whole.1 in
    let next = next_tile c.args.format.now w h number p.named c.loop-number.rest.now p.others less p.are in
    record { named = p.named; tile = next.tile; rest = next.rest; is = rw (c.tile_area-tile.ensures.width, c.tile_area-tile.ensures.height) next.is }

pub loop-number-preserved : goal.loop-number-preserved
loop-number-preserved g c =
    let w = c.args.area.w in
    let h = c.args.area.h in
    let number = c.loop-number.number in
    let less : number < tile_count w h = omega (arith, c.loop-number-test.true, c.count_tiles-number-end.ensures) in
    let some = some_pixels w h number less in
    let tile = c.tile_area-tile.ensures in
    let done = c.paint_tile-rest.ensures in
    record {
      width = done.width ∙ c.loop-number.invariant.width;
      height = done.height ∙ c.loop-number.invariant.height;
      background = done.background;
      foreground = done.foreground;
      painted = λ tiles is.
          tiles_go c.args.format.now c.args.area.x c.args.area.y w h tiles number c.loop-number.rest.now c.paint_tile-rest.result.now c.loop-number.colors c.paint_tile-rest.new.colors
          (g.C.Canvas.width c.args.canvas.now) (g.C.Canvas.height c.args.canvas.now) (g.C.Canvas.picture c.args.canvas.now) (g.C.Canvas.picture c.loop-number.canvas)
          (g.C.Canvas.picture c.paint_tile-rest.new.canvas) less some.0 (c.loop-number.invariant.painted tiles is)
          (rw (tile.width, tile.height) at done.rest)
          (rw (tile.width, tile.height) at done.colors)
          (rw (tile.width, tile.height, tile.left, tile.top, c.loop-number.invariant.width, c.loop-number.invariant.height) at done.painted);
    }

pub returns-clause-painted : goal.returns-clause-painted
returns-clause-painted g c = λ tiles is.
    let most = c.loop-number.auto.number-end in
    let least = c.loop-number-test.false in
    let all : c.loop-number.number ≡ tile_count c.args.area.w c.args.area.h = omega (arith, most, least, c.count_tiles-number-end.ensures) in
    tiles_end c.args.format.now c.args.area.x c.args.area.y c.args.area.w c.args.area.h tiles c.loop-number.rest.now c.loop-number.colors
    (g.C.Canvas.width c.args.canvas.now) (g.C.Canvas.height c.args.canvas.now) (g.C.Canvas.picture c.args.canvas.now) (g.C.Canvas.picture c.loop-number.canvas)
    (subst (λ (n : ℕ). TilesProgress c.args.format.now c.args.area.x c.args.area.y c.args.area.w c.args.area.h tiles n c.loop-number.rest.now c.loop-number.colors
    (g.C.Canvas.width c.args.canvas.now) (g.C.Canvas.height c.args.canvas.now) (g.C.Canvas.picture c.args.canvas.now) (g.C.Canvas.picture c.loop-number.canvas)) all
    (c.loop-number.invariant.painted tiles is))
