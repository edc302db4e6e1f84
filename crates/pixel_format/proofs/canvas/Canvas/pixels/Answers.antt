use Rattle.std.proofs.Common.{◌≡◌, ◌∙◌, ◌*◌, ◌<◌, ◌≤◌, ap, arith}
use Rattle.pixel_format.proofs.PixelsLaid.{pixels_upto, pixels_go, pixels_end, some_wide, pixel_taken}
use Rattle.pixel_format.proofs.canvas.Canvas.pixels.Goals as goal

pub loop-k-preserved : goal.loop-k-preserved
loop-k-preserved g c = record {
  width = c.fill.ensures.width ∙ c.loop-k.invariant.width;
  height = c.fill.ensures.height ∙ c.loop-k.invariant.height;
  shows = λ column row across down.
      let f = c.args.format.now in
      let area = c.args.area in
      let k = c.loop-k.k in
      let bytes = c.args.bytes.now in
      let old = g.Self.Canvas.picture c.args.self.now in
      let between = g.Self.Canvas.picture c.loop-k.self in
      let less : k < area.w * area.h = rw (c.from-wide.ensures, c.from-high.ensures) at c.loop-k-test.true in
      let color = c.pixel-color.ensures ∙ pixel_taken f c.bytes-size.result k bytes c.bytes-size.ensures.value in
      let painted = rw c.from-wide.ensures at c.fill.ensures.painted in
      painted column row (rw c.loop-k.invariant.width across) (rw c.loop-k.invariant.height down)
      ∙ pixels_go f area.x area.y area.w area.h k bytes c.pixel-color.result old between column row less (some_wide area.w area.h k less) color
      (c.loop-k.invariant.shows column row across down);
}

pub returns-clause-painted : goal.returns-clause-painted
returns-clause-painted g c = λ column row across down.
    let f = c.args.format.now in
    let area = c.args.area in
    let bytes = c.args.bytes.now in
    let old = g.Self.Canvas.picture c.args.self.now in
    let most : c.loop-k.k ≤ area.w * area.h = rw (c.from-wide.ensures, c.from-high.ensures) at c.loop-k.auto.k-end in
    let least : area.w * area.h ≤ c.loop-k.k = rw (c.from-wide.ensures, c.from-high.ensures) at c.loop-k-test.false in
    let all : c.loop-k.k ≡ area.w * area.h = omega arith in
    c.loop-k.invariant.shows column row across down
    ∙ ap (λ k. pixels_upto f area.x area.y area.w area.h bytes k old column row) all
    ∙ pixels_end f area.x area.y area.w area.h bytes old column row
