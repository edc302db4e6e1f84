use Rattle.std.proofs.Common.{◌≡◌, ◌∙◌, ◌<◌, ◌≤◌, length, take, get_or, refl, sym, ap}
use Rattle.std.proofs.lemmas.List.{take_all}
use Rattle.pixel_format.specs.Canvas.{Picture, Agree}
use Rattle.painter.specs.Framebuffer.{color_at}
use Rattle.painter.specs.Picture.{painted_rectangle, painted_rectangles}
use Rattle.painter.proofs.Order.{no_rectangle, no_rectangles}
use Rattle.painter.proofs.Screens.{rectangle_more, shows_more}
use Rattle.painter.proofs.screen.Screen.paint.Goals as goal

pub loop-number-init : goal.loop-number-init
loop-number-init c = record {
  width = refl;
  height = refl;
  painted = λ x y across down. sym (ap (λ (p : Picture). p x y) (no_rectangles c.args.message.now.bytes (color_at c.args.self.now)));
}

pub loop-number-preserved : goal.loop-number-preserved
loop-number-preserved c =
    let m = c.args.message.now in
    let i = c.loop-number.number in
    let old = color_at c.args.self.now in
    let earlier = color_at c.loop-number.self in
    let new = color_at c.paint_rectangle.new.self in
    let width : c.paint_rectangle.new.self.width ≡ c.args.self.now.width = c.paint_rectangle.ensures.size.width ∙ c.loop-number.invariant.width in
    let height : c.paint_rectangle.new.self.height ≡ c.args.self.now.height = c.paint_rectangle.ensures.size.height ∙ c.loop-number.invariant.height in
    let lt : i < length m.rectangles = rw (← c.rectangles-number-end.ensures.value) c.loop-number-test.true in
    let so_far : Agree m.width m.height earlier (painted_rectangles m.bytes (take i m.rectangles) old) =
    λ x y across down. c.loop-number.invariant.painted x y (rw (← c.requires.width) across) (rw (← c.requires.height) down) in
    let done : Agree m.width m.height new (painted_rectangle m.bytes (get_or m.rectangles i no_rectangle) earlier) =
    λ x y across down. c.paint_rectangle.ensures.painted no_rectangle x y (rw (width, ← c.requires.width) across) (rw (height, ← c.requires.height) down) in
    record {
      width = width;
      height = height;
      painted = λ x y across down.
          rectangle_more m i old earlier new c.rectangles-number-end.ensures.placed lt so_far done x y (rw c.requires.width across) (rw c.requires.height down);
    }

pub returns-clause-shows : goal.returns-clause-shows
returns-clause-shows c = λ messages shows.
    let m = c.args.message.now in
    let le : length m.rectangles ≤ c.loop-number.number = rw (← c.rectangles-number-end.ensures.value) c.loop-number-test.false in
    let all = take_all c.loop-number.number m.rectangles le in
    let done = rw all at c.loop-number.invariant.painted in
    λ x y across down. shows_more c.args.self.now c.loop-number.self m messages c.requires.width c.requires.height c.rectangles-number-end.ensures.placed shows done x y
    (rw (← c.loop-number.invariant.width) across) (rw (← c.loop-number.invariant.height) down)
