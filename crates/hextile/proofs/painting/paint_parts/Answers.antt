use Rattle.std.proofs.Common.{◌≡◌, ◌∙◌, ◌+◌, ◌-◌, ℕ, suc, drop, refl, sym, ap, subst, arith}
use Rattle.std.specs.Prelude.{unwrap_or}
use Rattle.hextile.specs.declared.fields.Subrectangle.{Subrectangle}
use Rattle.hextile.specs.Grammar.{color_if, subrectangle_of, subrectangle_bytes, subrectangles_at}
use Rattle.hextile.proofs.Held.{held_or}
use Rattle.hextile.proofs.PaintedParts.{PartsProgress, parts_begin, parts_go, parts_end, part_taken, taken_field, any_part}
use Rattle.hextile.proofs.painting.paint_parts.Goals as goal

pub loop-init : goal.loop-init
loop-init g c = record {
  width = refl;
  height = refl;
  painted = λ parts after e.
      let all : c.args.count - 0 ≡ c.args.count = omega arith in
      parts_begin c.args.format.now c.args.colored c.args.area.x c.args.area.y c.args.area.w c.args.area.h (c.args.count - 0) c.args.foreground parts after c.args.bytes.now
      (g.C.Canvas.width c.args.canvas.now) (g.C.Canvas.height c.args.canvas.now) (g.C.Canvas.picture c.args.canvas.now)
      (ap (λ n. subrectangles_at c.args.format.now c.args.colored c.args.area.w c.args.area.h n c.args.bytes.now) all ∙ e);
}

pub split_at-requires : goal.split_at-requires
split_at-requires g c =
    let f = c.args.format.now in
    let area = c.args.area in
    let rest = c.loop.rest.now in
    let left : c.args.count - c.loop.counter ≡ suc (c.args.count - (c.loop.counter + 1)) = omega (arith, c.loop-test.true) in
    let p = c.loop.invariant.painted c.requires.begin.parts c.requires.begin.rest c.requires.begin.is in
    let t = part_taken f c.args.colored area.x area.y area.w area.h (c.args.count - c.loop.counter) (c.args.count - (c.loop.counter + 1)) c.args.foreground
    c.requires.begin.parts c.requires.begin.rest rest (g.C.Canvas.width c.args.canvas.now) (g.C.Canvas.height c.args.canvas.now)
    (g.C.Canvas.picture c.args.canvas.now) (g.C.Canvas.picture c.loop.canvas) any_part left p in
    omega (arith, t.enough, c.pixel_size-size.ensures.size)

pub overflow_add-filled : goal.overflow_add-filled
overflow_add-filled g c =
    let f = c.args.format.now in
    let area = c.args.area in
    let rest = c.loop.rest.now in
    let left : c.args.count - c.loop.counter ≡ suc (c.args.count - (c.loop.counter + 1)) = omega (arith, c.loop-test.true) in
    let p = c.loop.invariant.painted c.requires.begin.parts c.requires.begin.rest c.requires.begin.is in
    let t = part_taken f c.args.colored area.x area.y area.w area.h (c.args.count - c.loop.counter) (c.args.count - (c.loop.counter + 1)) c.args.foreground
    c.requires.begin.parts c.requires.begin.rest rest (g.C.Canvas.width c.args.canvas.now) (g.C.Canvas.height c.args.canvas.now)
    (g.C.Canvas.picture c.args.canvas.now) (g.C.Canvas.picture c.loop.canvas) c.read_subrectangle-part.result left p in
    let read = taken_field f c.args.colored c.pixel_size-size.result c.split_at.result.0.now rest c.read_subrectangle-part.result c.pixel_size-size.ensures.size c.split_at.ensures.front c.read_subrectangle-part.ensures in
    let within = t.within read in
    omega (arith, within.columns, c.requires.last_column)

pub overflow_add-filled-in-loop : goal.overflow_add-filled-in-loop
overflow_add-filled-in-loop g c =
    let f = c.args.format.now in
    let area = c.args.area in
    let rest = c.loop.rest.now in
    let left : c.args.count - c.loop.counter ≡ suc (c.args.count - (c.loop.counter + 1)) = omega (arith, c.loop-test.true) in
    let p = c.loop.invariant.painted c.requires.begin.parts c.requires.begin.rest c.requires.begin.is in
    let t = part_taken f c.args.colored area.x area.y area.w area.h (c.args.count - c.loop.counter) (c.args.count - (c.loop.counter + 1)) c.args.foreground
    c.requires.begin.parts c.requires.begin.rest rest (g.C.Canvas.width c.args.canvas.now) (g.C.Canvas.height c.args.canvas.now)
    (g.C.Canvas.picture c.args.canvas.now) (g.C.Canvas.picture c.loop.canvas) c.read_subrectangle-part.result left p in
    let read = taken_field f c.args.colored c.pixel_size-size.result c.split_at.result.0.now rest c.read_subrectangle-part.result c.pixel_size-size.ensures.size c.split_at.ensures.front c.read_subrectangle-part.ensures in
    let within = t.within read in
    omega (arith, within.rows, c.requires.last_row)

pub fill-requires-clause-held : goal.fill-requires-clause-held
unfolding subrectangle_of
fill-requires-clause-held g c =
    let color : c.unwrap_or.result ≡ unwrap_or (color_if c.args.format.now c.args.colored c.split_at.result.0.now) c.args.foreground =
    c.unwrap_or.ensures ∙ ap (λ (s : Subrectangle). unwrap_or s.color c.args.foreground) c.read_subrectangle-part.ensures in
    subst g.C.Canvas.holds (sym color) (held_or g.C.Canvas.holds c.args.format.now c.args.colored c.split_at.result.0.now c.args.foreground c.requires.held c.requires.foreground)

pub fill-requires-clause-within : goal.fill-requires-clause-within
fill-requires-clause-within g c =
    let f = c.args.format.now in
    let area = c.args.area in
    let rest = c.loop.rest.now in
    let left : c.args.count - c.loop.counter ≡ suc (c.args.count - (c.loop.counter + 1)) = omega (arith, c.loop-test.true) in
    let p = c.loop.invariant.painted c.requires.begin.parts c.requires.begin.rest c.requires.begin.is in
    let t = part_taken f c.args.colored area.x area.y area.w area.h (c.args.count - c.loop.counter) (c.args.count - (c.loop.counter + 1)) c.args.foreground
    c.requires.begin.parts c.requires.begin.rest rest (g.C.Canvas.width c.args.canvas.now) (g.C.Canvas.height c.args.canvas.now)
    (g.C.Canvas.picture c.args.canvas.now) (g.C.Canvas.picture c.loop.canvas) c.read_subrectangle-part.result left p in
    let read = taken_field f c.args.colored c.pixel_size-size.result c.split_at.result.0.now rest c.read_subrectangle-part.result c.pixel_size-size.ensures.size c.split_at.ensures.front c.read_subrectangle-part.ensures in
    let within = t.within read in
    record {
      columns = omega (arith, within.columns, c.requires.within.columns, c.loop.invariant.width);
      rows = omega (arith, within.rows, c.requires.within.rows, c.loop.invariant.height);
    }

pub loop-preserved : goal.loop-preserved
loop-preserved g c =
    let f = c.args.format.now in
    let area = c.args.area in
    let rest = c.loop.rest.now in
    let part = c.read_subrectangle-part.result in
    let left : c.args.count - c.loop.counter ≡ suc (c.args.count - (c.loop.counter + 1)) = omega (arith, c.loop-test.true) in
    let read = taken_field f c.args.colored c.pixel_size-size.result c.split_at.result.0.now rest part c.pixel_size-size.ensures.size c.split_at.ensures.front c.read_subrectangle-part.ensures in
    let at : drop (subrectangle_bytes f c.args.colored) rest ≡ c.split_at.result.1.now = ap (λ n. drop (n + 2) rest) (sym c.pixel_size-size.ensures.size) ∙ sym c.split_at.ensures.back in
    record {
      width = c.fill.ensures.width ∙ c.loop.invariant.width;
      height = c.fill.ensures.height ∙ c.loop.invariant.height;
      painted = λ parts after e.
          rw (← at) (parts_go f c.args.colored area.x area.y area.w area.h (c.args.count - c.loop.counter) (c.args.count - (c.loop.counter + 1)) c.args.foreground parts after rest
          (g.C.Canvas.width c.args.canvas.now) (g.C.Canvas.height c.args.canvas.now)
          (g.C.Canvas.picture c.args.canvas.now) (g.C.Canvas.picture c.loop.canvas) (g.C.Canvas.picture c.fill.new.self) part c.unwrap_or.result left read c.unwrap_or.ensures
          (c.loop.invariant.painted parts after e)
          (rw (c.loop.invariant.width, c.loop.invariant.height) at c.fill.ensures.painted));
    }

pub returns-clause-rest : goal.returns-clause-rest
returns-clause-rest g c = λ parts after e.
    let area = c.args.area in
    let none : c.args.count - c.loop.counter ≡ 0 = omega (arith, c.loop-test.false) in
    let p = subst (λ (n : ℕ). PartsProgress c.args.format.now c.args.colored area.x area.y area.w area.h n c.args.foreground parts after c.loop.rest.now
    (g.C.Canvas.width c.args.canvas.now) (g.C.Canvas.height c.args.canvas.now) (g.C.Canvas.picture c.args.canvas.now) (g.C.Canvas.picture c.loop.canvas)) none
    (c.loop.invariant.painted parts after e) in
    (parts_end c.args.format.now c.args.colored area.x area.y area.w area.h c.args.foreground parts after c.loop.rest.now
    (g.C.Canvas.width c.args.canvas.now) (g.C.Canvas.height c.args.canvas.now) (g.C.Canvas.picture c.args.canvas.now) (g.C.Canvas.picture c.loop.canvas) p).rest_is

pub returns-clause-painted : goal.returns-clause-painted
returns-clause-painted g c = λ parts after e.
    let area = c.args.area in
    let none : c.args.count - c.loop.counter ≡ 0 = omega (arith, c.loop-test.false) in
    let p = subst (λ (n : ℕ). PartsProgress c.args.format.now c.args.colored area.x area.y area.w area.h n c.args.foreground parts after c.loop.rest.now
    (g.C.Canvas.width c.args.canvas.now) (g.C.Canvas.height c.args.canvas.now) (g.C.Canvas.picture c.args.canvas.now) (g.C.Canvas.picture c.loop.canvas)) none
    (c.loop.invariant.painted parts after e) in
    (parts_end c.args.format.now c.args.colored area.x area.y area.w area.h c.args.foreground parts after c.loop.rest.now
    (g.C.Canvas.width c.args.canvas.now) (g.C.Canvas.height c.args.canvas.now) (g.C.Canvas.picture c.args.canvas.now) (g.C.Canvas.picture c.loop.canvas) p).painted
