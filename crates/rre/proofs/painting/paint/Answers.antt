use Rattle.std.proofs.Common.{◌≡◌, ℕ, zero, suc, ◌<◌, ◌+◌, ◌-◌, ◌∙◌, false, List, length, take, drop, sym, ap, subst, eqb-true, arith}
use Rattle.std.proofs.lemmas.Grind.{common_steps}
use Rattle.std.specs.Prelude.{◌==◌}
use Rattle.std.proofs.lemmas.List.{take_rest}
use Rattle.pixel_format.specs.Format.{Format, pixel_bytes}
use Rattle.pixel_format.specs.Pixel.{pixel_color}
use Rattle.rre.specs.declared.data.Subrectangle.{Subrectangle}
use Rattle.rre.specs.Grammar.{head_bytes, subrectangle_bytes, subrectangle_of}
use Rattle.rre.specs.Data.{LiesWithin, AreSubrectangles}
use Rattle.rre.proofs.Painted.{begun, next_is, progress_begins, progress_goes, progress_ends}
use Rattle.rre.proofs.painting.paint.Goals as goal

some_left : (n : ℕ) (e : (n == 0) ≡ false) → 0 < n
some_left zero e = absurd (cc)
some_left (suc n) e = omega arith

-- the pixel of the head, as the code takes it
head_pixel_is : (f : Format) (n : ℕ) (head bytes : List ℕ) → n ≡ pixel_bytes f → head ≡ take (4 + n) bytes
    → pixel_color f (take (length head - 4) (drop 4 head)) ≡ pixel_color f (drop 4 (take (head_bytes f) bytes))
head_pixel_is f n head bytes is e = ap (pixel_color f) (take_rest head 4 ∙ ap (λ z. drop 4 z) (e ∙ ap (λ z. take (4 + z) bytes) is))

-- a subrectangle, as the code takes it
part_taken : (f : Format) (n : ℕ) (field rest : List ℕ) (part : Subrectangle) → n ≡ pixel_bytes f → field ≡ take (n + 8) rest → part ≡ subrectangle_of f field
    → part ≡ subrectangle_of f (take (subrectangle_bytes f) rest)
part_taken f n field rest part is e same = same ∙ ap (subrectangle_of f) (e ∙ ap (λ z. take (z + 8) rest) is)

-- it lies within the rectangle
part_within : (f : Format) (w h : ℕ) (others : List Subrectangle) (rest : List ℕ) (part : Subrectangle) → AreSubrectangles f w h others rest → 0 < length rest
    → part ≡ subrectangle_of f (take (subrectangle_bytes f) rest) → LiesWithin w h part
part_within f w h others rest part are some same =
    let next = next_is f w h others rest are some in
    subst (λ (s : Subrectangle). LiesWithin w h s) (sym (same ∙ next.is)) next.within

pub loop-rest-init : goal.loop-rest-init
loop-rest-init g c =
    let f = c.args.format.now in
    let at : drop (head_bytes f) c.args.bytes.now ≡ c.split_at.result.1.now = sym (c.split_at.ensures.back ∙ ap (λ n. drop (4 + n) c.args.bytes.now) c.bytes.ensures.value) in
    record {
      width = c.fill.ensures.width;
      height = c.fill.ensures.height;
      painted = λ content is.
          rw (← at) (progress_begins f (g.C.Canvas.width c.args.canvas.now) (g.C.Canvas.height c.args.canvas.now) c.args.area.x c.args.area.y c.args.area.w c.args.area.h
          (g.C.Canvas.picture c.args.canvas.now) (g.C.Canvas.picture c.fill.new.self) c.args.bytes.now content c.pixel.result is
          (c.pixel.ensures ∙ head_pixel_is f c.bytes.result c.split_at.result.0.now c.args.bytes.now c.bytes.ensures.value c.split_at.ensures.front ∙ (begun f c.args.area.w c.args.area.h c.args.bytes.now content is).background)
          c.fill.ensures.painted);
    }

pub split_at-requires-in-loop-rest : goal.split_at-requires-in-loop-rest
split_at-requires-in-loop-rest g c =
    let p = c.loop-rest.invariant.painted c.requires.whole.0 c.requires.whole.1 in
    let some = some_left (length c.loop-rest.rest.now) (sym c.is_empty.ensures ∙ c.loop-rest-test.true) in
    let next = next_is c.args.format.now c.args.area.w c.args.area.h p.others c.loop-rest.rest.now p.left some in
    omega (arith, next.enough, c.bytes-in-loop-rest.ensures.value)

pub overflow_add-filled : goal.overflow_add-filled
overflow_add-filled g c =
    let f = c.args.format.now in
    let p = c.loop-rest.invariant.painted c.requires.whole.0 c.requires.whole.1 in
    let some = some_left (length c.loop-rest.rest.now) (sym c.is_empty.ensures ∙ c.loop-rest-test.true) in
    let taken = part_taken f c.bytes-in-loop-rest.result c.split_at-in-loop-rest.result.0.now c.loop-rest.rest.now c.read_subrectangle-part.result
    c.bytes-in-loop-rest.ensures.value c.split_at-in-loop-rest.ensures.front c.read_subrectangle-part.ensures in
    let within = part_within f c.args.area.w c.args.area.h p.others c.loop-rest.rest.now c.read_subrectangle-part.result p.left some taken in
    omega (arith, within.columns, c.requires.last_column)

pub overflow_add-filled-in-loop-rest : goal.overflow_add-filled-in-loop-rest
overflow_add-filled-in-loop-rest g c =
    let f = c.args.format.now in
    let p = c.loop-rest.invariant.painted c.requires.whole.0 c.requires.whole.1 in
    let some = some_left (length c.loop-rest.rest.now) (sym c.is_empty.ensures ∙ c.loop-rest-test.true) in
    let taken = part_taken f c.bytes-in-loop-rest.result c.split_at-in-loop-rest.result.0.now c.loop-rest.rest.now c.read_subrectangle-part.result
    c.bytes-in-loop-rest.ensures.value c.split_at-in-loop-rest.ensures.front c.read_subrectangle-part.ensures in
    let within = part_within f c.args.area.w c.args.area.h p.others c.loop-rest.rest.now c.read_subrectangle-part.result p.left some taken in
    omega (arith, within.rows, c.requires.last_row)

pub fill-requires-in-loop-rest-clause-within : goal.fill-requires-in-loop-rest-clause-within
fill-requires-in-loop-rest-clause-within g c =
    let f = c.args.format.now in
    let p = c.loop-rest.invariant.painted c.requires.whole.0 c.requires.whole.1 in
    let some = some_left (length c.loop-rest.rest.now) (sym c.is_empty.ensures ∙ c.loop-rest-test.true) in
    let taken = part_taken f c.bytes-in-loop-rest.result c.split_at-in-loop-rest.result.0.now c.loop-rest.rest.now c.read_subrectangle-part.result
    c.bytes-in-loop-rest.ensures.value c.split_at-in-loop-rest.ensures.front c.read_subrectangle-part.ensures in
    let within = part_within f c.args.area.w c.args.area.h p.others c.loop-rest.rest.now c.read_subrectangle-part.result p.left some taken in
    record {
      columns = omega (arith, within.columns, c.requires.within.columns, c.loop-rest.invariant.width);
      rows = omega (arith, within.rows, c.requires.within.rows, c.loop-rest.invariant.height);
    }

pub loop-rest-preserved : goal.loop-rest-preserved
loop-rest-preserved g c =
    let f = c.args.format.now in
    let rest = c.loop-rest.rest.now in
    let some = some_left (length rest) (sym c.is_empty.ensures ∙ c.loop-rest-test.true) in
    let taken = part_taken f c.bytes-in-loop-rest.result c.split_at-in-loop-rest.result.0.now rest c.read_subrectangle-part.result
    c.bytes-in-loop-rest.ensures.value c.split_at-in-loop-rest.ensures.front c.read_subrectangle-part.ensures in
    let at : drop (subrectangle_bytes f) rest ≡ c.split_at-in-loop-rest.result.1.now = sym (c.split_at-in-loop-rest.ensures.back ∙ ap (λ n. drop (n + 8) rest) c.bytes-in-loop-rest.ensures.value) in
    record {
      width = c.fill-in-loop-rest.ensures.width ∙ c.loop-rest.invariant.width;
      height = c.fill-in-loop-rest.ensures.height ∙ c.loop-rest.invariant.height;
      painted = λ content is.
          rw (← at) (progress_goes f (g.C.Canvas.width c.args.canvas.now) (g.C.Canvas.height c.args.canvas.now) c.args.area.x c.args.area.y c.args.area.w c.args.area.h
          (g.C.Canvas.picture c.args.canvas.now) (g.C.Canvas.picture c.loop-rest.canvas) (g.C.Canvas.picture c.fill-in-loop-rest.new.self) content rest c.read_subrectangle-part.result some taken
          (c.loop-rest.invariant.painted content is)
          (rw (c.loop-rest.invariant.width, c.loop-rest.invariant.height) at c.fill-in-loop-rest.ensures.painted));
    }

pub returns-clause-painted : goal.returns-clause-painted
returns-clause-painted g c = λ content is.
    let none = eqb-true (length c.loop-rest.rest.now) 0 (sym c.is_empty.ensures ∙ c.loop-rest-test.false) in
    progress_ends c.args.format.now (g.C.Canvas.width c.args.canvas.now) (g.C.Canvas.height c.args.canvas.now) c.args.area.x c.args.area.y c.args.area.w c.args.area.h
    (g.C.Canvas.picture c.args.canvas.now) (g.C.Canvas.picture c.loop-rest.canvas) content c.loop-rest.rest.now none (c.loop-rest.invariant.painted content is)

pub fill-requires-in-loop-rest-clause-held : goal.fill-requires-in-loop-rest-clause-held
unfolding subrectangle_of
fill-requires-in-loop-rest-clause-held g c =
    subst (λ (s : Subrectangle). g.C.Canvas.holds s.color) (sym c.read_subrectangle-part.ensures) (c.requires.held _)

pub split_at-requires : goal.split_at-requires
split_at-requires g c = grind (arith, common_steps)
