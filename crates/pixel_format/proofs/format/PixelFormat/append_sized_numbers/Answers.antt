use Rattle.std.proofs.Common.{◌≡◌, ◌<◌, ◌++◌, length, get_or, map, sym, ap, subst, ◌∙◌, arith}
use Rattle.std.proofs.lemmas.Grind.{common_steps}
use Rattle.std.proofs.lemmas.List.{get_or-map, length-map}
use Rattle.pixel_format.specs.declared.Color.{Color}
use Rattle.pixel_format.specs.Canvas.{black, nth}
use Rattle.pixel_format.specs.Pixel.{IsPixel, pixel_of}
use Rattle.pixel_format.specs.Number.{number_color}
use Rattle.terms.specs.Appending.{Appends}
use Rattle.terms.proofs.Appends.{each_more, mapped_more}
use Rattle.pixel_format.proofs.format.PixelFormat.append_sized_numbers.Goals as goal

pub loop-number-preserved : goal.loop-number-preserved
loop-number-preserved c =
    let f = c.args.self.now in
    let all = map (number_color f) c.args.numbers.now in
    let k = c.loop-number.number-index in
    let inside : k < length all = omega (arith, length-map c.args.numbers.now (number_color f), c.loop-number-test.true) in
    let here : number_color f (get_or c.args.numbers.now k 0) ≡ nth all k = sym (get_or-map (number_color f) c.args.numbers.now k 0 black c.loop-number-test.true) in
    record {
      ok = each_more (IsPixel f) all k black c.args.bytes.now.items c.loop-number.bytes.items c.append_sized_number.new.bytes.items
          inside c.loop-number.invariant.ok (subst (λ (color : Color). Appends (IsPixel f color) c.loop-number.bytes.items c.append_sized_number.new.bytes.items) here c.in_ok-append_sized_number.ensures.ok);
      written = mapped_more (pixel_of f) all k black c.args.bytes.now.items c.loop-number.bytes.items c.append_sized_number.new.bytes.items
          inside c.loop-number.invariant.written (c.in_ok-append_sized_number.ensures.written ∙ ap (λ (color : Color). c.loop-number.bytes.items ++ pixel_of f color) here);
    }

pub returns-clause-ok : goal.returns-clause-ok
returns-clause-ok c = grind (arith, common_steps)

pub returns-clause-written : goal.returns-clause-written
returns-clause-written c = grind (arith, common_steps)
