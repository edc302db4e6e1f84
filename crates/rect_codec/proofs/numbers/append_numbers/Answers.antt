use Rattle.std.proofs.Common.{arith}
use Rattle.std.proofs.lemmas.Grind.{common_steps}
use Rattle.pixel_format.specs.Number.{colors_of}
use Rattle.rect_codec.proofs.PartsDrawn.{short_rectangle}
use Rattle.rect_codec.proofs.numbers.append_numbers.Goals as goal

pub returns-in-Ok-true : goal.returns-in-Ok-true
returns-in-Ok-true c = record {
  ok = λ whole.
      short_rectangle c.args.format.now c.args.area (colors_of c.args.format.now c.args.numbers.now) c.args.encoding
      c.args.out.now.items c.append_head.new.out.items c.append_data-written.new.out.items
      c.in_ok-append_head.ensures.ok (c.in-Ok-true.ensures.appended.ok whole) (c.in-Ok-true.ensures.short whole);
  unchanged = λ no. absurd (cc);
  err = tt;
}

pub returns : goal.returns
returns c = grind (arith, common_steps)
