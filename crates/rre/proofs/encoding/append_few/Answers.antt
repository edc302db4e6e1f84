use Rattle.std.proofs.Common.{sym, ◌∙◌, arith}
use Rattle.std.proofs.lemmas.Grind.{common_steps}
use Rattle.std.proofs.lemmas.List.{length-map}
use Rattle.pixel_format.specs.Number.{number_color, colors_of}
use Rattle.rre.proofs.Lengths.{has_few}
use Rattle.rre.proofs.Numbers.{colors_within, few_others, many_others}
use Rattle.rre.proofs.Shown.{parts_within, shown}
use Rattle.rre.proofs.encoding.append_few.Goals as goal

pub append_data-appended-requires-clause-parts : goal.append_data-appended-requires-clause-parts
append_data-appended-requires-clause-parts c = λ k d lt.
    let f = c.args.format.now in
    rw c.deref.ensures.value
    (parts_within f (colors_of f c.args.pixels.numbers.now) c.args.pixels.w c.args.pixels.h c.in-Some.parts.items k d (colors_within f c.args.pixels.numbers.now c.requires)
    (length-map c.args.pixels.numbers.now (number_color f) ∙ c.args.pixels.size) (rw c.in-Some.is at c.in_ok-covered.ensures.uniform) (rw c.deref.ensures.value at lt))

pub returns-clause-appended : goal.returns-clause-appended
returns-clause-appended c =
    let f = c.args.format.now in
    let same = sym c.in_ok-whole_or_none.ensures.outcome in
    let fine = rw same at c.append_data-appended.ensures.ok in
    let written = rw same at c.append_data-appended.ensures.written in
    record {
      ok = λ _. shown f (colors_of f c.args.pixels.numbers.now) c.args.pixels.w c.args.pixels.h (number_color f c.background_number-number.result) c.in-Some.parts.items c.args.bytes.now.items c.whole_or_none.new.bytes.items
          (rw c.in-Some.is at c.in_ok-covered.ensures.uniform) (rw c.in-Some.is at c.in_ok-covered.ensures.picture)
          (rw (c.color_of-background.ensures, c.deref.ensures.value, sym c.in_ok-whole_or_none.ensures.ok) at fine)
          (rw (c.color_of-background.ensures, c.deref.ensures.value, sym c.in_ok-whole_or_none.ensures.ok) at written);
      unchanged = λ no. absurd (cc);
      err = tt;
    }

pub returns-clause-few : goal.returns-clause-few
returns-clause-few c = λ _.
    let f = c.args.format.now in
    let same = sym c.in_ok-whole_or_none.ensures.outcome in
    let fine = rw same at c.append_data-appended.ensures.ok in
    has_few f (colors_of f c.args.pixels.numbers.now) (number_color f c.background_number-number.result) c.in-Some.parts.items c.args.bytes.now.items c.whole_or_none.new.bytes.items
    c.background_number-number.ensures.majority
    (few_others f c.background_number-number.result c.args.pixels.numbers.now _ c.background_number-number.ensures.number c.requires (rw c.in-Some.is at c.in_ok-covered.ensures.apart))
    (rw (c.color_of-background.ensures, c.deref.ensures.value, sym c.in_ok-whole_or_none.ensures.ok) at fine)

pub returns-in_default-clause-many : goal.returns-in_default-clause-many
returns-in_default-clause-many c = λ _.
    many_others c.args.format.now c.background_number-number.result c.args.pixels.numbers.now c.args.most c.background_number-number.ensures.number c.requires c.background_number-number.ensures.majority
    (c.in_ok-covered.ensures.many c.in_default.is)

pub returns-in_err-whole_or_none-clause-appended : goal.returns-in_err-whole_or_none-clause-appended
returns-in_err-whole_or_none-clause-appended c = grind (arith, common_steps)
