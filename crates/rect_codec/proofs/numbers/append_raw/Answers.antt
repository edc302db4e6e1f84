use Rattle.std.proofs.Common.{◌≡◌, ◌*◌, ◌∙◌, length, subst, sym, arith}
use Rattle.std.proofs.lemmas.Grind.{common_steps}
use Rattle.std.specs.Prelude.{OnOk}
use Rattle.std.proofs.lemmas.List.{length-map}
use Rattle.pixel_format.specs.Number.{number_color, colors_of}
use Rattle.terms.specs.Appending.{Appends}
use Rattle.rect_data.specs.declared.encoding.Encoding.TheVariants as encodings
use Rattle.rect_codec.specs.Parts.{IsRectangle}
use Rattle.rect_codec.proofs.PartsDrawn.{on_ok_both, raw_rectangle}
use Rattle.rect_codec.proofs.PixelsJoined.{pixels_appended}
use Rattle.rect_codec.proofs.numbers.append_raw.Goals as goal

pub returns-clause-ok : goal.returns-clause-ok
returns-clause-ok c =
    let f = c.args.format.now in
    let area = c.args.area in
    let colors = colors_of f c.args.numbers.now in
    let old = c.args.out.now.items in
    let between = c.append_head.new.out.items in
    let new = c.append_numbers-appended.new.bytes.items in
    let same = sym c.whole_or_none.ensures.outcome in
    let size : length colors ≡ area.h * area.w = length-map c.args.numbers.now (number_color f) ∙ c.requires.size in
    let whole : OnOk c.whole_or_none.result (Appends (IsRectangle f area colors encodings.Raw) old new) =
    on_ok_both c.whole_or_none.result (rw same at c.append_numbers-appended.ensures.ok) (rw same at c.append_numbers-appended.ensures.written) (λ are written.
    raw_rectangle f area colors old between new size c.in_ok-append_head.ensures.ok (pixels_appended f colors between new are written)) in
    on_ok_both c.whole_or_none.result whole c.whole_or_none.ensures.ok (λ rectangle kept.
    subst (Appends (IsRectangle f area colors encodings.Raw) old) (sym kept) rectangle)

pub returns-clause-err : goal.returns-clause-err
returns-clause-err c = grind (arith, common_steps)
