use Rattle.std.proofs.Common.{◌≡◌, ◌*◌, ◌∙◌, List, ℕ, length, sym, subst, ap, arith}
use Rattle.std.proofs.lemmas.Grind.{common_steps}
use Rattle.std.proofs.lemmas.List.{length-map}
use Rattle.pixel_format.specs.Pixel.{converted}
use Rattle.terms.specs.Appending.{Appends}
use Rattle.rect_data.specs.declared.encoding.Encoding.TheVariants as encodings
use Rattle.rect_codec.specs.Parts.{IsRectangle}
use Rattle.painter.specs.Sent.{area_colors, sent_colors}
use Rattle.painter.proofs.SentRows.{both_ok}
use Rattle.rect_codec.proofs.PartsDrawn.{raw_rectangle, raw_for}
use Rattle.painter.proofs.update.append_region.Goals as goal
use Rattle.painter.proofs.update.append_region.Goals.{in-Rre+in_ok-numbers+in_ok-append_numbers+else-branch, in_default}

pub returns-clause-ok : goal.returns-clause-ok
returns-clause-ok g c =
    let f = c.args.format.now in
    let area = c.args.area in
    let colors = sent_colors f (g.R.Rows.shown c.args.rows.now) area in
    let kept : c.match-encoding.out.items ≡ c.args.out.now.items = elim c.match-encoding.branch [
      | in-Rre+in_ok-numbers+in_ok-append_numbers+else-branch w ↦ ap (λ v. v.items) w.out-is ∙ w.in_ok-append_numbers.ensures.unchanged w.if-branch.false
      | in_default w ↦ ap (λ v. v.items) w.out-is
    ] in
    let old = c.match-encoding.out.items in
    let many : length colors ≡ area.h * area.w = length-map (area_colors (g.R.Rows.shown c.args.rows.now) area) (converted f) ∙ (c.known_rows.ensures area c.requires.within).size in
    both_ok c.whole_or_none.result c.append_area-appended.result _ _ _ c.whole_or_none.ensures.outcome c.append_area-appended.ensures.ok c.whole_or_none.ensures.ok
    (λ first stays.
    let raw = raw_rectangle f area colors old c.append_head.new.out.items c.append_area-appended.new.out.items many c.in_ok-append_head.ensures.ok first in
    let here = subst (λ (z : List ℕ). Appends (IsRectangle f area colors encodings.Raw) old z) (sym stays) raw in
    raw_for f area colors c.args.encoding c.args.out.now.items c.whole_or_none.new.bytes.items
    (subst (λ (z : List ℕ). Appends (IsRectangle f area colors encodings.Raw) z c.whole_or_none.new.bytes.items) kept here))

pub append_numbers-requires-clause-size : goal.append_numbers-requires-clause-size
append_numbers-requires-clause-size g c = grind (arith, common_steps)

pub returns-clause-err : goal.returns-clause-err
returns-clause-err g c = grind (arith, common_steps)
