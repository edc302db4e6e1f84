use Rattle.std.proofs.Common.{◌≡◌, ℕ, ◌++◌, List, length, take, cond, ap, sym, ◌∙◌, arith}
use Rattle.std.specs.Prelude.{is_ok}
use Rattle.std.proofs.lemmas.List.{take_at, length-map, length-take-le}
use borrow.Rule.Slice.PartMut.{post_of}
use Rattle.pixel_format.specs.Pixel.{converted}
use Rattle.painter.specs.Pixels.{color_of}
use Rattle.painter.specs.Sent.{seen_colors}
use Rattle.painter.specs.Numbered.{AreNumbersOf}
use Rattle.painter.proofs.SentNumbers.{numbers_are, ok_appended}
use Rattle.painter.proofs.numbering.append_some.Goals as goal

pub returns : goal.returns
returns c =
    let f = c.args.format.now in
    let row = c.args.row.now in
    let old = c.args.out.now.items in
    let block = c.args.block.now in
    let numbers = c.number_row.new.numbers in
    let told : length block ≡ 256 = c.told-block in
    let many : length numbers ≡ length row = c.number_row.auto.numbers ∙ length-take-le (length row) block (omega (arith, told, c.requires)) in
    let colors : length (seen_colors f row) ≡ length row = length-map row (λ p. converted f (color_of p)) in
    let kept : take (length row) (numbers ++ post_of 0 (length row) block) ≡ numbers = take_at numbers (post_of 0 (length row) block) (length row) many in
    ok_appended c.extend_from_slice.result (AreNumbersOf f (seen_colors f row)) old c.extend_from_slice.new.self.items numbers
    (c.extend_from_slice.ensures.items ∙ ap (λ (z : List ℕ). cond (is_ok c.extend_from_slice.result) (old ++ z) old) kept)
    (numbers_are f (seen_colors f row) numbers (many ∙ sym colors) (λ k less. c.number_row.ensures k (omega (arith, less, colors))))
