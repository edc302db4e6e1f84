use Rattle.std.proofs.Common.{◌≡◌, ◌*◌, ◌++◌, true, false, take, sym, ap, ◌∙◌, refl, append_assoc}
use Rattle.std.proofs.lemmas.List.{length-take-le}
use Rattle.pixel_format.specs.Format.{pixel_bytes}
use Rattle.rect_data.specs.Grammar.{is_inside, source_of, copy_at}
use Rattle.rect_data.specs.Judging.{wants_of, resume, go_on}
use Rattle.rect_data.proofs.Steps.{pixels_whole, source_inside, source_outside, parts_of}
use Rattle.rect_data.proofs.judging.Judging.run.Goals as goal

pub returns-then-bytes-length-clause-goes : goal.returns-then-bytes-length-clause-goes
unfolding go_on
returns-then-bytes-length-clause-goes c = λ more. refl

pub returns-then-bytes-lt4-clause-goes : goal.returns-then-bytes-lt4-clause-goes
unfolding go_on
returns-then-bytes-lt4-clause-goes c = λ more. rw c.in-Source.is refl

pub returns-then-not-lies_inside-clause-refused : goal.returns-then-not-lies_inside-clause-refused
unfolding resume
returns-then-not-lies_inside-clause-refused c = λ more.
    let area = c.in-Source.area in
    let source = c.split_at.result.0.now in
    let following = c.split_at.result.1.now in
    let is : c.args.bytes.now ≡ source ++ following = parts_of 4 c.args.bytes.now source following c.split_at.ensures.front c.split_at.ensures.back in
    let out : is_inside c.args.size.width c.args.size.height (source_of area source) ≡ false =
    ap (is_inside c.args.size.width c.args.size.height) (sym c.source_at.ensures) ∙ sym c.if-not-lies_inside.ensures in
    rw c.in-Source.is
    (ap (λ z. copy_at c.args.size.width c.args.size.height area (z ++ more)) is ∙ ap (copy_at c.args.size.width c.args.size.height area) (append_assoc source following more)
    ∙ source_outside c.args.size.width c.args.size.height area source (following ++ more) c.split_at.ensures.front_len out)

pub returns-else-bytes-length-clause-goes : goal.returns-else-bytes-length-clause-goes
unfolding resume go_on
returns-else-bytes-length-clause-goes c = λ more.
    let area = c.in-Pixels.field-0 in
    let n = c.wants-length.result in
    let size : n ≡ pixel_bytes c.args.format.now * (area.w * area.h) = c.wants-length.ensures.value ∙ ap (wants_of c.args.format.now) c.in-Pixels.is in
    rw c.in-Pixels.is
    (pixels_whole c.args.format.now area (take n c.args.bytes.now) more (length-take-le n c.args.bytes.now c.if-bytes-length.false ∙ size))

pub returns-else-not-lies_inside-clause-goes : goal.returns-else-not-lies_inside-clause-goes
unfolding resume go_on
returns-else-not-lies_inside-clause-goes c = λ more.
    let area = c.in-Source.area in
    let source = c.split_at.result.0.now in
    let inside : is_inside c.args.size.width c.args.size.height (source_of area source) ≡ true =
    ap (is_inside c.args.size.width c.args.size.height) (sym c.source_at.ensures) ∙ sym c.if-not-lies_inside.ensures in
    rw c.in-Source.is
    (ap (λ z. copy_at c.args.size.width c.args.size.height area (z ++ more)) (sym c.split_at.ensures.front)
    ∙ source_inside c.args.size.width c.args.size.height area source more c.split_at.ensures.front_len inside)
