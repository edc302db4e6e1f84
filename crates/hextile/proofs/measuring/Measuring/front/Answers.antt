use Rattle.std.proofs.Common.{◌≡◌, ◌∙◌, ◌*◌, ◌++◌, true, false, length, sym, ap, append_assoc}
use Rattle.std.specs.Prelude.{slice_index}
use Rattle.std.proofs.lemmas.Result.{err_from_is_err_and}
use Rattle.pixel_format.specs.Format.{pixel_bytes}
use Rattle.hextile.specs.Grammar.{mask_of, is_allowed, head_bytes}
use Rattle.hextile.specs.Measuring.{wants_of, width_of, height_of, body_left, parts_left, resume}
use Rattle.hextile.specs.declared.measuring.Measuring.TheVariants as stages
use Rattle.hextile.proofs.Steps.{mask_whole, mask_refused, pixels_whole, head_whole, parts_of}
use Rattle.hextile.proofs.measuring.Measuring.front.Goals as goal

pub returns-then-not-may_stand-clause-refused : goal.returns-then-not-may_stand-clause-refused
returns-then-not-may_stand-clause-refused c = λ more.
    let f = c.args.format.now in
    let tile = c.in-Mask.tile in
    let field = c.split_at.result.0.now in
    let following = c.split_at.result.1.now in
    let byte = slice_index field 0 in
    let is : c.args.bytes.now ≡ field ++ following = parts_of _ c.args.bytes.now field following c.split_at.ensures.front c.split_at.ensures.back in
    let whole : length field ≡ 1 = c.split_at.ensures.front_len ∙ c.wants-wants.ensures.value ∙ ap (wants_of f) c.in-Mask.is in
    let forbidden : is_allowed tile.named byte (mask_of byte) ≡ false =
    ap (is_allowed tile.named byte) (sym c.read_mask-mask.ensures) ∙ sym c.may_stand.ensures ∙ c.if-not-may_stand.true in
    rw c.in-Mask.is
    (ap (λ z. resume f (stages.Mask tile) (z ++ more)) is ∙ ap (resume f (stages.Mask tile)) (append_assoc field following more)
    ∙ mask_refused f tile field (following ++ more) whole forbidden)

pub returns-else-not-may_stand-clause-goes : goal.returns-else-not-may_stand-clause-goes
returns-else-not-may_stand-clause-goes c = λ more.
    let f = c.args.format.now in
    let tile = c.in-Mask.tile in
    let field = c.split_at.result.0.now in
    let byte = slice_index field 0 in
    let whole : length field ≡ 1 = c.split_at.ensures.front_len ∙ c.wants-wants.ensures.value ∙ ap (wants_of f) c.in-Mask.is in
    let allowed : is_allowed tile.named byte (mask_of byte) ≡ true =
    ap (is_allowed tile.named byte) (sym c.read_mask-mask.ensures) ∙ sym c.may_stand.ensures ∙ c.if-not-may_stand.false in
    rw (c.in-Mask.is, ← c.split_at.ensures.front)
    (mask_whole f tile field more whole allowed
    ∙ ap (λ m. body_left f tile m more) (sym c.read_mask-mask.ensures)
    ∙ sym (c.next_field.ensures f more))

pub returns-in-Pixels-clause-goes : goal.returns-in-Pixels-clause-goes
returns-in-Pixels-clause-goes c = λ more.
    let f = c.args.format.now in
    let tile = c.in-Pixels.tile in
    let field = c.split_at.result.0.now in
    let whole : length field ≡ width_of tile * height_of tile * pixel_bytes f =
    c.split_at.ensures.front_len ∙ c.wants-wants.ensures.value ∙ ap (wants_of f) c.in-Pixels.is in
    rw (c.in-Pixels.is, ← c.split_at.ensures.front) (pixels_whole f tile field more whole ∙ sym (c.next_tile.ensures f more))

pub returns-in-Head-clause-goes : goal.returns-in-Head-clause-goes
returns-in-Head-clause-goes c = λ more.
    let f = c.args.format.now in
    let head = c.in-Head.head in
    let field = c.split_at.result.0.now in
    let whole : length field ≡ head_bytes f head.mask = c.split_at.ensures.front_len ∙ c.wants-wants.ensures.value ∙ ap (wants_of f) c.in-Head.is in
    rw (c.in-Head.is, ← c.split_at.ensures.front)
    (head_whole f head field more whole
    ∙ ap (λ n. parts_left f head.tile head.mask.colored n more) (sym c.read_count-count.ensures)
    ∙ sym (c.next_part-next.ensures f more))

pub returns-in_err-judged-in-Subrectangle-clause-refused : goal.returns-in_err-judged-in-Subrectangle-clause-refused
unfolding resume
returns-in_err-judged-in-Subrectangle-clause-refused c =
    let p = err_from_is_err_and c.from_residual.result c.from_residual.ensures.1 in
    rw (p.1, c.in-Subrectangle.is) c.in_err-judged-in-Subrectangle.ensures.refused

pub returns-in_ok-judged-in-Subrectangle-clause-goes : goal.returns-in_ok-judged-in-Subrectangle-clause-goes
unfolding resume
returns-in_ok-judged-in-Subrectangle-clause-goes c = rw c.in-Subrectangle.is c.in_ok-judged-in-Subrectangle.ensures.goes
