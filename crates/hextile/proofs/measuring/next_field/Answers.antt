use Rattle.std.proofs.Common.{◌∙◌, sym}
use Rattle.hextile.specs.Measuring.{go_on, resume}
use Rattle.hextile.proofs.Steps.{raw_left, head_left, nothing_left}
use Rattle.hextile.proofs.measuring.next_field.Goals as goal

pub returns-then-mask : goal.returns-then-mask
unfolding go_on
returns-then-mask c = λ format more. sym (raw_left format c.args.tile c.args.mask more c.if-mask.true)

pub returns-then-mask-2 : goal.returns-then-mask-2
unfolding go_on resume
returns-then-mask-2 c = λ format more.
    sym (head_left format c.args.tile c.naming-tile.result c.args.mask more c.if-mask.false c.naming-tile.ensures)

pub returns : goal.returns
returns c = λ format more.
    c.next_tile.ensures format more
    ∙ sym (nothing_left format c.args.tile c.naming-tile.result c.args.mask more c.if-mask.false c.naming-tile.ensures
    c.if-mask-2.false c.if-mask-3.false c.if-mask-4.false)
