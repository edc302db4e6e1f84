use Rattle.std.proofs.Common.{◌≡◌, ◌-◌, ◌∙◌, suc, arith, sym, ap}
use Rattle.hextile.specs.Measuring.{go_on, resume, parts_left}
use Rattle.hextile.proofs.Steps.{none_left}
use Rattle.hextile.proofs.measuring.next_part.Goals as goal

pub returns-then-count-eq0 : goal.returns-then-count-eq0
returns-then-count-eq0 c = λ format more.
    c.next_tile.ensures format more ∙ rw c.if-count-eq0.true (sym (none_left format c.args.tile more c.args.colored))

pub returns : goal.returns
unfolding go_on resume
returns c = λ format more.
    let is : suc (c.args.count - 1) ≡ c.args.count = omega arith in
    ap (λ n. parts_left format c.args.tile c.args.colored n more) is
