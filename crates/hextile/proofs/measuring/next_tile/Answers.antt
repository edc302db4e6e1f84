use Rattle.std.proofs.Common.{◌≡◌, ◌-◌, suc, arith, ap, refl}
use Rattle.hextile.specs.Grammar.{tiles_at}
use Rattle.hextile.specs.Measuring.{go_on, resume, following}
use Rattle.terms.specs.Measuring.{judged}
use Rattle.hextile.proofs.measuring.next_tile.Goals as goal

pub returns-then-tile-eq0 : goal.returns-then-tile-eq0
unfolding go_on following tiles_at
returns-then-tile-eq0 c = λ format more. rw c.if-tile-eq0.true refl

pub returns : goal.returns
unfolding go_on resume following
returns c = λ format more.
    let is : suc (c.args.tile.more - 1) ≡ c.args.tile.more = omega arith in
    ap (λ n. judged (tiles_at format c.args.tile.w c.args.tile.h c.args.tile.named n more)) is
