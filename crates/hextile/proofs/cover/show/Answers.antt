use Rattle.std.proofs.Common.{◌∙◌, ◌+◌, ◌*◌, ap, cond, get_or, ℕ, arith}
use Rattle.std.specs.Prelude.{nat_lt, nat_le, ◌&&◌}
use Rattle.hextile.proofs.Covered.{row_shown}
use Rattle.hextile.proofs.cover.show.Goals as goal

pub loop-row-preserved : goal.loop-row-preserved
loop-row-preserved c = λ i less.
    let part = c.args.part in
    let start = (part.y + c.loop-row.row) * c.args.w + part.x in
    c.show_run.ensures i (omega (arith, less, c.loop-row.auto.shown))
    ∙ ap (λ (z : ℕ). cond (nat_le start i && nat_lt i (start + part.w)) c.args.number z) (c.loop-row.invariant i less)
    ∙ row_shown c.args.w part.x part.y part.w c.loop-row.row i c.args.number (get_or c.args.shown.now i 0) c.requires.columns
