use Rattle.std.proofs.Common.{◌≡◌, ◌∙◌, ◌+◌, ◌*◌, Bool, cond, ap, arith}
use Rattle.pixel_sets.specs.Pixels.{number_at, is_marked}
use Rattle.pixel_sets.proofs.PixelSets.{tiles_between}
use Rattle.pixel_sets.proofs.tiles.fill_run.Goals as goal

pub returns-clause-filled : goal.returns-clause-filled
returns-clause-filled c = λ x y across.
    let columns = c.args.columns in
    let run = c.args.run in
    let first : 64 * ((run.row * columns + run.from) * 4) ≡ (run.row * columns + run.from) * 256 = omega arith in
    let end : 64 * ((run.row * columns + run.to) * 4) ≡ (run.row * columns + run.to) * 256 = omega arith in
    rw (first, end) at (c.fill_words.ensures (number_at columns x y))
    ∙ ap (λ (b : Bool). cond b c.args.value (is_marked columns c.args.words.now x y)) (tiles_between columns run.row run.from run.to x y c.requires.within across)
