use Rattle.std.proofs.Common.{◌*◌, ◌+◌, ◌≤◌, ◌∙◌, List, length, ap, arith}
use Rattle.std.proofs.lemmas.Grind.{common_steps}
use Rattle.std.proofs.lemmas.List.{get_or-replicate}
use Rattle.painter.specs.declared.pixel.Pixel.{Pixel}
use Rattle.painter.specs.Pixels.{black_pixel, color_of, pixel_color_at}
use Rattle.painter.proofs.Rows.{filled_further}
use Rattle.painter.proofs.row.fill_long_row.Goals as goal

pub loop-k-preserved : goal.loop-k-preserved
loop-k-preserved c = λ j lt.
    let start = c.loop-k.k * 32 in
    let fits : start + 32 ≤ length c.loop-k.row = omega arith in
    filled_further c.loop-k.row c.copy_from_slice.new.self start (start + 32) (color_of c.args.pixel) (omega arith) fits
    (omega (arith, c.copy_from_slice.ensures.len)) c.loop-k.invariant
    (λ k less. ap (λ (line : List Pixel). pixel_color_at line k) c.copy_from_slice.ensures.after
    ∙ ap (λ (p : Pixel). color_of p) (get_or-replicate 32 k c.args.pixel black_pixel (omega (arith, less))))
    j (omega (arith, lt))

pub returns : goal.returns
returns c = grind (arith, common_steps)
