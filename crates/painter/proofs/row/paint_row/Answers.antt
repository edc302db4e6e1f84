use Rattle.std.proofs.Common.{length, ap, ◌∙◌, arith}
use Rattle.pixel_format.specs.Pixel.{host_color}
use Rattle.painter.proofs.Numbers.{pixel_of_chunks, pixel_long, row_more}
use Rattle.painter.proofs.row.paint_row.Goals as goal

pub host_pixel_of-requires : goal.host_pixel_of-requires
host_pixel_of-requires c =
    let bytes = c.args.bytes.now in
    let count = length c.args.row.now in
    ap length (pixel_of_chunks bytes c.as_chunks.result.0.now count c.loop-k.k c.as_chunks.ensures.front c.requires c.loop-k-test.true) ∙ pixel_long bytes count c.loop-k.k c.requires c.loop-k-test.true

pub loop-k-preserved : goal.loop-k-preserved
loop-k-preserved c =
    let bytes = c.args.bytes.now in
    let count = length c.args.row.now in
    let chunk = pixel_of_chunks bytes c.as_chunks.result.0.now count c.loop-k.k c.as_chunks.ensures.front c.requires c.loop-k-test.true in
    row_more c.loop-k.row bytes c.loop-k.k c.host_pixel_of.result (omega arith) (c.host_pixel_of.ensures ∙ ap host_color chunk) c.loop-k.invariant
