use Rattle.std.proofs.Common.{arith}
use Rattle.pixel_sets.specs.Pixels.{is_marked}
use Rattle.pixel_sets.proofs.PixelSets.{corners}
use Rattle.pixel_sets.proofs.tiles.has_corners.Goals as goal

pub returns : goal.returns
returns c = λ last.
    corners (is_marked c.args.columns c.args.words.now) c.args.part (omega arith) (omega arith) (c.is_marked.ensures c.if-not-is_marked.false) (c.is_marked-2.ensures last)
