use Rattle.pixel_format.proofs.Eights.{divided, scaled}
use Rattle.pixel_format.proofs.format.proportions.Goals as goal

pub nonzero_div-result : goal.nonzero_div-result
nonzero_div-result c = divided _ 8

pub returns : goal.returns
returns c = scaled c.args.max 8 c.requires.max c.args.values c.requires.size c.requires.screen
