use Rattle.pictures.proofs.PngIs.{png_is}
use Rattle.pictures.proofs.laws.png_is_by_rules.Goals as goal

pub returns : goal.returns
returns c = λ picture. png_is c.args.size.width c.args.size.height picture c.requires.wide c.requires.high
