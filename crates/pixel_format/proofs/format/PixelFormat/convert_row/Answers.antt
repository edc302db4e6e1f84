use Rattle.pixel_format.proofs.Eights.{all_within}
use Rattle.pixel_format.proofs.format.PixelFormat.convert_row.Goals as goal

pub returns-then-not-has_small_maxima-clause-within :
    goal.returns-then-not-has_small_maxima-clause-within
returns-then-not-has_small_maxima-clause-within c =
    all_within c.args.self.now c.args.colors.now c.convert_ones.new.row c.convert_ones.ensures c.requires.screen

pub returns-clause-within : goal.returns-clause-within
returns-clause-within c =
    all_within c.args.self.now c.args.colors.now c.convert_ones-2.new.row c.convert_ones-2.ensures c.requires.screen
