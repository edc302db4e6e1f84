use Rattle.std.proofs.Common.{ap, ◌∙◌}
use Rattle.std.proofs.lemmas.Nat.{and_mask}
use Rattle.painter.specs.Pixels.{color_of_number}
use Rattle.painter.proofs.Numbers.{number_color}
use Rattle.painter.proofs.row.host_pixel_of.Goals as goal

pub returns : goal.returns
returns c =
    ap color_of_number (and_mask c.read_u32.result 24) ∙ number_color c.args.bytes c.read_u32.result c.requires c.read_u32.ensures
