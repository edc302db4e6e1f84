use Rattle.std.proofs.Common.{sym, ◌∙◌}
use Rattle.std.proofs.lemmas.Bool.{le-ltb}
use Rattle.pixel_format.proofs.Valid.{beyond_pixel}
use Rattle.pixel_format.proofs.format.Channel.is_inside.Goals as goal

pub returns-else-self-bits : goal.returns-else-self-bits
returns-else-self-bits c =
    le-ltb c.args.self.shift c.args.bits c.if-self-bits.false ∙ sym (beyond_pixel c.args.self.max c.args.self.shift c.args.bits c.if-self-eq0.false c.if-self-bits.false)
