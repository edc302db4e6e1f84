use Rattle.painter.proofs.Updates.{paints_colors}
use Rattle.painter.proofs.laws.written_update_paints.Goals as goal

pub returns : goal.returns
returns c = λ format width height area colors asked bytes update inside short.
    paints_colors format width height area colors update.is.encoding bytes update.rectangle update.bytes_are update.is.is inside short
