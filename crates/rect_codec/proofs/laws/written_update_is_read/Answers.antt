use Rattle.rect_codec.proofs.Drawing.{draws_colors}
use Rattle.rect_codec.proofs.laws.written_update_is_read.Goals as goal

pub returns : goal.returns
returns c = λ format width height area colors asked bytes update inside.
    draws_colors format width height area colors update.is.encoding bytes update.rectangle inside update.bytes_are update.is.is
