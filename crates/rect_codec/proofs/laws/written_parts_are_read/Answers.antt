use Rattle.rect_codec.proofs.PartsDrawn.{draws_parts}
use Rattle.rect_codec.proofs.laws.written_parts_are_read.Goals as goal

pub returns : goal.returns
returns c = λ format width height parts bytes written few inside. draws_parts format width height parts bytes few inside written
