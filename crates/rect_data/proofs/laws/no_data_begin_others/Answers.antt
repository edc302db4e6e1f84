use Rattle.rect_data.proofs.Content.{none_after}
use Rattle.rect_data.proofs.laws.no_data_begin_others.Goals as goal

pub returns : goal.returns
returns c = λ format width height encoding area bytes more is longer. none_after format width height encoding area bytes more is longer
