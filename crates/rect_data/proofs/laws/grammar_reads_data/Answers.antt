use Rattle.rect_data.proofs.Content.{data_are, data_whole}
use Rattle.rect_data.proofs.laws.grammar_reads_data.Goals as goal

pub returns : goal.returns
returns c = λ format width height encoding area bytes.
    (data_are format width height encoding area bytes, data_whole format width height encoding area bytes)
