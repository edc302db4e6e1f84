use Rattle.std.proofs.Common.{◌≡◌, [], sym, ◌∙◌}
use Rattle.rre.proofs.Content.{data_again}
use Rattle.rre.proofs.laws.one_reading_of_data.Goals as goal

pub returns : goal.returns
returns c = λ format w h bytes content other a b.
    let both = sym (data_again format w h bytes [] content a) ∙ data_again format w h bytes [] other b in
    let is : content ≡ other = cc in
    is
