use Rattle.std.proofs.Common.{◌≡◌, [], sym, ◌∙◌}
use Rattle.hextile.proofs.TilesRead.{data_again}
use Rattle.hextile.proofs.laws.one_reading_of_data.Goals as goal

pub returns : goal.returns
returns c = λ format w h bytes tiles others a b.
    let both = sym (data_again format w h bytes [] tiles a) ∙ data_again format w h bytes [] others b in
    let is : tiles ≡ others = cc in
    is
