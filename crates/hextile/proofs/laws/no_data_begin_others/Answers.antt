use Rattle.std.proofs.Common.{◌≡◌, [], ◌++◌, sym, ap, ◌∙◌}
use Rattle.std.proofs.lemmas.List.{append-nil}
use Rattle.hextile.specs.Grammar.{data_at}
use Rattle.hextile.proofs.TilesRead.{data_again}
use Rattle.hextile.proofs.laws.no_data_begin_others.Goals as goal

pub returns : goal.returns
returns c = λ format w h bytes more tiles others a b.
    let both = sym (data_again format w h bytes more tiles a) ∙ ap (data_at format w h) (sym (append-nil (bytes ++ more))) ∙ data_again format w h (bytes ++ more) [] others b in
    let is : more ≡ [] = cc in
    is
