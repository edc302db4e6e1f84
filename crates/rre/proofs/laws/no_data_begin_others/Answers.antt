use Rattle.std.proofs.Common.{◌≡◌, [], ◌++◌, sym, ap, ◌∙◌}
use Rattle.std.proofs.lemmas.List.{append-nil}
use Rattle.rre.specs.Grammar.{data_at}
use Rattle.rre.proofs.Content.{data_again}
use Rattle.rre.proofs.laws.no_data_begin_others.Goals as goal

pub returns : goal.returns
returns c = λ format w h bytes more content other a b.
    let both = sym (data_again format w h bytes more content a) ∙ ap (data_at format w h) (sym (append-nil (bytes ++ more))) ∙ data_again format w h (bytes ++ more) [] other b in
    let is : more ≡ [] = cc in
    is
