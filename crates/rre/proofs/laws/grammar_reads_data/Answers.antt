use Rattle.std.proofs.Common.{[], sym, ◌∙◌, ap, subst}
use Rattle.std.proofs.lemmas.List.{append-nil}
use Rattle.rre.specs.Grammar.{data_at}
use Rattle.rre.specs.Data.{IsData}
use Rattle.rre.proofs.Content.{data_read, data_again}
use Rattle.rre.proofs.laws.grammar_reads_data.Goals as goal

pub returns : goal.returns
returns c = λ format w h bytes content. (
  λ e.
      let r = data_read format w h bytes content [] e in
      subst (λ z. IsData format w h z content) (sym (r.bytes_are ∙ append-nil r.front)) r.is,
  λ is. ap (data_at format w h) (sym (append-nil bytes)) ∙ data_again format w h bytes [] content is,
)
