use Rattle.std.proofs.Common.{[], sym, ◌∙◌, ap, subst}
use Rattle.std.proofs.lemmas.List.{append-nil}
use Rattle.hextile.specs.Grammar.{data_at}
use Rattle.hextile.specs.Data.{IsData}
use Rattle.hextile.proofs.TilesRead.{data_read, data_again}
use Rattle.hextile.proofs.laws.grammar_reads_data.Goals as goal

pub returns : goal.returns
returns c = λ format w h bytes tiles. (
  λ e.
      let r = data_read format w h bytes tiles [] e in
      subst (λ z. IsData format w h z tiles) (sym (r.bytes_are ∙ append-nil r.front)) r.is,
  λ is. ap (data_at format w h) (sym (append-nil bytes)) ∙ data_again format w h bytes [] tiles is,
)
