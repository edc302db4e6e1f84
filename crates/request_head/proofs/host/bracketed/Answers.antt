use Rattle.std.proofs.Common.{[], ◌∷◌, Some}
use Rattle.std.proofs.lemmas.Bool.Decides.{Decides-eqb}
use Rattle.std.proofs.lemmas.Slice.Eq.{strip_prefix_is, strip_suffix_is}
use Rattle.request_head.proofs.Names.{in_brackets}
use Rattle.request_head.proofs.host.bracketed.Goals as goal

pub returns : goal.returns
returns c =
    in_brackets c.args.name.now c.in_ok-strip_prefix.field-0.now c.strip_suffix.result
    (strip_prefix_is Decides-eqb c.args.name.now (91 ∷ []) (Some c.in_ok-strip_prefix.field-0) c.in_ok-strip_prefix.ensures.cases)
    (strip_suffix_is Decides-eqb c.in_ok-strip_prefix.field-0.now (93 ∷ []) c.strip_suffix.result c.strip_suffix.ensures.cases)
