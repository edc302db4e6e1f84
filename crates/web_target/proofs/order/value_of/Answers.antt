use Rattle.std.specs.Prelude.{codes}
use Rattle.std.proofs.lemmas.Bool.Decides.{Decides-eqb}
use Rattle.std.proofs.lemmas.Slice.Eq.{strip_suffix_is}
use Rattle.web_target.proofs.Ordered.{valued}
use Rattle.web_target.proofs.order.value_of.Goals as goal

pub returns : goal.returns
returns c =
    valued c.args.text.now c.args.front.now c.in_ok-following.field-0.now c.strip_suffix.result c.in_ok-following.ensures
    (strip_suffix_is Decides-eqb c.in_ok-following.field-0.now (codes "}") c.strip_suffix.result c.strip_suffix.ensures.cases)
