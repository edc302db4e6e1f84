use Rattle.std.proofs.Common.{◌∙◌, ap, List, ℕ, ◌++◌}
use Rattle.std.proofs.lemmas.Bool.Decides.{Decides-eqb}
use Rattle.std.proofs.lemmas.Slice.Eq.{slice_eq-Decides}
use Rattle.web_door.proofs.Fronts.{same_rest}
use Rattle.web_door.proofs.upgrade.is_made_of.Goals as goal

pub returns-in-Some : goal.returns-in-Some
returns-in-Some c =
    let test = slice_eq-Decides Decides-eqb c.in-Some.found.now c.args.rest.now c.eq.result c.eq.ensures in (
      (λ t. c.in-Some.ensures ∙ ap (λ (z : List ℕ). c.args.front.now ++ z) (test.0 t)),
      (λ e. test.1 (same_rest c.args.bytes.now c.args.front.now c.in-Some.found.now c.args.rest.now c.in-Some.ensures e)),
    )
