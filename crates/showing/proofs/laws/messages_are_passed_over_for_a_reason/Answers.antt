use Rattle.showing.proofs.Passing.{passes_why}
use Rattle.showing.proofs.laws.messages_are_passed_over_for_a_reason.Goals as goal

pub returns : goal.returns
returns c = passes_why
