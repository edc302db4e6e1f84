use Rattle.showing.proofs.Waits.{waits_for_more, waits_until_asked, is_held_until_asked, rests_at_end, waits_no_longer}
use Rattle.showing.proofs.laws.nobody_waits_in_vain.Goals as goal

pub returns-clause-for_more : goal.returns-clause-for_more
returns-clause-for_more c = waits_for_more

pub returns-clause-until_asked : goal.returns-clause-until_asked
returns-clause-until_asked c = waits_until_asked

pub returns-clause-held_back : goal.returns-clause-held_back
returns-clause-held_back c = is_held_until_asked

pub returns-clause-at_end : goal.returns-clause-at_end
returns-clause-at_end c = rests_at_end

pub returns-clause-is_over : goal.returns-clause-is_over
returns-clause-is_over c = waits_no_longer
