use Rattle.std.proofs.Common.{ℕ, max, ◌≤◌, arith}
use Rattle.std.specs.Prelude.{Bool, List}
use Rattle.showing.specs.Run.{Event, run, comes_after}
use Rattle.showing.proofs.Each.{InOrder, in_order_run, comes_in_order, first_shown, shown_in_order}
use Rattle.showing.proofs.Turns.{each_turn}
use Rattle.showing.proofs.laws.each_is_shown_in_order.Goals as goal

ordered : (from key stored told : ℕ) (alone : Bool) (events : List Event) → key ≤ from → InOrder from (max from told) (run events (comes_after from key stored told alone))
ordered from key stored told alone events before =
    in_order_run from (max from told) events (comes_after from key stored told alone) (omega arith) (comes_in_order from key stored told alone before)

pub returns-clause-first : goal.returns-clause-first
returns-clause-first c = λ from key stored told count alone events rest before stays read e.
    first_shown from (max from told) (run events (comes_after from key stored told alone)) (ordered from key stored told alone events before) stays read count rest e

pub returns-clause-in_order : goal.returns-clause-in_order
returns-clause-in_order c = λ from key stored told alone events before stays read.
    shown_in_order from (max from told) (run events (comes_after from key stored told alone)) (ordered from key stored told alone events before) stays read

pub returns-clause-asked : goal.returns-clause-asked
returns-clause-asked c = each_turn
