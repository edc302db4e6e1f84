use Rattle.std.proofs.Common.{◌≡◌, ◌++◌, List}
use Rattle.std.specs.Vec.Iter.{into_iter_items}
use Rattle.keyed_entries.specs.declared.entry.Stamped.{Stamped}
use Rattle.rfb_wire.specs.Host.{Host}
use Rattle.fbs_export.proofs.stream.tell.Given as goal

-- the messages so far are told
abbrev pub invariant-loop-message : goal.invariant-loop-message
invariant-loop-message g l =
    (goal.iterator-loop-message g).can_next l.message-iterator ×
    (goal.iterator-loop-message g).is_finite l.message-iterator × record {
      rest : l.yielded ++ into_iter_items l.message-iterator ≡ l.fn.hosts.items;
      heard : (told : List Stamped) → (waiting : List Host) → g.T.Tally.stands_for l.fn.tally told waiting → g.T.Tally.stands_for l.tally told (waiting ++ l.yielded);
    }
