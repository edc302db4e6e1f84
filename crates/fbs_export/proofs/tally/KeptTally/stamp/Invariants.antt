use Rattle.std.proofs.Common.{◌≡◌, ◌++◌, []}
use Rattle.std.specs.Vec.Iter.{into_iter_items}
use Rattle.fbs_export.specs.Summary.{at_time}
use Rattle.fbs_export.proofs.tally.KeptTally.stamp.Given as goal

-- the messages so far have the time
abbrev pub invariant-loop-message : goal.invariant-loop-message
invariant-loop-message l =
    goal.iterator-loop-message.can_next l.message-iterator ×
    goal.iterator-loop-message.is_finite l.message-iterator × record {
      rest : l.yielded ++ into_iter_items l.message-iterator ≡ l.fn.self.waiting.items;
      waiting : l.self.waiting.items ≡ [];
      messages : l.self.messages.items ≡ l.fn.self.messages.items ++ at_time l.time l.yielded;
    }
