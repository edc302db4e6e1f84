use Rattle.std.proofs.Common.{◌≡◌, ◌++◌, List}
use Rattle.std.specs.Vec.Iter.{into_iter_items}
use Rattle.pixel_format.specs.Canvas.{Picture}
use Rattle.gated_journal.specs.Recording.{Head}
use Rattle.keyed_entries.specs.declared.entry.Stamped.{Stamped}
use Rattle.viewer_session.specs.View.{IsRight, IsSound, AreTaken}
use Rattle.viewer_session.proofs.view.take_all.Given as goal

-- the messages so far are taken
abbrev pub invariant-loop-message : goal.invariant-loop-message
invariant-loop-message l =
    goal.iterator-loop-message.can_next l.message-iterator ×
    goal.iterator-loop-message.is_finite l.message-iterator × record {
      rest : l.yielded ++ into_iter_items l.message-iterator ≡ l.fn.messages.items;
      sound : IsSound l.view;
      taken : AreTaken l.initial.view l.view l.yielded;
      screen : l.view.screen ≡ l.initial.view.screen;
      position : l.view.position ≡ l.initial.view.position;
      right : (head : Head) → (seen : Picture) → (list : List Stamped) → IsRight head l.initial.view seen list → IsRight head l.view seen list;
    }
