use Rattle.std.proofs.Common.{◌≡◌, drop}
use Rattle.viewer_session.specs.declared.view.View.{View}
use Rattle.viewer_session.specs.View.{IsSound}
use Rattle.viewer_session.specs.Noting.{AreAllNoted}
use Rattle.viewer_session.proofs.view.View.note_all.Given as goal

-- what notes the messages that are left notes all of them
abbrev pub invariant-loop-stamped : goal.invariant-loop-stamped
invariant-loop-stamped l = record {
  sound : IsSound l.self;
  screen : l.self.screen ≡ l.fn.self.screen;
  noted : (end : View) → AreAllNoted l.self end (drop l.stamped-index l.messages) → AreAllNoted l.fn.self end l.messages;
}
