use Rattle.std.proofs.Common.{◌≡◌, drop}
use Rattle.viewer_session.specs.declared.view.View.{View}
use Rattle.viewer_session.specs.View.{IsSound}
use Rattle.viewer_session.specs.Noting.{AreNoted}
use Rattle.viewer_session.proofs.view.View.note.Given as goal

-- what notes the rectangles that are left notes all of them
abbrev pub invariant-loop-number : goal.invariant-loop-number
invariant-loop-number l = record {
  sound : IsSound l.self;
  screen : l.self.screen ≡ l.fn.self.screen;
  noted : (end : View) → AreNoted l.message.bytes l.self end (drop l.number l.message.rectangles) → AreNoted l.message.bytes l.fn.self end l.message.rectangles;
}
