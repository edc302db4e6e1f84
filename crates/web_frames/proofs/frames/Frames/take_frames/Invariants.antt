use Rattle.std.proofs.Common.{◌≡◌, length}
use Rattle.web_frames.proofs.Runs.{Run}
use Rattle.web_frames.proofs.frames.Frames.take_frames.Given as goal

abbrev pub invariant-loop-taken : goal.invariant-loop-taken
invariant-loop-taken l =
    Run l._taken l.fn.self l.self l.fn.heard l.heard
    × (l.most ≡ length l.fn.self.rest)
