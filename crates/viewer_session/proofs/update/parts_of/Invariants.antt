use Rattle.std.proofs.Common.{◌≡◌, take}
use Rattle.viewer_session.specs.Parts.{screen_copies, screen_parts}
use Rattle.viewer_session.proofs.update.parts_of.Given as goal

-- the parts so far are those of the copies so far
abbrev pub invariant-loop-copy : goal.invariant-loop-copy
invariant-loop-copy l = l.parts.items ≡ screen_copies (take l.copy-index l.copies)

-- and those of the areas so far after them
abbrev pub invariant-loop-area : goal.invariant-loop-area
invariant-loop-area l = l.parts.items ≡ screen_parts l.fn.copies l.encoding (take l.area-index l.areas)
