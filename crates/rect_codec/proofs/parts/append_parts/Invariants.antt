use Rattle.std.proofs.Common.{take}
use Rattle.terms.specs.Appending.{Appends, AreEach}
use Rattle.rect_codec.specs.Parts.{IsPart}
use Rattle.rect_codec.proofs.parts.append_parts.Given as goal

-- the rectangles of the parts so far are appended
abbrev pub invariant-loop-part : goal.invariant-loop-part
invariant-loop-part l = Appends (AreEach (IsPart l.format) (take l.part-index l.parts)) l.initial.out.items l.out.items
