use Rattle.std.proofs.Common.{◌++◌, take, length}
use Rattle.terms.specs.Appending.{Appends, AreEach}
use Rattle.rect_codec.specs.Parts.{IsPart, parts_head}
use Rattle.painter.specs.SentUpdate.{parts_of}
use Rattle.painter.proofs.update.append_parts.Given as goal

-- the rectangles of the parts so far follow the head
abbrev pub invariant-loop-part : goal.invariant-loop-part
invariant-loop-part g l =
    Appends (AreEach (IsPart l.format) (take l.part-index (parts_of l.format (g.R.Rows.shown l.rows) l.parts))) (l.fn.out.items ++ parts_head (length l.parts)) l.out.items
