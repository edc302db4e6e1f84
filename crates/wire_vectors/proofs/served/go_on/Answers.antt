use Rattle.std.proofs.Common.{sym}
use Rattle.wire_vectors.proofs.served.go_on.Goals as goal

-- src/served.rt
pub advance-requires : goal.advance-requires
advance-requires c = c.in_ok-slice_of.ensures.next _ c.requires.width c.requires.height (sym c.position-first.ensures)
