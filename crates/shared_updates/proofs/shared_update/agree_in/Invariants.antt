use Rattle.std.proofs.Common.{ℕ, ◌<◌, slice_index_or}
use Rattle.terms.specs.declared.area.Area.{Area}
use Rattle.painter.specs.Framebuffer.{AgreeIn}
use Rattle.shared_updates.proofs.shared_update.agree_in.Given as goal

-- the pictures agree in the first areas
abbrev pub invariant-loop-area : goal.invariant-loop-area
invariant-loop-area l = (k : ℕ) (d : Area) → k < l.area-index → AgreeIn (slice_index_or l.areas k d) l.one l.other
