use Rattle.std.proofs.Common.{◌≡◌, ◌-◌, ◌++◌, List, ℕ}
use Rattle.std.specs.Io.KnownBytes.{Appends}
use Rattle.painter.specs.Framebuffer.{color_at}
use Rattle.pictures.specs.Plain.{plain_text, rows_text}
use Rattle.pictures.proofs.plain.write_plain.Given as goal

-- what is written and the rows that are left are all of the text
abbrev pub invariant-loop-slot : goal.invariant-loop-slot
invariant-loop-slot g l = (done : List ℕ) × Appends (g.W.Write.contents l.fn.out) (g.W.Write.contents l.out) done
    × (done ++ rows_text l.format (color_at l.screen) l.screen.width l.screen.height l.slot (l.screen.height - l.slot) ≡ plain_text l.format l.screen.width l.screen.height (color_at l.screen))
