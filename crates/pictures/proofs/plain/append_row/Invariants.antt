use Rattle.std.proofs.Common.{◌≡◌, ◌-◌, ◌++◌}
use Rattle.painter.specs.Framebuffer.{color_at}
use Rattle.pictures.specs.Plain.{row_text}
use Rattle.pictures.proofs.plain.append_row.Given as goal

-- what is written and what is left of the row are all of it
abbrev pub invariant-loop-x : goal.invariant-loop-x
invariant-loop-x l = l.out.items ++ row_text l.format (color_at l.screen) l.y l.x (l.screen.width - l.x) ≡ l.fn.out.items ++ row_text l.format (color_at l.screen) l.y 0 l.screen.width
