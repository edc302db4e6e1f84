use Rattle.std.proofs.Common.{◌≡◌, ◌+◌, ◌*◌, take}
use Rattle.shared_updates.specs.Copies.{pixels_copied}
use Rattle.shared_updates.proofs.copies.Copies.have_room.Given as goal

-- what the first copies leave
abbrev pub invariant-loop-copy : goal.invariant-loop-copy
invariant-loop-copy l = pixels_copied (take l.copy-index l.copies) + l.left ≡ 16 * (l.fn.size.width * l.fn.size.height)
