use Rattle.std.proofs.Common.{◌≡◌, ◌++◌, take, length}
use Rattle.std.specs.List.{flat_map}
use Rattle.wire_tests.specs.Written.{color_bytes, color_map_head}
use Rattle.wire_tests.proofs.writers.append_color_map.Given as goal

-- the colours so far follow the head
abbrev pub invariant-loop-color : goal.invariant-loop-color
invariant-loop-color l = l.out.items ≡ (l.fn.out.items ++ color_map_head l.first (length l.colors)) ++ flat_map color_bytes (take l.color-index l.colors)
