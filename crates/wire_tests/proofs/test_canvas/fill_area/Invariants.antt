use Rattle.std.proofs.Common.{◌≡◌, ℕ, ◌<◌, ◌/◌, ◌%◌, cond, get_or}
use Rattle.std.specs.Prelude.{nat_lt, ◌&&◌}
use Rattle.terms.specs.Area.{is_in}
use Rattle.wire_tests.proofs.test_canvas.fill_area.Given as goal

-- the pixels so far are filled
abbrev pub invariant-loop-k : goal.invariant-loop-k
invariant-loop-k l =
    (i : ℕ) → i < 38400 → get_or l.colors i (record { r = 0; g = 0; b = 0 })
    ≡ cond (nat_lt i l.k && is_in l.area (i % 320) (i / 320)) l.color (get_or l.initial.colors i (record { r = 0; g = 0; b = 0 }))
