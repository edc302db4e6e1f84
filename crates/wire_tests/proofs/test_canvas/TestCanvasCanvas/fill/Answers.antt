use Rattle.std.proofs.Common.{◌≡◌, ℕ, ◌+◌, ◌*◌, ◌/◌, ◌%◌, ◌<◌, arith}
use Rattle.wire_tests.proofs.test_canvas.TestCanvasCanvas.fill.Goals as goal

pub returns-clause-painted : goal.returns-clause-painted
returns-clause-painted c = λ column row across down.
    let i : ℕ = 320 * row + column in
    let small : i < 38400 = omega arith in
    let at : i % 320 ≡ column = omega arith in
    let of : i / 320 ≡ row = omega arith in
    rw (← c.self.view_is) (rw (at, of) at (c.fill_area.ensures i small))
