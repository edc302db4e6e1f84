use Rattle.std.proofs.Common.{ℕ, ◌+◌, ◌*◌, ◌<◌, arith}
use Rattle.std.proofs.lemmas.List.{get_or-replicate}
use Rattle.wire_tests.proofs.test_canvas.TestCanvas.new.Goals as goal

pub returns : goal.returns
returns c = λ x y across down.
    get_or-replicate 38400 (320 * y + x) c.args.color (record { r = 0; g = 0; b = 0 }) (omega arith)
