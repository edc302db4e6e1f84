use Rattle.std.proofs.Common.{◌≡◌, ◌-◌, ◌++◌, List, ℕ}
use Rattle.std.specs.Io.KnownBytes.{Appends}
use Rattle.painter.specs.Framebuffer.{color_at}
use Rattle.pictures.specs.Checksums.{first_sum, second_sum}
use Rattle.pictures.specs.Png.{row_chunks, scanlines}
use Rattle.pictures.proofs.png.write_rows.Given as goal

-- What is written and what is left are all chunks; what is summed and what is left are all rows.
abbrev pub invariant-loop-y : goal.invariant-loop-y
invariant-loop-y g l =
    let picture = color_at l.screen in
    let w = l.screen.width in
    let h = l.screen.height in record {
      written : (done : List ℕ) × Appends (g.W.Write.contents l.fn.out) (g.W.Write.contents l.out) done × (done ++ row_chunks picture w l.y (h - l.y) ≡ row_chunks picture w 0 h);
      summed : (seen : List ℕ) × (l.sums.first ≡ first_sum seen) × (l.sums.second ≡ second_sum seen) × (seen ++ scanlines picture w l.y (h - l.y) ≡ scanlines picture w 0 h);
    }
