use Rattle.std.proofs.Common.{List, ℕ}
use Rattle.std.specs.Io.KnownBytes.{Consumes}
use Rattle.fbs_export.specs.Reader.{IsBetween}
use Rattle.fbs_export.proofs.checking.read_file.Given as goal

-- whole blocks were read so far
abbrev pub invariant-loop : goal.invariant-loop
invariant-loop g l = (seen : List ℕ) × Consumes (g.R.Read.remaining l.fn.file) (g.R.Read.remaining l.file) seen × IsBetween g.T.Tally.stands_for l.stream seen
