-- What contracts see of a file of the operating system.
use Rattle.std.specs.Prelude.{false, []}
use Rattle.disk.specs.History.{History}

-- No moment of such a file is told: it is given when a disk's history is asked for, and every
-- clause about it has a premise that such a file never meets.
unfoldable pub untold : History
untold = record { moment = 0; at = λ _. record { now = []; held = []; touched = λ _. false } }
