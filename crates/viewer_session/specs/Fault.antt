-- The numbers by which faults are printed.
use Rattle.std.specs.Prelude.{ℕ}
use Rattle.terms.specs.Fault.{wire_number}
use Rattle.viewer_session.specs.declared.fault.SessionFault.{SessionFault}
use Rattle.viewer_session.specs.declared.fault.SessionFault.TheVariants as faults

abbrev pub session_number : SessionFault → ℕ
session_number (faults.Wire f) = wire_number f
session_number faults.Version = 20
session_number faults.Security = 21
session_number faults.Closed = 22
