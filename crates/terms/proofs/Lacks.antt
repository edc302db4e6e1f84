-- What holds unless memory ran out.
use Rattle.std.proofs.Common.{◌≢◌, refl}
use Rattle.terms.specs.Fault.{UnlessMemory}
use Rattle.terms.specs.declared.wire_fault.WireFault.{WireFault}
use Rattle.terms.specs.declared.wire_fault.WireFault.TheVariants as faults

-- it holds if there is another fault
pub unless_other : (f : WireFault) (P : Type 0) → f ≢ faults.NoMemory → UnlessMemory f P → P
unless_other faults.UnknownType P other p = p
unless_other faults.OutsideScreen P other p = p
unless_other (faults.Encoding n) P other p = p
unless_other faults.TooLong P other p = p
unless_other faults.BadRre P other p = p
unless_other faults.BadHextile P other p = p
unless_other faults.SourceOutside P other p = p
unless_other (faults.BadFormat f) P other p = p
unless_other faults.NoMemory P other p = absurd (other refl)
