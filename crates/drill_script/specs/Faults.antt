-- Why hexadecimal digits gave no bytes.
use Rattle.std.specs.Prelude.{◌≡◌}
use Rattle.hex.specs.declared.error.FromHexError.{FromHexError}
use Rattle.hex.specs.declared.error.FromHexError.TheVariants.{OutOfMemory}
use Rattle.drill_script.specs.declared.fault.LineFault.{LineFault}
use Rattle.drill_script.specs.declared.fault.LineFault.TheVariants.{Bad, NoMemory}

-- out of memory stays so, and all else is bad
abbrev pub IsOfHex : FromHexError → LineFault → Type 0
IsOfHex OutOfMemory fault = fault ≡ NoMemory
IsOfHex _ fault = fault ≡ Bad
