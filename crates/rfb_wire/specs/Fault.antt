-- The numbers by which refusals of bytes are printed.
use Rattle.std.specs.Prelude.{ℕ}
use Rattle.terms.specs.Fault.{wire_number}
use Rattle.rfb_wire.specs.declared.fault.BytesFault.{BytesFault}
use Rattle.rfb_wire.specs.declared.fault.BytesFault.TheVariants as refusals

abbrev pub bytes_number : BytesFault → ℕ
bytes_number refusals.NotOne = 0
bytes_number (refusals.Wire f) = wire_number f
