-- The numbers by which faults are printed, and what holds of faults that bytes cause.
use Rattle.std.specs.Prelude.{◌≡◌, ℕ, ◌-◌, ◌<◌, List, [], ◌∷◌, slice_get, Some}
use Rattle.terms.specs.declared.pixel_format_fault.PixelFormatFault.{PixelFormatFault}
use Rattle.terms.specs.declared.pixel_format_fault.PixelFormatFault.TheVariants as format
use Rattle.terms.specs.declared.wire_fault.WireFault.{WireFault}
use Rattle.terms.specs.declared.wire_fault.WireFault.TheVariants as faults

-- the number of a fault: its position among the faults, the first of which has number 1
pub record IsNumber {A : Type 0} (faults : List A) (fault : A) (number : ℕ) : Type 0 where
  pub counted : 0 < number
  pub is : slice_get faults (number - 1) ≡ Some fault

abbrev pub format_faults : List PixelFormatFault
format_faults = format.BadBits ∷ format.NoTrueColor ∷ format.BadMax ∷ format.FieldOutside ∷ format.FieldsOverlap ∷ []

abbrev pub wire_number : WireFault → ℕ
wire_number faults.UnknownType = 1
wire_number faults.OutsideScreen = 2
wire_number (faults.Encoding n) = 3
wire_number faults.TooLong = 4
wire_number faults.BadRre = 5
wire_number faults.BadHextile = 6
wire_number faults.SourceOutside = 7
wire_number (faults.BadFormat f) = 8
wire_number faults.NoMemory = 9

-- what holds of a fault that the bytes caused
abbrev pub UnlessMemory : WireFault → Type 0 → Type 0
UnlessMemory faults.NoMemory P = Unit {0}
UnlessMemory fault P = P
