-- What a function that reads from the front of bytes answers, by the grammar.
use Rattle.std.specs.Prelude.{◌≡◌, ◌≤◌, ℕ, Bool, true, false, List, [], ◌++◌, length, drop, Option, Some, None, Result, Ok, Err}
use Rattle.terms.specs.Reading.{Reading, Got, More, Bad}
use Rattle.terms.specs.declared.format.Format.{Format}
use Rattle.terms.specs.declared.wire_fault.WireFault.{WireFault}
use Rattle.rfb_wire.specs.declared.plain.Front.{Front}
use Rattle.rfb_wire.specs.declared.plain.Front.TheVariants as fronts
use Rattle.rfb_wire.specs.Grammar.{Message, Recorded, ReadOver}
use Rattle.rfb_wire.specs.Host.{Host}
use Rattle.terms.specs.Fault.{UnlessMemory}
use Rattle.rfb_wire.specs.Stream.{IsFor}

-- the value and the bytes after it, nothing if they are too few, or the fault
abbrev pub Says : {X A : Type 0} → (X → A) → (X → List ℕ) → Result (Option X) WireFault → Reading A WireFault → Type 0
Says value rest (Ok (Some x)) reading = reading ≡ Got (value x) (rest x)
Says value rest (Ok None) reading = reading ≡ More
Says value rest (Err f) reading = UnlessMemory f (reading ≡ Bad f)

-- the same of a message, which is a front of the bytes
pub record Begins (format : Format) (width height : ℕ) (bytes : List ℕ) (m : Host) (reading : Reading Message WireFault) : Type 0 where
  pub is : IsFor format width height m
  pub following : List ℕ
  pub bytes_are : bytes ≡ m.bytes ++ following
  pub reads : reading ≡ Got (Recorded m.rectangles) following

-- what a message without rectangles is, by whether it is recorded
abbrev pub kind_of : Bool → Message
kind_of true = Recorded []
kind_of false = ReadOver

-- a message that is read over, which has so many of the bytes
pub record Passes (n : ℕ) (bytes : List ℕ) (reading : Reading Message WireFault) : Type 0 where
  pub within : n ≤ length bytes
  pub reads : reading ≡ Got ReadOver (drop n bytes)

abbrev pub SaysMessage : Format → ℕ → ℕ → List ℕ → Result (Option Front) WireFault → Reading Message WireFault → Type 0
SaysMessage format width height bytes (Ok (Some (fronts.Recorded m))) reading = Begins format width height bytes m reading
SaysMessage format width height bytes (Ok (Some (fronts.ReadOver n))) reading = Passes n bytes reading
SaysMessage format width height bytes (Ok None) reading = reading ≡ More
SaysMessage format width height bytes (Err f) reading = UnlessMemory f (reading ≡ Bad f)
