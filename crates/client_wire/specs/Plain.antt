-- What a function that reads from the front of bytes answers, by the grammar.
use Rattle.std.specs.Prelude.{◌≡◌, List, ℕ, Option, Some, None, Result, Ok, Err}
use Rattle.terms.specs.Reading.{Reading, Got, More, Bad}
use Rattle.terms.specs.declared.wire_fault.WireFault.{WireFault}
use Rattle.terms.specs.Fault.{UnlessMemory}

-- the value and the bytes after it, nothing if they are too few, or the fault
abbrev pub Says : {X A : Type 0} → (X → A) → (X → List ℕ) → Result (Option X) WireFault → Reading A WireFault → Type 0
Says value rest (Ok (Some x)) reading = reading ≡ Got (value x) (rest x)
Says value rest (Ok None) reading = reading ≡ More
Says value rest (Err f) reading = UnlessMemory f (reading ≡ Bad f)
