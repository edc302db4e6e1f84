-- What the header of a rectangle names (RFC 6143, section 7.6.1).
use Rattle.std.specs.Prelude.{◌≡◌, ◌⊎◌, ℕ, List, Some, None, true, false}
use Rattle.terms.specs.Number.{signed}
use Rattle.terms.specs.declared.area.Area.{Area}
use Rattle.terms.specs.declared.wire_fault.WireFault.{WireFault}
use Rattle.terms.specs.declared.wire_fault.WireFault.TheVariants as faults
use Rattle.rect_data.specs.declared.encoding.Encoding.{Encoding}
use Rattle.rect_data.specs.Grammar.{encoding_of, is_inside}
use Rattle.rfb_wire.specs.Grammar.{area_of, encoding_number}

-- an area of the screen, and an encoding that is known
pub record Names (width height : ℕ) (header : List ℕ) (area : Area) (encoding : Encoding) : Type 0 where
  pub area_is : area ≡ area_of header
  pub inside : is_inside width height (area_of header) ≡ true
  pub encoding_is : encoding_of (encoding_number header) ≡ Some encoding

-- or an area that leaves the screen, or else an encoding that isn't known
abbrev pub IsRefusedBy : ℕ → ℕ → List ℕ → WireFault → Type 0
IsRefusedBy width height header f = ((is_inside width height (area_of header) ≡ false) × (f ≡ faults.OutsideScreen))
    ⊎ ((is_inside width height (area_of header) ≡ true) × (encoding_of (encoding_number header) ≡ None) × (f ≡ faults.Encoding (signed (encoding_number header))))
