-- The data of a rectangle (RFC 6143, section 7.7), read from the front of a list of bytes. Each
-- field is judged once it is whole.
use Rattle.std.specs.Prelude.{ℕ, ◌+◌, ◌-◌, ◌*◌, List, Bool, ◌&&◌, nat_le, nat_eq, Option, Some, None, Result, Ok, Err, length, if◌then◌else◌}
use Rattle.pixel_format.specs.Format.{Format, pixel_bytes}
use Rattle.terms.specs.Reading.{Reading, Got, More, Bad, ◌>>=◌, field, guard}
use Rattle.terms.specs.Number.{u16_at}
use Rattle.terms.specs.declared.area.Area.{Area}
use Rattle.terms.specs.declared.measuring.NoLength.{NoLength}
use Rattle.terms.specs.declared.measuring.NoLength.TheVariants as answers
use Rattle.terms.specs.declared.wire_fault.WireFault.{WireFault}
use Rattle.terms.specs.declared.wire_fault.WireFault.TheVariants as faults
use Rattle.rre.specs.Grammar as rre
use Rattle.hextile.specs.Grammar as hextile
use Rattle.rect_data.specs.declared.encoding.Encoding.{Encoding}
use Rattle.rect_data.specs.declared.encoding.Encoding.TheVariants as encodings

-- the encoding of a number (section 7.7)
abbrev pub encoding_of : ℕ → Option Encoding
encoding_of number =
    if nat_eq number 0 then Some encodings.Raw
    else (if nat_eq number 1 then Some encodings.CopyRect
    else (if nat_eq number 2 then Some encodings.Rre
    else (if nat_eq number 5 then Some encodings.Hextile
    else None)))

-- the area lies within a screen of this size
unfoldable pub is_inside : ℕ → ℕ → Area → Bool
is_inside width height a = nat_le (a.x + a.w) width && nat_le (a.y + a.h) height

-- Raw data: a pixel value for each pixel (section 7.7.1)
unfoldable pub raw_at : Format → Area → List ℕ → Reading Unit WireFault
raw_at f area bytes = field (pixel_bytes f * (area.w * area.h)) bytes >>= λ pixels rest. Got tt rest

-- the area that is copied: x and y stand in four bytes, and it is as large as the rectangle
-- (section 7.7.2)
unfoldable pub source_of : Area → List ℕ → Area
source_of area source = record { x = u16_at source 0; y = u16_at source 2; w = area.w; h = area.h }

-- CopyRect data: the upper left corner of an area within the screen
unfoldable pub copy_at : ℕ → ℕ → Area → List ℕ → Reading Unit WireFault
copy_at width height area bytes = field 4 bytes >>= λ source rest.
    guard (is_inside width height (source_of area source)) faults.SourceOutside (Got tt rest)

-- what a codec says of its data, with the fault by which they are refused here
abbrev pub judged_as : {A E : Type 0} → WireFault → Reading A E → Reading Unit WireFault
judged_as fault (Got content rest) = Got tt rest
judged_as fault More = More
judged_as fault (Bad e) = Bad fault

-- the data of a rectangle of this area, on a screen of this size
unfoldable pub data_at : Format → ℕ → ℕ → Encoding → Area → List ℕ → Reading Unit WireFault
data_at f width height encodings.Raw area bytes = raw_at f area bytes
data_at f width height encodings.CopyRect area bytes = copy_at width height area bytes
data_at f width height encodings.Rre area bytes = judged_as faults.BadRre (rre.data_at f area.w area.h bytes)
data_at f width height encodings.Hextile area bytes = judged_as faults.BadHextile (hextile.data_at f area.w area.h bytes)

-- what a reading of so many bytes is to one who measures: the length of what is whole, or none yet
abbrev pub measured : ℕ → Reading Unit WireFault → Result (Option ℕ) WireFault
measured size (Got x rest) = Ok (Some (size - length rest))
measured size More = Ok None
measured size (Bad fault) = Err fault

-- what a codec says of the length of its data, with the fault by which they are refused here
abbrev pub length_as : WireFault → Result ℕ NoLength → Result (Option ℕ) WireFault
length_as fault (Ok n) = Ok (Some n)
length_as fault (Err answers.NeedMore) = Ok None
length_as fault (Err answers.Bad) = Err fault
