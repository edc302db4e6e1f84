-- What is left of data that are judged field by field.
use Rattle.std.specs.Prelude.{ℕ, ◌*◌, ◌<◌, List, Option, Some, None}
use Rattle.pixel_format.specs.Format.{Format, pixel_bytes}
use Rattle.terms.specs.Reading.{Reading, Got}
use Rattle.terms.specs.declared.wire_fault.WireFault.{WireFault}
use Rattle.terms.specs.declared.wire_fault.WireFault.TheVariants as faults
use Rattle.rre.specs.Measuring as rre
use Rattle.hextile.specs.Measuring as hextile
use Rattle.rect_data.specs.declared.judging.Judging.{Judging}
use Rattle.rect_data.specs.declared.judging.Judging.TheVariants as stages
use Rattle.rect_data.specs.Grammar.{raw_at, copy_at, judged_as}

-- how many bytes the field that comes next has
abbrev pub wants_of : Format → Judging → ℕ
wants_of f (stages.Pixels area) = pixel_bytes f * (area.w * area.h)
wants_of f (stages.Source area) = 4
wants_of f (stages.Rre w h next) = rre.wants_of f next
wants_of f (stages.Hextile next) = hextile.wants_of f next

-- what the bytes from the next field on are, up to the data's end
unfoldable pub resume : Format → ℕ → ℕ → Judging → List ℕ → Reading Unit WireFault
resume f width height (stages.Pixels area) bytes = raw_at f area bytes
resume f width height (stages.Source area) bytes = copy_at width height area bytes
resume f width height (stages.Rre w h next) bytes = judged_as faults.BadRre (rre.resume f w h next bytes)
resume f width height (stages.Hextile next) bytes = judged_as faults.BadHextile (hextile.resume f next bytes)

-- with no field to come the data are whole
unfoldable pub go_on : Format → ℕ → ℕ → Option Judging → List ℕ → Reading Unit WireFault
go_on f width height None bytes = Got tt bytes
go_on f width height (Some stage) bytes = resume f width height stage bytes

-- a field to come has bytes, in a format whose pixels have some
abbrev pub HasBytes : Format → Option Judging → Type 0
HasBytes f None = Unit {0}
HasBytes f (Some stage) = 0 < pixel_bytes f → 0 < wants_of f stage
