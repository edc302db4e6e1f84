-- What is left of data that are judged field by field.
use Rattle.std.specs.Prelude.{ℕ, suc, List, Option, Some, None}
use Rattle.pixel_format.specs.Format.{Format}
use Rattle.terms.specs.Reading.{Reading, Got}
use Rattle.terms.specs.Measuring.{judged}
use Rattle.rre.specs.declared.measuring.Measuring.{Measuring}
use Rattle.rre.specs.declared.measuring.Measuring.TheVariants as stages
use Rattle.rre.specs.Grammar.{Fault, head_bytes, subrectangle_bytes, subrectangles_at, data_at}

-- how many bytes the field that comes next has
abbrev pub wants_of : Format → Measuring → ℕ
wants_of f stages.Head = head_bytes f
wants_of f (stages.Subrectangle more) = subrectangle_bytes f

-- what the bytes from the next field on are, up to the data's end
unfoldable pub resume : Format → ℕ → ℕ → Measuring → List ℕ → Reading Unit Fault
resume f w h stages.Head bytes = judged (data_at f w h bytes)
resume f w h (stages.Subrectangle more) bytes = judged (subrectangles_at f w h (suc more) bytes)

-- with no field to come the data are whole
unfoldable pub go_on : Format → ℕ → ℕ → Option Measuring → List ℕ → Reading Unit Fault
go_on f w h None bytes = Got tt bytes
go_on f w h (Some stage) bytes = resume f w h stage bytes
