-- What is left of data that are judged field by field.
use Rattle.std.specs.Prelude.{ℕ, suc, ◌-◌, ◌*◌, List, Option, Some, None, Bool, ◌||◌}
use Rattle.pixel_format.specs.Format.{Format, pixel_bytes}
use Rattle.terms.specs.Reading.{Reading, Got, ◌>>=◌, field}
use Rattle.hextile.specs.declared.fields.Mask.{Mask}
use Rattle.hextile.specs.declared.fields.Named.{Named}
use Rattle.terms.specs.Measuring.{judged}
use Rattle.hextile.specs.declared.position.Position.{Position}
use Rattle.hextile.specs.declared.measuring.Measuring.{Measuring}
use Rattle.hextile.specs.declared.measuring.Measuring.TheVariants as stages
use Rattle.hextile.specs.Tiles.{tile_count, tile_width, tile_height}
use Rattle.hextile.specs.Grammar.{Fault, head_bytes, subrectangle_bytes, count_in, body_at, subrectangles_at, named_with, tiles_at}

-- which colours are named after a mask that isn't a raw tile's
abbrev pub named_by : Named → Mask → Named
named_by named m = record { background = named.background || m.background; foreground = named.foreground || m.foreground }

-- the tile's number, and its size
abbrev pub number_of : Position → ℕ
number_of tile = tile_count tile.w tile.h - suc tile.more

abbrev pub width_of : Position → ℕ
width_of tile = tile_width tile.w (number_of tile)

abbrev pub height_of : Position → ℕ
height_of tile = tile_height tile.w tile.h (number_of tile)

-- how many bytes the field that comes next has
abbrev pub wants_of : Format → Measuring → ℕ
wants_of f (stages.Mask tile) = 1
wants_of f (stages.Pixels tile) = width_of tile * height_of tile * pixel_bytes f
wants_of f (stages.Head head) = head_bytes f head.mask
wants_of f (stages.Subrectangle tile colored others) = subrectangle_bytes f colored

-- the tiles after this one
unfoldable pub following : Format → Position → List ℕ → Reading Unit Fault
following f tile bytes = judged (tiles_at f tile.w tile.h tile.named tile.more bytes)

-- a tile after its mask, and the tiles after it
unfoldable pub body_left : Format → Position → Mask → List ℕ → Reading Unit Fault
body_left f tile m bytes = body_at f m (width_of tile) (height_of tile) bytes >>= λ content rest.
    judged (tiles_at f tile.w tile.h (named_with tile.named content) tile.more rest)

-- so many subrectangles of a tile, and the tiles after it
unfoldable pub parts_left : Format → Position → Bool → ℕ → List ℕ → Reading Unit Fault
parts_left f tile colored count bytes =
    subrectangles_at f colored (width_of tile) (height_of tile) count bytes >>= λ parts rest. following f tile rest

-- what the bytes from the next field on are, up to the data's end
unfoldable pub resume : Format → Measuring → List ℕ → Reading Unit Fault
resume f (stages.Mask tile) bytes = judged (tiles_at f tile.w tile.h tile.named (suc tile.more) bytes)
resume f (stages.Pixels tile) bytes = field (width_of tile * height_of tile * pixel_bytes f) bytes >>= λ pixels rest. following f tile rest
resume f (stages.Head head) bytes = field (head_bytes f head.mask) bytes >>= λ first rest.
    parts_left f head.tile head.mask.colored (count_in f head.mask first) rest
resume f (stages.Subrectangle tile colored others) bytes = parts_left f tile colored (suc others) bytes

-- with no field to come the data are whole
unfoldable pub go_on : Format → Option Measuring → List ℕ → Reading Unit Fault
go_on f None bytes = Got tt bytes
go_on f (Some stage) bytes = resume f stage bytes
