use Rattle.terms.specs.Appending.{Appends}
use Rattle.pixel_format.specs.Number.{colors_of}
use Rattle.hextile.proofs.EncodedTiles.{Written}
use Rattle.hextile.proofs.encoding.append_tiles.Given as goal

abbrev pub invariant-loop-number : goal.invariant-loop-number
invariant-loop-number l = Appends (Written l.format l.w l.h (colors_of l.format l.numbers) l.number l.known) l.fn.bytes.items l.bytes.items
