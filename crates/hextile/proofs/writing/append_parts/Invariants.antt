use Rattle.std.proofs.Common.{◌≡◌, ℕ, ◌++◌, take, map}
use Rattle.std.specs.List.{flat_map}
use Rattle.std.specs.Prelude.{All}
use Rattle.terms.specs.Appending.{Appends, Grows}
use Rattle.hextile.specs.Data.{AreSubrectangles}
use Rattle.hextile.specs.Encoded.{IsPart, drawn, part_bytes}
use Rattle.hextile.proofs.writing.append_parts.Given as goal

abbrev pub invariant-loop-part : goal.invariant-loop-part
invariant-loop-part l = record {
  grows : Grows l.fn.bytes.items l.bytes.items;
  are : (w h : ℕ) → All (IsPart l.format w h) l.parts
      → Appends (AreSubrectangles l.format l.colored w h (map (drawn l.colored) (take l.part-index l.parts))) l.fn.bytes.items l.bytes.items;
  written : l.bytes.items ≡ l.fn.bytes.items ++ flat_map (λ s. part_bytes l.format (drawn l.colored s)) (take l.part-index l.parts);
}
