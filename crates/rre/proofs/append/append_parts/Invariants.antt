use Rattle.std.proofs.Common.{◌≡◌, ◌++◌, take}
use Rattle.std.specs.List.{flat_map}
use Rattle.terms.specs.Appending.{Appends}
use Rattle.rre.specs.Encoded.{AreBytesOfAll, part_bytes}
use Rattle.rre.proofs.append.append_parts.Given as goal

abbrev pub invariant-loop-part : goal.invariant-loop-part
invariant-loop-part l = record {
  ok : Appends (AreBytesOfAll l.format (take l.part-index l.parts)) l.initial.bytes.items l.bytes.items;
  written : l.bytes.items ≡ l.initial.bytes.items ++ flat_map (part_bytes l.format) (take l.part-index l.parts);
}
