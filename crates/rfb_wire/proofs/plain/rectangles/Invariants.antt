use Rattle.std.proofs.Common.{◌≡◌, ◌+◌, ◌-◌, ◌<◌, ◌^◌, length}
use Rattle.rfb_wire.specs.Grammar.{rectangles_at}
use Rattle.rfb_wire.proofs.FromFront.{others_after}
use Rattle.rfb_wire.proofs.plain.rectangles.Given as goal

-- what the bytes say is what the rest says after those that are found
abbrev pub invariant-loop : goal.invariant-loop
invariant-loop l = record {
  says : others_after l.size.width l.size.height (l.count - l.counter) l.at l.found.items l.rest ≡ rectangles_at l.size.width l.size.height l.count 4 l.bytes;
  room : l.at + length l.rest < 2 ^ 32;
}
