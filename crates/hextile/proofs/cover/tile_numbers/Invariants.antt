use Rattle.std.proofs.Common.{◌≡◌, ◌*◌, ◌+◌, length}
use Rattle.hextile.specs.Numbered.{AreTileNumbers}
use Rattle.hextile.proofs.cover.tile_numbers.Given as goal

abbrev pub invariant-loop-row : goal.invariant-loop-row
invariant-loop-row l = record {
  size : length l.tile ≡ 256;
  are : AreTileNumbers l.numbers l.w l.area.x l.area.y l.area.w l.tile (l.row * l.area.w);
}

abbrev pub invariant-loop-column : goal.invariant-loop-column
invariant-loop-column l = record {
  size : length l.tile ≡ 256;
  are : AreTileNumbers l.numbers l.w l.area.x l.area.y l.area.w l.tile (l.row * l.area.w + l.column);
}
