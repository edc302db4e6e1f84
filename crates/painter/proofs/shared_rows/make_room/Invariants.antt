use Rattle.std.proofs.Common.{◌≡◌, ◌+◌, ◌-◌, ◌≤◌, ℕ, None, length, get_or}
use Rattle.painter.proofs.shared_rows.make_room.Given as goal

abbrev pub invariant-loop : goal.invariant-loop
invariant-loop l = record {
  kept : (y : ℕ) → get_or l.kept.items y None ≡ get_or l.fn.kept.items y None;
  count : length l.kept.items ≡ l.counter;
  most : length l.kept.items ≤ length l.fn.kept.items + (l.count - length l.fn.kept.items);
}
