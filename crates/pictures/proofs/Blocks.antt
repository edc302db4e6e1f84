-- Stored blocks, one by one.
use Rattle.std.proofs.Common.{◌≡◌, ◌<◌, ◌≤◌, ℕ, ◌+◌, ◌/◌, suc, List, [], ◌++◌, length, take, drop, refl, ap, arith, length-drop}
use Rattle.pictures.specs.Chunks.{longest_block, stored, stored_block, stored_blocks}

pub longest : longest_block ≡ 65535
unfolding longest_block
longest = refl

pub stored_step : (xs : List ℕ) → 0 < length xs → stored xs ≡ stored_block (take longest_block xs) ++ stored (drop longest_block xs)
unfolding stored_blocks
stored_step xs some =
    let one : (length xs + 65534) / 65535 ≡ suc ((length (drop longest_block xs) + 65534) / 65535) = omega (arith, longest, length-drop longest_block xs) in
    ap (λ n. stored_blocks n xs) one

pub stored_none : (xs : List ℕ) → length xs ≤ 0 → stored xs ≡ []
unfolding stored_blocks
stored_none xs none =
    let zero : (length xs + 65534) / 65535 ≡ 0 = omega arith in
    ap (λ n. stored_blocks n xs) zero
