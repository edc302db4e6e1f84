use Rattle.std.proofs.Common.{refl, ap, arith, [], ◌∷◌}
use Rattle.tally.specs.Copies.{first_of, others_of}
use Rattle.tally.proofs.Keeping.{begins, parts_as, unlike_cut}
use Rattle.tally.proofs.tally.Tally.halves.Goals as goal

pub of_words-requires : goal.of_words-requires
of_words-requires c = begins

pub split_seat-other-requires : goal.split_seat-other-requires
split_seat-other-requires c =
    let t = c.in_ok-table.ensures in
    let v = c.in_ok-table.seat.me.0 in
    let is = ap (λ m. m.0) t.4 in
    (t.2, omega (arith, t.0), parts_as c.in_ok-table.seat.id (0 ∷ 0 ∷ []) (0 ∷ []) (0 ∷ []) v (first_of v) (others_of v) is (ap first_of is) (ap others_of is) (λ n. unlike_cut n 1 (0 ∷ 0 ∷ [])) refl)
