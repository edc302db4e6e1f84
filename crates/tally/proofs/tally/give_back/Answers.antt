use Rattle.std.proofs.Common.{refl, arith, take, drop}
use Rattle.tally.specs.Copies.{first_of, others_of}
use Rattle.tally.proofs.Keeping.{parts_as, unlike_cut, length_cut}
use Rattle.tally.proofs.tally.give_back.Goals as goal

pub split_seat-requires : goal.split_seat-requires
split_seat-requires c =
    let q = c.requires in
    let v = c.args.one.now.me.0 in
    (q.table, omega (arith, q.word), parts_as c.args.one.now.id v.numbers (take 1 v.numbers) (drop 1 v.numbers) v (first_of v) (others_of v) q.held refl refl (λ n. unlike_cut n 1 v.numbers) (length_cut 1 v.numbers))
