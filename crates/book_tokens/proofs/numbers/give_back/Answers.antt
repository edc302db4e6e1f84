use Rattle.std.proofs.Common.{refl, ap, arith, take, drop}
use Rattle.book_tokens.specs.Numbers.{first_of, others_of}
use Rattle.book_tokens.proofs.Once.{parts_as, times_cut}
use Rattle.book_tokens.proofs.numbers.give_back.Goals as goal

pub split_seat-requires : goal.split_seat-requires
split_seat-requires c =
    let q = c.requires in
    let v = c.args.one.now.me.0 in
    (q.table, omega (arith, q.word), parts_as c.args.one.now.id v.numbers (take 1 v.numbers) (drop 1 v.numbers) v (first_of v) (others_of v) q.held (ap first_of q.held) refl (λ x. times_cut x 1 v.numbers))
