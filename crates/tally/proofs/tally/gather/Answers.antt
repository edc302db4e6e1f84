use Rattle.std.proofs.Common.{refl, ap, arith, [], ◌∙◌}
use Rattle.tally.specs.Copies.{none_of, all_of, both_of}
use Rattle.tally.proofs.Keeping.{parts_as, takes_in_as}
use Rattle.tally.proofs.tally.gather.Goals as goal

pub split_seat-taken-requires : goal.split_seat-taken-requires
split_seat-taken-requires c =
    let q = c.requires in
    let w = c.args.other.now.me.0 in
    (q.same ∙ q.table, omega (arith, q.word), parts_as c.args.other.now.id w.numbers [] w.numbers w (none_of w) (all_of w) q.held.1 refl refl (λ n. omega arith) (omega arith))

pub join_seat-requires : goal.join_seat-requires
join_seat-requires c =
    let q = c.requires in
    let t = c.split_seat-taken.ensures in
    let v = c.args.one.now.me.0 in
    let w = c.args.other.now.me.0 in
    let u = c.split_seat-taken.result.me.0 in
    (q.table, t.3 ∙ (q.same ∙ q.table), ap (λ m. m.1) t.4, omega (arith, q.word), takes_in_as c.args.one.now.id v.numbers c.split_seat-taken.result.id w.numbers v u (both_of v u) q.held.0 (ap (λ m. m.0) t.4) (λ k. both_of (q.held.0 k) (t.4 k).0))
