use Rattle.std.proofs.Common.{◌≡◌, IsTrue, rules}
use Rattle.disk.proofs.TakenBack.{allowed_after, filled_after}
use Rattle.disk.proofs.fused.FusedDisk.left.Goals as goal

pub returns-then-not-has_stopped_write-clause-allowed : goal.returns-then-not-has_stopped_write-clause-allowed
returns-then-not-has_stopped_write-clause-allowed c =
    let same : c.into_inner-disk.result ≡ c.args.self.disk.disk = search rules in
    rw (← same) (allowed_after _ _ _ c.without_newest_write.ensures c.left.ensures.allowed)

pub returns-then-not-has_stopped_write-clause-filled : goal.returns-then-not-has_stopped_write-clause-filled
returns-then-not-has_stopped_write-clause-filled c =
    let same : c.into_inner-disk.result ≡ c.args.self.disk.disk = search rules in
    let stopped : IsTrue c.args.self.ends_in_stopped_write = search rules in
    rw (← same) (filled_after c.args.fill _ _ _ _ stopped c.without_newest_write.ensures c.left.ensures.filled)
