use Rattle.std.proofs.Common.{ap, arith}
use Rattle.reception.specs.State.{viewers_of}
use Rattle.reception.proofs.reception.Reception.missing.Goals as goal

pub overflow_cast-result : goal.overflow_cast-result
overflow_cast-result c =
    let within = c.self.invariant.2 c.in-Viewers.all (ap viewers_of c.in-Viewers.is) in omega arith

pub overflow_add-result : goal.overflow_add-result
overflow_add-result c =
    let within = c.self.invariant.2 c.in-Viewers.all (ap viewers_of c.in-Viewers.is) in omega arith

pub overflow_sub-result : goal.overflow_sub-result
overflow_sub-result c =
    let within = c.self.invariant.2 c.in-Viewers.all (ap viewers_of c.in-Viewers.is) in omega arith
