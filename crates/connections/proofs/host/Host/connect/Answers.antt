use Rattle.std.proofs.Common.{◌++◌, []}
use Rattle.connections.proofs.host.Host.connect.Goals as goal

pub returns-clause-none : goal.returns-clause-none
returns-clause-none g c =
    let none = c.in-Ok-over.ensures.none in
    let read = c.greet.ensures.read none.0 [] none.1 in
    (none.0 ++ read.0, read.1)
