use Rattle.std.proofs.Common.{◌≤◌, List, ℕ, length}
use Rattle.request_head.specs.Hosts.{IsWithPort}
use Rattle.request_head.proofs.host.without_port.Given as goal

abbrev pub invariant-loop-end : goal.invariant-loop-end
invariant-loop-end l = (name : List ℕ) → IsWithPort name l.host → l.end ≤ length name
