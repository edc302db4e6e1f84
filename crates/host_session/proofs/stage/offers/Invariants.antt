use Rattle.std.proofs.Common.{◌≡◌, drop}
use Rattle.host_session.specs.Handshake.{offers_security_none}
use Rattle.host_session.proofs.stage.offers.Given as goal

abbrev pub invariant-loop-kind : goal.invariant-loop-kind
invariant-loop-kind l = offers_security_none l.types ≡ offers_security_none (drop l.kind-index l.types)
