use Rattle.std.proofs.Common.{◌≡◌, ◌++◌, take}
use Rattle.host_session.specs.Session.{requests_after}
use Rattle.host_session.proofs.request.write_requests.Given as goal

abbrev pub invariant-loop-message : goal.invariant-loop-message
invariant-loop-message l = l.out.items ≡ l.initial.out.items ++ requests_after l.size.width l.size.height (take l.message-index l.messages)
