use Rattle.std.proofs.Common.{arith}
use Rattle.std.proofs.lemmas.Grind.{common_steps}
use Rattle.viewer_session.proofs.greeting.Greeting.write_said.Goals as goal

pub returns-in_ok-write_server_init : goal.returns-in_ok-write_server_init
returns-in_ok-write_server_init c = grind (arith, common_steps)
