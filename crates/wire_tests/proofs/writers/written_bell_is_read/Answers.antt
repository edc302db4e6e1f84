use Rattle.std.proofs.Common.{[], refl, ◌∙◌}
use Rattle.rfb_wire.proofs.Messages.{other_is_read}
use Rattle.rfb_wire.proofs.Others.{other_of_bell}
use Rattle.wire_tests.proofs.writers.written_bell_is_read.Goals as goal

pub returns : goal.returns
returns c = λ limit width height. other_is_read limit width height 2 [] refl ∙ other_of_bell []
