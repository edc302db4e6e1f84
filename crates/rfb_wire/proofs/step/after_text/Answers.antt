use Rattle.rfb_wire.specs.PartialMessage.{go_on}
use Rattle.rfb_wire.proofs.Resume.{data_of_text}
use Rattle.rfb_wire.proofs.step.after_text.Goals as goal

pub returns-clause-goes : goal.returns-clause-goes
unfolding go_on
returns-clause-goes c = λ width height text more is. data_of_text width height c.args.count text more is
