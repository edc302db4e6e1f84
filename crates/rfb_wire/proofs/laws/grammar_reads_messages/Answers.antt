use Rattle.rfb_wire.proofs.Messages.{read_is_message, message_is_read}
use Rattle.rfb_wire.proofs.laws.grammar_reads_messages.Goals as goal

pub returns : goal.returns
returns c = λ limit width height bytes rectangles. (read_is_message limit width height bytes rectangles, message_is_read limit width height bytes rectangles)
