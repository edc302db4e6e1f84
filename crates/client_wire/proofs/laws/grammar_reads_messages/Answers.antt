use Rattle.client_wire.proofs.Relation.{read_is_message, message_is_read}
use Rattle.client_wire.proofs.laws.grammar_reads_messages.Goals as goal

pub returns : goal.returns
returns c = λ bytes m. (read_is_message bytes m, message_is_read bytes m)
