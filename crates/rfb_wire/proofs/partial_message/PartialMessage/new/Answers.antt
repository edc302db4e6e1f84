use Rattle.std.proofs.Common.{arith, refl}
use Rattle.rfb_wire.specs.Grammar.{message_limit}
use Rattle.rfb_wire.proofs.Turns.{linked_start}
use Rattle.rfb_wire.proofs.partial_message.PartialMessage.new.Goals as goal

pub returns-clause-at : goal.returns-clause-at
returns-clause-at c = λ format width height. record {
  linked = linked_start (message_limit format) width height c.new.result.items c.new-2.result.items c.new.ensures.items c.new-2.ensures.items;
  end_is = refl;
  unfinished = rw c.new.ensures.items (omega arith);
}
