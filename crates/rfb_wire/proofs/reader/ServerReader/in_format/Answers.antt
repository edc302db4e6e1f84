use Rattle.rfb_wire.proofs.reader.ServerReader.in_format.Goals as goal

pub invariant_of-result : goal.invariant_of-result
invariant_of-result c = c.new.ensures.at c.args.screen.format c.args.screen.size.width c.args.screen.size.height
