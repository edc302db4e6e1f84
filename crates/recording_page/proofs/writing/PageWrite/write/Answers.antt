use Rattle.std.proofs.Common.{arith}
use Rattle.base64.specs.Write.{finished}
use Rattle.recording_page.proofs.Pages.{page_written, write_appends}
use Rattle.recording_page.proofs.writing.PageWrite.write.Goals as goal

pub invariant_of-self : goal.invariant_of-self
invariant_of-self g c =
    let page = c.args.self.now in
    record {
      has = page_written (finished page.encoder) (finished c.write.new.self) (g.W.Write.contents page.before.value) c.write.result c.args.bytes.now
          (λ i. let f = c.type_inv.bytes i in omega arith) c.write.ensures.ok c.write.ensures.err page.has;
    }

pub returns-clause-bytes : goal.returns-clause-bytes
returns-clause-bytes g c =
    let page = c.args.self.now in
    write_appends (finished page.encoder) (finished c.write.new.self) (g.W.Write.contents page.before.value) c.write.result c.args.bytes.now
    (λ i. let f = c.type_inv.bytes i in omega arith) c.write.ensures.ok c.write.ensures.err page.has
