use Rattle.std.proofs.Common.{[], arith}
use Rattle.base64.specs.Write.{finished}
use Rattle.recording_page.proofs.Pages.{page_keeps, page_takes}
use Rattle.recording_page.proofs.writing.PageWrite.flush.Goals as goal

pub invariant_of-self : goal.invariant_of-self
invariant_of-self g c =
    let page = c.args.self.now in
    record { has = page_takes (finished page.encoder) (finished c.flush.new.self) (g.W.Write.contents page.before.value) [] (λ i. omega arith) c.flush.ensures.same page.has }

pub returns : goal.returns
returns g c =
    let page = c.args.self.now in
    record { bytes = page_keeps (finished page.encoder) (finished c.flush.new.self) (g.W.Write.contents page.before.value) c.flush.ensures.same page.has }
