use Rattle.std.proofs.Common.{[], sym, ap, ◌∙◌}
use Rattle.std.specs.Io.KnownBytes.{append_known}
use Rattle.base64.specs.Engines.{standard}
use Rattle.base64.specs.GeneralPurpose.{encode_of}
use Rattle.base64.specs.Write.{finished}
use Rattle.recording_page.specs.Page.{Has}
use Rattle.recording_page.proofs.Pages.{begins, begun, encode_same}
use Rattle.recording_page.proofs.writing.Page.begin.Goals as goal

pub invariant_of-result : goal.invariant_of-result
invariant_of-result g c =
    let before = c.of-before.result.value in
    record {
      has = ∣ (
        [],
        begun (g.W.Write.contents before) (finished c.new.result) (λ rest. c.new.ensures rest
            ∙ ap (λ w. append_known (g.W.Write.contents w) (encode_of c.args.engine.now rest)) (sym c.of-before.ensures)
            ∙ ap (append_known (g.W.Write.contents before)) (encode_same c.args.engine.now standard rest c.requires)),
      ) ∣₁;
    }

pub returns : goal.returns
returns g c =
    let before = c.of-before.result.value in
    let has : Has (g.W.Write.contents before) (finished c.new.result) [] =
    begun (g.W.Write.contents before) (finished c.new.result) (λ rest. c.new.ensures rest
    ∙ ap (λ w. append_known (g.W.Write.contents w) (encode_of c.args.engine.now rest)) (sym c.of-before.ensures)
    ∙ ap (append_known (g.W.Write.contents before)) (encode_same c.args.engine.now standard rest c.requires)) in
    begins (g.W.Write.contents c.args.out) (g.W.Write.contents before) c.args.front.now (finished c.new.result) (rw c.of-before.ensures c.in_ok-write_all.ensures.bytes) has
