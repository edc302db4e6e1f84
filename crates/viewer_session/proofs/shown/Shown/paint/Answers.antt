use Rattle.std.proofs.Common.{◌≡◌, ◌∙◌, List, [], vec_len, sym, subst, eqb-true}
use Rattle.std.specs.Prelude.{OnOk}
use Rattle.std.proofs.lemmas.List.{nil_from_length}
use Rattle.keyed_entries.specs.declared.entry.Stamped.{Stamped}
use Rattle.viewer_session.specs.Shown.{AreAllPaintedOver, start_or}
use Rattle.viewer_session.proofs.shown.Shown.paint.Goals as goal

pub returns-then-is_empty-clause-painted : goal.returns-then-is_empty-clause-painted
returns-then-is_empty-clause-painted c =
    let slice = c.args.slice.now in
    let messages = slice.messages in
    let none : messages.items ≡ [] =
    nil_from_length messages.items (sym messages.ok.0 ∙ eqb-true (vec_len messages) 0 (sym c.is_empty.ensures ∙ c.if-is_empty.true)) in
    subst (λ (ms : List Stamped). OnOk c.begin.result (AreAllPaintedOver (start_or slice.start c.args.self.now) c.begin.new.self ms)) (sym none) c.begin.ensures.ok
