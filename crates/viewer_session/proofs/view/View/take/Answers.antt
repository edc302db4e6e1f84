use Rattle.std.proofs.Common.{◌≡◌, Bool, List, ℤ, [], sym, ap, ◌∙◌}
use Rattle.rect_data.specs.declared.encoding.Encoding.{Encoding}
use Rattle.viewer_session.specs.declared.view.View.{View}
use Rattle.viewer_session.specs.View.{takes_copies}
use Rattle.viewer_session.proofs.Asked.{right_asked}
use Rattle.viewer_session.proofs.view.View.take.Goals as goal

pub returns-in-SetEncodings-clause-taken : goal.returns-in-SetEncodings-clause-taken
returns-in-SetEncodings-clause-taken c =
    let old = c.args.self.now in
    let new = c.give_up_copies.new.self in
    let k = c.give_up_copies.ensures.kept in
    let encoding : new.encoding ≡ c.pick-self.result = ap (λ (v : View). v.encoding) k in
    let takes : c.contains-self.result ≡ takes_copies c.in-SetEncodings.encodings =
    c.contains-self.ensures.value ∙ ap (λ (l : List ℤ). takes_copies l) c.as_slice-in-SetEncodings.ensures.value in
    rw c.in-SetEncodings.is (record {
      given = rw (encoding, ← c.as_slice.ensures.value) c.pick-self.ensures.given;
      stale = c.give_up_copies.ensures.stale;
      kept = k
          ∙ ap (λ (e : Encoding). record old { encoding = e; takes_copies = c.contains-self.result; stale = new.stale; copies = [] }) (sym encoding)
          ∙ ap (λ (t : Bool). record old { encoding = new.encoding; takes_copies = t; stale = new.stale; copies = [] }) takes;
    })

pub returns-in-Request-clause-right : goal.returns-in-Request-clause-right
returns-in-Request-clause-right c = λ head seen messages right.
    right_asked head c.args.self.now c.ask.new.self c.in-Request.incremental c.in-Request.area seen messages c.ask.ensures.asked right
