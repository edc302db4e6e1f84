use Rattle.std.proofs.Common.{◌≡◌, ◌++◌, ◌-◌, List, length, take, drop, refl, ap, ◌∙◌, rules, arith}
use Rattle.std.proofs.lemmas.Grind.{common_steps}
use Rattle.std.proofs.lemmas.List.{take_rest}
use Rattle.terms.specs.Reading.{Bad}
use Rattle.rfb_wire.specs.Grammar.{message_at, message_limit}
use Rattle.rfb_wire.specs.Host.{Host}
use Rattle.host_session.specs.Session.{requests_after}
use Rattle.host_session.proofs.Messages.{feed_hears, answers, unless_memory_by}
use Rattle.host_session.proofs.listening.listen.Goals as goal

pub returns-clause-some : goal.returns-clause-some
returns-clause-some c =
    feed_hears c.args.reader.now c.feed-heard.new.self.kept c.feed-heard.new.self.passed c.args.out.now.items c.feed-heard.new.out.items c.args.piece.now
    _ c.feed-heard.result c.feed-heard.ensures.goes c.feed-heard.ensures.faults c.requires

pub returns-in-Err-clause-some : goal.returns-in-Err-clause-some
returns-in-Err-clause-some c =
    feed_hears c.args.reader.now c.feed-heard.new.self.kept c.feed-heard.new.self.passed c.args.out.now.items c.feed-heard.new.out.items c.args.piece.now
    _ c.feed-heard.result c.feed-heard.ensures.goes c.feed-heard.ensures.faults c.requires

pub returns-in_err-write_requests-clause-some : goal.returns-in_err-write_requests-clause-some
returns-in_err-write_requests-clause-some c =
    feed_hears c.args.reader.now c.feed-heard.new.self.kept c.feed-heard.new.self.passed c.args.out.now.items c.feed-heard.new.out.items c.args.piece.now
    _ c.feed-heard.result c.feed-heard.ensures.goes c.feed-heard.ensures.faults c.requires

pub returns-clause-goes : goal.returns-clause-goes
returns-clause-goes c = λ rest stands.
    let r = c.args.reader.now in
    let out = c.feed-heard.new.out.items in
    let start = c.len-start.result in
    let at : start ≡ length c.args.out.now.items = search rules in
    let slice : List Host = take (length c.deref.result.now - start) (drop start c.deref.result.now) in
    let slice_is : slice ≡ drop start out = take_rest c.deref.result.now start ∙ ap (drop start) c.deref.ensures.value in
    let said : c.write_requests.new.out.items ≡ c.args.due.now.items ++ requests_after r.width r.height slice = search rules in
    let g = c.in_default.ensures.goes rest stands in
    record {
      tail = g.rest;
      answers = answers r rest c.args.piece.now g.rest c.args.out.now.items out c.args.due.now.items c.write_requests.new.out.items start slice g.gives at slice_is said;
      stands = g.stands;
      waits = g.waits;
    }

pub returns-in-Err-clause-faults : goal.returns-in-Err-clause-faults
returns-in-Err-clause-faults c =
    let r = c.args.reader.now in
    let f = c.in-Err.fault in
    let out = c.feed-heard.new.out.items in
    let start = c.len-start.result in
    let at : start ≡ length c.args.out.now.items = search rules in
    let slice : List Host = take (length c.deref.result.now - start) (drop start c.deref.result.now) in
    let slice_is : slice ≡ drop start out = take_rest c.deref.result.now start ∙ ap (drop start) c.deref.ensures.value in
    let said : c.write_requests.new.out.items ≡ c.args.due.now.items ++ requests_after r.width r.height slice = search rules in
    unless_memory_by f _ (λ given_so. record {
      wire = f;
      is = refl;
      hears = λ rest stands.
          let g = c.in-Err.ensures.faults c.requires rest stands in
          record {
            tail = g.rest;
            answers = answers r rest c.args.piece.now g.rest c.args.out.now.items out c.args.due.now.items c.write_requests.new.out.items start slice g.gives at slice_is said;
            fault = given_so (message_at (message_limit r.format) r.width r.height g.rest ≡ Bad f) g.fault;
          };
    })

pub offset_bounds-deref-start : goal.offset_bounds-deref-start
offset_bounds-deref-start c = grind (arith, common_steps)

pub slice_bounds-write_requests-count : goal.slice_bounds-write_requests-count
slice_bounds-write_requests-count c = grind (arith, common_steps)

pub slice_bounds-write_requests-start : goal.slice_bounds-write_requests-start
slice_bounds-write_requests-start c = grind (arith, common_steps)
