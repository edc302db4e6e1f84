use Rattle.std.proofs.Common.{refl, sym, ap, ◌∙◌, subst}
use Rattle.host_stream.specs.Streams.{Stream, HasRead}
use Rattle.connections.proofs.Reading.{gives_then, none_at_end, none_at_read, reads_on, same_after}
use Rattle.connections.proofs.host.Host.next.Goals as goal

pub returns-in-Message-clause-given : goal.returns-in-Message-clause-given
returns-in-Message-clause-given g c = gives_then c.args.self.now c.loop.self c.next-in-loop.new.self c.in-Message.message c.loop.invariant.0 (rw (c.self.view_is) at (c.in-Message.ensures.given c.in-Message.message refl))

pub returns-in-Ended-clause-all : goal.returns-in-Ended-clause-all
returns-in-Ended-clause-all g c =
    let s = c.loop.self in
    let none = none_at_end s.session s.waiting s.end c.is_stopped.result (rw (c.self.view_is) at (sym c.in-Ended.ensures.next)) in
    let same = (rw (c.self.view_is) at c.next-in-loop.ensures.after) ∙ same_after s.session s.waiting s.end none in
    (ap (λ (t : Stream). t.waiting) same ∙ none, subst (λ (t : Stream). HasRead c.args.self.now t) (sym same) c.loop.invariant.0)

pub loop-preserved : goal.loop-preserved
loop-preserved g c =
    let s = c.loop.self in
    let none = none_at_read s.session s.waiting s.end c.is_stopped.result (rw (c.self.view_is) at (sym c.in-Read.ensures.next)) in
    let same = (rw (c.self.view_is) at c.next-in-loop.ensures.after) ∙ same_after s.session s.waiting s.end none.0 in
    (reads_on c.args.self.now s c.ask-is_short.new.self c.loop.invariant.0 (subst (λ (t : Stream). HasRead t c.ask-is_short.new.self) same c.ask-is_short.ensures.read), (c.ask-is_short.ensures.same.0 ∙ ap (λ (t : Stream). t.session.format) same ∙ c.loop.invariant.1.0, c.ask-is_short.ensures.same.1 ∙ ap (λ (t : Stream). t.session.expected) same ∙ c.loop.invariant.1.1), tt, tt)
