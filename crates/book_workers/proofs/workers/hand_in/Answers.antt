use Rattle.std.proofs.Common.{◌+◌, refl, sym, ap, ◌∙◌, subst}
use Rattle.book_workers.specs.Accounts.{Account, IsSettled, LacksLast, accepted_in}
use Rattle.book_workers.proofs.Telling.{told_last, one_more, at_err}
use Rattle.book_workers.proofs.workers.hand_in.Goals as goal

pub next-requires-in-loop : goal.next-requires-in-loop
next-requires-in-loop g c = record { settled = c.loop.invariant.1 }

pub returns-in_default-clause-ended : goal.returns-in_default-clause-ended
returns-in_default-clause-ended g c m =
    let e = c.in_default.ensures.given m in
    (subst IsSettled (sym e) (c.loop.invariant.1 m), ap (λ (a : Account). a.has_ended) e)

pub returns-in_default-clause-accepted : goal.returns-in_default-clause-accepted
returns-in_default-clause-accepted g c m = ap accepted_in (c.in_default.ensures.given m) ∙ c.loop.invariant.2 m

pub returns-in_err-ticket-clause-refused : goal.returns-in_err-ticket-clause-refused
returns-in_err-ticket-clause-refused g c m =
    let a = g.S.HostSource.account c.loop.source in
    let e = c.in-Some-next.ensures.given m in
    at_err c.from_residual.result (subst LacksLast (sym e) (record { earlier = a.given; last = c.in-Some-next.stamped; given = refl; told = c.loop.invariant.1 m }))

pub returns-in_err-ticket-clause-accepted : goal.returns-in_err-ticket-clause-accepted
returns-in_err-ticket-clause-accepted g c m = ap accepted_in (c.in-Some-next.ensures.given m) ∙ (c.loop.invariant.2 m ∙ sym c.in_err-ticket.ensures.refused)

pub accepted-requires : goal.accepted-requires
accepted-requires g c = record {
  settled = λ m.
      let a = g.S.HostSource.account c.loop.source in
      let d = c.requires.modelled m in
      let ticket = c.in_ok-ticket.ticket in
      let stamped = c.in-Some-next.stamped in
      let told = told_last a.first a.given a.told stamped ticket (c.loop.invariant.1 m) (c.in_ok-ticket.ensures.number d ∙ sym (c.loop.invariant.2 m)) (c.in_ok-ticket.ensures.ticket d) in
      rw (c.in-Some-next.ensures.given m, c.requires.tickets ticket) told;
}

pub loop-preserved : goal.loop-preserved
loop-preserved g c =
    let now = c.accepted.ensures.stays in
    let before = c.next-in-loop.ensures.stays in
    let i = c.loop.invariant in (
      now ∙ (before ∙ i.0),
      (λ m.
          let a = g.S.HostSource.account c.loop.source in
          let d = c.requires.modelled m in
          let ticket = c.in_ok-ticket.ticket in
          let told = told_last a.first a.given a.told c.in-Some-next.stamped ticket (i.1 m) (c.in_ok-ticket.ensures.number d ∙ sym (i.2 m)) (c.in_ok-ticket.ensures.ticket d) in
          rw (c.accepted.ensures.told m, c.in-Some-next.ensures.given m, c.requires.tickets ticket) told),
      (λ m.
          let a = g.S.HostSource.account c.loop.source in
          rw (c.accepted.ensures.told m, c.in-Some-next.ensures.given m, c.in_ok-ticket.ensures.accepted) (one_more a c.in-Some-next.stamped (g.S.HostSource.ticket_of c.in_ok-ticket.ticket) ∙ ap (λ n. n + 1) (i.2 m))),
      tt,
      tt,
    )
