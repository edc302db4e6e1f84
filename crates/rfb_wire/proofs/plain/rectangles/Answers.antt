use Rattle.std.proofs.Common.{◌≡◌, ℕ, suc, ◌+◌, ◌-◌, ◌<◌, ◌∙◌, sym, arith}
use Rattle.std.proofs.lemmas.Result.{err_from_is_err_and}
use Rattle.terms.specs.Reading.{Bad}
use Rattle.rfb_wire.specs.Grammar.{rectangle_at}
use Rattle.client_wire.proofs.Fronts.{unless_memory_map}
use Rattle.rfb_wire.proofs.FromFront.{others_begin, others_end, others_next, others_more, others_bad}
use Rattle.rfb_wire.proofs.plain.rectangles.Goals as goal

-- one rectangle is left, and others
left : (count counter : ℕ) → counter < count → suc (count - (counter + 1)) ≡ count - counter
left count counter more = omega arith

pub returns-in_err-next : goal.returns-in_err-next
returns-in_err-next c =
    let p = err_from_is_err_and c.from_residual.result c.from_residual.ensures.1 in
    let l = left c.args.count c.loop.counter c.loop-test.true in
    let says = rw (← l) at c.loop.invariant.says in
    rw (p.1, p.2) (unless_memory_map c.in_err-next.field-0.0 (rectangle_at c.args.size.width c.args.size.height c.loop.at c.loop.rest.now ≡ Bad c.in_err-next.field-0.0) _
    (λ e. sym says ∙ others_bad c.args.size.width c.args.size.height (c.args.count - (c.loop.counter + 1)) c.loop.at c.loop.found.items c.loop.rest.now c.in_err-next.field-0.0 e)
    c.in_err-next.ensures.says)

pub returns-in_default : goal.returns-in_default
returns-in_default c =
    let l = left c.args.count c.loop.counter c.loop-test.true in
    let says = rw (← l) at c.loop.invariant.says in
    let more = rw c.in_default.is at c.in_ok-next.ensures.says in
    sym says ∙ others_more c.args.size.width c.args.size.height (c.args.count - (c.loop.counter + 1)) c.loop.at c.loop.found.items c.loop.rest.now more

pub returns : goal.returns
returns c =
    let none : c.args.count - c.loop.counter ≡ 0 = omega arith in
    let says = rw none at c.loop.invariant.says in
    sym says ∙ others_end c.args.size.width c.args.size.height c.loop.at c.loop.found.items c.loop.rest.now

pub loop-init : goal.loop-init
loop-init c =
    let all : c.args.count - 0 ≡ c.args.count = omega arith in record {
      says = rw (c.new-found.ensures.items, all) (others_begin c.args.size.width c.args.size.height c.args.count 4 c.args.bytes.now);
      room = c.requires;
    }

pub loop-preserved : goal.loop-preserved
loop-preserved c =
    let l = left c.args.count c.loop.counter c.loop-test.true in
    let says = rw (← l) at c.loop.invariant.says in
    let got = rw c.in-Some.is at c.in_ok-next.ensures.says in
    let ends = rw c.in-Some.is at c.in_ok-next.ensures.ends in
    let pushed = c.in_ok-push.ensures.items in
    record {
      says = rw pushed (sym (others_next c.args.size.width c.args.size.height (c.args.count - (c.loop.counter + 1)) c.loop.at c.loop.found.items c.loop.rest.now c.in-Some.following.now c.in-Some.next got) ∙ says);
      room = omega (arith, ends, c.loop.invariant.room);
    }
