use Rattle.std.proofs.Common.{◌≡◌, ◌<◌, ◌≤◌, ◌+◌, ◌-◌, ℕ, List, ◌++◌, length, take, drop, sym, ap, ◌∙◌, subst, arith, length-append}
use Rattle.std.proofs.lemmas.List.{drop_all}
use Rattle.std.proofs.lemmas.Result.{err_from_is_err_and}
use Rattle.std.proofs.lemmas.List.{take_all, length-take}
use Rattle.fbs_export.specs.Opening.{opening_at, named}
use Rattle.fbs_export.specs.Reader.{IsInHead}
use Rattle.fbs_export.proofs.Heading.{head_more, data_fault, all_of}
use Rattle.fbs_export.proofs.opening.take_head.Goals as goal

pub returns-in_err-announced-clause-fault : goal.returns-in_err-announced-clause-fault
returns-in_err-announced-clause-fault c =
    let n : ℕ = c.loop-taken.taken in
    let piece = c.args.piece.now in
    let p = err_from_is_err_and c.from_residual-in_err-announced.result c.from_residual-in_err-announced.ensures.1 in
    let f = c.in_err-announced.field-0.0 in
    rw (p.1, p.2) (λ s stands.
    let new : List ℕ = c.deref.result.now in
    let front : s ++ take (n + 1) piece ≡ new = head_more c.loop-taken.head.items new s piece n (n + 1 - n) (c.loop-taken.invariant s stands).is (c.deref.ensures.value ∙ c.in_ok-extend_from_slice.ensures.items) (omega arith) in
    data_fault f new (drop (n + 1) piece) (s ++ piece) (sym (all_of s piece (n + 1)) ∙ ap (λ z. z ++ drop (n + 1) piece) front) c.in_err-announced.ensures)

pub returns-in-Some-clause-goes : goal.returns-in-Some-clause-goes
returns-in-Some-clause-goes c = λ s stands more.
    let n : ℕ = c.loop-taken.taken in
    let piece = c.args.piece.now in
    let new : List ℕ = c.deref.result.now in
    let front : s ++ take (n + 1) piece ≡ new = head_more c.loop-taken.head.items new s piece n (n + 1 - n) (c.loop-taken.invariant s stands).is (c.deref.ensures.value ∙ c.in_ok-extend_from_slice.ensures.items) (omega arith) in
    let judged = rw c.in-Some.is at c.in_ok-announced.ensures in
    let before : length c.loop-taken.head.items < 40 = (c.loop-taken.invariant s stands).short in
    let next : List ℕ = take (n + 1 - n) (drop n piece) in
    let is : new ≡ c.loop-taken.head.items ++ next = c.deref.ensures.value ∙ c.in_ok-extend_from_slice.ensures.items in
    let long : length new ≤ 40 = omega (arith, ap (λ z. length z) is, length-append c.loop-taken.head.items next, length-take (n + 1 - n) (drop n piece), before) in
    ap (λ z. opening_at (z ++ more)) front ∙ judged.1 more ∙ ap (λ z. named c.in-Some.announced.size.width c.in-Some.announced.size.height c.in-Some.announced.count (z ++ more)) (drop_all 40 new long)

pub loop-taken-preserved : goal.loop-taken-preserved
loop-taken-preserved c = λ s stands.
    let n : ℕ = c.loop-taken.taken in
    let piece = c.args.piece.now in
    let new : List ℕ = c.deref.result.now in
    let same : new ≡ c.extend_from_slice.new.self.items = c.deref.ensures.value in
    let front : s ++ take (n + 1) piece ≡ new = head_more c.loop-taken.head.items new s piece n (n + 1 - n) (c.loop-taken.invariant s stands).is (c.deref.ensures.value ∙ c.in_ok-extend_from_slice.ensures.items) (omega arith) in
    let judged = rw c.in_default.is at c.in_ok-announced.ensures in
    rw (← same) (record { is = front; short = judged.1; waits = judged.0 })

pub returns-clause-goes : goal.returns-clause-goes
returns-clause-goes c = λ s stands.
    let piece = c.args.piece.now in
    let all : take c.loop-taken.taken piece ≡ piece = take_all c.loop-taken.taken piece (omega (arith, c.loop-taken-test.false)) in
    subst (λ z. IsInHead c.loop-taken.head.items (s ++ z)) all (c.loop-taken.invariant s stands)
