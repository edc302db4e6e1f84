use Rattle.std.proofs.Common.{◌≡◌, ◌<◌, inl, inr, ◌∙◌, [], ◌++◌, Ok, length, take, sym, ap, refl, arith}
use Rattle.std.proofs.lemmas.Result.{err_from_is_err_and}
use Rattle.std.proofs.lemmas.List.{length-append}
use Rattle.hextile.specs.Measuring.{wants_of, go_on, resume}
use Rattle.hextile.proofs.Steps.{run_more, run_refused, run_parts, same_wants, front_of}
use Rattle.hextile.proofs.measuring.Measuring.run.Goals as goal
use Rattle.hextile.proofs.measuring.Measuring.run.Goals.{in-Some+in_ok-fields+in_default-2, in_default}

pub loop-next-init : goal.loop-next-init
unfolding go_on
loop-next-init c = record { front = []; bytes_are = refl; first = inl (refl, refl); same = λ more. refl }

pub loop-next-preserved : goal.loop-next-preserved
loop-next-preserved c =
    let f = c.args.format.now in
    let i = c.loop-next.invariant in
    let n = c.in-Some-2.fields.taken in
    let rest = c.loop-next.rest.now in
    let taken = rw c.in-Some-2.is at c.in_ok-fields.ensures.taken in
    record {
      front = i.front ++ take n rest;
      bytes_are = run_parts n c.args.bytes.now i.front rest i.bytes_are;
      first = inr (elim i.first [ inl none ↦ omega (arith, taken.1, none.1, same_wants f c.args.self c.in-Some.stage c.loop-next.next c.in-Some.is none.0) | inr moved ↦ omega (arith, moved) ]);
      same = run_more f c.args.self c.in-Some.stage c.loop-next.next c.in-Some-2.fields.next i.front rest n c.in-Some.is i.same
          (rw c.in-Some-2.is at c.in_ok-fields.ensures.goes);
    }

pub returns-in_err-fields-clause-refused : goal.returns-in_err-fields-clause-refused
returns-in_err-fields-clause-refused c =
    let p = err_from_is_err_and c.from_residual.result c.from_residual.ensures.1 in
    let i = c.loop-next.invariant in
    rw p.1 (run_refused c.args.format.now c.args.self c.in-Some.stage c.loop-next.next i.front c.loop-next.rest.now c.args.bytes.now c.in-Some.is i.bytes_are i.same
    c.in_err-fields.ensures.refused)

pub returns-clause-first : goal.returns-clause-first
returns-clause-first c = λ whole.
    let f = c.args.format.now in
    let i = c.loop-next.invariant in
    let size = ap length i.bytes_are ∙ length-append i.front c.loop-next.rest.now in
    elim i.first [
      | inl none ↦ elim c.match-next.branch [
        | in-Some+in_ok-fields+in_default-2 w ↦
            let few : length c.loop-next.rest.now < wants_of f w.in-Some.stage = w.in_ok-fields.ensures.waits (ap Ok w.in_default-2.is) in
            absurd (omega (arith, whole, few, none.1, same_wants f c.args.self w.in-Some.stage c.loop-next.next w.in-Some.is none.0))
        | in_default w ↦ absurd (w.in_default.not-Some c.args.self none.0)
      ]
      | inr moved ↦ omega (arith, moved, size)
    ]

pub overflow_sub-result : goal.overflow_sub-result
overflow_sub-result c =
    let i = c.loop-next.invariant in
    omega (arith, ap length i.bytes_are, length-append i.front c.loop-next.rest.now)

pub returns-clause-goes : goal.returns-clause-goes
returns-clause-goes c = λ more.
    let i = c.loop-next.invariant in
    let f = c.args.format.now in
    let last : c.match-next.next ≡ c.loop-next.next = elim c.match-next.branch [ in-Some+in_ok-fields+in_default-2 w ↦ cc | in_default w ↦ cc ] in
    ap (λ z. resume f c.args.self (z ++ more)) (front_of c.args.bytes.now i.front c.loop-next.rest.now i.bytes_are)
    ∙ i.same more ∙ ap (λ s. go_on f s more) (sym last)
