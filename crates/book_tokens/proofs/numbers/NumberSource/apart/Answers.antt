use Rattle.std.proofs.Common.{◌≡◌, ◌≤◌, [], ◌∷◌, ◌∙◌, subst}
use Rattle.std.specs.Prelude.{slice_index}
use Rattle.book_tokens.specs.declared.numbers.Hand.{Hand}
use Rattle.book_tokens.specs.Numbers.{times, holder, both_of}
use Rattle.book_tokens.proofs.Once.{differ}
use Rattle.book_tokens.proofs.numbers.NumberSource.apart.Goals as goal

pub returns-clause-apart : goal.returns-clause-apart
returns-clause-apart g c same =
    let o = c.one.invariant in
    let p = c.other.invariant in
    let a = slice_index c.one.inside.seat.me.0.numbers 0 in
    let b = slice_index c.other.inside.seat.me.0.numbers 0 in
    let both : c.gather.new.one.me.0 ≡ holder (a ∷ b ∷ []) = c.gather.ensures.both ∙ (λ k. both_of (o.1 k) (p.1 k)) in
    let equal : a ≡ b = rw (← c.one.view_is, ← c.other.view_is) at same in
    differ a b (λ x. subst (λ (h : Hand). times x h.numbers ≤ 1) both (c.look.ensures.once x)) equal
