use Rattle.std.proofs.Common.{◌≡◌, drop, refl, sym, ap, ◌∙◌, true, false, arith}
use Rattle.std.specs.Str.{bytes_eq}
use Rattle.drill_script.specs.Reading.{kind_among, kind_by, kinds}
use Rattle.drill_script.proofs.Keywords.{kind_after}
use Rattle.drill_script.proofs.words.kind_of.Goals as goal

pub loop-kind-init : goal.loop-kind-init
unfolding kind_by
loop-kind-init c = refl

pub loop-kind-preserved : goal.loop-kind-preserved
loop-kind-preserved c =
    let word = c.args.word.now in
    let other = ap (bytes_eq word) (sym c.keyword.ensures) ∙ sym c.eq.ensures ∙ c.if-eq.false in
    sym (kind_after kinds c.loop-kind.kind-index word false c.loop-kind-test.true other) ∙ c.loop-kind.invariant

pub returns-then-eq : goal.returns-then-eq
returns-then-eq c =
    let word = c.args.word.now in
    let same = ap (bytes_eq word) (sym c.keyword.ensures) ∙ sym c.eq.ensures ∙ c.if-eq.true in
    sym (kind_after kinds c.loop-kind.kind-index word true c.loop-kind-test.true same) ∙ c.loop-kind.invariant

pub returns : goal.returns
returns c =
    let last : 14 ≡ c.loop-kind.kind-index = omega (arith, c.loop-kind-test.false, c.loop-kind.auto.kind-index-end) in
    ap (λ n. kind_among (drop n kinds) c.args.word.now) last ∙ c.loop-kind.invariant
