use Rattle.std.proofs.Common.{◌≡◌, ◌<◌, ◌+◌, ℕ, inl, inr, refl, subst, arith}
use Rattle.std.proofs.lemmas.Bool.{both_ways, cases_lt, false≢true}
use Rattle.painter.specs.Framebuffer.{color_at}
use Rattle.painter.proofs.Same.{row_same, same_by_number}
use Rattle.painter.proofs.reading.same_colors.Goals as goal

pub returns-then-ne : goal.returns-then-ne
returns-then-ne g c =
    let one = g.R.Rows.shown c.args.one.now in
    let other = g.R.Rows.shown c.args.other.now in
    let area = c.args.area in
    let row = c.loop-row.row in
    let down : row < area.h = omega (arith, c.from-row-end.ensures, c.loop-row-test.true) in
    let rows = row_same same_by_number one other area row c.row.result.now c.row-in-loop-row.result.now c.ne.result c.ne.ensures
    c.row.ensures.length c.row-in-loop-row.ensures.length c.row.ensures.colors c.row-in-loop-row.ensures.colors in
    (λ t. absurd (false≢true t), λ agree. absurd (both_ways c.ne.result (rows.1 (λ x across. agree x row across down)) c.if-ne.true))

pub loop-row-preserved : goal.loop-row-preserved
loop-row-preserved g c = λ x y across down.
    let one = g.R.Rows.shown c.args.one.now in
    let other = g.R.Rows.shown c.args.other.now in
    let area = c.args.area in
    let row = c.loop-row.row in
    let rows = row_same same_by_number one other area row c.row.result.now c.row-in-loop-row.result.now c.ne.result c.ne.ensures
    c.row.ensures.length c.row-in-loop-row.ensures.length c.row.ensures.colors c.row-in-loop-row.ensures.colors in
    elim (cases_lt y row) [
      | inl above ↦ c.loop-row.invariant x y across above
      | inr level ↦
          let same : row ≡ y = omega (arith, level, down) in
          subst (λ (r : ℕ). color_at one (area.x + x) (area.y + r) ≡ color_at other (area.x + x) (area.y + r)) same (rows.0 c.if-ne.false x across)
    ]

pub returns : goal.returns
returns g c = (
  λ t x y across down.
      c.loop-row.invariant x y across (omega (arith, down, c.from-row-end.ensures, c.loop-row-test.false)),
  λ agree. refl,
)
