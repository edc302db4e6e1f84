use Rattle.std.proofs.Common.{◌≡◌, ◌-◌, true, false, length, take, drop, length-drop, Ok, Some, sym, ap, ◌∙◌, arith}
use Rattle.rect_data.specs.Grammar.{measured, is_inside, source_of}
use Rattle.rect_data.proofs.Steps.{copy_short, copy_inside, copy_outside}
use Rattle.rect_data.proofs.measuring.measure_copy.Goals as goal

pub returns-then-bytes-lt4 : goal.returns-then-bytes-lt4
returns-then-bytes-lt4 c =
    ap (measured (length c.args.bytes.now)) (sym (copy_short c.args.size.width c.args.size.height c.args.area c.args.bytes.now c.if-bytes-lt4.true))

pub returns-then-not-lies_inside : goal.returns-then-not-lies_inside
returns-then-not-lies_inside c =
    let out : is_inside c.args.size.width c.args.size.height (source_of c.args.area (take 4 c.args.bytes.now)) ≡ false =
    ap (is_inside c.args.size.width c.args.size.height) (sym c.source_at.ensures) ∙ sym c.if-not-lies_inside.ensures in
    ap (measured (length c.args.bytes.now)) (sym (copy_outside c.args.size.width c.args.size.height c.args.area c.args.bytes.now c.if-bytes-lt4.false out))

pub returns : goal.returns
returns c =
    let inside : is_inside c.args.size.width c.args.size.height (source_of c.args.area (take 4 c.args.bytes.now)) ≡ true =
    ap (is_inside c.args.size.width c.args.size.height) (sym c.source_at.ensures) ∙ sym c.if-not-lies_inside.ensures in
    let size : 4 ≡ length c.args.bytes.now - length (drop 4 c.args.bytes.now) = rw (length-drop) (omega (arith, c.if-bytes-lt4.false)) in
    ap (λ k. Ok (Some k)) size
    ∙ ap (measured (length c.args.bytes.now)) (sym (copy_inside c.args.size.width c.args.size.height c.args.area c.args.bytes.now c.if-bytes-lt4.false inside))
