use Rattle.std.proofs.Common.{◌≡◌, ℕ, ◌-◌, ◌*◌, ◌<◌, ◌≤◌, length, drop, length-drop, Ok, Some, sym, ap, ◌∙◌, arith}
use Rattle.pixel_format.specs.Format.{pixel_bytes}
use Rattle.rect_data.specs.Grammar.{measured}
use Rattle.rect_data.proofs.Steps.{raw_front, raw_short}
use Rattle.rect_data.proofs.measuring.measure_raw.Goals as goal

pub returns-then-bytes-length : goal.returns-then-bytes-length
returns-then-bytes-length c =
    let short : length c.args.bytes.now < pixel_bytes c.args.format.now * (c.args.area.w * c.args.area.h) = rw (← c.bytes.ensures.value) c.if-bytes-length.true in
    ap (measured (length c.args.bytes.now)) (sym (raw_short c.args.format.now c.args.area c.args.bytes.now short))

pub returns : goal.returns
returns c =
    let n : ℕ = pixel_bytes c.args.format.now * (c.args.area.w * c.args.area.h) in
    let whole : n ≤ length c.args.bytes.now = rw (← c.bytes.ensures.value) c.if-bytes-length.false in
    let size : n ≡ length c.args.bytes.now - length (drop n c.args.bytes.now) = rw (length-drop) (omega (arith, whole)) in
    rw c.bytes.ensures.value
    (ap (λ k. Ok (Some k)) size ∙ ap (measured (length c.args.bytes.now)) (sym (raw_front c.args.format.now c.args.area c.args.bytes.now whole)))
