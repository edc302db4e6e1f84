use Rattle.std.proofs.Common.{◌≡◌, ◌++◌, sym}
use Rattle.playing.specs.Playing.{IsPace}
use Rattle.web_target.specs.Targets.{IsPauseOf}
use Rattle.web_target.proofs.Splits.{after_time, after_pace}
use Rattle.web_target.proofs.target.playback.Goals as goal

pub returns-in_err-following-2 : goal.returns-in_err-following-2
returns-in_err-following-2 c = rw c.from_residual-in_err-following-2.ensures (λ p h.
    let of = c.digits_first.ensures in
    let first = after_time p _ _ c.digits_first.result.0.now c.digits_first.result.1.now c.in_ok-following.ensures of.whole of.digits of.rest h in
    c.in_err-following-2.ensures (h.pace ++ h.rest) first.1)

pub returns-in_err-small_number : goal.returns-in_err-small_number
returns-in_err-small_number c = rw c.from_residual-in_err-small_number.ensures (λ p h.
    let of = c.digits_first.ensures in
    let first = after_time p _ _ c.digits_first.result.0.now c.digits_first.result.1.now c.in_ok-following.ensures of.whole of.digits of.rest h in
    absurd (cc (first.0, h.is_time, c.in_err-small_number.ensures)))

pub returns-in_err-small_number-2 : goal.returns-in_err-small_number-2
returns-in_err-small_number-2 c = rw c.from_residual-in_err-small_number-2.ensures (λ p h.
    let of = c.digits_first.ensures in
    let first = after_time p _ _ c.digits_first.result.0.now c.digits_first.result.1.now c.in_ok-following.ensures of.whole of.digits of.rest h in
    let of2 = c.digits_first-2.ensures in
    let second = after_pace p _ _ _ c.digits_first-2.result.0.now c.digits_first-2.result.1.now h first.1 c.in_ok-following-2.ensures of2.whole of2.digits of2.rest in
    absurd (cc (second.0, h.is_pace, c.in_err-small_number-2.ensures)))

pub returns-in_err-from_thousandths : goal.returns-in_err-from_thousandths
returns-in_err-from_thousandths c = rw c.from_residual-in_err-from_thousandths.ensures (λ p h.
    let of = c.digits_first.ensures in
    let first = after_time p _ _ c.digits_first.result.0.now c.digits_first.result.1.now c.in_ok-following.ensures of.whole of.digits of.rest h in
    let of2 = c.digits_first-2.ensures in
    let second = after_pace p _ _ _ c.digits_first-2.result.0.now c.digits_first-2.result.1.now h first.1 c.in_ok-following-2.ensures of2.whole of2.digits of2.rest in
    let pace : p.pace ≡ c.in_ok-small_number-2.field-0 = cc (second.0, h.is_pace, c.in_ok-small_number-2.ensures) in
    let range : IsPace c.in_ok-small_number-2.field-0 = rw (sym pace) h.in_range in
    absurd (cc (c.in_err-from_thousandths.ensures.some.1 range)))

pub returns-in_err-pause : goal.returns-in_err-pause
returns-in_err-pause c = rw c.from_residual-in_err-pause.ensures (λ p h.
    let of = c.digits_first.ensures in
    let first = after_time p _ _ c.digits_first.result.0.now c.digits_first.result.1.now c.in_ok-following.ensures of.whole of.digits of.rest h in
    let of2 = c.digits_first-2.ensures in
    let second = after_pace p _ _ _ c.digits_first-2.result.0.now c.digits_first-2.result.1.now h first.1 c.in_ok-following-2.ensures of2.whole of2.digits of2.rest in
    let longest : IsPauseOf p.longest_pause c.digits_first-2.result.1.now = rw second.1 h.longest in
    c.in_err-pause.ensures p.longest_pause longest)
