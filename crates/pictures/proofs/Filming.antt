-- Frames, one after the other.
use Rattle.std.proofs.Common.{◌≡◌, ◌<◌, ◌≤◌, ℕ, suc, ◌+◌, ◌-◌, ◌*◌, ◌/◌, List, ◌++◌, refl, subst, arith}
use Rattle.std.proofs.Math.Nat.{div-mul-le_self}
use Rattle.std.proofs.lemmas.Nat.{le-div, div_below}
use Rattle.gated_journal.specs.Recording.{Head}
use Rattle.keyed_entries.specs.declared.entry.Stamped.{Stamped}
use Rattle.pictures.specs.Frames.{AreFrames, IsFrame, frame_moment}

-- no frame is before the one before it
pub frames_grow : (from rate k : ℕ) → 0 < rate → frame_moment from rate k ≤ frame_moment from rate (k + 1)
frames_grow from rate k some =
    let part : k * 1000 / rate * rate ≤ (k + 1) * 1000 = omega (arith, div-mul-le_self (k * 1000) rate) in
    let grows : k * 1000 / rate ≤ (k + 1) * 1000 / rate = le-div (k * 1000 / rate) ((k + 1) * 1000) rate some part in
    omega (arith, grows)

-- the frame after so long a wait, rounded up, isn't before its end
pub frame_reaches : (from rate last : ℕ) → 0 < rate → last ≤ frame_moment from rate (((last - from) * rate + 999) / 1000)
frame_reaches from rate last some =
    let wait = last - from in
    let enough : wait * rate ≤ (wait * rate + 999) / 1000 * 1000 = omega arith in
    let reached = le-div wait ((wait * rate + 999) / 1000 * 1000) rate some enough in
    omega (arith, reached)

-- and each one before that frame is
pub earlier_frames : (from rate last k : ℕ) → 0 < rate → k < ((last - from) * rate + 999) / 1000 → frame_moment from rate k < last
earlier_frames from rate last k some before =
    let wait = last - from in
    let short : k * 1000 < wait * rate = omega (arith, before) in
    let below = div_below (k * 1000) rate wait some short in
    omega (arith, below)

pub one_more_frame : (h : Head) (messages : List Stamped) (from rate k : ℕ) (front last : List ℕ) → AreFrames h messages from rate k front
    → IsFrame h messages (frame_moment from rate k) last → AreFrames h messages from rate (k + 1) (front ++ last)
one_more_frame h messages from rate k front last are is =
    let one : suc k ≡ k + 1 = omega arith in
    subst (λ n. AreFrames h messages from rate n (front ++ last)) one (front, last, are, is, refl)
