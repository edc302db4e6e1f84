use Rattle.std.proofs.Common.{true≢false, sym, ap, arith}
use Rattle.shared_updates.specs.declared.copy.KeptCopy.{KeptCopy}
use Rattle.shared_updates.specs.Copies.{pixels_copied}
use Rattle.shared_updates.proofs.Room.{one_more, no_more}
use Rattle.shared_updates.proofs.copies.Copies.have_room.Goals as goal

abbrev nowhere : KeptCopy
nowhere = record { area = record { x = 0; y = 0; w = 0; h = 0 }; source_x = 0; source_y = 0 }

pub loop-copy-preserved : goal.loop-copy-preserved
loop-copy-preserved c =
    let copies = c.as_slice-copies.result.now in
    let k = c.loop-copy.copy-index in
    let next = one_more copies k nowhere c.loop-copy-test.true in
    omega (arith, next, c.pixels_in-pixels.ensures, c.loop-copy.invariant, c.if-left-pixels.false)

pub returns-then-left-pixels : goal.returns-then-left-pixels
returns-then-left-pixels c =
    let copies = c.as_slice-copies.result.now in
    let k = c.loop-copy.copy-index in
    let front = no_more copies k nowhere c.loop-copy-test.true in (
      λ t. absurd (true≢false (sym t)),
      λ room. absurd (omega (arith, front, c.pixels_in-pixels.ensures, c.loop-copy.invariant, c.if-left-pixels.true, ap pixels_copied c.as_slice-copies.ensures.value, ap pixels_copied c.self.view_is, room.pixels)),
    )
