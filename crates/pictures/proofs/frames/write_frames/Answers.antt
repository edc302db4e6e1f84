use Rattle.std.proofs.Common.{◌≤◌, sym, ap, ◌∙◌, arith}
use Rattle.gated_journal.specs.Recording.{Head}
use Rattle.keyed_entries.specs.Entry.{messages_in}
use Rattle.pictures.specs.Frames.{frame_moment}
use Rattle.replay.proofs.Moments.{shown_later}
use Rattle.pictures.proofs.frames.write_frames.Goals as goal

pub write_each-requires-clause-width : goal.write_each-requires-clause-width
write_each-requires-clause-width g c = c.in_ok-replay.ensures.size.0 ∙ sym (ap (λ (h : Head). h.width) c.in_ok-replay.ensures.only.2)

pub write_each-requires-clause-height : goal.write_each-requires-clause-height
write_each-requires-clause-height g c = c.in_ok-replay.ensures.size.1 ∙ sym (ap (λ (h : Head). h.height) c.in_ok-replay.ensures.only.2)

pub write_each-requires-clause-painted : goal.write_each-requires-clause-painted
write_each-requires-clause-painted g c = λ modelled.
    let replay = c.in_ok-replay.ensures in
    rw (replay.position, replay.only.2, replay.only.3 modelled) (replay.screen modelled)

pub write_each-requires-clause-following : goal.write_each-requires-clause-following
write_each-requires-clause-following g c = λ modelled n later.
    let film = c.args.film.now in
    let first = c.in_ok-first.ensures in
    let replay = c.in_ok-replay.ensures in
    let moment = frame_moment film.from film.rate 0 in
    let sooner : film.from ≤ moment = omega arith in
    let there = rw (replay.only.3 modelled ∙ first.only.3 modelled) at later in
    omega (arith, replay.position, shown_later film.from moment (messages_in c.args.index.now.blocks) c.in_ok-first.first n sooner (first.shown modelled) there)
