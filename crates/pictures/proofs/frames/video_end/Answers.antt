use Rattle.std.proofs.Common.{◌-◌, ◌+◌, ◌*◌, ◌/◌}
use Rattle.pictures.proofs.Filming.{frame_reaches, earlier_frames}
use Rattle.pictures.proofs.frames.video_end.Goals as goal

pub returns : goal.returns
returns c =
    let from = c.args.from in
    let rate = c.args.rate in
    let last = c.args.last in
    record {
      frame = ((last - from) * rate + 999) / 1000;
      reached = frame_reaches from rate last c.requires;
      first = λ k before. earlier_frames from rate last k c.requires before;
      end_is = rw (c.from-wait.ensures, c.saturating_sub.ensures, c.from.ensures, c.from-2.ensures, c.from-3.ensures, c.from-4.ensures) at c.min.ensures;
    }
