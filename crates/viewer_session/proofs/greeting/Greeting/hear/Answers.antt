use Rattle.viewer_session.proofs.Handshakes.{sent_more}
use Rattle.viewer_session.proofs.greeting.Greeting.hear.Goals as goal

pub returns-in_err-is_whole-clause-sound : goal.returns-in_err-is_whole-clause-sound
returns-in_err-is_whole-clause-sound c =
    let g = c.args.self.now in record {
      name = c.requires.sound.name;
      sent = sent_more g.size.width g.size.height g.name.items g.heard.items c.try_extend_from_slice.new.self.items _ g.sent c.in-Ok.ensures.ok c.requires.sound.sent;
      settled = λ e. absurd (cc);
    }

pub returns-then-branch-clause-sound : goal.returns-then-branch-clause-sound
returns-then-branch-clause-sound c =
    let g = c.args.self.now in record {
      name = c.requires.sound.name;
      sent = sent_more g.size.width g.size.height g.name.items g.heard.items c.try_extend_from_slice.new.self.items _ g.sent c.in-Ok.ensures.ok c.requires.sound.sent;
      settled = λ e. absurd (cc);
    }

pub returns-clause-sound : goal.returns-clause-sound
returns-clause-sound c =
    let g = c.args.self.now in record {
      name = c.requires.sound.name;
      sent = sent_more g.size.width g.size.height g.name.items g.heard.items c.try_extend_from_slice.new.self.items _ g.sent c.in-Ok.ensures.ok c.requires.sound.sent;
      settled = λ e. absurd (cc);
    }
