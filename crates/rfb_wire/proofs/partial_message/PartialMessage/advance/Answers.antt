use Rattle.std.proofs.Common.{◌<◌, ◌≤◌, ◌^◌, length, arith}
use Rattle.rfb_wire.specs.PartialMessage.{BeginsAt, IsOfKind}
use Rattle.rfb_wire.specs.Grammar.{message_limit}
use Rattle.rfb_wire.specs.Reader.{head_limit}
use Rattle.rfb_wire.proofs.Turns.{follows_goes, whole_ends, whole_goes, whole_over}
use Rattle.rfb_wire.proofs.partial_message.PartialMessage.advance.Goals as goal

pub returns-in-Field-clause-goes : goal.returns-in-Field-clause-goes
returns-in-Field-clause-goes c =
    let s = c.args.self.now in
    let done = c.append.new.rectangles.items in
    let begins : BeginsAt (length s.bytes.items) c.in-Field.stage = rw c.in-Field.is at c.requires.begins in
    let kind : IsOfKind c.in-Field.stage s.bytes.items = rw c.in-Field.is at c.requires.kind in
    record {
      linked = whole_goes (message_limit c.args.screen.format) c.args.screen.size.width c.args.screen.size.height s.bytes.items done c.args.whole.next c.in-Field.stage
          (follows_goes (message_limit c.args.screen.format) c.args.screen.size.width c.args.screen.size.height s.bytes.items s.rectangles.items done c.args.whole c.requires c.in_ok-append.ensures.ok)
          c.in-Field.is begins.start c.requires.short kind;
      end_is = omega (arith, c.start.ensures, c.wants.ensures.value);
      unfinished = omega (arith, begins.start, begins.some);
    }

pub returns-in-End-clause-goes : goal.returns-in-End-clause-goes
returns-in-End-clause-goes c =
    let s = c.args.self.now in
    let done = c.append.new.rectangles.items in
    whole_ends c.args.screen.size.width c.args.screen.size.height s.bytes.items done c.args.whole.next
    (follows_goes (message_limit c.args.screen.format) c.args.screen.size.width c.args.screen.size.height s.bytes.items s.rectangles.items done c.args.whole c.requires c.in_ok-append.ensures.ok) c.in-End.is

pub returns-in-ReadOver-clause-goes : goal.returns-in-ReadOver-clause-goes
returns-in-ReadOver-clause-goes c =
    let s = c.args.self.now in
    let done = c.append.new.rectangles.items in
    let over = whole_over c.args.screen.size.width c.args.screen.size.height s.bytes.items done c.args.whole.next c.in-ReadOver.left
    (follows_goes (message_limit c.args.screen.format) c.args.screen.size.width c.args.screen.size.height s.bytes.items s.rectangles.items done c.args.whole c.requires c.in_ok-append.ensures.ok) c.in-ReadOver.is in
    let begins : (c.in-ReadOver.left < 2 ^ 32) × (length s.bytes.items ≤ head_limit) = rw c.in-ReadOver.is at c.requires.begins in
    (begins.0, begins.1, over)
