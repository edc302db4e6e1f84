use Rattle.std.proofs.Common.{rules}
use Rattle.recording_name.proofs.Noted.{recent_pushed, named_now}
use Rattle.recording_name.proofs.memory_folder.crash.left_name.Goals as goal

pub loop-event-preserved-then-is_of_name : goal.loop-event-preserved-then-is_of_name
loop-event-preserved-then-is_of_name c x has =
    c.loop-event.invariant x
    (recent_pushed c.in-Some.before.now c.in-Some.event.now c.loop-event.earlier.now c.args.name.now x (search rules) (search rules) has)

pub loop-event-preserved : goal.loop-event-preserved
loop-event-preserved c x has =
    c.loop-event.invariant x
    (recent_pushed c.in-Some.before.now c.in-Some.event.now c.loop-event.earlier.now c.args.name.now x (search rules) (search rules) has)

pub returns : goal.returns
returns c = c.loop-event.invariant c.named.result (named_now c.loop-event.earlier.now c.args.name.now c.named.result c.named.ensures)
