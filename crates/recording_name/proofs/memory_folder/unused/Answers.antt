use Rattle.std.proofs.Common.{◌≡◌, List, rules, subst}
use Rattle.std.proofs.lemmas.List.{take_all}
use Rattle.recording_name.specs.Memory.{state_of, IsBelow}
use Rattle.recording_name.specs.declared.memory_folder.Event.{Event}
use Rattle.recording_name.proofs.Noted.{below_more}
use Rattle.recording_name.proofs.memory_folder.unused.Goals.{in-Some+in_ok-checked_add, in_default}
use Rattle.recording_name.proofs.memory_folder.unused.Goals as goal

pub loop-event-preserved : goal.loop-event-preserved
loop-event-preserved c = elim c.match-given.branch [
  | in-Some+in_ok-checked_add w ↦
      below_more c.args.events.now c.loop-event.event-index c.event-item.result c.loop-event.next c.match-given.next (search rules) c.event-item.is c.loop-event.invariant (search rules) (λ k is.
      let at : w.in-Some.file ≡ k = cc in
      search rules)
  | in_default w ↦
      below_more c.args.events.now c.loop-event.event-index c.event-item.result c.loop-event.next c.match-given.next (search rules) c.event-item.is c.loop-event.invariant (search rules) (λ k is. cc)
]

pub returns : goal.returns
returns c = subst (λ (events : List Event). IsBelow c.loop-event.next (state_of events)) (take_all c.loop-event.event-index c.args.events.now (search rules)) c.loop-event.invariant
