-- The refusals in the order of the numbers that programs print, from 1 on.
use Rattle.std.specs.Prelude.{ℕ, List, [], ◌∷◌}
use Rattle.terms.specs.Fault.{IsNumber}
use Rattle.flusher_core.specs.Refusals.{host_refusals, take_refusals, flush_refusals}
use Rattle.block_walk.specs.declared.faults.ReadFault.{ReadFault}
use Rattle.block_walk.specs.declared.faults.ReadFault.TheVariants as read
use Rattle.broadcast.specs.declared.refusal.JoinRefusal.{JoinRefusal}
use Rattle.broadcast.specs.declared.refusal.JoinRefusal.TheVariants as joining
use Rattle.broadcast.specs.declared.refusal.NextRefusal.{NextRefusal}
use Rattle.broadcast.specs.declared.refusal.NextRefusal.TheVariants as next
use Rattle.broadcast.specs.declared.refusal.SeekRefusal.{SeekRefusal}
use Rattle.broadcast.specs.declared.refusal.SeekRefusal.TheVariants as seeking
use Rattle.broadcast.specs.declared.refusal.LeaveRefusal.{LeaveRefusal}
use Rattle.broadcast.specs.declared.refusal.LeaveRefusal.TheVariants as leaving
use Rattle.broadcast.specs.declared.refusal.StepRefusal.{StepRefusal}
use Rattle.broadcast.specs.declared.refusal.StepRefusal.TheVariants as steps

abbrev pub join_refusals : List JoinRefusal
join_refusals = joining.NoSeat ∷ joining.NotCommitted ∷ []

abbrev pub next_refusals : List NextRefusal
next_refusals = next.NoMemory ∷ next.Device ∷ next.NotSeated ∷ []

abbrev pub seek_refusals : List SeekRefusal
seek_refusals = seeking.NotCommitted ∷ seeking.NotSeated ∷ []

abbrev pub leave_refusals : List LeaveRefusal
leave_refusals = leaving.NotSeated ∷ []

-- the number of a step's refusal: its index among those of the step
abbrev pub IsStepNumber : StepRefusal → ℕ → Type 0
IsStepNumber (steps.Host why) number = IsNumber host_refusals why number
IsStepNumber (steps.Take why) number = IsNumber take_refusals why number
IsStepNumber (steps.Flush why) number = IsNumber flush_refusals why number
IsStepNumber (steps.Join why) number = IsNumber join_refusals why number
IsStepNumber (steps.Next why) number = IsNumber next_refusals why number
IsStepNumber (steps.Seek why) number = IsNumber seek_refusals why number
IsStepNumber (steps.Leave why) number = IsNumber leave_refusals why number

-- why a seat gets no slice, by why the slice isn't made
abbrev pub next_refusal : ReadFault → NextRefusal
next_refusal read.NoMemory = next.NoMemory
next_refusal read.Device = next.Device
