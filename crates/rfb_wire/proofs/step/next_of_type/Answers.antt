use Rattle.std.proofs.Common.{◌≡◌, Some, slice_index, nat_eq, eq-eqb, sym, ap, ◌∙◌}
use Rattle.std.proofs.lemmas.Grind.{common_steps}
use Rattle.std.proofs.Common.{arith}
use Rattle.rfb_wire.specs.declared.message_type.HostMessageType.TheVariants as types
use Rattle.rfb_wire.specs.Grammar.{other_at}
use Rattle.rfb_wire.specs.PartialMessage.{go_on, resume}
use Rattle.rfb_wire.proofs.MessageTypes.{type_number_is, unknown_type}
use Rattle.rfb_wire.proofs.Resume.{type_of_update, type_of_other}
use Rattle.rfb_wire.proofs.Others.{other_of_color_map, other_of_bell, other_of_text, other_unknown}
use Rattle.rfb_wire.proofs.step.next_of_type.Goals as goal

pub returns-in_default-clause-faults : goal.returns-in_default-clause-faults
returns-in_default-clause-faults c = λ width height field more one is.
    let unknown = unknown_type c.args.number (sym c.from_number.ensures ∙ c.in_default.is) in
    type_of_other width height field more one (ap (λ t. nat_eq t 0) is ∙ unknown.no_update)
    ∙ ap (λ t. other_at t more) is ∙ other_unknown c.args.number more unknown.no_map unknown.no_bell unknown.no_text

pub returns-in-FramebufferUpdate-clause-goes : goal.returns-in-FramebufferUpdate-clause-goes
unfolding go_on
returns-in-FramebufferUpdate-clause-goes c = λ width height field more one is.
    let number : c.args.number ≡ 0 = type_number_is c.args.number types.FramebufferUpdate (sym c.from_number.ensures ∙ c.in-Some.is ∙ ap (λ t. Some t) c.in-FramebufferUpdate.is) in
    type_of_update width height field more one (eq-eqb (slice_index field 0) 0 (is ∙ number))

pub returns-in-FramebufferUpdate-clause-kind : goal.returns-in-FramebufferUpdate-clause-kind
returns-in-FramebufferUpdate-clause-kind c =
    let number : c.args.number ≡ 0 = type_number_is c.args.number types.FramebufferUpdate (sym c.from_number.ensures ∙ c.in-Some.is ∙ ap (λ t. Some t) c.in-FramebufferUpdate.is) in
    grind (arith, common_steps)

pub returns-in-SetColorMapEntries-clause-goes : goal.returns-in-SetColorMapEntries-clause-goes
unfolding go_on resume
returns-in-SetColorMapEntries-clause-goes c = λ width height field more one is.
    let type : slice_index field 0 ≡ 1 = is ∙ type_number_is c.args.number types.SetColorMapEntries (sym c.from_number.ensures ∙ c.in-Some.is ∙ ap (λ t. Some t) c.in-SetColorMapEntries.is) in
    type_of_other width height field more one (ap (λ t. nat_eq t 0) type) ∙ ap (λ t. other_at t more) type ∙ other_of_color_map more

pub returns-in-Bell-clause-goes : goal.returns-in-Bell-clause-goes
unfolding go_on
returns-in-Bell-clause-goes c = λ width height field more one is.
    let type : slice_index field 0 ≡ 2 = is ∙ type_number_is c.args.number types.Bell (sym c.from_number.ensures ∙ c.in-Some.is ∙ ap (λ t. Some t) c.in-Bell.is) in
    type_of_other width height field more one (ap (λ t. nat_eq t 0) type) ∙ ap (λ t. other_at t more) type ∙ other_of_bell more

pub returns-in-ServerCutText-clause-goes : goal.returns-in-ServerCutText-clause-goes
unfolding go_on resume
returns-in-ServerCutText-clause-goes c = λ width height field more one is.
    let type : slice_index field 0 ≡ 3 = is ∙ type_number_is c.args.number types.ServerCutText (sym c.from_number.ensures ∙ c.in-Some.is ∙ ap (λ t. Some t) c.in-ServerCutText.is) in
    type_of_other width height field more one (ap (λ t. nat_eq t 0) type) ∙ ap (λ t. other_at t more) type ∙ other_of_text more
