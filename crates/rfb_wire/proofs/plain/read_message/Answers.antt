use Rattle.std.proofs.Common.{Some, slice_index, nat_eq, sym, ap, ◌∙◌}
use Rattle.rfb_wire.specs.declared.message_type.HostMessageType.TheVariants as types
use Rattle.rfb_wire.specs.Grammar.{message_limit}
use Rattle.rfb_wire.proofs.MessageTypes.{type_number_is, unknown_type}
use Rattle.rfb_wire.proofs.FrontMessage.{kind_short, kind_other}
use Rattle.rfb_wire.proofs.FrontOthers.{has_type}
use Rattle.rfb_wire.proofs.Others.{other_of_color_map, other_of_bell, other_of_text, other_unknown}
use Rattle.rfb_wire.proofs.plain.read_message.Goals as goal

pub returns-in_default : goal.returns-in_default
returns-in_default c = kind_short (message_limit c.args.screen.format) c.args.screen.size.width c.args.screen.size.height c.args.bytes.now c.in_default.ensures.reads

pub returns-in_default-from_number : goal.returns-in_default-from_number
returns-in_default-from_number c =
    let first = c.in-Some.first.now in
    let unknown = unknown_type (slice_index first 0) (sym c.from_number.ensures ∙ c.in_default-from_number.is) in
    kind_other (message_limit c.args.screen.format) c.args.screen.size.width c.args.screen.size.height c.args.bytes.now first c.in-Some.rest.now c.in-Some.ensures.reads unknown.no_update
    ∙ other_unknown (slice_index first 0) c.in-Some.rest.now unknown.no_map unknown.no_bell unknown.no_text

pub update_message-requires-clause-kind : goal.update_message-requires-clause-kind
update_message-requires-clause-kind c =
    let typed = has_type 0 c.args.bytes.now c.in-Some.first.now c.in-Some.rest.now c.in-Some.ensures.reads
    (type_number_is (slice_index c.in-Some.first.now 0) types.FramebufferUpdate (sym c.from_number.ensures ∙ c.in-Some-from_number.is ∙ ap (λ t. Some t) c.in-FramebufferUpdate.is)) in
    typed.number_is

pub other_message-requires-clause-kind : goal.other_message-requires-clause-kind
other_message-requires-clause-kind c =
    let typed = has_type 1 c.args.bytes.now c.in-Some.first.now c.in-Some.rest.now c.in-Some.ensures.reads
    (type_number_is (slice_index c.in-Some.first.now 0) types.SetColorMapEntries (sym c.from_number.ensures ∙ c.in-Some-from_number.is ∙ ap (λ t. Some t) c.in-SetColorMapEntries.is)) in
    ap (λ n. nat_eq n 0) typed.number_is

pub other_message-requires-clause-is : goal.other_message-requires-clause-is
other_message-requires-clause-is c =
    let typed = has_type 1 c.args.bytes.now c.in-Some.first.now c.in-Some.rest.now c.in-Some.ensures.reads
    (type_number_is (slice_index c.in-Some.first.now 0) types.SetColorMapEntries (sym c.from_number.ensures ∙ c.in-Some-from_number.is ∙ ap (λ t. Some t) c.in-SetColorMapEntries.is)) in
    rw (typed.number_is, typed.rest_is, other_of_color_map c.in-Some.rest.now) c.color_map.ensures

pub other_message-requires-in-Bell-clause-kind : goal.other_message-requires-in-Bell-clause-kind
other_message-requires-in-Bell-clause-kind c =
    let typed = has_type 2 c.args.bytes.now c.in-Some.first.now c.in-Some.rest.now c.in-Some.ensures.reads
    (type_number_is (slice_index c.in-Some.first.now 0) types.Bell (sym c.from_number.ensures ∙ c.in-Some-from_number.is ∙ ap (λ t. Some t) c.in-Bell.is)) in
    ap (λ n. nat_eq n 0) typed.number_is

pub other_message-requires-in-Bell-clause-is : goal.other_message-requires-in-Bell-clause-is
other_message-requires-in-Bell-clause-is c =
    let typed = has_type 2 c.args.bytes.now c.in-Some.first.now c.in-Some.rest.now c.in-Some.ensures.reads
    (type_number_is (slice_index c.in-Some.first.now 0) types.Bell (sym c.from_number.ensures ∙ c.in-Some-from_number.is ∙ ap (λ t. Some t) c.in-Bell.is)) in
    rw (typed.number_is, typed.rest_is) (other_of_bell c.in-Some.rest.now)

pub other_message-requires-in-ServerCutText-clause-kind : goal.other_message-requires-in-ServerCutText-clause-kind
other_message-requires-in-ServerCutText-clause-kind c =
    let typed = has_type 3 c.args.bytes.now c.in-Some.first.now c.in-Some.rest.now c.in-Some.ensures.reads
    (type_number_is (slice_index c.in-Some.first.now 0) types.ServerCutText (sym c.from_number.ensures ∙ c.in-Some-from_number.is ∙ ap (λ t. Some t) c.in-ServerCutText.is)) in
    ap (λ n. nat_eq n 0) typed.number_is

pub other_message-requires-in-ServerCutText-clause-is : goal.other_message-requires-in-ServerCutText-clause-is
other_message-requires-in-ServerCutText-clause-is c =
    let typed = has_type 3 c.args.bytes.now c.in-Some.first.now c.in-Some.rest.now c.in-Some.ensures.reads
    (type_number_is (slice_index c.in-Some.first.now 0) types.ServerCutText (sym c.from_number.ensures ∙ c.in-Some-from_number.is ∙ ap (λ t. Some t) c.in-ServerCutText.is)) in
    rw (typed.number_is, typed.rest_is, other_of_text c.in-Some.rest.now) c.text.ensures
