use Rattle.std.proofs.Common.{◌≡◌, ℕ, ◌/◌, ◌%◌, ◌^◌, List, [], ◌∷◌, ◌++◌, length, refl, ◌∙◌, arith}
use Rattle.std.specs.Prelude.{Bool}
use Rattle.pixel_format.specs.Written.{flag}
use Rattle.terms.specs.Reading.{Got}
use Rattle.terms.specs.Number.{u32_at, u32_bytes}
use Rattle.terms.specs.declared.wire_fault.WireFault.{WireFault}
use Rattle.terms.proofs.Readings.{field-whole}
use Rattle.client_wire.specs.declared.message_type.ClientMessageType.TheVariants as types
use Rattle.client_wire.specs.declared.message.ClientMessage.TheVariants as messages
use Rattle.client_wire.specs.Grammar.{message_at}
use Rattle.client_wire.proofs.Fronts.{input_read, text_read}
use Rattle.client_wire.proofs.Relation.{type_read, whole_again}
use Rattle.wire_tests.specs.Written.{key_event_bytes, pointer_event_bytes, client_cut_text_bytes}
use Rattle.wire_tests.proofs.writers.written_input_is_read.Goals as goal

key_back : (down : Bool) (key : ℕ) → message_at (key_event_bytes down key) ≡ Got (messages.Input types.KeyEvent) []
key_back down key =
    let body : List ℕ = flag down ∷ 0 ∷ 0 ∷ u32_bytes key in
    type_read types.KeyEvent (4 ∷ body) body refl ∙ input_read types.KeyEvent 7 body body [] (whole_again 7 body refl)

pointer_back : (mask x y : ℕ) → message_at (pointer_event_bytes mask x y) ≡ Got (messages.Input types.PointerEvent) []
pointer_back mask x y =
    let body : List ℕ = mask ∷ x / 256 ∷ x % 256 ∷ y / 256 ∷ y % 256 ∷ [] in
    type_read types.PointerEvent (5 ∷ body) body refl ∙ input_read types.PointerEvent 5 body body [] (whole_again 5 body refl)

-- the four bytes of a number
u32_back : (n : ℕ) → u32_at (u32_bytes n) 0 ≡ n
u32_back n = omega arith

text_back : (text : List ℕ) → message_at (client_cut_text_bytes text) ≡ Got (messages.Input types.ClientCutText) []
text_back text =
    let n : ℕ = length text in
    let head : List ℕ = 0 ∷ 0 ∷ 0 ∷ u32_bytes n in
    type_read types.ClientCutText (client_cut_text_bytes text) (head ++ text) refl
    ∙ text_read (head ++ text) head text n (field-whole {E = WireFault} 7 head text refl) (u32_back n)
    ∙ input_read types.ClientCutText n text text [] (whole_again n text refl)

pub returns-clause-key : goal.returns-clause-key
returns-clause-key c = key_back

pub returns-clause-pointer : goal.returns-clause-pointer
returns-clause-pointer c = pointer_back

pub returns-clause-text : goal.returns-clause-text
returns-clause-text c = text_back
