-- Types and their numbers.
use Rattle.std.proofs.Common.{◌≡◌, ℕ, nat_eq, inl, inr, eqb-true, Some, refl, sym, ap, ◌∙◌}
use Rattle.terms.proofs.Readings.{true_or_false}
use Rattle.client_wire.specs.declared.message_type.ClientMessageType.{ClientMessageType}
use Rattle.client_wire.specs.declared.message_type.ClientMessageType.TheVariants as types
use Rattle.client_wire.specs.MessageType.{number_of, type_of}

pub type_again : (type : ClientMessageType) → type_of (number_of type) ≡ Some type
type_again types.SetPixelFormat = refl
type_again types.SetEncodings = refl
type_again types.FramebufferUpdateRequest = refl
type_again types.KeyEvent = refl
type_again types.PointerEvent = refl
type_again types.ClientCutText = refl

pub type_number_is : (number : ℕ) (type : ClientMessageType) → type_of number ≡ Some type → number_of type ≡ number
type_number_is number type is = elim (true_or_false (nat_eq number 0)) [
  | inl a ↦ named number 0 types.SetPixelFormat type (eqb-true number 0 a) refl (rw a at is)
  | inr a ↦ elim (true_or_false (nat_eq number 2)) [
    | inl b ↦ named number 2 types.SetEncodings type (eqb-true number 2 b) refl (rw (a, b) at is)
    | inr b ↦ elim (true_or_false (nat_eq number 3)) [
      | inl c ↦ named number 3 types.FramebufferUpdateRequest type (eqb-true number 3 c) refl (rw (a, b, c) at is)
      | inr c ↦ elim (true_or_false (nat_eq number 4)) [
        | inl d ↦ named number 4 types.KeyEvent type (eqb-true number 4 d) refl (rw (a, b, c, d) at is)
        | inr d ↦ elim (true_or_false (nat_eq number 5)) [
          | inl e ↦ named number 5 types.PointerEvent type (eqb-true number 5 e) refl (rw (a, b, c, d, e) at is)
          | inr e ↦ elim (true_or_false (nat_eq number 6)) [
            | inl f ↦ named number 6 types.ClientCutText type (eqb-true number 6 f) refl (rw (a, b, c, d, e, f) at is)
            | inr f ↦ (let none = rw (a, b, c, d, e, f) at is in absurd (cc))
          ]
        ]
      ]
    ]
  ]
]
  where
    named : (number n : ℕ) (known type : ClientMessageType) → number ≡ n → number_of known ≡ n → Some known ≡ Some type → number_of type ≡ number
    named number n known type is known_is same =
        (let one : known ≡ type = cc in
        ap number_of (sym one) ∙ known_is ∙ sym is)
