-- Types and their numbers.
use Rattle.std.proofs.Common.{◌≡◌, ℕ, nat_eq, false, inl, inr, eqb-true, Option, Some, None, refl, sym, ap, ◌∙◌}
use Rattle.terms.proofs.Readings.{true_or_false}
use Rattle.rfb_wire.specs.declared.message_type.HostMessageType.{HostMessageType}
use Rattle.rfb_wire.specs.declared.message_type.HostMessageType.TheVariants as types
use Rattle.rfb_wire.specs.MessageType.{number_of, type_of}

pub type_number_is : (number : ℕ) (type : HostMessageType) → type_of number ≡ Some type → number ≡ number_of type
type_number_is number type is = elim (true_or_false (nat_eq number 0)) [
  | inl a ↦ named number 0 types.FramebufferUpdate type (eqb-true number 0 a) refl (rw a at is)
  | inr a ↦ elim (true_or_false (nat_eq number 1)) [
    | inl b ↦ named number 1 types.SetColorMapEntries type (eqb-true number 1 b) refl (rw (a, b) at is)
    | inr b ↦ elim (true_or_false (nat_eq number 2)) [
      | inl c ↦ named number 2 types.Bell type (eqb-true number 2 c) refl (rw (a, b, c) at is)
      | inr c ↦ elim (true_or_false (nat_eq number 3)) [
        | inl d ↦ named number 3 types.ServerCutText type (eqb-true number 3 d) refl (rw (a, b, c, d) at is)
        | inr d ↦ (let none = rw (a, b, c, d) at is in absurd (cc))
      ]
    ]
  ]
]
  where
    named : (number n : ℕ) (known type : HostMessageType) → number ≡ n → number_of known ≡ n → Some known ≡ Some type → number ≡ number_of type
    named number n known type is known_is same =
        (let one : known ≡ type = cc in
        is ∙ sym known_is ∙ ap number_of one)

-- a number of no type
pub record IsUnknown (number : ℕ) : Type 0 where
  pub no_update : nat_eq number 0 ≡ false
  pub no_map : nat_eq number 1 ≡ false
  pub no_bell : nat_eq number 2 ≡ false
  pub no_text : nat_eq number 3 ≡ false

pub unknown_type : (number : ℕ) → type_of number ≡ None → IsUnknown number
unknown_type number is = elim (true_or_false (nat_eq number 0)) [
  | inl a ↦ (let some = rw a at is in absurd (cc))
  | inr a ↦ elim (true_or_false (nat_eq number 1)) [
    | inl b ↦ (let some = rw (a, b) at is in absurd (cc))
    | inr b ↦ elim (true_or_false (nat_eq number 2)) [
      | inl c ↦ (let some = rw (a, b, c) at is in absurd (cc))
      | inr c ↦ elim (true_or_false (nat_eq number 3)) [
        | inl d ↦ (let some = rw (a, b, c, d) at is in absurd (cc))
        | inr d ↦ record { no_update = a; no_map = b; no_bell = c; no_text = d }
      ]
    ]
  ]
]
