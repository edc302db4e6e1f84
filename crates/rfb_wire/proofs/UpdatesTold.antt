-- Which messages are updates.
use Rattle.std.proofs.Common.{◌≡◌, ℕ, ◌≤◌, ◌↔◌, List, [], ◌∷◌, length, get_or, nat_eq, true, inl, inr, refl, sym, ap, ◌∙◌, arith}
use Rattle.rfb_wire.specs.Grammar.{message_limit}
use Rattle.rfb_wire.specs.Host.{Host, is_update, IsRecorded}
use Rattle.rfb_wire.specs.Message.{IsUpdate}
use Rattle.rfb_wire.proofs.Messages.{read_is_message}

-- the type is the first byte
pub first_told : (bytes : List ℕ) → 1 ≤ length bytes → is_update bytes ≡ nat_eq (get_or bytes 0 0) 0
first_told [] some = absurd (omega arith)
first_told (type ∷ bytes) some = refl

-- a recorded message of type 0 is an update, and no other is
pub update_told : (m : Host) → IsRecorded m → (is_update m.bytes ≡ true) ↔ IsUpdate m.width m.height m.bytes m.rectangles
update_told m recorded = (
  λ told. elim (read_is_message (message_limit m.format) m.width m.height m.bytes m.rectangles recorded).kind [
    | inl update ↦ update.0
    | inr other ↦ elim other.1 [
      | inl bell ↦ let both = sym told ∙ ap is_update bell in absurd (cc)
      | inr text ↦ let both = sym told ∙ ap is_update text.bytes_are in absurd (cc)
    ]
  ],
  λ update. ap is_update update.bytes_are,
)
