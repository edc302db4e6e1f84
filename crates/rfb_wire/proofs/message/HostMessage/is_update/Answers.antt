use Rattle.std.proofs.Common.{◌≡◌, ◌∙◌, sym, ap, subst, get_or, nat_eq}
use Rattle.rfb_wire.specs.Host.{Host, is_update, IsRecorded}
use Rattle.rfb_wire.proofs.UpdatesTold.{first_told, update_told}
use Rattle.rfb_wire.proofs.message.HostMessage.is_update.Goals as goal

pub returns-in-len1-up-clause-update : goal.returns-in-len1-up-clause-update
returns-in-len1-up-clause-update c =
    let m = c.args.self.now in
    let recorded : IsRecorded m = subst IsRecorded c.self.view_is c.self.invariant in
    let told = update_told m recorded in
    let bytes : m.bytes ≡ c.as_slice.result.now = sym (ap (λ (h : Host). h.bytes) c.self.view_is) ∙ ap (λ p. p.bytes.items) (sym c.deref.ensures) ∙ sym c.as_slice.ensures.value in
    let first : is_update m.bytes ≡ nat_eq (get_or c.as_slice.result.now 0 0) 0 =
    ap is_update bytes ∙ first_told c.as_slice.result.now c.in-len1-up.len_at_least in
    (λ t. told.0 (first ∙ t), λ update. sym first ∙ told.1 update)
