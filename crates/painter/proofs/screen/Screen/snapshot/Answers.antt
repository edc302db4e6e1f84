use Rattle.std.proofs.Common.{◌≤◌, ◌∙◌, length, ap, arith}
use Rattle.std.proofs.lemmas.Result.{IfOk-weaker}
use Rattle.terms.specs.declared.screen_size.ScreenSize.{ScreenSize}
use Rattle.painter.proofs.Kept.{room_kept}
use Rattle.painter.proofs.WholeRows.{snapshot_made}
use Rattle.painter.proofs.screen.Screen.snapshot.Goals as goal

pub invariant_of-self : goal.invariant_of-self
invariant_of-self c =
    let s = c.self.inside in
    let tall = ap (λ (z : ScreenSize). z.height) c.size-size.ensures in
    room_kept s.sheet s.kept.items c.make_room.new.kept.items c.from.result c.self.invariant (omega (arith, tall, c.from.ensures)) c.make_room.ensures.kept c.make_room.ensures.count

pub returns-clause-shows : goal.returns-clause-shows
returns-clause-shows c =
    let s = c.self.inside in
    let size = c.size-size.result in
    let room = c.in_ok-make_room.ensures.ok in
    let tall = ap (λ (z : ScreenSize). z.height) c.size-size.ensures in
    let enough : s.sheet.height ≤ length c.deref_mut.result.now = omega (arith, room, tall, c.from.ensures, ap length c.deref_mut.ensures.value) in
    let made = snapshot_made s.sheet size c.in_ok-rows.rows.items (length c.deref_mut.result.now) c.size-size.ensures c.known.ensures enough c.in_ok-rows.ensures.ok in
    IfOk-weaker c.new.result _ _ (λ x e. e ∙ made.1 ∙ c.self.view_is) c.new.ensures

pub new-requires : goal.new-requires
new-requires c =
    let s = c.self.inside in
    let size = c.size-size.result in
    let room = c.in_ok-make_room.ensures.ok in
    let tall = ap (λ (z : ScreenSize). z.height) c.size-size.ensures in
    let enough : s.sheet.height ≤ length c.deref_mut.result.now = omega (arith, room, tall, c.from.ensures, ap length c.deref_mut.ensures.value) in
    let made = snapshot_made s.sheet size c.in_ok-rows.rows.items (length c.deref_mut.result.now) c.size-size.ensures c.known.ensures enough c.in_ok-rows.ensures.ok in
    made.0
