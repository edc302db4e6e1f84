use Rattle.std.proofs.Common.{◌≡◌, ◌<◌, ◌^◌, ◌∙◌, List, length, map, sym, ap, subst, arith}
use Rattle.std.specs.Prelude.{All}
use Rattle.std.proofs.lemmas.Result.{on_ok_weaker}
use Rattle.rect_codec.specs.declared.parts.Part.{Part}
use Rattle.rect_codec.specs.Parts.{AreParts}
use Rattle.painter.specs.declared.update.ScreenPart.{ScreenPart}
use Rattle.painter.specs.SentUpdate.{parts_of, CanBeSent}
use Rattle.shared_updates.specs.Updates.{IsUpdateOf}
use Rattle.viewer_session.specs.Parts.{pixels_of, screen_parts}
use Rattle.viewer_session.proofs.Zipped.{parts_are, copies_in_front, parts_sent, parts_few, appended}
use Rattle.viewer_session.proofs.update.write_areas.Goals as goal

pub append_update-requires-clause-count : goal.append_update-requires-clause-count
append_update-requires-clause-count c =
    let areas = c.args.areas.now in
    let few = parts_few c.args.copies.now c.args.encoding areas in
    let is : c.deref.result.now ≡ screen_parts c.args.copies.now c.args.encoding areas = c.deref.ensures.value ∙ c.in_ok-parts.ensures in
    let most = c.requires.few in
    subst (λ (ps : List ScreenPart). length ps < 2 ^ 16) (sym is) (omega arith)

pub append_update-requires-clause-each : goal.append_update-requires-clause-each
append_update-requires-clause-each c =
    let screen = c.args.screen.now in
    let areas = c.args.areas.now in
    let is : c.deref.result.now ≡ screen_parts c.args.copies.now c.args.encoding areas = c.deref.ensures.value ∙ c.in_ok-parts.ensures in
    subst (λ (ps : List ScreenPart). All (CanBeSent screen) ps) (sym is) (parts_sent c.args.copies.now c.args.encoding screen areas c.requires.within)

pub returns-clause-ok : goal.returns-clause-ok
returns-clause-ok c =
    let f = c.args.format.now in
    let screen = c.args.screen.now in
    let areas = c.args.areas.now in
    let asked = c.args.encoding in
    let copies = c.args.copies.now in
    let is : c.deref.result.now ≡ screen_parts copies asked areas = c.deref.ensures.value ∙ c.in_ok-parts.ensures in
    on_ok_weaker c.append_update.result
    (λ wrote. appended (AreParts f (parts_of f screen c.deref.result.now)) (IsUpdateOf f asked screen copies areas) c.args.out.now.items c.append_update.new.out.items
    (λ update u. record {
      parts = parts_of f screen (map (pixels_of asked) areas);
      each = parts_are f asked screen areas c.known_colors.ensures c.requires.within;
      are = subst (λ (ps : List Part). AreParts f ps update) (ap (parts_of f screen) is ∙ copies_in_front f asked screen copies areas) u;
    })
    wrote)
    c.append_update.ensures.ok
