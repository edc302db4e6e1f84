use Rattle.std.proofs.Common.{◌≡◌, ℕ, ◌∙◌, inl, inr, List, get_or, refl, ap, subst}
use Rattle.std.specs.Prelude.{slice_range}
use Rattle.std.proofs.lemmas.List.{get_or_default}
use Rattle.rfb_wire.specs.declared.message.Rectangle.{Rectangle}
use Rattle.painter.proofs.Order.{no_rectangle}
use Rattle.viewer_session.specs.declared.view.View.{View}
use Rattle.viewer_session.specs.View.{IsKeptAfter}
use Rattle.viewer_session.specs.Noting.{IsNoted}
use Rattle.viewer_session.proofs.Notings.{noted_of}
use Rattle.viewer_session.proofs.view.View.note_rectangle.Goals as goal

pub returns-in-Some : goal.returns-in-Some
returns-in-Some c = λ other.
    let old = c.args.self.now in
    let new = c.keep.new.self in
    let m = c.args.message.now in
    let n = c.args.number in
    let r = get_or c.rectangles.result.now n no_rectangle in
    let same : r ≡ get_or m.rectangles n other =
    ap (λ (rs : List Rectangle). get_or rs n no_rectangle) c.rectangles.ensures.value ∙ get_or_default m.rectangles n no_rectangle other c.requires.number in
    let keeps : IsKeptAfter old new r (slice_range c.bytes.result.now r.start r.end) =
    inl (record { copy = c.in-Some.copy; can = c.in-Some.ensures; keeps = c.keep.ensures.keeps }) in
    subst (λ (r : Rectangle). IsNoted old new m.bytes r) same
    (noted_of old new r m.bytes c.requires.sound c.keep.ensures.size c.keep.ensures.kept (subst (λ (bs : List ℕ). IsKeptAfter old new r (slice_range bs r.start r.end)) c.bytes.ensures.value keeps))

pub returns-in-None : goal.returns-in-None
returns-in-None c = λ other.
    let old = c.args.self.now in
    let new : View = record old { stale = c.insert.new.self } in
    let m = c.args.message.now in
    let n = c.args.number in
    let r = get_or c.rectangles.result.now n no_rectangle in
    let same : r ≡ get_or m.rectangles n other =
    ap (λ (rs : List Rectangle). get_or rs n no_rectangle) c.rectangles.ensures.value ∙ get_or_default m.rectangles n no_rectangle other c.requires.number in
    let keeps : IsKeptAfter old new r (slice_range c.bytes.result.now r.start r.end) =
    inr (record { none = c.in-None.ensures; copies = refl; left = c.insert.ensures.just }) in
    subst (λ (r : Rectangle). IsNoted old new m.bytes r) same
    (noted_of old new r m.bytes c.requires.sound c.insert.ensures.size refl (subst (λ (bs : List ℕ). IsKeptAfter old new r (slice_range bs r.start r.end)) c.bytes.ensures.value keeps))
