-- What a viewer asks for.
use Rattle.std.proofs.Common.{◌≡◌, ℕ, ◌+◌, ◌-◌, ◌<◌, ◌≤◌, inl, inr, Bool, true, false, List, [], ◌∷◌, ◌++◌, length, refl, sym, ap, ◌∙◌, subst, arith}
use Rattle.std.specs.Prelude.{ℤ, not, ◌||◌, ◌&&◌, ◌⊎◌, nat_lt, Option, Some, None, IfSome}
use Rattle.std.specs.List.{AllByRecursion}
use Rattle.std.proofs.lemmas.Bool.{cases_Bool, and_parts, false_from_ne_true, ltb-true}
use Rattle.pixel_format.specs.Format.{Format}
use Rattle.pixel_format.specs.Canvas.{Picture}
use Rattle.pixel_format.specs.Pixel.{converted}
use Rattle.painter.specs.Framebuffer.{Framebuffer, color_at}
use Rattle.replay.specs.Screens.{IsScreenAt}
use Rattle.terms.specs.declared.area.Area.{Area}
use Rattle.client_wire.specs.declared.message.ClientMessage.{ClientMessage}
use Rattle.terms.specs.Area.{is_in, HasJust, IsSmallest}
use Rattle.gated_journal.specs.Recording.{Head}
use Rattle.keyed_entries.specs.declared.entry.Stamped.{Stamped}
use Rattle.terms.proofs.Areas.{in_is, is_in_true, same_smallest}
use Rattle.pixel_sets.proofs.Looked.{around_within}
use Rattle.pixel_sets.specs.Pixels.{PixelSet, SameSize, holds}
use Rattle.shared_updates.specs.declared.copy.KeptCopy.{KeptCopy}
use Rattle.shared_updates.specs.Copies.{IsPart, is_copied, all_copied, lies_in, all_in}
use Rattle.viewer_session.specs.declared.view.View.{View}
use Rattle.viewer_session.specs.View.{IsRight, IsSound, IsKept, IsAskedFor, IsWidened, KeepsOn, Asks, IsAsked, IsReformatted, IsReencoded, IsTaken, AreTaken, AreStale, is_left, is_pending, stale_at}
use Rattle.viewer_session.proofs.Views.{Sees, neither}
use Rattle.viewer_session.proofs.Carried.{converts_of}

-- a pixel between the edges of an area
corner : (area : Area) (x y : ℕ) → area.x ≤ x → x < area.x + area.w → area.y ≤ y → y < area.y + area.h → is_in area x y ≡ true
corner area x y l r t b = is_in_true area x y (record { left = l; right = r; top = t; bottom = b })

-- what is left of an area is a part of the screen
pub part_left : (width height : ℕ) (area part : Area) → HasJust (is_left width height area) part → IsPart width height part
part_left width height area part just =
    let across = just.across in
    let down = just.down in
    let last = sym (just.just (part.x + part.w - 1) (part.y + part.h - 1)) ∙ corner part (part.x + part.w - 1) (part.y + part.h - 1) (omega arith) (omega arith) (omega arith) (omega arith) in
    let on = and_parts (nat_lt (part.x + part.w - 1) width) (nat_lt (part.y + part.h - 1) height) (and_parts (is_in area (part.x + part.w - 1) (part.y + part.h - 1)) _ last).1 in
    let right = ltb-true (part.x + part.w - 1) width on.0 in
    let bottom = ltb-true (part.y + part.h - 1) height on.1 in
    record { within = record { columns = omega arith; rows = omega arith }; across = across; down = down }

-- so is the smallest area round two parts
pub part_around : (width height : ℕ) (one other area : Area) → IsPart width height one → IsPart width height other → IsSmallest (λ x y. is_in one x y || is_in other x y) area → IsPart width height area
part_around width height one other area p q is =
    let l = in_is area area.x is.left.0 (is.holds_each area.x is.left.0 is.left.1) in
    let lr = l.right in
    let lt = l.top in
    let lb = l.bottom in
    record { within = around_within width height one other area p.within q.within is; across = omega arith; down = omega arith }

-- a part by itself
pub part_itself : (width height : ℕ) (area : Area) → IsPart width height area → IsSmallest (λ x y. false || is_in area x y) area
part_itself width height area p =
    let pa = p.across in
    let pd = p.down in
    record {
      holds_each = λ x y e. e;
      left = (area.y, corner area area.x area.y (omega arith) (omega arith) (omega arith) (omega arith));
      right = (area.y, corner area (area.x + area.w - 1) area.y (omega arith) (omega arith) (omega arith) (omega arith));
      top = (area.x, corner area area.x area.y (omega arith) (omega arith) (omega arith) (omega arith));
      bottom = (area.x, corner area area.x (area.y + area.h - 1) (omega arith) (omega arith) (omega arith) (omega arith));
    }

-- ---- copies

-- What becomes of the copies once this is pending.
pub record KeepsAsked (old mid : View) (incremental : Bool) (pending : Area) : Type 0 where
  pub size : SameSize old.stale mid.stale
  pub stale : AreStale mid (stale_at old)
  pub kept : mid ≡ record old { stale = mid.stale; copies = mid.copies }
  pub lost : incremental ≡ false → mid.copies ≡ []
  pub outside : all_in old.copies pending ≡ false → mid.copies ≡ []
  pub on : incremental ≡ true → all_in old.copies pending ≡ true → mid ≡ old

-- they are all kept on
pub record AreKeptOn (old mid : View) (incremental : Bool) (pending : Area) : Type 0 where
  pub changes : incremental ≡ true
  pub asked : all_in old.copies pending ≡ true
  pub same : mid ≡ old

none_or_all : (old mid : View) (incremental : Bool) (pending : Area) → KeepsAsked old mid incremental pending → (mid.copies ≡ []) ⊎ AreKeptOn old mid incremental pending
none_or_all old mid false pending k = inl (k.lost refl)
none_or_all old mid true pending k = elim (cases_Bool (all_in old.copies pending)) [
  | inl all ↦ inr (record { changes = refl; asked = all; same = k.on refl all })
  | inr some ↦ inl (k.outside some)
]

-- those that lie in what is asked for can be kept on
all_lie : (v : View) (pending : Area) (copies : List KeptCopy) → AllByRecursion (IsKept v) copies → all_in copies pending ≡ true → AllByRecursion (IsKept (record v { pending = Some pending })) copies
all_lie v pending [] kept all = tt
all_lie v pending (c ∷ cs) kept all =
    let parts = and_parts (lies_in c.area pending) (all_in cs pending) all in
    (record { within = kept.0.within; asked = parts.0 }, all_lie v pending cs kept.1 parts.1)

-- and all of a sound view do
are_in_pending : (v : View) (pending : Area) (copies : List KeptCopy) → v.pending ≡ Some pending → AllByRecursion (IsKept v) copies → all_in copies pending ≡ true
are_in_pending v pending [] is kept = refl
are_in_pending v pending (c ∷ cs) is kept =
    let here : lies_in c.area pending ≡ true = subst (λ (p : Option Area). IsAskedFor p c.area) is kept.0.asked in
    let rest = are_in_pending v pending cs is kept.1 in
    rw (here, rest) refl

stay_asked : (v : View) (pending : Option Area) → v.pending ≡ pending → AllByRecursion (IsKept v) v.copies → IfSome pending (λ p. all_in v.copies p ≡ true)
stay_asked v None is kept = tt
stay_asked v (Some pending) is kept = are_in_pending v pending v.copies is kept

pub stays : (v : View) → IsSound v → KeepsOn v v
stays v sound = record { asked = stay_asked v v.pending refl sound.copies; copies = refl; stale = refl }

-- ---- what is asked for

-- what is left of an area that is asked for, and what is pending then
pub record IsCut (old : View) (area part pending : Area) : Type 0 where
  pub just : HasJust (is_left old.screen.width old.screen.height area) part
  pub smallest : IsSmallest (λ a b. is_pending old.pending a b || is_in part a b) pending

corner_of : (old : View) (area part pending : Area) → IsCut old area part pending → is_left old.screen.width old.screen.height area part.x part.y ≡ true
corner_of old area part pending cut =
    let pa = cut.just.across in
    let pd = cut.just.down in
    sym (cut.just.just part.x part.y) ∙ corner part part.x part.y (omega arith) (omega arith) (omega arith) (omega arith)

widens : (old : View) (area part pending : Area) → IsCut old area part pending → IsWidened (is_left old.screen.width old.screen.height area) old.pending (Some pending)
widens old area part pending cut =
    let left : ℕ → ℕ → Bool = is_left old.screen.width old.screen.height area in
    record {
      some = λ x y e. same_smallest (λ a b. is_pending old.pending a b || is_in part a b) (λ a b. is_pending old.pending a b || left a b)
          (λ a b. ap (λ (t : Bool). is_pending old.pending a b || t) (cut.just.just a b)) (Some pending) cut.smallest;
      none = λ out. absurd (out part.x part.y (corner_of old area part pending cut));
    }

none_left : (whole left stale : Bool) → left ≡ false → stale ≡ ((whole && left) || stale)
none_left true true stale off = absurd (cc)
none_left true false stale off = refl
none_left false left stale off = refl

-- nothing is left
pub asks_nothing : (old : View) (incremental : Bool) (area : Area) → IsSound old → ((x y : ℕ) → is_left old.screen.width old.screen.height area x y ≡ true → ⊥) → IsAsked old old incremental area
asks_nothing old incremental area sound out =
    let left : ℕ → ℕ → Bool = is_left old.screen.width old.screen.height area in
    record {
      stale = λ x y across down. none_left (not incremental) (left x y) (stale_at old x y) (false_from_ne_true (left x y) (out x y));
      pending = record { some = λ x y e. absurd (out x y e); none = λ none. refl };
      whole = inr (record { none = λ x y e. out x y (and_parts (not incremental) (left x y) e).1; copies = inl (stays old sound); asked_whole = refl });
      kept = refl;
    }

-- changes are asked for
pub asks_changes : (old mid : View) (area part pending : Area) → IsCut old area part pending → KeepsAsked old mid true pending → IsAsked old (record mid { pending = Some pending }) true area
asks_changes old mid area part pending cut k = record {
  stale = k.stale;
  pending = widens old area part pending cut;
  whole = inr (record {
    none = λ x y e. absurd (cc);
    copies = elim (cases_Bool (all_in old.copies pending)) [
      | inl all ↦ inl (record { asked = all; copies = ap (λ (v : View). v.copies) (k.on refl all); stale = ap (λ (v : View). v.stale) (k.on refl all) })
      | inr some ↦ inr (record { asked = some; copies = k.outside some })
    ];
    asked_whole = ap (λ (v : View). v.asked_whole) k.kept;
  });
  kept = ap (λ (v : View). record v { pending = Some pending }) k.kept
      ∙ ap (λ (b : Bool). record old { stale = mid.stale; pending = Some pending; asked_whole = b; copies = mid.copies }) (sym (ap (λ (v : View). v.asked_whole) k.kept));
}

-- the area is asked for whole
pub record AsksPart (mid new : View) (part : Area) : Type 0 where
  pub size : SameSize mid.stale new.stale
  pub stale : AreStale new (λ x y. is_in part x y || stale_at mid x y)
  pub kept : new ≡ record mid { stale = new.stale; asked_whole = true }

pub asks_whole : (old mid new : View) (area part pending : Area) → IsCut old area part pending → KeepsAsked old mid false pending → AsksPart (record mid { pending = Some pending }) new part → IsAsked old new false area
asks_whole old mid new area part pending cut k asks =
    let screen : new.screen ≡ mid.screen = ap (λ (v : View). v.screen) asks.kept in
    let wide : new.screen.width ≡ mid.screen.width = ap (λ (s : Framebuffer). s.width) screen in
    let high : new.screen.height ≡ mid.screen.height = ap (λ (s : Framebuffer). s.height) screen in
    let copies : new.copies ≡ [] = ap (λ (v : View). v.copies) asks.kept ∙ k.lost refl in
    record {
      stale = λ x y across down.
          asks.stale x y across down
          ∙ ap (λ (b : Bool). is_in part x y || b) (k.stale x y (subst (λ (n : ℕ). x < n) wide across) (subst (λ (n : ℕ). y < n) high down))
          ∙ ap (λ (b : Bool). b || stale_at old x y) (cut.just.just x y);
      pending = subst (λ (p : Option Area). IsWidened (is_left old.screen.width old.screen.height area) old.pending p) (sym (ap (λ (v : View). v.pending) asks.kept)) (widens old area part pending cut);
      whole = inl (record { x = part.x; y = part.y; passes = corner_of old area part pending cut; copies = copies; asked_whole = ap (λ (v : View). v.asked_whole) asks.kept });
      kept = asks.kept ∙ ap (λ (p : Option Area). record mid { stale = new.stale; pending = p; asked_whole = true }) (sym (ap (λ (v : View). v.pending) asks.kept))
          ∙ ap (λ (v : View). record v { stale = new.stale; pending = new.pending; asked_whole = true }) k.kept
          ∙ ap (λ (l : List KeptCopy). record old { stale = new.stale; pending = new.pending; asked_whole = true; copies = l }) (sym (ap (λ (v : View). v.copies) asks.kept))
          ∙ ap (λ (b : Bool). record old { stale = new.stale; pending = new.pending; asked_whole = b; copies = new.copies }) (sym (ap (λ (v : View). v.asked_whole) asks.kept));
    }

-- ---- a view stays sound

pub sound_asked : (old mid : View) (incremental : Bool) (pending : Area) → IsSound old → KeepsAsked old mid incremental pending → IsPart old.screen.width old.screen.height pending
    → IsSound (record mid { pending = Some pending })
sound_asked old mid incremental pending sound k part = elim (none_or_all old mid incremental pending k) [
  | inl none ↦
      (let screen : mid.screen ≡ old.screen = ap (λ (v : View). v.screen) k.kept in
      let new : View = record mid { pending = Some pending } in
      record {
        width = k.size.width ∙ sound.width ∙ sym (ap (λ (s : Framebuffer). s.width) screen);
        height = k.size.height ∙ sound.height ∙ sym (ap (λ (s : Framebuffer). s.height) screen);
        pending = subst (λ (s : Framebuffer). IsPart s.width s.height pending) (sym screen) part;
        copies = subst (λ (l : List KeptCopy). AllByRecursion (IsKept new) l) (sym none) tt;
        few = subst (λ (l : List KeptCopy). length l ≤ 64) (sym none) (omega arith);
      })
  | inr all ↦ subst (λ (v : View). IsSound (record v { pending = Some pending })) (sym all.same) (record {
    width = sound.width;
    height = sound.height;
    pending = part;
    copies = all_lie old pending old.copies sound.copies all.asked;
    few = sound.few;
  })
]

-- ---- a view stays right

-- if what the viewer sees of it does
right_kept : (head : Head) (old new : View) (seen : Picture) (messages : List Stamped) → new.screen ≡ old.screen → new.position ≡ old.position
    → (Sees old seen → Sees new seen) → IsRight head old seen messages → IsRight head new seen messages
right_kept head old new seen messages screen position sees right = record {
  shows = subst (λ (s : Framebuffer). IsScreenAt head messages new.position s) (sym screen) (subst (λ (n : ℕ). IsScreenAt head messages n old.screen) (sym position) right.shows);
  converts = converts_of new seen (sees right.copied);
  copied = sees right.copied;
}

-- no copies are kept, and no pixel becomes clean
gives_up_sees : (old new : View) (seen : Picture) → new.screen ≡ old.screen → new.format ≡ old.format → new.copies ≡ []
    → ((x y : ℕ) → x < new.screen.width → y < new.screen.height → stale_at new x y ≡ false → stale_at old x y ≡ false) → Sees old seen → Sees new seen
gives_up_sees old new seen screen format none more sees x y across down clean =
    let uncopied : is_copied new.copies x y ≡ false = ap (λ (l : List KeptCopy). is_copied l x y) none in
    let fresh : stale_at old x y ≡ false = more x y across down (rw (clean, uncopied) refl) in
    ap (λ (l : List KeptCopy). all_copied l seen x y) none
    ∙ converts_of old seen sees x y (subst (λ (s : Framebuffer). x < s.width) screen across) (subst (λ (s : Framebuffer). y < s.height) screen down) fresh
    ∙ ap (λ (f : Format). converted f (color_at old.screen x y)) (sym format) ∙ ap (λ (s : Framebuffer). converted new.format (color_at s x y)) (sym screen)

-- the same are kept
keeps_sees : (old new : View) (seen : Picture) → new.screen ≡ old.screen → new.format ≡ old.format → KeepsOn old new → Sees old seen → Sees new seen
keeps_sees old new seen screen format keeps sees x y across down clean =
    ap (λ (l : List KeptCopy). all_copied l seen x y) keeps.copies
    ∙ sees x y (subst (λ (s : Framebuffer). x < s.width) screen across) (subst (λ (s : Framebuffer). y < s.height) screen down) (sym (ap (λ (t : PixelSet). holds t x y) keeps.stale) ∙ clean)
    ∙ ap (λ (f : Format). converted f (color_at old.screen x y)) (sym format) ∙ ap (λ (s : Framebuffer). converted new.format (color_at s x y)) (sym screen)

asked_sees : (whole : ℕ → ℕ → Bool) (old new : View) (seen : Picture) → new.screen ≡ old.screen → new.format ≡ old.format
    → ((x y : ℕ) → x < new.screen.width → y < new.screen.height → stale_at new x y ≡ false → stale_at old x y ≡ false) → Asks whole old new → Sees old seen → Sees new seen
asked_sees whole old new seen screen format more (inl asks) = gives_up_sees old new seen screen format asks.copies more
asked_sees whole old new seen screen format more (inr asks) = elim asks.copies [
  | inl keeps ↦ keeps_sees old new seen screen format keeps
  | inr gives ↦ gives_up_sees old new seen screen format gives.copies more
]

pub right_asked : (head : Head) (old new : View) (incremental : Bool) (area : Area) (seen : Picture) (messages : List Stamped) → IsAsked old new incremental area
    → IsRight head old seen messages → IsRight head new seen messages
right_asked head old new incremental area seen messages asked right =
    let screen : new.screen ≡ old.screen = ap (λ (v : View). v.screen) asked.kept in
    right_kept head old new seen messages screen (ap (λ (v : View). v.position) asked.kept)
    (asked_sees (λ x y. not incremental && is_left old.screen.width old.screen.height area x y) old new seen screen (ap (λ (v : View). v.format) asked.kept)
    (λ x y across down clean. (neither (not incremental && is_left old.screen.width old.screen.height area x y) (stale_at old x y) (sym (asked.stale x y across down) ∙ clean)).1)
    asked.whole) right

pub right_reencoded : (head : Head) (old new : View) (numbers : List ℤ) (seen : Picture) (messages : List Stamped) → IsReencoded old new numbers
    → IsRight head old seen messages → IsRight head new seen messages
right_reencoded head old new numbers seen messages is right =
    let screen : new.screen ≡ old.screen = ap (λ (v : View). v.screen) is.kept in
    right_kept head old new seen messages screen (ap (λ (v : View). v.position) is.kept)
    (gives_up_sees old new seen screen (ap (λ (v : View). v.format) is.kept) (ap (λ (v : View). v.copies) is.kept) (λ x y across down clean. sym (is.stale x y across down) ∙ clean)) right

pub right_reformatted : (head : Head) (old new : View) (f : Format) (seen : Picture) (messages : List Stamped) → IsReformatted old new f
    → IsRight head old seen messages → IsRight head new seen messages
right_reformatted head old new f seen messages is right =
    right_kept head old new seen messages (ap (λ (v : View). v.screen) is.kept) (ap (λ (v : View). v.position) is.kept)
    (λ sees x y across down clean.
    let none : is_copied new.copies x y ≡ false = ap (λ (l : List KeptCopy). is_copied l x y) (ap (λ (v : View). v.copies) is.kept) in
    let stale : (holds new.stale x y || is_copied new.copies x y) ≡ true = is.stale x y across down in
    let off : false ≡ true = rw (clean, none) at stale in
    absurd (cc))
    right

-- one message more
pub taken_more : (old mid new : View) (ms : List ClientMessage) (m : ClientMessage) → AreTaken old mid ms → IsTaken mid new m → AreTaken old new (ms ++ m ∷ [])
taken_more old mid new [] m taken last = (new, subst (λ (v : View). IsTaken v new m) taken last, refl)
taken_more old mid new (n ∷ ms) m taken last = (taken.0, taken.1, taken_more taken.0 mid new ms m taken.2 last)
