-- An update of the areas that are due answers.
use Rattle.std.proofs.Common.{◌≡◌, ℕ, ◌+◌, ◌<◌, ◌≤◌, ◌^◌, ◌++◌, inl, inr, Bool, true, false, List, [], ◌∷◌, length, refl, sym, ap, ◌∙◌, subst, arith}
use Rattle.std.specs.Prelude.{not, ◌&&◌, ◌||◌, ◌==◌, nat_le, All, Option, Some, None, IfSome}
use Rattle.std.specs.List.{AllZip, AllByRecursion}
use Rattle.std.proofs.lemmas.Bool.{cases_Bool, false_from_ne_true, and_parts, leb-true}
use Rattle.std.proofs.lemmas.List.Elements.{All-nil, All-cons}
use Rattle.pixel_format.specs.Format.{Format}
use Rattle.pixel_format.specs.Pixel.{converted}
use Rattle.pixel_format.specs.Canvas.{Picture}
use Rattle.terms.specs.Appending.{Appends}
use Rattle.terms.specs.Reading.{Got}
use Rattle.terms.specs.declared.area.Area.{Area}
use Rattle.terms.specs.Area.{is_in, LiesWithin}
use Rattle.terms.proofs.Areas.{in_is, is_in_true, or_left, or_right, or_parts}
use Rattle.rect_codec.specs.declared.parts.Part.{Part}
use Rattle.rect_codec.specs.Parts.{AreParts, PartLiesWithin, DrawsParts}
use Rattle.rect_codec.specs.Update.{Drawn, update_at, all_painted}
use Rattle.painter.specs.Framebuffer.{Framebuffer, color_at}
use Rattle.pixel_sets.specs.Pixels.{PixelSet, SameSize, AreJust, AreSent, holds, is_in_some}
use Rattle.pixel_sets.proofs.Sent.{IsInside, sent_inside, sent_cover, sent_few, sent_pixel, none_sent}
use Rattle.viewer_session.specs.declared.view.View.{View}
use Rattle.shared_updates.specs.declared.copy.KeptCopy.{KeptCopy}
use Rattle.shared_updates.specs.Copies.{IsPart, IsCopyWithin, is_copied, lies_in}
use Rattle.viewer_session.specs.View.{IsSound, IsKept, IsAskedFor, IsDue, AreDueIn, Answers, HasAreasDue, is_pending, is_covered, stale_at}
use Rattle.shared_updates.specs.Updates.{IsScreenPart, IsUpdateOf, copy_parts}
use Rattle.viewer_session.specs.Encoded.{IsEncodedFor}
use Rattle.viewer_session.specs.Sent.{IsNothing, IsSent}
use Rattle.viewer_session.proofs.Views.{Sees}
use Rattle.viewer_session.proofs.Carried.{converts_of, all_weaker}
use Rattle.viewer_session.proofs.Zipped.{zip_length, appended}
use Rattle.viewer_session.proofs.Sendings.{IsShown, AreShown, parts_shown, all_covered, all_drawn, all_here, all_carried, parts_inside}

-- a pending pixel is on the screen
on_screen : (width height : ℕ) (pending : Option Area) → IfSome pending (IsPart width height) → (x y : ℕ) → is_pending pending x y ≡ true → (x < width) × (y < height)
on_screen width height None within x y e = absurd (cc)
on_screen width height (Some outer) within x y e =
    let pixel = in_is outer x y e in
    let columns = within.within.columns in
    let rows = within.within.rows in
    let r = pixel.right in
    let b = pixel.bottom in
    (omega arith, omega arith)

-- a pixel that is clean afterwards was clean before, or was sent
still_sent : (a b : Bool) → (a && not b) ≡ false → a ≡ true → b ≡ true
still_sent true true e held = refl
still_sent true false e held = absurd (cc)
still_sent false b e held = absurd (cc)

areas_inside : (f : Format) (screen : Framebuffer) (width height : ℕ) (outer : Area) (pending : Option Area) (areas : List Area) (drawn : List Drawn) → pending ≡ Some outer
    → AllByRecursion (IsInside width height outer) areas → AllZip (IsShown f screen) areas drawn
    → AllByRecursion (λ d. (x y : ℕ) → is_in d.area x y ≡ true → is_pending pending x y ≡ true) drawn
areas_inside f screen width height outer pending [] [] is inside are = tt
areas_inside f screen width height outer pending [] (d ∷ drawn) is inside are = absurd are
areas_inside f screen width height outer pending (a ∷ areas) [] is inside are = absurd are
areas_inside f screen width height outer pending (a ∷ areas) (d ∷ drawn) is inside are = (
  λ x y e. ap (λ (p : Option Area). is_pending p x y) is ∙ inside.0.pixels x y (sym (ap (λ (b : Area). is_in b x y) are.0.area_is) ∙ e),
  areas_inside f screen width height outer pending areas drawn is inside.1 are.1,
)

-- ---- the copies with which an update begins

-- a pixel of an area that lies in another is one of that
wider : (area outer : Area) (x y : ℕ) → lies_in area outer ≡ true → is_in area x y ≡ true → is_in outer x y ≡ true
wider area outer x y lies here =
    let parts = and_parts (nat_le outer.x area.x && nat_le (area.x + area.w) (outer.x + outer.w)) (nat_le outer.y area.y && nat_le (area.y + area.h) (outer.y + outer.h)) lies in
    let columns = and_parts (nat_le outer.x area.x) (nat_le (area.x + area.w) (outer.x + outer.w)) parts.0 in
    let rows = and_parts (nat_le outer.y area.y) (nat_le (area.y + area.h) (outer.y + outer.h)) parts.1 in
    let left = leb-true outer.x area.x columns.0 in
    let right = leb-true (area.x + area.w) (outer.x + outer.w) columns.1 in
    let top = leb-true outer.y area.y rows.0 in
    let bottom = leb-true (area.y + area.h) (outer.y + outer.h) rows.1 in
    let pixel = in_is area x y here in
    let pl = pixel.left in
    let pr = pixel.right in
    let pt = pixel.top in
    let pb = pixel.bottom in
    is_in_true outer x y (record { left = omega arith; right = omega arith; top = omega arith; bottom = omega arith })

-- all pixels that they go to are asked for
copied_asked : (v : View) (pending : Area) (copies : List KeptCopy) (x y : ℕ) → v.pending ≡ Some pending → AllByRecursion (IsKept v) copies → is_copied copies x y ≡ true → is_in pending x y ≡ true
copied_asked v pending [] x y is kept e = absurd (cc)
copied_asked v pending (c ∷ cs) x y is kept e = elim (or_parts (is_in c.area x y) (is_copied cs x y) e) [
  | inl here ↦ wider c.area pending x y (subst (λ (p : Option Area). IsAskedFor p c.area) is kept.0.asked) here
  | inr there ↦ copied_asked v pending cs x y is kept.1 there
]

all_inside : (v : View) (pending : Area) (copies : List KeptCopy) (areas : List Area) (drawn : List Drawn) → v.pending ≡ Some pending → AllByRecursion (IsKept v) copies
    → AllByRecursion (IsInside v.screen.width v.screen.height pending) areas → AreShown v.format v.screen copies areas drawn
    → AllByRecursion (λ d. (x y : ℕ) → is_in d.area x y ≡ true → is_pending v.pending x y ≡ true) drawn
all_inside v pending [] areas drawn is kept inside are = areas_inside v.format v.screen v.screen.width v.screen.height pending v.pending areas drawn is inside are
all_inside v pending (c ∷ cs) areas [] is kept inside are = absurd are
all_inside v pending (c ∷ cs) areas (d ∷ drawn) is kept inside are = (
  λ x y e.
      let here : is_in c.area x y ≡ true = sym (ap (λ (b : Area). is_in b x y) are.0.area_is) ∙ e in
      ap (λ (p : Option Area). is_pending p x y) is ∙ wider c.area pending x y (subst (λ (p : Option Area). IsAskedFor p c.area) is kept.0.asked) here,
  all_inside v pending cs areas drawn is kept.1 inside are.1,
)

-- ---- an update that is due

-- what is pending is a part of the screen
pub pending_part : (v : View) (pending : Area) → IsSound v → v.pending ≡ Some pending → IsPart v.screen.width v.screen.height pending
pending_part v pending sound is = subst (λ (p : Option Area). IfSome p (IsPart v.screen.width v.screen.height)) is sound.pending

due_inside : (v : View) (areas : List Area) → IsSound v → (due : AreDueIn v areas) → AllByRecursion (IsInside v.screen.width v.screen.height due.pending) areas
due_inside v areas sound due = sent_inside v.stale v.screen.width v.screen.height due.pending areas (pending_part v due.pending sound due.pending_is).within due.sent

-- a pixel that is asked for and to be sent is in an area
due_sent : (v : View) (areas : List Area) → (due : AreDueIn v areas) → (x y : ℕ) → is_in due.pending x y ≡ true → holds v.stale x y ≡ true → is_in_some areas x y ≡ true
due_sent v areas due x y here held = sent_cover v.stale due.pending areas due.sent x y here held

-- a stale pixel that is asked for is copied, or in an area
due_covers : (v : View) (areas : List Area) → AreDueIn v areas → (x y : ℕ) → is_pending v.pending x y ≡ true → stale_at v x y ≡ true
    → (is_copied v.copies x y || is_in_some areas x y) ≡ true
due_covers v areas due x y asked old =
    let here : is_in due.pending x y ≡ true = sym (ap (λ (p : Option Area). is_pending p x y) due.pending_is) ∙ asked in
    elim (or_parts (holds v.stale x y) (is_copied v.copies x y) old) [
      | inl held ↦ or_right (is_copied v.copies x y) (is_in_some areas x y) (due_sent v areas due x y here held)
      | inr copied ↦ or_left (is_copied v.copies x y) (is_in_some areas x y) copied
    ]

-- what a viewer shows once it has painted an update, at a pixel that isn't to be sent or is in an area
shows_pixel : (v : View) (areas : List Area) (drawn : List Drawn) (seen : Picture) (x y : ℕ) → Sees v seen → AreShown v.format v.screen v.copies areas drawn
    → x < v.screen.width → y < v.screen.height → (holds v.stale x y ≡ true → is_in_some areas x y ≡ true) → all_painted v.format drawn seen x y ≡ converted v.format (color_at v.screen x y)
shows_pixel v areas drawn seen x y sees are across down sent = elim (cases_Bool (is_in_some areas x y)) [
  | inl here ↦ all_here v.format v.screen v.copies areas drawn are seen x y here
  | inr away ↦ all_carried v.format v.screen v.copies areas drawn are seen x y away
      ∙ sees x y across down (false_from_ne_true (holds v.stale x y) (λ held. let here = sent held in absurd (cc)))
]

-- what is stale afterwards
one_clean : (held copied here : Bool) → (copied ≡ true → held ≡ true → here ≡ true) → ((held && not here) || false) ≡ ((held || copied) && not (copied || here))
one_clean true true true sent = refl
one_clean true true false sent = let e : false ≡ true = sent refl refl in absurd (cc)
one_clean true false true sent = refl
one_clean true false false sent = refl
one_clean false true here sent = refl
one_clean false false here sent = refl

-- an update of the areas that are due answers
pub answers_areas : (v : View) (areas : List Area) (stale : PixelSet) (update : List ℕ) (drawn : List Drawn) → IsSound v → AreDueIn v areas
    → update_at v.format v.screen.width v.screen.height update ≡ Got drawn [] → AreShown v.format v.screen v.copies areas drawn
    → SameSize v.stale stale → AreJust stale (λ x y. holds v.stale x y && not (is_in_some areas x y))
    → Answers v (record v { stale = stale; pending = None; asked_whole = false; copies = [] }) update
answers_areas v areas stale update drawn sound due reads are size just =
    let new : View = record v { stale = stale; pending = None; asked_whole = false; copies = [] } in
    let covered : (x y : ℕ) → is_covered drawn x y ≡ (is_copied v.copies x y || is_in_some areas x y) = λ x y. all_covered v.format v.screen v.copies areas drawn are x y in
    let left : (x y : ℕ) → x < v.screen.width → y < v.screen.height → holds stale x y ≡ (holds v.stale x y && not (is_in_some areas x y)) =
    λ x y across down. just x y (subst (λ (n : ℕ). x < n) (sym (size.width ∙ sound.width)) across) (subst (λ (n : ℕ). y < n) (sym (size.height ∙ sound.height)) down) in
    let sees : (seen : Picture) → Sees v seen → Sees new (all_painted v.format drawn seen) = λ seen before x y across down clean.
    shows_pixel v areas drawn seen x y before are across down (still_sent (holds v.stale x y) (is_in_some areas x y) (sym (left x y across down) ∙ clean)) in
    record {
      drawn = drawn;
      reads = reads;
      inside = all_inside v due.pending v.copies areas drawn due.pending_is sound.copies (due_inside v areas sound due) are;
      covers = λ x y a old. covered x y ∙ due_covers v areas due x y a old;
      clean = λ x y across down.
          ap (λ (b : Bool). b || false) (left x y across down)
          ∙ one_clean (holds v.stale x y) (is_copied v.copies x y) (is_in_some areas x y)
          (λ copied held. due_sent v areas due x y (copied_asked v due.pending v.copies x y due.pending_is sound.copies copied) held)
          ∙ ap (λ (b : Bool). stale_at v x y && not b) (sym (covered x y));
      right = λ head seen messages right. record {
        shows = right.shows;
        converts = converts_of new (all_painted v.format drawn seen) (sees seen right.copied);
        copied = sees seen right.copied;
      };
      shown = λ head seen messages right x y a.
          let at = on_screen v.screen.width v.screen.height v.pending sound.pending x y a in
          let here : is_in due.pending x y ≡ true = sym (ap (λ (p : Option Area). is_pending p x y) due.pending_is) ∙ a in
          shows_pixel v areas drawn seen x y right.copied are at.0 at.1 (due_sent v areas due x y here);
      kept = refl;
    }

pub has_areas : (v : View) (areas : List Area) (update : List ℕ) (drawn : List Drawn) → AreDueIn v areas
    → update_at v.format v.screen.width v.screen.height update ≡ Got drawn [] → AreShown v.format v.screen v.copies areas drawn → HasAreasDue v update
has_areas v areas update drawn due reads are = record {
  drawn = drawn;
  reads = reads;
  areas = areas;
  due = due;
  are = all_drawn v.format v.screen v.copies areas drawn are;
}

-- ---- what is due

-- the pixels that a copy goes to make an update due
copy_makes_due : (v : View) (pending : Area) (copies : List KeptCopy) → v.copies ≡ copies → v.started ≡ true → v.pending ≡ Some pending → AllByRecursion (IsKept v) copies → (copies ≡ [] → IsDue v) → IsDue v
copy_makes_due v pending [] are started is kept other = other refl
copy_makes_due v pending (c ∷ cs) are started is kept other =
    let a = kept.0.within.area.across in
    let d = kept.0.within.area.down in
    let corner : is_in c.area c.area.x c.area.y ≡ true = is_in_true c.area c.area.x c.area.y (record { left = omega arith; right = omega arith; top = omega arith; bottom = omega arith }) in
    let copied : is_copied v.copies c.area.x c.area.y ≡ true = ap (λ (l : List KeptCopy). is_copied l c.area.x c.area.y) are ∙ or_left (is_in c.area c.area.x c.area.y) (is_copied cs c.area.x c.area.y) corner in
    record {
      started = started;
      x = c.area.x;
      y = c.area.y;
      asked = ap (λ (p : Option Area). is_pending p c.area.x c.area.y) is ∙ wider c.area pending c.area.x c.area.y (subst (λ (p : Option Area). IsAskedFor p c.area) is kept.0.asked) corner;
      stale = or_right (holds v.stale c.area.x c.area.y) (is_copied v.copies c.area.x c.area.y) copied;
    }

-- and so do those of the first area
area_makes_due : (v : View) (pending : Area) (areas : List Area) → v.started ≡ true → v.pending ≡ Some pending → AreSent v.stale pending areas → (areas ≡ [] → ⊥) → IsDue v
area_makes_due v pending [] started is sent some = absurd (some refl)
area_makes_due v pending (a ∷ areas) started is sent some =
    let pixel = sent_pixel v.stale pending a areas sent in
    record {
      started = started;
      x = pixel.x;
      y = pixel.y;
      asked = ap (λ (p : Option Area). is_pending p pixel.x pixel.y) is ∙ pixel.there;
      stale = or_left (holds v.stale pixel.x pixel.y) (is_copied v.copies pixel.x pixel.y) pixel.held;
    }

-- the areas in which an update is due
pub due_in : (v : View) (pending : Area) (areas : List Area) (before after : List ℕ) → v.started ≡ true → v.pending ≡ Some pending → IsSound v → IsSent v pending areas before after → AreDueIn v areas
due_in v pending areas before after started is sound sent = record {
  due = copy_makes_due v pending v.copies refl started is sound.copies (λ none. area_makes_due v pending areas started is sent.sent (sent.some none));
  pending = pending;
  pending_is = is;
  sent = sent.sent;
}

-- none is due if nothing was written
pub nothing_due : (v : View) (pending : Area) (before after : List ℕ) → v.pending ≡ Some pending → IsNothing v pending before after → IsDue v → ⊥
nothing_due v pending before after is nothing due =
    let uncopied : is_copied v.copies due.x due.y ≡ false = ap (λ (l : List KeptCopy). is_copied l due.x due.y) nothing.copies_are in
    elim (or_parts (holds v.stale due.x due.y) (is_copied v.copies due.x due.y) due.stale) [
      | inl held ↦ none_sent v.stale pending nothing.sent due.x due.y (sym (ap (λ (p : Option Area). is_pending p due.x due.y) is) ∙ due.asked) held
      | inr copied ↦ absurd (cc)
    ]

-- ---- what a viewer reads

-- what the law says of the parts of an update
abbrev pub AreRead : Type 0
AreRead = (format : Format) → (width height : ℕ) → (parts : List Part) → (bytes : List ℕ)
    → AreParts format parts bytes → length parts < 2 ^ 16 → All (PartLiesWithin width height) parts → DrawsParts format width height parts bytes

-- an update of the areas that are due is read as a rectangle for each, after those of the copies
pub record IsReadAs (v : View) (areas : List Area) (update : List ℕ) : Type 0 where
  pub drawn : List Drawn
  pub reads : update_at v.format v.screen.width v.screen.height update ≡ Got drawn []
  pub are : AreShown v.format v.screen v.copies areas drawn

copies_few : (copies : List KeptCopy) (list : List Part) → length (copy_parts copies ++ list) ≡ length copies + length list
copies_few [] list = omega arith
copies_few (c ∷ cs) list = omega (arith, copies_few cs list)

copies_within : (v : View) (copies : List KeptCopy) → AllByRecursion (IsKept v) copies → AllByRecursion (IsCopyWithin v.screen.width v.screen.height) copies
copies_within v copies kept = all_weaker (IsKept v) (IsCopyWithin v.screen.width v.screen.height) copies (λ c k. k.within) kept

pub due_read : (v : View) (areas : List Area) (update : List ℕ) → AreRead → IsSound v → AreDueIn v areas → IsUpdateOf v.format v.encoding v.screen v.copies areas update → IsReadAs v areas update
due_read v areas update law sound due is =
    let many : length areas ≤ 4096 = sent_few v.stale due.pending areas due.sent in
    let few = sound.few in
    let all : length (copy_parts v.copies ++ is.parts) ≡ length v.copies + length is.parts = copies_few v.copies is.parts in
    let same : length areas ≡ length is.parts = zip_length (IsScreenPart v.format v.encoding v.screen) areas is.parts is.each in
    let draws = law v.format v.screen.width v.screen.height (copy_parts v.copies ++ is.parts) update is.are (omega arith)
    (parts_inside v.screen.width v.screen.height v.format v.encoding v.screen v.copies due.pending areas is.parts (copies_within v v.copies sound.copies) (due_inside v areas sound due) is.each) in
    record { drawn = draws.drawn; reads = draws.reads; are = parts_shown v.format v.encoding v.screen v.copies areas is.parts draws.drawn is.each draws.each }

-- the areas can be sent
all_within : (width height : ℕ) (outer : Area) (areas : List Area) → AllByRecursion (IsInside width height outer) areas → All (LiesWithin width height) areas
all_within width height outer [] inside = All-nil (LiesWithin width height)
all_within width height outer (a ∷ areas) inside = All-cons (LiesWithin width height) a areas inside.0.within (all_within width height outer areas inside.1)

pub sent_within : (set : PixelSet) (width height : ℕ) (pending : Area) (areas : List Area) → LiesWithin width height pending → AreSent set pending areas → All (LiesWithin width height) areas
sent_within set width height pending areas within sent = all_within width height pending areas (sent_inside set width height pending areas within sent)

-- ---- an update that was written

pub written_answers : (v : View) (pending : Area) (stale : PixelSet) (areas : List Area) (before after : List ℕ) → AreRead → IsSound v → AreDueIn v areas → IsSent v pending areas before after
    → SameSize v.stale stale → AreJust stale (λ x y. holds v.stale x y && not (is_in_some areas x y))
    → Appends (Answers v (record v { stale = stale; pending = None; asked_whole = false; copies = [] })) before after
written_answers v pending stale areas before after law sound due sent size just =
    appended (IsUpdateOf v.format v.encoding v.screen v.copies areas) (Answers v (record v { stale = stale; pending = None; asked_whole = false; copies = [] })) before after
    (λ update u.
    let read = due_read v areas update law sound due u in
    answers_areas v areas stale update read.drawn sound due read.reads read.are size just)
    sent.written

pub written_areas : (v : View) (pending : Area) (areas : List Area) (before after : List ℕ) → AreRead → IsSound v → AreDueIn v areas → IsSent v pending areas before after → Appends (HasAreasDue v) before after
written_areas v pending areas before after law sound due sent =
    appended (IsUpdateOf v.format v.encoding v.screen v.copies areas) (HasAreasDue v) before after
    (λ update u. let read = due_read v areas update law sound due u in has_areas v areas update read.drawn due read.reads read.are)
    sent.written

pub written_encoded : (v : View) (pending : Area) (areas : List Area) (before after : List ℕ) → IsSent v pending areas before after → Appends (IsEncodedFor v) before after
written_encoded v pending areas before after sent =
    appended (IsUpdateOf v.format v.encoding v.screen v.copies areas) (IsEncodedFor v) before after (λ update u. record { areas = areas; is = u }) sent.written

-- there are areas
pub some_areas : (areas : List Area) (n : ℕ) → n ≡ length areas → false ≡ (n == 0) → areas ≡ [] → ⊥
some_areas areas n is some none =
    let zero : n ≡ 0 = is ∙ ap (λ (l : List Area). length l) none in
    let h : false ≡ true = rw zero at some in
    cc
