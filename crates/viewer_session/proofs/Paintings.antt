-- Views that go on by rectangles and messages.
use Rattle.std.proofs.Common.{◌≡◌, ℕ, ◌+◌, ◌-◌, ◌<◌, ◌≤◌, inl, inr, Bool, true, false, List, [], ◌∷◌, ◌++◌, length, refl, sym, ap, ◌∙◌, subst, append-nil, length-append, arith}
use Rattle.std.specs.Prelude.{not, ◌&&◌, ◌||◌, All, slice_range, Option, Some, None, IfSome}
use Rattle.std.specs.List.{AllByRecursion}
use Rattle.std.proofs.lemmas.Bool.{cases_Bool, false_from_ne_true}
use Rattle.std.proofs.lemmas.List.{append_assoc}
use Rattle.std.proofs.lemmas.List.Elements.{recursion_from_All, All-nil, All-cons}
use Rattle.pixel_format.specs.declared.Color.{Color}
use Rattle.pixel_format.specs.Format.{Format, host_format}
use Rattle.pixel_format.specs.Pixel.{converted}
use Rattle.pixel_format.specs.Canvas.{Picture}
use Rattle.terms.specs.declared.area.Area.{Area}
use Rattle.terms.specs.Area.{is_in, IsSmallestOf, LiesWithin}
use Rattle.pixel_sets.specs.Pixels.{PixelSet, holds}
use Rattle.pixel_sets.specs.Pixels as sets
use Rattle.terms.proofs.Areas.{in_is}
use Rattle.rect_data.specs.declared.encoding.Encoding.{Encoding}
use Rattle.rect_data.specs.Data.{AreData, IsSource}
use Rattle.rfb_wire.specs.declared.message.Rectangle.{Rectangle}
use Rattle.rfb_wire.specs.Host.{Host, IsPlaced}
use Rattle.rfb_wire.proofs.Placed.{recorded_placed}
use Rattle.rect_codec.specs.Picture.{copied_picture, painted_data}
use Rattle.painter.specs.Framebuffer.{Framebuffer, color_at, Has, Shows}
use Rattle.painter.specs.Framebuffer as screens
use Rattle.painter.specs.Picture.{painted_rectangle, painted_rectangles}
use Rattle.painter.proofs.Order.{no_rectangles, agree_rectangles}
use Rattle.painter.proofs.Screens.{shows_more}
use Rattle.keyed_entries.specs.declared.entry.Stamped.{Stamped}
use Rattle.keyed_entries.specs.Entry.{hosts_of, IsStampedOf}
use Rattle.gated_journal.specs.Recording.{Head}
use Rattle.replay.specs.Screens.{IsScreenAt}
use Rattle.replay.specs.Slices.{StartStands, Stands}
use Rattle.replay.specs.declared.slice.Slice.{Slice}
use Rattle.shared_updates.specs.declared.copy.KeptCopy.{KeptCopy}
use Rattle.viewer_session.specs.declared.view.View.{View}
use Rattle.shared_updates.specs.Copies.{source, IsPart, IsCopyWithin, is_copied, copied, all_copied, is_moved, GivesUpLast}
use Rattle.viewer_session.specs.View.{IsRight, IsSound, IsNext, IsKept, IsAskedFor, IsCopyBy, IsKeptAfter, IsPainted, ArePainted, AreAllPainted, Begins, GoesOn, AreStale, stale_at, is_there, is_touched, is_touched_by, is_stale_after}
use Rattle.viewer_session.proofs.Views.{Sees, neither, screen_on}
use Rattle.viewer_session.proofs.Carried.{copied_more, converts_of, stale_in, moved_here, all_more, all_weaker}
use Rattle.viewer_session.proofs.Joins.{given_up_clean, given_up_few, given_up_kept, joined_clean, joined_few, joined_kept}

-- ---- a rectangle

-- a rectangle that copies paints what its copy does
painted_copy : (r : Rectangle) (bytes : List ℕ) (c : KeptCopy) (before : Picture) (x y : ℕ) → IsCopyBy r bytes c → painted_data host_format r.encoding r.area bytes before x y ≡ copied c before x y
unfolding painted_data copied_picture
painted_copy r bytes c before x y is = elim (cases_Bool (is_in c.area x y)) [
  | inl here ↦
      (let at : is_in r.area x y ≡ true = sym (ap (λ (a : Area). is_in a x y) is.area) ∙ here in
      rw (at, here, is.encoding) (
      ap (λ (s : Area). before (s.x + (x - r.area.x)) (s.y + (y - r.area.y))) (sym is.source_is)
      ∙ ap (λ (a : Area). before (c.source_x + (x - a.x)) (c.source_y + (y - a.y))) (sym is.area)))
  | inr off ↦
      (let at : is_in r.area x y ≡ false = sym (ap (λ (a : Area). is_in a x y) is.area) ∙ off in
      rw (at, off) refl)
]

kept_clean : (a b : Bool) → b ≡ false → (a && not b) ≡ false → a ≡ false
kept_clean true true off e = absurd (cc)
kept_clean true false off e = absurd (cc)
kept_clean false b off e = refl

-- a pixel off the rectangle is as it was
off_rectangle : (r : Rectangle) (bytes : List ℕ) (before : Picture) (x y : ℕ) → is_in r.area x y ≡ false → painted_data host_format r.encoding r.area bytes before x y ≡ before x y
unfolding painted_data
off_rectangle r bytes before x y off = rw off refl

-- what is copied lies on the screen
source_within : (m : Host) (r : Rectangle) (c : KeptCopy) → IsPlaced m r → IsCopyBy r (slice_range m.bytes r.start r.end) c → LiesWithin m.width m.height (source c)
source_within m r c placed is =
    let bytes : IsSource m.width m.height r.area (slice_range m.bytes r.start r.end) =
    subst (λ (e : Encoding). AreData host_format m.width m.height e r.area (slice_range m.bytes r.start r.end)) is.encoding placed.content in
    subst (λ (a : Area). LiesWithin m.width m.height a) (sym is.source_is) bytes.within

-- a view of the message's size, and what it is once a rectangle is painted
pub record Step (m : Host) (r : Rectangle) (old new : View) : Type 0 where
  pub placed : IsPlaced m r
  pub wide : m.width ≡ old.screen.width
  pub high : m.height ≡ old.screen.height
  pub sound : IsSound old
  pub is : IsPainted old new m.bytes r

-- the rectangle's own copy lies on the screen
own_within : (m : Host) (r : Rectangle) (old new : View) (c : KeptCopy) → Step m r old new → IsCopyBy r (slice_range m.bytes r.start r.end) c → IsCopyWithin new.screen.width new.screen.height c
own_within m r old new c s is =
    let wide : m.width ≡ new.screen.width = s.wide ∙ sym s.is.size.width in
    let high : m.height ≡ new.screen.height = s.high ∙ sym s.is.size.height in
    let from = source_within m r c s.placed is in
    let columns = s.placed.within.columns in
    let rows = s.placed.within.rows in
    let a = is.across in
    let d = is.down in
    record {
      area = subst (λ (t : Area). IsPart new.screen.width new.screen.height t) (sym is.area)
          (record { within = record { columns = omega arith; rows = omega arith }; across = a; down = d });
      source = rw (← wide, ← high) from;
    }

-- one that was kept still lies there
kept_on : (m : Host) (r : Rectangle) (old new : View) → Step m r old new → (c : KeptCopy) → IsKept old c → IsKept new c
kept_on m r old new s c kept = record {
  within = rw (s.is.size.width, s.is.size.height) kept.within;
  asked = subst (λ (p : Option Area). IsAskedFor p c.area) (sym (ap (λ (v : View). v.pending) s.is.kept)) kept.asked;
}

copies_kept : (m : Host) (r : Rectangle) (old new : View) → Step m r old new → IsKeptAfter old new r (slice_range m.bytes r.start r.end) → AllByRecursion (IsKept new) new.copies
copies_kept m r old new s (inl keeps) =
    let last : IsKept new keeps.copy = record {
      within = own_within m r old new keeps.copy s keeps.can.is;
      asked = subst (λ (p : Option Area). IsAskedFor p keeps.copy.area) (sym (ap (λ (v : View). v.pending) s.is.kept)) keeps.can.asked;
    } in
    let k = keeps.keeps in
    joined_kept new k.sent (k.others ++ keeps.copy ∷ []) new.copies k.moved new.stale k.joined
    (all_more (IsKept new) k.others keeps.copy (given_up_kept (IsKept new) old.copies k.others old.stale k.beside k.gives_up (all_weaker (IsKept old) (IsKept new) old.copies (kept_on m r old new s) s.sound.copies)) last)
copies_kept m r old new s (inr keeps) =
    subst (λ (l : List KeptCopy). AllByRecursion (IsKept new) l) (sym keeps.copies) (all_weaker (IsKept old) (IsKept new) old.copies (kept_on m r old new s) s.sound.copies)

few_after : (m : Host) (r : Rectangle) (old new : View) → Step m r old new → IsKeptAfter old new r (slice_range m.bytes r.start r.end) → length new.copies ≤ 64
few_after m r old new s (inl keeps) =
    let k = keeps.keeps in
    let many : length (k.others ++ keeps.copy ∷ []) ≡ length k.others + 1 = length-append k.others (keeps.copy ∷ []) in
    let fewer = given_up_few old.copies k.others old.stale k.beside k.gives_up in
    let no_more = joined_few k.sent (k.others ++ keeps.copy ∷ []) new.copies k.moved new.stale k.joined in
    let room = keeps.can.room.few in
    omega arith
few_after m r old new s (inr keeps) = subst (λ (l : List KeptCopy). length l ≤ 64) (sym keeps.copies) s.sound.few

pub sound_on : (m : Host) (r : Rectangle) (old new : View) → Step m r old new → IsSound new
sound_on m r old new s =
    let pending : new.pending ≡ old.pending = ap (λ (v : View). v.pending) s.is.kept in
    record {
      width = s.is.stale_size.width ∙ s.sound.width ∙ sym s.is.size.width;
      height = s.is.stale_size.height ∙ s.sound.height ∙ sym s.is.size.height;
      pending = rw (s.is.size.width, s.is.size.height) (subst (λ (p : Option Area). IfSome p (IsPart old.screen.width old.screen.height)) (sym pending) s.sound.pending);
      copies = copies_kept m r old new s s.is.copies;
      few = few_after m r old new s s.is.copies;
    }

-- a pixel of the screen off the rectangle shows what it showed
same_color : (m : Host) (r : Rectangle) (old new : View) (x y : ℕ) → Step m r old new → x < old.screen.width → y < old.screen.height → is_in r.area x y ≡ false
    → converted old.format (color_at old.screen x y) ≡ converted new.format (color_at new.screen x y)
same_color m r old new x y s across down off =
    let format : new.format ≡ old.format = ap (λ (v : View). v.format) s.is.kept in
    let a : x < new.screen.width = subst (λ (n : ℕ). x < n) (sym s.is.size.width) across in
    let d : y < new.screen.height = subst (λ (n : ℕ). y < n) (sym s.is.size.height) down in
    ap (λ (c : Color). converted old.format c) (sym (s.is.painted x y a d ∙ off_rectangle r (slice_range m.bytes r.start r.end) (color_at old.screen) x y off))
    ∙ ap (λ (f : Format). converted f (color_at new.screen x y)) (sym format)

-- the pixels that are to be sent lie on the screen
on_stale : (m : Host) (r : Rectangle) (old new : View) (x y : ℕ) → Step m r old new → x < new.screen.width → y < new.screen.height → (x < new.stale.width) × (y < new.stale.height)
on_stale m r old new x y s across down =
    let wide : new.stale.width ≡ new.screen.width = s.is.stale_size.width ∙ s.sound.width ∙ sym s.is.size.width in
    let high : new.stale.height ≡ new.screen.height = s.is.stale_size.height ∙ s.sound.height ∙ sym s.is.size.height in
    (subst (λ (n : ℕ). x < n) (sym wide) across, subst (λ (n : ℕ). y < n) (sym high) down)

on_moved : (m : Host) (r : Rectangle) (old new : View) (moved : PixelSet) (x y : ℕ) → Step m r old new → sets.SameSize old.stale moved → x < new.stale.width → y < new.stale.height → (x < moved.width) × (y < moved.height)
on_moved m r old new moved x y s size across down = (
  subst (λ (n : ℕ). x < n) (s.is.stale_size.width ∙ sym size.width) across,
  subst (λ (n : ℕ). y < n) (s.is.stale_size.height ∙ sym size.height) down,
)

-- what the viewer shows of the copy's source, once it has carried out the copies before
source_sees : (old : View) (c : KeptCopy) (stale : Option Area) (seen : Picture) (x y : ℕ) → Sees old seen → IsCopyWithin old.screen.width old.screen.height c
    → IsSmallestOf (stale_in c old.stale) stale → x < old.screen.width → y < old.screen.height → is_moved c stale x y ≡ false → (holds old.stale x y && not (is_in c.area x y)) ≡ false
    → copied c (all_copied old.copies seen) x y ≡ converted old.format (copied c (color_at old.screen) x y)
source_sees old c stale seen x y sees within smallest across down unmoved clean = elim (cases_Bool (is_in c.area x y)) [
  | inl here ↦
      (let qx : ℕ = c.source_x + (x - c.area.x) in
      let qy : ℕ = c.source_y + (y - c.area.y) in
      let pixel = in_is c.area x y here in
      let pl = pixel.left in
      let pr = pixel.right in
      let pt = pixel.top in
      let pb = pixel.bottom in
      let columns = within.source.columns in
      let rows = within.source.rows in
      let fresh : holds old.stale qx qy ≡ false = false_from_ne_true (holds old.stale qx qy) (λ held. let moved = moved_here c old.stale stale x y smallest here held in absurd (cc)) in
      rw here (sees qx qy (omega arith) (omega arith) fresh))
  | inr off ↦ rw off (sees x y across down (kept_clean (holds old.stale x y) (is_in c.area x y) off clean))
]

-- a view whose last copies are given up
abbrev given_up_view : View → List KeptCopy → PixelSet → View
given_up_view old others beside = record old { stale = beside; copies = others }

sees_given_up : (old : View) (others : List KeptCopy) (beside : PixelSet) (seen : Picture) → IsSound old → sets.SameSize old.stale beside → GivesUpLast old.copies old.stale others beside
    → Sees old seen → Sees (given_up_view old others beside) seen
sees_given_up old others beside seen sound size gives sees x y across down clean =
    let a : x < beside.width = subst (λ (n : ℕ). x < n) (sym (size.width ∙ sound.width)) across in
    let d : y < beside.height = subst (λ (n : ℕ). y < n) (sym (size.height ∙ sound.height)) down in
    let before = given_up_clean old.copies others old.stale beside gives x y a d clean in
    before.same seen ∙ sees x y across down before.clean

sees_after : (m : Host) (r : Rectangle) (old new : View) (seen : Picture) → Step m r old new → Sees old seen → IsKeptAfter old new r (slice_range m.bytes r.start r.end) → Sees new seen
sees_after m r old new seen s sees (inl keeps) x y across down clean =
    let c = keeps.copy in
    let format : new.format ≡ old.format = ap (λ (v : View). v.format) s.is.kept in
    let a : x < old.screen.width = subst (λ (n : ℕ). x < n) s.is.size.width across in
    let d : y < old.screen.height = subst (λ (n : ℕ). y < n) s.is.size.height down in
    let on = on_stale m r old new x y s across down in
    let within : IsCopyWithin old.screen.width old.screen.height c = rw (← s.is.size.width, ← s.is.size.height) (own_within m r old new c s keeps.can.is) in
    let k = keeps.keeps in
    let left = k.moves.left in
    let joined = joined_clean k.sent (k.others ++ c ∷ []) new.copies k.moved new.stale k.joined x y on.0 on.1 clean in
    let moved_on = on_moved m r old new k.moved x y s k.size on.0 on.1 in
    let parts = neither (is_moved c left.stale x y) (holds k.beside x y && not (is_in c.area x y)) (sym (left.left x y moved_on.0 moved_on.1) ∙ joined.clean) in
    joined.same seen ∙ ap (λ (p : Picture). p x y) (copied_more k.others c seen)
    ∙ source_sees (given_up_view old k.others k.beside) c left.stale seen x y (sees_given_up old k.others k.beside seen s.sound k.beside_size k.gives_up sees) within left.smallest a d parts.0 parts.1
    ∙ ap (λ (t : Color). converted old.format t) (sym (s.is.painted x y across down ∙ painted_copy r (slice_range m.bytes r.start r.end) c (color_at old.screen) x y keeps.can.is))
    ∙ ap (λ (f : Format). converted f (color_at new.screen x y)) (sym format)
sees_after m r old new seen s sees (inr keeps) x y across down clean =
    let a : x < old.screen.width = subst (λ (n : ℕ). x < n) s.is.size.width across in
    let d : y < old.screen.height = subst (λ (n : ℕ). y < n) s.is.size.height down in
    let on = on_stale m r old new x y s across down in
    let parts = neither (is_in r.area x y) (holds old.stale x y) (sym (keeps.left x y on.0 on.1) ∙ clean) in
    ap (λ (l : List KeptCopy). all_copied l seen x y) keeps.copies ∙ sees x y a d parts.1 ∙ same_color m r old new x y s a d parts.0

-- what a viewer shows of a view stays so
pub sees_on : (m : Host) (r : Rectangle) (old new : View) (seen : Picture) → Step m r old new → Sees old seen → Sees new seen
sees_on m r old new seen s sees = sees_after m r old new seen s sees s.is.copies

-- ---- rectangles

-- what painting rectangles of a message does
pub record PaintsAll (m : Host) (rs : List Rectangle) (old new : View) : Type 0 where
  pub sound : IsSound new
  pub kept : new ≡ record old { screen = new.screen; stale = new.stale; copies = new.copies }
  pub size : screens.SameSize old.screen new.screen
  pub has : Has new.screen (painted_rectangles m.bytes rs (color_at old.screen))
  pub stale : AreStale new (λ x y. is_touched rs x y || stale_at old x y)
  pub sees : (seen : Picture) → Sees old seen → Sees new seen

none_painted : (m : Host) (v : View) → IsSound v → PaintsAll m [] v v
none_painted m v sound = record {
  sound = sound;
  kept = refl;
  size = record { width = refl; height = refl };
  has = λ x y across down. sym (ap (λ (p : Picture). p x y) (no_rectangles m.bytes (color_at v.screen)));
  stale = λ x y across down. refl;
  sees = λ seen s. s;
}

swap : (a b c : Bool) → (b || (a || c)) ≡ ((a || b) || c)
swap true true c = refl
swap true false c = refl
swap false true c = refl
swap false false c = refl

one_more : (m : Host) (r : Rectangle) (rs : List Rectangle) (old mid new : View) → AllByRecursion (IsPlaced m) rs → Step m r old mid → PaintsAll m rs mid new → PaintsAll m (r ∷ rs) old new
unfolding painted_rectangles
one_more m r rs old mid new placed s all =
    let wide : new.screen.width ≡ mid.screen.width = all.size.width in
    let high : new.screen.height ≡ mid.screen.height = all.size.height in
    record {
      sound = all.sound;
      kept = all.kept ∙ ap (λ (v : View). record v { screen = new.screen; stale = new.stale; copies = new.copies }) s.is.kept;
      size = record { width = wide ∙ s.is.size.width; height = high ∙ s.is.size.height };
      has = λ x y across down.
          let a : x < m.width = subst (λ (n : ℕ). x < n) (wide ∙ s.is.size.width ∙ sym s.wide) across in
          let d : y < m.height = subst (λ (n : ℕ). y < n) (high ∙ s.is.size.height ∙ sym s.high) down in
          all.has x y across down
          ∙ agree_rectangles m rs (color_at mid.screen) (painted_rectangle m.bytes r (color_at old.screen)) placed
          (λ k l b e. s.is.painted k l (subst (λ (n : ℕ). k < n) (s.wide ∙ sym s.is.size.width) b) (subst (λ (n : ℕ). l < n) (s.high ∙ sym s.is.size.height) e)) x y a d;
      stale = λ x y across down.
          all.stale x y across down
          ∙ ap (λ (b : Bool). is_touched rs x y || b) (s.is.stale x y (subst (λ (n : ℕ). x < n) wide across) (subst (λ (n : ℕ). y < n) high down))
          ∙ swap (is_in r.area x y) (is_touched rs x y) (stale_at old x y);
      sees = λ seen before. all.sees seen (sees_on m r old mid seen s before);
    }

pub rectangles_painted : (m : Host) (rs : List Rectangle) (old new : View) → AllByRecursion (IsPlaced m) rs → m.width ≡ old.screen.width → m.height ≡ old.screen.height → IsSound old
    → ArePainted m.bytes old new rs → PaintsAll m rs old new
rectangles_painted m [] old new placed wide high sound is = subst (λ (v : View). PaintsAll m [] old v) (sym is) (none_painted m old sound)
rectangles_painted m (r ∷ rs) old new placed wide high sound is =
    let mid = is.0 in
    let s : Step m r old mid = record { placed = placed.0; wide = wide; high = high; sound = sound; is = is.1 } in
    one_more m r rs old mid new placed.1 s
    (rectangles_painted m rs mid new placed.1 (wide ∙ sym is.1.size.width) (high ∙ sym is.1.size.height) (sound_on m r old mid s) is.2)

-- ---- messages

-- what painting messages does
pub record PaintsMessages (items : List Stamped) (old new : View) : Type 0 where
  pub sound : IsSound new
  pub kept : new ≡ record old { screen = new.screen; stale = new.stale; copies = new.copies }
  pub size : screens.SameSize old.screen new.screen
  pub shows : (before : List Host) → Shows old.screen before → Shows new.screen (before ++ hosts_of items)
  pub stale : AreStale new (λ x y. is_touched_by items x y || stale_at old x y)
  pub sees : (seen : Picture) → Sees old seen → Sees new seen

no_messages : (v : View) → IsSound v → PaintsMessages [] v v
no_messages v sound = record {
  sound = sound;
  kept = refl;
  size = record { width = refl; height = refl };
  shows = λ before shown. subst (λ (hs : List Host). Shows v.screen hs) (sym (append-nil before)) shown;
  stale = λ x y across down. refl;
  sees = λ seen s. s;
}

one_message : (width height : ℕ) (m : Stamped) (ms : List Stamped) (old mid new : View) → IsStampedOf width height m → old.screen.width ≡ width → old.screen.height ≡ height
    → PaintsAll m.message m.message.rectangles old mid → PaintsMessages ms mid new → PaintsMessages (m ∷ ms) old new
one_message width height m ms old mid new for wide high first all =
    let placed : All (IsPlaced m.message) m.message.rectangles = recorded_placed m.message for.1.recorded in
    record {
      sound = all.sound;
      kept = all.kept ∙ ap (λ (v : View). record v { screen = new.screen; stale = new.stale; copies = new.copies }) first.kept;
      size = record { width = all.size.width ∙ first.size.width; height = all.size.height ∙ first.size.height };
      shows = λ before shown.
          let between : Shows mid.screen (before ++ m.message ∷ []) = λ x y across down.
          shows_more old.screen mid.screen m.message before (for.1.width_is ∙ sym wide) (for.1.height_is ∙ sym high) placed shown
          (λ k l a d. first.has k l (subst (λ (n : ℕ). k < n) (sym first.size.width) a) (subst (λ (n : ℕ). l < n) (sym first.size.height) d))
          x y (subst (λ (n : ℕ). x < n) first.size.width across) (subst (λ (n : ℕ). y < n) first.size.height down) in
          subst (λ (hs : List Host). Shows new.screen hs) (append_assoc before (m.message ∷ []) (hosts_of ms)) (all.shows (before ++ m.message ∷ []) between);
      stale = λ x y across down.
          all.stale x y across down
          ∙ ap (λ (b : Bool). is_touched_by ms x y || b)
          (first.stale x y (subst (λ (n : ℕ). x < n) all.size.width across) (subst (λ (n : ℕ). y < n) all.size.height down))
          ∙ swap (is_touched m.message.rectangles x y) (is_touched_by ms x y) (stale_at old x y);
      sees = λ seen before. all.sees seen (first.sees seen before);
    }

pub messages_painted : (width height : ℕ) (ms : List Stamped) (old new : View) → AllByRecursion (IsStampedOf width height) ms → old.screen.width ≡ width → old.screen.height ≡ height
    → IsSound old → AreAllPainted old new ms → PaintsMessages ms old new
messages_painted width height [] old new each wide high sound is = subst (λ (v : View). PaintsMessages [] old v) (sym is) (no_messages old sound)
messages_painted width height (m ∷ ms) old new each wide high sound is =
    let mid = is.0 in
    let placed : All (IsPlaced m.message) m.message.rectangles = recorded_placed m.message each.0.1.recorded in
    let first : PaintsAll m.message m.message.rectangles old mid =
    rectangles_painted m.message m.message.rectangles old mid (recursion_from_All (IsPlaced m.message) m.message.rectangles placed)
    (each.0.1.width_is ∙ sym wide) (each.0.1.height_is ∙ sym high) sound is.1 in
    one_message width height m ms old mid new each.0 wide high first
    (messages_painted width height ms mid new each.1 (first.size.width ∙ wide) (first.size.height ∙ high) first.sound is.2)

-- ---- a slice

-- what a view is that has begun on a slice
pub record HasBegun (old begun : View) (start : Option Framebuffer) (end : ℕ) : Type 0 where
  pub size : screens.SameSize old.screen begun.screen
  pub stale : AreStale begun (λ x y. is_there start || stale_at old x y)
  pub position : begun.position ≡ end
  pub started : begun.started ≡ (is_there start || old.started)
  pub format : begun.format ≡ old.format
  pub encoding : begun.encoding ≡ old.encoding
  pub pending : begun.pending ≡ old.pending
  pub sees : (seen : Picture) → (start ≡ None → Sees old seen) → Sees begun seen
  pub shows : (head : Head) → (list : List Stamped) → (first : ℕ) → (start ≡ None → IsScreenAt head list first old.screen) → StartStands head list first start → IsScreenAt head list first begun.screen

begins : (old begun : View) (start : Option Framebuffer) (end : ℕ) → IfSome start (λ s. (s.width ≡ old.screen.width) × (s.height ≡ old.screen.height)) → Begins old begun start end → HasBegun old begun start end
begins old begun None end sized is = subst (λ (v : View). HasBegun old v None end) (sym is) (record {
  size = record { width = refl; height = refl };
  stale = λ x y across down. refl;
  position = refl;
  started = refl;
  format = refl;
  encoding = refl;
  pending = refl;
  sees = λ seen given. given refl;
  shows = λ head list first given stands. given refl;
})
begins old begun (Some start) end sized is =
    let screen : begun.screen ≡ start = ap (λ (v : View). v.screen) is.kept in
    record {
      size = record { width = ap (λ (s : Framebuffer). s.width) screen ∙ sized.0; height = ap (λ (s : Framebuffer). s.height) screen ∙ sized.1 };
      stale = is.stale;
      position = ap (λ (v : View). v.position) is.kept;
      started = ap (λ (v : View). v.started) is.kept;
      format = ap (λ (v : View). v.format) is.kept;
      encoding = ap (λ (v : View). v.encoding) is.kept;
      pending = ap (λ (v : View). v.pending) is.kept;
      sees = λ seen given.
          λ x y across down clean.
          let none : begun.copies ≡ [] = ap (λ (v : View). v.copies) is.kept in
          let stale : (holds begun.stale x y || is_copied begun.copies x y) ≡ true = is.stale x y across down in
          let kept : is_copied begun.copies x y ≡ false = ap (λ (l : List KeptCopy). is_copied l x y) none in
          let off : false ≡ true = rw (clean, kept) at stale in
          absurd (cc);
      shows = λ head list first given stands. subst (λ (s : Framebuffer). IsScreenAt head list first s) (sym screen) stands;
    }

-- what a view is that has gone on by a slice
pub record HasGone (old new : View) (slice : Slice) : Type 0 where
  pub sound : IsSound new
  pub size : screens.SameSize old.screen new.screen
  pub stale : AreStale new (λ x y. is_stale_after slice x y || stale_at old x y)
  pub position : new.position ≡ slice.first + length slice.messages.items
  pub started : new.started ≡ (is_there slice.start || old.started)
  pub format : new.format ≡ old.format
  pub encoding : new.encoding ≡ old.encoding
  pub pending : new.pending ≡ old.pending
  pub right : (head : Head) → (seen : Picture) → (list : List Stamped) → IsRight head old seen list → Stands head list slice → IsRight head new seen list

joined : (a b c : Bool) → (b || (a || c)) ≡ ((a || b) || c)
joined true true c = refl
joined true false c = refl
joined false true c = refl
joined false false c = refl

pub has_gone : (old new : View) (slice : Slice) → IsNext old slice → (goes : GoesOn old new slice) → IsSound goes.begun → HasGone old new slice
has_gone old new slice next goes sound =
    let mid = goes.begun in
    let items = slice.messages.items in
    let begun = begins old mid slice.start (slice.first + length items) next.start goes.begins in
    let paints = messages_painted old.screen.width old.screen.height items mid new next.each begun.size.width begun.size.height sound goes.paints in
    record {
      sound = paints.sound;
      size = record { width = paints.size.width ∙ begun.size.width; height = paints.size.height ∙ begun.size.height };
      stale = λ x y across down.
          paints.stale x y across down
          ∙ ap (λ (b : Bool). is_touched_by items x y || b) (begun.stale x y (subst (λ (n : ℕ). x < n) paints.size.width across) (subst (λ (n : ℕ). y < n) paints.size.height down))
          ∙ joined (is_there slice.start) (is_touched_by items x y) (stale_at old x y);
      position = ap (λ (v : View). v.position) paints.kept ∙ begun.position;
      started = ap (λ (v : View). v.started) paints.kept ∙ begun.started;
      format = ap (λ (v : View). v.format) paints.kept ∙ begun.format;
      encoding = ap (λ (v : View). v.encoding) paints.kept ∙ begun.encoding;
      pending = ap (λ (v : View). v.pending) paints.kept ∙ begun.pending;
      right = λ head seen list right stands.
          let sees : Sees new seen = paints.sees seen (begun.sees seen (λ none. right.copied)) in
          let at : IsScreenAt head list slice.first mid.screen =
          begun.shows head list slice.first (λ none. subst (λ (n : ℕ). IsScreenAt head list n old.screen) (sym (next.joined none)) right.shows) stands.start in
          let end : new.position ≡ slice.first + length items = ap (λ (v : View). v.position) paints.kept ∙ begun.position in
          record {
            shows = subst (λ (n : ℕ). IsScreenAt head list n new.screen) (sym end) (screen_on head list items slice.first mid.screen new.screen at stands.messages_are paints.size.width paints.size.height paints.shows);
            converts = converts_of new seen sees;
            copied = sees;
          };
    }

-- the messages are of the screen's size
pub all_wide : (width height w : ℕ) (ms : List Stamped) → w ≡ width → AllByRecursion (IsStampedOf width height) ms → All (λ m. m.message.width ≡ w) ms
all_wide width height w [] is each = All-nil (λ (m : Stamped). m.message.width ≡ w)
all_wide width height w (m ∷ ms) is each = All-cons (λ (m : Stamped). m.message.width ≡ w) m ms (each.0.1.width_is ∙ sym is) (all_wide width height w ms is each.1)

pub all_high : (width height h : ℕ) (ms : List Stamped) → h ≡ height → AllByRecursion (IsStampedOf width height) ms → All (λ m. m.message.height ≡ h) ms
all_high width height h [] is each = All-nil (λ (m : Stamped). m.message.height ≡ h)
all_high width height h (m ∷ ms) is each = All-cons (λ (m : Stamped). m.message.height ≡ h) m ms (each.0.1.height_is ∙ sym is) (all_high width height h ms is each.1)
