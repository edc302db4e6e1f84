-- Views that go on unpainted, beside those that would be painted: whatever is said of the one
-- follows from what is said of the other.
use Rattle.std.proofs.Common.{◌≡◌, ℕ, ◌+◌, ◌*◌, ◌/◌, ◌%◌, ◌<◌, inl, inr, Bool, true, false, List, [], ◌∷◌, ◌++◌, length, map, refl, sym, ap, ◌∙◌, subst, arith}
use Rattle.std.specs.Prelude.{not, ◌&&◌, ◌||◌, slice_range, Option, Some, None, IfSome}
use Rattle.terms.specs.declared.area.Area.{Area}
use Rattle.terms.specs.Area.{is_in}
use Rattle.pixel_sets.specs.Pixels.{holds}
use Rattle.pixel_sets.specs.Pixels as sets
use Rattle.shared_updates.specs.Copies.{is_copied, is_moved}
use Rattle.std.specs.List.{range_with_len}
use Rattle.std.proofs.lemmas.List.FromFn.{get_or-map-range_with_len}
use Rattle.std.proofs.lemmas.Nat.{div-mul-add, mod-mul-add, mul-add-lt}
use Rattle.pixel_format.specs.declared.Color.{Color}
use Rattle.pixel_format.specs.Pixel.{converted}
use Rattle.pixel_format.specs.Canvas.{Picture}
use Rattle.rfb_wire.specs.declared.message.Rectangle.{Rectangle}
use Rattle.rfb_wire.specs.Host.{Host, IsPlaced}
use Rattle.painter.specs.Framebuffer.{Framebuffer, color_at, Has}
use Rattle.painter.specs.Framebuffer as screens
use Rattle.painter.specs.Picture.{black, painted_rectangle}
use Rattle.keyed_entries.specs.declared.entry.Stamped.{Stamped}
use Rattle.gated_journal.specs.Recording.{Head}
use Rattle.replay.specs.Screens.{IsScreenAt}
use Rattle.replay.specs.Slices.{Stands}
use Rattle.replay.specs.declared.slice.Slice.{Slice}
use Rattle.shared_updates.specs.declared.copy.KeptCopy.{KeptCopy}
use Rattle.viewer_session.specs.declared.view.View.{View}
use Rattle.viewer_session.specs.View.{IsRight, IsSound, IsNext, IsKept, CanBeKept, IsKeptAfter, IsPainted, ArePainted, AreAllPainted, Begins, GoesOn, AreStale, stale_at, is_there, is_stale_after}
use Rattle.viewer_session.specs.Shown.{IsPaintedOver, ArePaintedOver, AreAllPaintedOver, start_or}
use Rattle.viewer_session.specs.Noting.{IsNoted, AreNoted, AreAllNoted, BeginsUnpainted, NotesSlice}
use Rattle.viewer_session.proofs.Carried.{all_weaker, is_copied_more, moved_inside}
use Rattle.viewer_session.proofs.Joins.{given_up_stale, joined_stale}
use Rattle.viewer_session.proofs.Paintings.{Step, sound_on, HasGone, has_gone}

-- ---- a screen that would be painted

-- the screen of a screen's size that has a picture
abbrev pub made : Framebuffer → Picture → Framebuffer
made s p = record { width = s.width; height = s.height; slots = map (λ k. p (k % s.width) (k / s.width)) (range_with_len 0 (s.height * s.width)) }

made_has : (s : Framebuffer) (p : Picture) → Has (made s p) p
made_has s p x y across down =
    let f = λ (k : ℕ). p (k % s.width) (k / s.width) in
    get_or-map-range_with_len f 0 (s.height * s.width) (y * s.width + x) (y * s.width + x) (black x y) (omega (arith, mul-add-lt y s.width x s.height down across)) (omega arith)
    ∙ ap (λ (n : ℕ). p n ((y * s.width + x) / s.width)) (mod-mul-add y s.width x across)
    ∙ ap (λ (n : ℕ). p x n) (div-mul-add y s.width x across)

-- ---- what doesn't look at the screen

can_with : (v : View) (s : Framebuffer) (r : Rectangle) (bytes : List ℕ) (c : KeptCopy) → s.width ≡ v.screen.width → s.height ≡ v.screen.height → CanBeKept v r bytes c → CanBeKept (record v { screen = s }) r bytes c
can_with v s r bytes c wide high can = record { is = can.is; takes = can.takes; whole = can.whole; room = rw (wide, high) can.room; asked = can.asked; clean = can.clean }

can_without : (v : View) (s : Framebuffer) (r : Rectangle) (bytes : List ℕ) (c : KeptCopy) → s.width ≡ v.screen.width → s.height ≡ v.screen.height → CanBeKept (record v { screen = s }) r bytes c → CanBeKept v r bytes c
can_without v s r bytes c wide high can = record { is = can.is; takes = can.takes; whole = can.whole; room = rw (sym wide, sym high) can.room; asked = can.asked; clean = can.clean }

kept_after_with : (old new : View) (s t : Framebuffer) (r : Rectangle) (bytes : List ℕ) → s.width ≡ old.screen.width → s.height ≡ old.screen.height → IsKeptAfter old new r bytes → IsKeptAfter (record old { screen = s }) (record new { screen = t }) r bytes
kept_after_with old new s t r bytes wide high (inl keeps) =
    inl (record { copy = keeps.copy; can = can_with old s r bytes keeps.copy wide high keeps.can; keeps = keeps.keeps })
kept_after_with old new s t r bytes wide high (inr keeps) =
    inr (record { none = λ c can. keeps.none c (can_without old s r bytes c wide high can); copies = keeps.copies; left = keeps.left })

kept_with : (v : View) (s : Framebuffer) → s.width ≡ v.screen.width → s.height ≡ v.screen.height → (c : KeptCopy) → IsKept v c → IsKept (record v { screen = s }) c
kept_with v s wide high c kept = record { within = rw (wide, high) kept.within; asked = kept.asked }

pub sound_with : (v : View) (s : Framebuffer) → s.width ≡ v.screen.width → s.height ≡ v.screen.height → IsSound v → IsSound (record v { screen = s })
sound_with v s wide high sound = record {
  width = sound.width ∙ sym wide;
  height = sound.height ∙ sym high;
  pending = rw (wide, high) sound.pending;
  copies = all_weaker (IsKept v) (IsKept (record v { screen = s })) v.copies (kept_with v s wide high) sound.copies;
  few = sound.few;
}

-- ---- a rectangle

or_true : (a : Bool) → (a || true) ≡ true
or_true true = refl
or_true false = refl

-- which pixels are stale then
one_stale : (moved held here copied : Bool) → (moved ≡ true → here ≡ true) → ((moved || (held && not here)) || (copied || here)) ≡ (here || (held || copied))
one_stale true held true copied inside = refl
one_stale true held false copied inside = let e : false ≡ true = inside refl in absurd (cc)
one_stale false true true copied inside = or_true copied
one_stale false true false copied inside = refl
one_stale false false true copied inside = or_true copied
one_stale false false false true inside = refl
one_stale false false false false inside = refl

or_or : (a b c : Bool) → ((a || b) || c) ≡ (a || (b || c))
or_or true b c = refl
or_or false b c = refl

stale_after : (old new : View) (r : Rectangle) (bytes : List ℕ) (x y : ℕ) → sets.SameSize old.stale new.stale → IsKeptAfter old new r bytes → x < new.stale.width → y < new.stale.height → stale_at new x y ≡ (is_in r.area x y || stale_at old x y)
stale_after old new r bytes x y size (inl keeps) across down =
    let c = keeps.copy in
    let k = keeps.keeps in
    let left = k.moves.left in
    let a : x < k.moved.width = subst (λ (n : ℕ). x < n) (size.width ∙ sym k.size.width) across in
    let d : y < k.moved.height = subst (λ (n : ℕ). y < n) (size.height ∙ sym k.size.height) down in
    let b : x < k.beside.width = subst (λ (n : ℕ). x < n) (size.width ∙ sym k.beside_size.width) across in
    let e : y < k.beside.height = subst (λ (n : ℕ). y < n) (size.height ∙ sym k.beside_size.height) down in
    joined_stale k.sent (k.others ++ c ∷ []) new.copies k.moved new.stale k.joined x y across down
    ∙ ap (λ (t : Bool). t || is_copied (k.others ++ c ∷ []) x y) (left.left x y a d)
    ∙ ap (λ (t : Bool). (is_moved c left.stale x y || (holds k.beside x y && not (is_in c.area x y))) || t) (is_copied_more k.others c x y)
    ∙ one_stale (is_moved c left.stale x y) (holds k.beside x y) (is_in c.area x y) (is_copied k.others x y) (moved_inside c k.beside left.stale x y left.smallest)
    ∙ ap (λ (t : Bool). is_in c.area x y || t) (given_up_stale old.copies k.others old.stale k.beside k.gives_up x y b e)
    ∙ ap (λ (a : Area). is_in a x y || stale_at old x y) keeps.can.is.area
stale_after old new r bytes x y size (inr keeps) across down =
    ap (λ (b : Bool). b || is_copied new.copies x y) (keeps.left x y across down)
    ∙ ap (λ (l : List KeptCopy). (is_in r.area x y || holds old.stale x y) || is_copied l x y) keeps.copies
    ∙ or_or (is_in r.area x y) (holds old.stale x y) (is_copied old.copies x y)

pub noted_of : (old new : View) (r : Rectangle) (bytes : List ℕ) → IsSound old → sets.SameSize old.stale new.stale → new ≡ record old { stale = new.stale; copies = new.copies }
    → IsKeptAfter old new r (slice_range bytes r.start r.end) → IsNoted old new bytes r
noted_of old new r bytes sound size kept keeps =
    let screen : new.screen ≡ old.screen = ap (λ (v : View). v.screen) kept in
    record {
      stale_size = size;
      stale = λ x y across down.
          stale_after old new r (slice_range bytes r.start r.end) x y size keeps
          (subst (λ (k : ℕ). x < k) (ap (λ (f : Framebuffer). f.width) screen ∙ sym (size.width ∙ sound.width)) across)
          (subst (λ (k : ℕ). y < k) (ap (λ (f : Framebuffer). f.height) screen ∙ sym (size.height ∙ sound.height)) down);
      copies = keeps;
      kept = kept;
    }

pub noted_step : (bytes : List ℕ) (r : Rectangle) (old new : View) (s : Framebuffer) → s.width ≡ old.screen.width → s.height ≡ old.screen.height → IsNoted old new bytes r
    → IsPainted (record old { screen = s }) (record new { screen = made s (painted_rectangle bytes r (color_at s)) }) bytes r
noted_step bytes r old new s wide high is =
    let screen : new.screen ≡ old.screen = ap (λ (v : View). v.screen) is.kept in
    record {
      size = record { width = refl; height = refl };
      painted = made_has s (painted_rectangle bytes r (color_at s));
      stale_size = is.stale_size;
      stale = λ x y across down.
          is.stale x y (subst (λ (n : ℕ). x < n) (wide ∙ sym (ap (λ (f : Framebuffer). f.width) screen)) across)
          (subst (λ (n : ℕ). y < n) (high ∙ sym (ap (λ (f : Framebuffer). f.height) screen)) down);
      copies = kept_after_with old new s (made s (painted_rectangle bytes r (color_at s))) r (slice_range bytes r.start r.end) wide high is.copies;
      kept = ap (λ (v : View). record v { screen = made s (painted_rectangle bytes r (color_at s)) }) is.kept;
    }

pub noted_sound : (m : Host) (r : Rectangle) (old new : View) → IsPlaced m r → m.width ≡ old.screen.width → m.height ≡ old.screen.height → IsSound old → IsNoted old new m.bytes r → IsSound new
noted_sound m r old new placed wide high sound is =
    let screen : new.screen ≡ old.screen = ap (λ (v : View). v.screen) is.kept in
    let s = made old.screen (painted_rectangle m.bytes r (color_at old.screen)) in
    let step : Step m r old (record new { screen = s }) = record { placed = placed; wide = wide; high = high; sound = sound; is = noted_step m.bytes r old new old.screen refl refl is } in
    sound_with (record new { screen = s }) new.screen (ap (λ (f : Framebuffer). f.width) screen) (ap (λ (f : Framebuffer). f.height) screen) (sound_on m r old (record new { screen = s }) step)

-- ---- rectangles and messages

-- a screen that rectangles or messages would leave
pub record Leaves (P : Framebuffer → Type 0) (s : Framebuffer) : Type 0 where
  pub screen : Framebuffer
  pub width : screen.width ≡ s.width
  pub height : screen.height ≡ s.height
  pub is : P screen

pub noted_screen : (bytes : List ℕ) (rs : List Rectangle) (old new : View) → AreNoted bytes old new rs → new.screen ≡ old.screen
noted_screen bytes [] old new is = ap (λ (v : View). v.screen) is
noted_screen bytes (r ∷ rs) old new is = noted_screen bytes rs is.0 new is.2 ∙ ap (λ (v : View). v.screen) is.1.kept

would_paint : (bytes : List ℕ) (rs : List Rectangle) (old new : View) (s : Framebuffer) → s.width ≡ old.screen.width → s.height ≡ old.screen.height → AreNoted bytes old new rs
    → Leaves (λ t. ArePainted bytes (record old { screen = s }) (record new { screen = t }) rs) s
would_paint bytes [] old new s wide high is = record { screen = s; width = refl; height = refl; is = ap (λ (v : View). record v { screen = s }) is }
would_paint bytes (r ∷ rs) old new s wide high is =
    let mid = is.0 in
    let t = made s (painted_rectangle bytes r (color_at s)) in
    let screen : mid.screen ≡ old.screen = ap (λ (v : View). v.screen) is.1.kept in
    let rest = would_paint bytes rs mid new t (wide ∙ sym (ap (λ (f : Framebuffer). f.width) screen)) (high ∙ sym (ap (λ (f : Framebuffer). f.height) screen)) is.2 in
    record { screen = rest.screen; width = rest.width; height = rest.height; is = (record mid { screen = t }, noted_step bytes r old mid s wide high is.1, rest.is) }

would_paint_all : (ms : List Stamped) (old new : View) (s : Framebuffer) → s.width ≡ old.screen.width → s.height ≡ old.screen.height → AreAllNoted old new ms
    → Leaves (λ t. AreAllPainted (record old { screen = s }) (record new { screen = t }) ms) s
would_paint_all [] old new s wide high is = record { screen = s; width = refl; height = refl; is = ap (λ (v : View). record v { screen = s }) is }
would_paint_all (m ∷ ms) old new s wide high is =
    let mid = is.0 in
    let first = would_paint m.message.bytes m.message.rectangles old mid s wide high is.1 in
    let screen = noted_screen m.message.bytes m.message.rectangles old mid is.1 in
    let rest = would_paint_all ms mid new first.screen (first.width ∙ wide ∙ sym (ap (λ (f : Framebuffer). f.width) screen)) (first.height ∙ high ∙ sym (ap (λ (f : Framebuffer). f.height) screen)) is.2 in
    record { screen = rest.screen; width = rest.width ∙ first.width; height = rest.height ∙ first.height; is = (record mid { screen = first.screen }, first.is, rest.is) }

-- ---- a slice

would_begin : (old begun : View) (start : Option Framebuffer) (end : ℕ) → IfSome start (λ t. (t.width ≡ old.screen.width) × (t.height ≡ old.screen.height)) → BeginsUnpainted old begun start end → Begins old (record begun { screen = start_or start old.screen }) start end
would_begin old begun None end sized is = ap (λ (v : View). record v { screen = old.screen }) is
would_begin old begun (Some start) end sized is =
    let screen : begun.screen ≡ old.screen = ap (λ (v : View). v.screen) is.kept in
    record {
      stale = λ x y across down.
          is.stale x y (subst (λ (n : ℕ). x < n) (sized.0 ∙ sym (ap (λ (f : Framebuffer). f.width) screen)) across)
          (subst (λ (n : ℕ). y < n) (sized.1 ∙ sym (ap (λ (f : Framebuffer). f.height) screen)) down);
      kept = ap (λ (v : View). record v { screen = start }) is.kept;
    }

begun_screen : (old begun : View) (start : Option Framebuffer) (end : ℕ) → BeginsUnpainted old begun start end → begun.screen ≡ old.screen
begun_screen old begun None end is = ap (λ (v : View). v.screen) is
begun_screen old begun (Some start) end is = ap (λ (v : View). v.screen) is.kept

pub start_sized : (start : Option Framebuffer) (s : Framebuffer) → IfSome start (λ t. (t.width ≡ s.width) × (t.height ≡ s.height)) → ((start_or start s).width ≡ s.width) × ((start_or start s).height ≡ s.height)
start_sized None s is = (refl, refl)
start_sized (Some start) s is = (is.0, is.1)

-- what a view is that has gone on by a slice to a screen
pub record HasNoted (old new : View) (slice : Slice) (screen : Framebuffer) : Type 0 where
  pub sound : IsSound new
  pub stale : AreStale new (λ x y. is_stale_after slice x y || stale_at old x y)
  pub position : new.position ≡ slice.first + length slice.messages.items
  pub started : new.started ≡ (is_there slice.start || old.started)
  pub format : new.format ≡ old.format
  pub encoding : new.encoding ≡ old.encoding
  pub pending : new.pending ≡ old.pending
  pub right : (head : Head) → (seen : Picture) → (list : List Stamped) → IsRight head old seen list → Stands head list slice
      → IsScreenAt head list (slice.first + length slice.messages.items) screen → IsRight head new seen list

pub has_noted : (old new : View) (slice : Slice) (screen : Framebuffer) → IsNext old slice → screens.SameSize old.screen screen → (n : NotesSlice old new slice screen) → IsSound n.begun → HasNoted old new slice screen
has_noted old new slice screen next size n sound =
    let begun = n.begun in
    let noted = n.noted in
    let items = slice.messages.items in
    let s = start_or slice.start old.screen in
    let sized = start_sized slice.start old.screen next.start in
    let left = begun_screen old begun slice.start (slice.first + length items) n.begins in
    let wide : s.width ≡ begun.screen.width = sized.0 ∙ sym (ap (λ (f : Framebuffer). f.width) left) in
    let high : s.height ≡ begun.screen.height = sized.1 ∙ sym (ap (λ (f : Framebuffer). f.height) left) in
    let would = would_paint_all items begun noted s wide high n.notes in
    let t = would.screen in
    let goes : GoesOn old (record noted { screen = t }) slice = record { begun = record begun { screen = s }; begins = would_begin old begun slice.start (slice.first + length items) next.start n.begins; paints = would.is } in
    let gone : HasGone old (record noted { screen = t }) slice = has_gone old (record noted { screen = t }) slice next goes (sound_with begun s wide high sound) in
    let across : t.width ≡ screen.width = gone.size.width ∙ sym size.width in
    let down : t.height ≡ screen.height = gone.size.height ∙ sym size.height in
    subst (λ (v : View). HasNoted old v slice screen) (sym n.new_is) (record {
      sound = sound_with (record noted { screen = t }) screen (sym across) (sym down) gone.sound;
      stale = λ x y a d. gone.stale x y (subst (λ (k : ℕ). x < k) (sym across) a) (subst (λ (k : ℕ). y < k) (sym down) d);
      position = gone.position;
      started = gone.started;
      format = gone.format;
      encoding = gone.encoding;
      pending = gone.pending;
      right = λ head seen list right stands at.
          let r = gone.right head seen list right stands in
          let here : IsScreenAt head list noted.position screen = subst (λ (k : ℕ). IsScreenAt head list k screen) (sym gone.position) at in
          let same : (x y : ℕ) → x < screen.width → y < screen.height → color_at t x y ≡ color_at screen x y = λ x y a d.
          r.shows.shows x y (subst (λ (k : ℕ). x < k) (sym across) a) (subst (λ (k : ℕ). y < k) (sym down) d) ∙ sym (here.shows x y a d) in
          record {
            shows = here;
            converts = λ x y a d clean.
                r.converts x y (subst (λ (k : ℕ). x < k) (sym across) a) (subst (λ (k : ℕ). y < k) (sym down) d) clean ∙ ap (λ (k : Color). converted noted.format k) (same x y a d);
            copied = λ x y a d clean.
                r.copied x y (subst (λ (k : ℕ). x < k) (sym across) a) (subst (λ (k : ℕ). y < k) (sym down) d) clean ∙ ap (λ (k : Color). converted noted.format k) (same x y a d);
          };
    })

-- ---- a view that is painted first, and then noted

-- a size doesn't change
over_size : (bytes : List ℕ) (rs : List Rectangle) (old new : Framebuffer) → ArePaintedOver bytes old new rs → screens.SameSize old new
over_size bytes [] old new is = record { width = ap (λ (f : Framebuffer). f.width) is; height = ap (λ (f : Framebuffer). f.height) is }
over_size bytes (r ∷ rs) old new is =
    let rest = over_size bytes rs is.0 new is.2 in
    record { width = rest.width ∙ is.1.size.width; height = rest.height ∙ is.1.size.height }

-- a rectangle is noted, and painted on a screen of its own
step_over : (bytes : List ℕ) (r : Rectangle) (old new : View) (s t : Framebuffer) → s.width ≡ old.screen.width → s.height ≡ old.screen.height → IsNoted old new bytes r → IsPaintedOver s t bytes r
    → IsPainted (record old { screen = s }) (record new { screen = t }) bytes r
step_over bytes r old new s t wide high is on =
    let screen : new.screen ≡ old.screen = ap (λ (v : View). v.screen) is.kept in
    record {
      size = on.size;
      painted = on.painted;
      stale_size = is.stale_size;
      stale = λ x y across down.
          is.stale x y (subst (λ (n : ℕ). x < n) (on.size.width ∙ wide ∙ sym (ap (λ (f : Framebuffer). f.width) screen)) across)
          (subst (λ (n : ℕ). y < n) (on.size.height ∙ high ∙ sym (ap (λ (f : Framebuffer). f.height) screen)) down);
      copies = kept_after_with old new s t r (slice_range bytes r.start r.end) wide high is.copies;
      kept = ap (λ (v : View). record v { screen = t }) is.kept;
    }

paints_over : (bytes : List ℕ) (rs : List Rectangle) (old new : View) (s t : Framebuffer) → s.width ≡ old.screen.width → s.height ≡ old.screen.height → AreNoted bytes old new rs
    → ArePaintedOver bytes s t rs → ArePainted bytes (record old { screen = s }) (record new { screen = t }) rs
paints_over bytes [] old new s t wide high is on = ap (λ (v : View). record v { screen = t }) is ∙ ap (λ (f : Framebuffer). record old { screen = f }) on
paints_over bytes (r ∷ rs) old new s t wide high is on =
    let mid = is.0 in
    let u = on.0 in
    let screen : mid.screen ≡ old.screen = ap (λ (v : View). v.screen) is.1.kept in
    let size = on.1.size in
    let rest = paints_over bytes rs mid new u t (size.width ∙ wide ∙ sym (ap (λ (f : Framebuffer). f.width) screen)) (size.height ∙ high ∙ sym (ap (λ (f : Framebuffer). f.height) screen)) is.2 on.2 in
    (record mid { screen = u }, step_over bytes r old mid s u wide high is.1 on.1, rest)

paints_all_over : (ms : List Stamped) (old new : View) (s t : Framebuffer) → s.width ≡ old.screen.width → s.height ≡ old.screen.height → AreAllNoted old new ms
    → AreAllPaintedOver s t ms → AreAllPainted (record old { screen = s }) (record new { screen = t }) ms
paints_all_over [] old new s t wide high is on = ap (λ (v : View). record v { screen = t }) is ∙ ap (λ (f : Framebuffer). record old { screen = f }) on
paints_all_over (m ∷ ms) old new s t wide high is on =
    let mid = is.0 in
    let u = on.0 in
    let first = paints_over m.message.bytes m.message.rectangles old mid s u wide high is.1 on.1 in
    let screen = noted_screen m.message.bytes m.message.rectangles old mid is.1 in
    let size = over_size m.message.bytes m.message.rectangles s u on.1 in
    let rest = paints_all_over ms mid new u t (size.width ∙ wide ∙ sym (ap (λ (f : Framebuffer). f.width) screen)) (size.height ∙ high ∙ sym (ap (λ (f : Framebuffer). f.height) screen)) is.2 on.2 in
    (record mid { screen = u }, first, rest)

-- a view whose screen is painted already begins on a slice as one does whose screen isn't
begins_over : (old begun : View) (t : Framebuffer) (start : Option Framebuffer) (end : ℕ) → screens.SameSize old.screen t → IfSome start (λ f. (f.width ≡ old.screen.width) × (f.height ≡ old.screen.height))
    → BeginsUnpainted (record old { screen = t }) begun start end → Begins old (record begun { screen = start_or start old.screen }) start end
begins_over old begun t None end size sized is = ap (λ (v : View). record v { screen = old.screen }) is
begins_over old begun t (Some start) end size sized is =
    let screen : begun.screen ≡ t = ap (λ (v : View). v.screen) is.kept in
    record {
      stale = λ x y across down.
          is.stale x y (subst (λ (n : ℕ). x < n) (sized.0 ∙ sym size.width ∙ sym (ap (λ (f : Framebuffer). f.width) screen)) across)
          (subst (λ (n : ℕ). y < n) (sized.1 ∙ sym size.height ∙ sym (ap (λ (f : Framebuffer). f.height) screen)) down);
      kept = ap (λ (v : View). record v { screen = start }) is.kept;
    }

-- a view of another screen of its size
pub next_with : (v : View) (t : Framebuffer) (slice : Slice) → screens.SameSize v.screen t → IsNext v slice → IsNext (record v { screen = t }) slice
next_with v t slice size next = record {
  each = rw (size.width, size.height) next.each;
  start = rw (size.width, size.height) next.start;
  joined = next.joined;
  counted = next.counted;
}

-- What a view does that paints a slice, and then notes it.
pub record Advances (old new : View) (slice : Slice) : Type 0 where
  pub goes : GoesOn old new slice
  pub gone : HasGone old new slice

pub has_advanced : (old begun noted : View) (slice : Slice) (t : Framebuffer) → IsNext old slice → screens.SameSize old.screen t → AreAllPaintedOver (start_or slice.start old.screen) t slice.messages.items
    → BeginsUnpainted (record old { screen = t }) begun slice.start (slice.first + length slice.messages.items) → IsSound begun → AreAllNoted begun noted slice.messages.items → noted.screen ≡ t
    → Advances old noted slice
has_advanced old begun noted slice t next size painted begins sound notes shown =
    let items = slice.messages.items in
    let end : ℕ = slice.first + length items in
    let s = start_or slice.start old.screen in
    let sized = start_sized slice.start old.screen next.start in
    let left : begun.screen ≡ t = begun_screen (record old { screen = t }) begun slice.start end begins in
    let wide : s.width ≡ begun.screen.width = sized.0 ∙ sym size.width ∙ sym (ap (λ (f : Framebuffer). f.width) left) in
    let high : s.height ≡ begun.screen.height = sized.1 ∙ sym size.height ∙ sym (ap (λ (f : Framebuffer). f.height) left) in
    let goes : GoesOn old (record noted { screen = t }) slice = record {
      begun = record begun { screen = s };
      begins = begins_over old begun t slice.start end size next.start begins;
      paints = paints_all_over items begun noted s t wide high notes painted;
    } in
    let gone : HasGone old (record noted { screen = t }) slice = has_gone old (record noted { screen = t }) slice next goes (sound_with begun s wide high sound) in
    let here : Advances old (record noted { screen = t }) slice = record { goes = goes; gone = gone } in
    subst (λ (f : Framebuffer). Advances old (record noted { screen = f }) slice) (sym shown) here
