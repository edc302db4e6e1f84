-- What a viewer has of a recording's screen, and what it lacks.
use Rattle.std.specs.Prelude.{◌≡◌, ℕ, ℤ, pos, ◌⊎◌, nat_lt, ◌+◌, ◌<◌, ◌≤◌, ◌^◌, All, Bool, true, false, not, ◌&&◌, ◌||◌, List, [], ◌∷◌, ◌++◌, length, map, slice_range, Option, Some, None, IfSome}
use Rattle.std.specs.List.{AllByRecursion, list_any}
use Rattle.std.specs.Ordering.{int_eq}
use Rattle.pixel_format.specs.Format.{Format}
use Rattle.pixel_format.specs.Pixel.{converted}
use Rattle.terms.specs.Reading.{Got}
use Rattle.pixel_format.specs.Canvas.{Picture}
use Rattle.terms.specs.declared.area.Area.{Area}
use Rattle.client_wire.specs.declared.message.ClientMessage.{ClientMessage}
use Rattle.client_wire.specs.declared.message.ClientMessage.TheVariants as messages
use Rattle.rect_data.specs.declared.encoding.Encoding.TheVariants as encodings
use Rattle.rect_codec.specs.Encoding.{StandsFirst, IsOther}
use Rattle.terms.specs.Area.{is_in, IsSmallest, IsSmallestOf}
use Rattle.rect_data.specs.Grammar.{source_of}
use Rattle.rect_codec.specs.Parts.{DrawsCopy}
use Rattle.rect_codec.specs.Update.{Drawn, update_at, all_painted}
use Rattle.rfb_wire.specs.declared.message.Rectangle.{Rectangle}
use Rattle.painter.specs.Framebuffer.{Framebuffer, Has, SameSize, color_at}
use Rattle.painter.specs.Picture.{painted_rectangle}
use Rattle.gated_journal.specs.Recording.{Head}
use Rattle.keyed_entries.specs.declared.entry.Stamped.{Stamped}
use Rattle.keyed_entries.specs.Entry.{IsStampedOf}
use Rattle.replay.specs.Screens.{IsScreenAt}
use Rattle.replay.specs.declared.slice.Slice.{Slice}
use Rattle.pixel_sets.specs.Pixels.{PixelSet, holds, AreJust, AreSent}
use Rattle.pixel_sets.specs.Pixels as sets
use Rattle.shared_updates.specs.declared.copy.KeptCopy.{KeptCopy}
use Rattle.viewer_session.specs.declared.view.View.{View}
use Rattle.shared_updates.specs.Copies.{source, IsPart, IsCopyWithin, is_copied, all_copied, is_moved, moved_by, lies_in, all_in, AreJoined, GivesUpLast, HasRoom}

-- The pixel is stale: the viewer may not show its colour. It is to be sent it, or can copy it.
abbrev pub stale_at : View → ℕ → ℕ → Bool
stale_at v x y = holds v.stale x y || is_copied v.copies x y

-- just the pixels that pass this test are stale
abbrev pub AreStale : View → (ℕ → ℕ → Bool) → Type 0
AreStale v p = (x y : ℕ) → x < v.screen.width → y < v.screen.height → stale_at v x y ≡ p x y

-- The right view, of a viewer's picture and a list of messages: the session's screen is what the
-- messages before its position paint, and the viewer has the screen's colour, in its own format, at
-- each pixel that isn't stale. Once the viewer has carried out the copies that are kept, it has that
-- at each pixel that isn't to be sent.
pub record IsRight (head : Head) (v : View) (seen : Picture) (messages : List Stamped) : Type 0 where
  pub shows : IsScreenAt head messages v.position v.screen
  pub converts : (x y : ℕ) → x < v.screen.width → y < v.screen.height → stale_at v x y ≡ false
      → seen x y ≡ converted v.format (color_at v.screen x y)
  pub copied : (x y : ℕ) → x < v.screen.width → y < v.screen.height → holds v.stale x y ≡ false
      → all_copied v.copies seen x y ≡ converted v.format (color_at v.screen x y)

-- all pixels that a copy goes to are asked for, if any are
abbrev pub IsAskedFor : Option Area → Area → Type 0
IsAskedFor pending area = IfSome pending (λ p. lies_in area p ≡ true)

-- a copy that is kept lies on the screen, and in what is asked for
pub record IsKept (v : View) (c : KeptCopy) : Type 0 where
  pub within : IsCopyWithin v.screen.width v.screen.height c
  pub asked : IsAskedFor v.pending c.area

-- what always holds of a view: its sizes agree, and the pending area and the kept copies are parts of
-- the screen
pub record IsSound (v : View) : Type 0 where
  pub width : v.stale.width ≡ v.screen.width
  pub height : v.stale.height ≡ v.screen.height
  pub pending : IfSome v.pending (IsPart v.screen.width v.screen.height)
  pub copies : AllByRecursion (IsKept v) v.copies
  pub few : length v.copies ≤ 64

-- ---- what comes of the recording

-- a rectangle covers the pixel
abbrev pub is_touched : List Rectangle → ℕ → ℕ → Bool
is_touched [] x y = false
is_touched (r ∷ rs) x y = is_in r.area x y || is_touched rs x y

-- a rectangle of one of the messages covers it
abbrev pub is_touched_by : List Stamped → ℕ → ℕ → Bool
is_touched_by [] x y = false
is_touched_by (m ∷ ms) x y = is_touched m.message.rectangles x y || is_touched_by ms x y

abbrev pub is_there : {X : Type 0} → Option X → Bool
is_there None = false
is_there (Some x) = true

-- a start makes each pixel stale, and a painted rectangle its pixels
abbrev pub is_stale_after : Slice → ℕ → ℕ → Bool
is_stale_after slice x y = is_there slice.start || is_touched_by slice.messages.items x y

-- a slice by which a view may advance: of its size, with a start or from its position on
pub record IsNext (v : View) (slice : Slice) : Type 0 where
  pub each : AllByRecursion (IsStampedOf v.screen.width v.screen.height) slice.messages.items
  pub start : IfSome slice.start (λ s. (s.width ≡ v.screen.width) × (s.height ≡ v.screen.height))
  pub joined : slice.start ≡ None → slice.first ≡ v.position
  pub counted : slice.first + length slice.messages.items < 2 ^ 64

-- the copy that a rectangle makes, whose data these are: it is of some pixels
pub record IsCopyBy (r : Rectangle) (bytes : List ℕ) (c : KeptCopy) : Type 0 where
  pub encoding : r.encoding ≡ encodings.CopyRect
  pub area : c.area ≡ r.area
  pub source_is : source c ≡ source_of r.area bytes
  pub across : 0 < r.area.w
  pub down : 0 < r.area.h

-- A viewer that takes copies, and hasn't asked for what it may have already, may be sent it instead
-- of what the rectangle paints: there is room for it, all its pixels are asked for if any are, and
-- the stale ones among those that are copied don't reach all of their edges.
pub record CanBeKept (v : View) (r : Rectangle) (bytes : List ℕ) (c : KeptCopy) : Type 0 where
  pub is : IsCopyBy r bytes c
  pub takes : v.takes_copies ≡ true
  pub whole : v.asked_whole ≡ false
  pub room : HasRoom v.screen.width v.screen.height v.copies c.area
  pub asked : IsAskedFor v.pending c.area
  pub clean : IsSmallest (λ x y. is_in (source c) x y && holds v.stale x y) (source c) → ⊥

-- The pixels to be sent, once a copy is kept. Where it takes the smallest area that holds those among
-- the ones that are copied, pixels are to be sent; its others needn't be.
pub record AreLeft (copy : KeptCopy) (old new : PixelSet) : Type 0 where
  pub stale : Option Area
  pub smallest : IsSmallestOf (λ x y. is_in (source copy) x y && holds old x y) stale
  pub left : AreJust new (λ x y. is_moved copy stale x y || (holds old x y && not (is_in copy.area x y)))

-- the area in which they are then, if there are any
abbrev pub moved_to : KeptCopy → Option Area → Option Area
moved_to copy None = None
moved_to copy (Some area) = Some (moved_by copy area)

pub record Moves (copy : KeptCopy) (old new : PixelSet) (sent : Option Area) : Type 0 where
  pub left : AreLeft copy old new
  pub sent_is : sent ≡ moved_to copy left.stale

-- A copy is kept after the others, or as one with the last of them: then the rest of what the two go to
-- is to be sent. Some of the last may be given up before.
pub record Keeps (copy : KeptCopy) (old : List KeptCopy) (stale : PixelSet) (new : List KeptCopy) (lost : PixelSet) : Type 0 where
  pub others : List KeptCopy
  pub beside : PixelSet
  pub beside_size : sets.SameSize stale beside
  pub gives_up : GivesUpLast old stale others beside
  pub moved : PixelSet
  pub size : sets.SameSize stale moved
  pub sent : Option Area
  pub moves : Moves copy beside moved sent
  pub joined : AreJoined sent (others ++ copy ∷ []) moved new lost

-- The rectangle's copy is kept.
pub record KeepsCopy (old new : View) (r : Rectangle) (bytes : List ℕ) : Type 0 where
  pub copy : KeptCopy
  pub can : CanBeKept old r bytes copy
  pub keeps : Keeps copy old.copies old.stale new.copies new.stale

-- It makes none that can be kept, and its pixels are to be sent.
pub record KeepsNone (old new : View) (r : Rectangle) (bytes : List ℕ) : Type 0 where
  pub none : (c : KeptCopy) → CanBeKept old r bytes c → ⊥
  pub copies : new.copies ≡ old.copies
  pub left : AreJust new.stale (λ x y. is_in r.area x y || holds old.stale x y)

-- what a view keeps and lacks once it notes a rectangle, whose data these are
abbrev pub IsKeptAfter : View → View → Rectangle → List ℕ → Type 0
IsKeptAfter old new r bytes = KeepsCopy old new r bytes ⊎ KeepsNone old new r bytes

-- A view paints a rectangle of a message's bytes, and its pixels are stale.
pub record IsPainted (old new : View) (bytes : List ℕ) (r : Rectangle) : Type 0 where
  pub size : SameSize old.screen new.screen
  pub painted : Has new.screen (painted_rectangle bytes r (color_at old.screen))
  pub stale_size : sets.SameSize old.stale new.stale
  pub stale : AreStale new (λ x y. is_in r.area x y || stale_at old x y)
  pub copies : IsKeptAfter old new r (slice_range bytes r.start r.end)
  pub kept : new ≡ record old { screen = new.screen; stale = new.stale; copies = new.copies }

-- rectangles, one after another
abbrev pub ArePainted : List ℕ → View → View → List Rectangle → Type 0
ArePainted bytes old new [] = new ≡ old
ArePainted bytes old new (r ∷ rs) = (v : View) × IsPainted old v bytes r × ArePainted bytes v new rs

-- and messages
abbrev pub AreAllPainted : View → View → List Stamped → Type 0
AreAllPainted old new [] = new ≡ old
AreAllPainted old new (m ∷ ms) = (v : View) × ArePainted m.message.bytes old v m.message.rectangles × AreAllPainted v new ms

-- A view begins at a slice's start, with no copies and all pixels stale; or goes on from its own
-- screen. It is then to stand at this position.
pub record Starts (old new : View) (start : Framebuffer) (end : ℕ) : Type 0 where
  pub stale : AreStale new (λ x y. true)
  pub kept : new ≡ record old { screen = start; stale = new.stale; started = true; copies = []; position = end }

abbrev pub Begins : View → View → Option Framebuffer → ℕ → Type 0
Begins old new None end = new ≡ record old { position = end }
Begins old new (Some start) end = Starts old new start end

-- A view goes on by a slice, and paints its messages.
pub record GoesOn (old new : View) (slice : Slice) : Type 0 where
  pub begun : View
  pub begins : Begins old begun slice.start (slice.first + length slice.messages.items)
  pub paints : AreAllPainted begun new slice.messages.items

-- ---- what is answered

-- the pixel is asked for
abbrev pub is_pending : Option Area → ℕ → ℕ → Bool
is_pending None x y = false
is_pending (Some area) x y = is_in area x y

-- what is left of an area that is asked for: its pixels that are on the screen
abbrev pub is_left : ℕ → ℕ → Area → ℕ → ℕ → Bool
is_left width height area x y = is_in area x y && (nat_lt x width && nat_lt y height)

-- What is pending once an area was asked for: the smallest area that holds what was pending and
-- what is left of this one; and what was pending, if nothing is left.
pub record IsWidened (left : ℕ → ℕ → Bool) (old new : Option Area) : Type 0 where
  pub some : (x y : ℕ) → left x y ≡ true → IsSmallestOf (λ a b. is_pending old a b || left a b) new
  pub none : ((x y : ℕ) → left x y ≡ true → ⊥) → new ≡ old

-- Some pixel passes the test of what the viewer asks for whole: no copy is kept.
pub record AsksWhole (whole : ℕ → ℕ → Bool) (new : View) : Type 0 where
  pub x : ℕ
  pub y : ℕ
  pub passes : whole x y ≡ true
  pub copies : new.copies ≡ []
  pub asked_whole : new.asked_whole ≡ true

-- All that the copies go to is asked for, and they are kept on.
pub record KeepsOn (old new : View) : Type 0 where
  pub asked : IfSome new.pending (λ p. all_in old.copies p ≡ true)
  pub copies : new.copies ≡ old.copies
  pub stale : new.stale ≡ old.stale

-- Some of it isn't, and no copy is kept.
pub record GivesUp (old new : View) : Type 0 where
  pub asked : IfSome new.pending (λ p. all_in old.copies p ≡ false)
  pub copies : new.copies ≡ []

-- or none does
pub record AsksChanges (whole : ℕ → ℕ → Bool) (old new : View) : Type 0 where
  pub none : (x y : ℕ) → whole x y ≡ true → ⊥
  pub copies : KeepsOn old new ⊎ GivesUp old new
  pub asked_whole : new.asked_whole ≡ old.asked_whole

abbrev pub Asks : (ℕ → ℕ → Bool) → View → View → Type 0
Asks whole old new = AsksWhole whole new ⊎ AsksChanges whole old new

-- A request is taken: without the flag incremental its pixels are stale, and the area that is asked
-- for is asked for whole.
pub record IsAsked (old new : View) (incremental : Bool) (area : Area) : Type 0 where
  pub stale : AreStale new (λ x y. (not incremental && is_left old.screen.width old.screen.height area x y) || stale_at old x y)
  pub pending : IsWidened (is_left old.screen.width old.screen.height area) old.pending new.pending
  pub whole : Asks (λ x y. not incremental && is_left old.screen.width old.screen.height area x y) old new
  pub kept : new ≡ record old { stale = new.stale; pending = new.pending; asked_whole = new.asked_whole; copies = new.copies }

-- A format is taken: all pixels are stale, and no copy is kept.
pub record IsReformatted (old new : View) (f : Format) : Type 0 where
  pub stale : AreStale new (λ x y. true)
  pub kept : new ≡ record old { format = f; stale = new.stale; copies = [] }

-- the list has CopyRect's number
abbrev pub takes_copies : List ℤ → Bool
takes_copies numbers = list_any (λ n. int_eq n (pos 1)) numbers

-- Encodings are taken: updates are in the first that is known, and in Raw if none is; copies are
-- sent if CopyRect is among them. No copy is kept, and the same pixels are stale.
pub record IsReencoded (old new : View) (numbers : List ℤ) : Type 0 where
  pub given : StandsFirst numbers new.encoding ⊎ (All IsOther numbers × (new.encoding ≡ encodings.Raw))
  pub stale : AreStale new (stale_at old)
  pub kept : new ≡ record old { encoding = new.encoding; takes_copies = takes_copies numbers; stale = new.stale; copies = [] }

-- what a message of the viewer changes
abbrev pub IsTaken : View → View → ClientMessage → Type 0
IsTaken old new (messages.SetPixelFormat f) = IsReformatted old new f
IsTaken old new (messages.SetEncodings numbers) = IsReencoded old new numbers
IsTaken old new (messages.Request incremental area) = IsAsked old new incremental area
IsTaken old new (messages.Input kind) = new ≡ old

-- what messages change, one after another
abbrev pub AreTaken : View → View → List ClientMessage → Type 0
AreTaken old new [] = new ≡ old
AreTaken old new (m ∷ ms) = (v : View) × IsTaken old v m × AreTaken v new ms

-- An update is due: a start has come, and a pixel that is asked for is stale.
pub record IsDue (v : View) : Type 0 where
  pub started : v.started ≡ true
  pub x : ℕ
  pub y : ℕ
  pub asked : is_pending v.pending x y ≡ true
  pub stale : stale_at v x y ≡ true

-- An update is due, and these are the areas by which the pixels are sent that are asked for, and that
-- the copies don't bring: of each tile that has some the smallest that holds those, or one for all if
-- there would be too many.
pub record AreDueIn (v : View) (areas : List Area) : Type 0 where
  pub due : IsDue v
  pub pending : Area
  pub pending_is : v.pending ≡ Some pending
  pub sent : AreSent v.stale pending areas

-- one of the rectangles of an update covers the pixel
abbrev pub is_covered : List Drawn → ℕ → ℕ → Bool
is_covered [] x y = false
is_covered (d ∷ ds) x y = is_in d.area x y || is_covered ds x y

-- An update answers what is asked for. A viewer reads it, in its format, as rectangles that lie in
-- the pending area and cover the stale pixels there. Those that they cover are clean afterwards,
-- and no others. Once the viewer has painted them its view is right if it was before, and shows the
-- converted screen in the whole area that was asked for.
pub record Answers (old new : View) (update : List ℕ) : Type 0 where
  pub drawn : List Drawn
  pub reads : update_at old.format old.screen.width old.screen.height update ≡ Got drawn []
  pub inside : AllByRecursion (λ d. (x y : ℕ) → is_in d.area x y ≡ true → is_pending old.pending x y ≡ true) drawn
  pub covers : (x y : ℕ) → is_pending old.pending x y ≡ true → stale_at old x y ≡ true → is_covered drawn x y ≡ true
  pub clean : AreStale new (λ x y. stale_at old x y && not (is_covered drawn x y))
  pub right : (head : Head) → (seen : Picture) → (messages : List Stamped) → IsRight head old seen messages
      → IsRight head new (all_painted old.format drawn seen) messages
  pub shown : (head : Head) → (seen : Picture) → (messages : List Stamped) → IsRight head old seen messages
      → (x y : ℕ) → is_pending old.pending x y ≡ true
      → all_painted old.format drawn seen x y ≡ converted old.format (color_at old.screen x y)
  -- nothing is asked for any more, and all else is as it was
  pub kept : new ≡ record old { stale = new.stale; pending = None; asked_whole = false; copies = [] }

-- a rectangle for each copy, and one for each area, in their order
abbrev pub AreDrawn : Format → List KeptCopy → List Area → List Drawn → Type 0
AreDrawn f [] areas drawn = map (λ d. d.area) drawn ≡ areas
AreDrawn f (c ∷ cs) areas [] = ⊥
AreDrawn f (c ∷ cs) areas (d ∷ drawn) = DrawsCopy f c.area c.source_x c.source_y d × AreDrawn f cs areas drawn

-- the update begins with the copies that are kept, and has a rectangle for each area that is due
pub record HasAreasDue (old : View) (update : List ℕ) : Type 0 where
  pub drawn : List Drawn
  pub reads : update_at old.format old.screen.width old.screen.height update ≡ Got drawn []
  pub areas : List Area
  pub due : AreDueIn old areas
  pub are : AreDrawn old.format old.copies areas drawn
