-- How a view goes on by a slice, if its screen is painted by somebody else.
use Rattle.std.specs.Prelude.{◌≡◌, ℕ, ◌+◌, true, ◌||◌, List, [], ◌∷◌, length, slice_range, Option, Some, None}
use Rattle.terms.specs.Area.{is_in}
use Rattle.rfb_wire.specs.declared.message.Rectangle.{Rectangle}
use Rattle.painter.specs.Framebuffer.{Framebuffer}
use Rattle.keyed_entries.specs.declared.entry.Stamped.{Stamped}
use Rattle.replay.specs.declared.slice.Slice.{Slice}
use Rattle.pixel_sets.specs.Pixels as sets
use Rattle.viewer_session.specs.declared.view.View.{View}
use Rattle.viewer_session.specs.View.{AreStale, stale_at, IsKeptAfter}

-- A view notes a rectangle of a message's bytes: its pixels are stale, and nothing is painted.
pub record IsNoted (old new : View) (bytes : List ℕ) (r : Rectangle) : Type 0 where
  pub stale_size : sets.SameSize old.stale new.stale
  pub stale : AreStale new (λ x y. is_in r.area x y || stale_at old x y)
  pub copies : IsKeptAfter old new r (slice_range bytes r.start r.end)
  pub kept : new ≡ record old { stale = new.stale; copies = new.copies }

-- rectangles, one after another
abbrev pub AreNoted : List ℕ → View → View → List Rectangle → Type 0
AreNoted bytes old new [] = new ≡ old
AreNoted bytes old new (r ∷ rs) = (v : View) × IsNoted old v bytes r × AreNoted bytes v new rs

-- and messages
abbrev pub AreAllNoted : View → View → List Stamped → Type 0
AreAllNoted old new [] = new ≡ old
AreAllNoted old new (m ∷ ms) = (v : View) × AreNoted m.message.bytes old v m.message.rectangles × AreAllNoted v new ms

-- A view begins at a slice's start with no copies and all pixels stale, or goes on. It is then to stand
-- at this position, and its screen is to come.
pub record StartsUnpainted (old new : View) (end : ℕ) : Type 0 where
  pub stale : AreStale new (λ x y. true)
  pub kept : new ≡ record old { stale = new.stale; started = true; copies = []; position = end }

abbrev pub BeginsUnpainted : View → View → Option Framebuffer → ℕ → Type 0
BeginsUnpainted old new None end = new ≡ record old { position = end }
BeginsUnpainted old new (Some start) end = StartsUnpainted old new end

-- A view goes on by a slice: it notes its messages, and takes this screen over.
pub record NotesSlice (old new : View) (slice : Slice) (screen : Framebuffer) : Type 0 where
  pub begun : View
  pub begins : BeginsUnpainted old begun slice.start (slice.first + length slice.messages.items)
  pub noted : View
  pub notes : AreAllNoted begun noted slice.messages.items
  pub new_is : new ≡ record noted { screen = screen }
