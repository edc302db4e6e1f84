-- What a view shows, and how messages are painted over it.
use Rattle.std.specs.Prelude.{◌≡◌, ℕ, List, [], ◌∷◌, Option, Some, None}
use Rattle.rfb_wire.specs.declared.message.Rectangle.{Rectangle}
use Rattle.painter.specs.Framebuffer.{Framebuffer, Has, SameSize, color_at}
use Rattle.painter.specs.Picture.{painted_rectangle}
use Rattle.keyed_entries.specs.declared.entry.Stamped.{Stamped}
use Rattle.viewer_session.specs.declared.shown.Surface.{Surface}
use Rattle.viewer_session.specs.declared.shown.Surface.TheVariants.{Given, Own}

abbrev pub shown_of : Surface → Framebuffer
shown_of (Given snapshot) = snapshot
shown_of (Own screen) = screen

-- the screen on which a slice's messages are painted: its start, or the one that is shown
abbrev pub start_or : Option Framebuffer → Framebuffer → Framebuffer
start_or None screen = screen
start_or (Some start) screen = start

-- A rectangle of a message's bytes is painted over a screen.
pub record IsPaintedOver (old new : Framebuffer) (bytes : List ℕ) (r : Rectangle) : Type 0 where
  pub size : SameSize old new
  pub painted : Has new (painted_rectangle bytes r (color_at old))

-- rectangles, one after another
abbrev pub ArePaintedOver : List ℕ → Framebuffer → Framebuffer → List Rectangle → Type 0
ArePaintedOver bytes old new [] = new ≡ old
ArePaintedOver bytes old new (r ∷ rs) = (s : Framebuffer) × IsPaintedOver old s bytes r × ArePaintedOver bytes s new rs

-- and messages
abbrev pub AreAllPaintedOver : Framebuffer → Framebuffer → List Stamped → Type 0
AreAllPaintedOver old new [] = new ≡ old
AreAllPaintedOver old new (m ∷ ms) = (s : Framebuffer) × ArePaintedOver m.message.bytes old s m.message.rectangles × AreAllPaintedOver s new ms
