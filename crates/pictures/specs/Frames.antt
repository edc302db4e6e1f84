-- The frames of a video of a recording: when they are, and what they show.
use Rattle.std.specs.Prelude.{◌≡◌, Option, ℕ, zero, suc, ◌+◌, ◌-◌, ◌*◌, ◌/◌, ◌^◌, ◌<◌, ◌≤◌, ◌↔◌, min, List, [], ◌++◌}
use Rattle.std.specs.Io.KnownBytes.{Appends}
use Rattle.gated_journal.specs.Recording.{Head}
use Rattle.painter.specs.Framebuffer.{Framebuffer, color_at}
use Rattle.keyed_entries.specs.declared.entry.Stamped.{Stamped}
use Rattle.replay.specs.Screens.{IsScreenAt}
use Rattle.pictures.specs.declared.picture.PictureFormat.TheVariants.{Ppm}
use Rattle.replay.specs.Moments.{IsShownAt}
use Rattle.pictures.specs.Pictures.{picture_text}

-- The moment of frame k, counted from 0, of so many a second from a moment on: in milliseconds,
-- rounded down.
abbrev pub frame_moment : ℕ → ℕ → ℕ → ℕ
frame_moment from rate k = from + k * 1000 / rate

-- The picture of a moment of a recording: a PPM file of the screen that the messages which have come
-- by then paint.
pub record IsFrame (h : Head) (messages : List Stamped) (moment : ℕ) (text : List ℕ) : Type 0 where
  pub count : ℕ
  pub screen : Framebuffer
  pub shown : IsShownAt moment messages count
  pub painted : IsScreenAt h messages count screen
  pub text_is : text ≡ picture_text Ppm screen.width screen.height (color_at screen)

-- the first so many frames, one after the other
abbrev pub AreFrames : Head → List Stamped → ℕ → ℕ → ℕ → List ℕ → Type 0
AreFrames h messages from rate zero text = text ≡ []
AreFrames h messages from rate (suc k) text = (front : List ℕ) × (last : List ℕ)
    × (AreFrames h messages from rate k front) × (IsFrame h messages (frame_moment from rate k) last) × (text ≡ front ++ last)

-- The first frames of a video, so many a second from a moment on: none of them is later than `to`.
pub record AreFirstFrames (h : Head) (messages : List Stamped) (from to rate : ℕ) (text : List ℕ) : Type 0 where
  pub count : ℕ
  pub within : (k : ℕ) → k < count → frame_moment from rate k ≤ to
  pub frames : AreFrames h messages from rate count text

-- All frames from a moment to another, so many a second: those that aren't later than the second.
pub record IsVideo (h : Head) (messages : List Stamped) (from to rate : ℕ) (text : List ℕ) : Type 0 where
  pub count : ℕ
  pub all : (k : ℕ) → (k < count) ↔ (frame_moment from rate k ≤ to)
  pub frames : AreFrames h messages from rate count text

-- The moment at which a video ends that is to show all that came until `last`: that of its first
-- frame which isn't before it, or the latest of 32 bits if that frame would be later.
pub record IsVideoEnd (from rate last end : ℕ) : Type 0 where
  pub frame : ℕ
  pub reached : last ≤ frame_moment from rate frame
  pub first : (k : ℕ) → k < frame → frame_moment from rate k < last
  pub end_is : end ≡ min (frame_moment from rate frame) (2 ^ 32 - 1)

-- a text that has P is written after what stood there, as far as that is known
abbrev pub Writes : (old new : Option (List ℕ)) (P : List ℕ → Type 0) → Type 0
Writes old new P = (text : List ℕ) × P text × Appends old new text
