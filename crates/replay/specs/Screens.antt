-- The screens of a recording.
use Rattle.std.specs.Prelude.{◌≡◌, ℕ, List, take}
use Rattle.gated_journal.specs.Recording.{Head}
use Rattle.keyed_entries.specs.Framebuffer.{Framebuffer, Shows}
use Rattle.keyed_entries.specs.declared.entry.Stamped.{Stamped}
use Rattle.keyed_entries.specs.Entry.{hosts_of}

-- a screen of the recording's size that shows what the first n of these messages paint from black
pub record IsScreenAt (head : Head) (messages : List Stamped) (n : ℕ) (screen : Framebuffer) : Type 0 where
  pub width_is : screen.width ≡ head.width
  pub height_is : screen.height ≡ head.height
  pub shows : Shows screen (hosts_of (take n messages))

-- the state of a replay: the screen after so many messages
pub record Playing : Type 0 where
  pub screen : Framebuffer
  pub position : ℕ
