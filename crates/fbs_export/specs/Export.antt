-- The text of an exported recording.
use Rattle.std.specs.Prelude.{ℕ, suc, zero, ◌+◌, ◌-◌, List, [], ◌∷◌, ◌++◌, length, take, drop, replicate}
use Rattle.std.specs.Prelude.{map}
use Rattle.rfb_wire.specs.Host.{Host}
use Rattle.fbs_export.specs.Summary.{Said}
use Rattle.pixel_format.specs.declared.Color.{Color}
use Rattle.terms.specs.declared.format.Format.TheVariants.{Two}
use Rattle.pixel_format.specs.Canvas.{Picture}
use Rattle.pixel_format.specs.Format.{host_format}
use Rattle.pixel_format.specs.Written.{format_bytes}
use Rattle.terms.specs.Area.{whole_area}
use Rattle.terms.specs.Number.{u16_bytes, u32_bytes}
use Rattle.rfb_wire.specs.Written.{raw_update_bytes, raw_rectangle}
use Rattle.gated_journal.specs.Recording.{Head}
use Rattle.keyed_entries.specs.declared.entry.Stamped.{Stamped}
use Rattle.painter.specs.Picture.{painted}
use Rattle.keyed_entries.specs.Entry.{hosts_of}
use Rattle.fbs_export.specs.Blocks.{padding_length}
use Rattle.fbs_export.specs.Opening.{version}

-- 'FBS 001.000' and a newline
abbrev pub start : List ℕ
start = 70 ∷ 66 ∷ 83 ∷ 32 ∷ 48 ∷ 48 ∷ 49 ∷ 46 ∷ 48 ∷ 48 ∷ 48 ∷ 10 ∷ []

-- a block of these data, padded with zeros
unfoldable pub block_text : ℕ → List ℕ → List ℕ
block_text time content = u32_bytes (length content) ++ (content ++ (replicate (padding_length (length content)) 0 ++ u32_bytes time))

unfoldable pub opening_text : Head → List ℕ
opening_text h = version ++ (u32_bytes 1 ++ ((u16_bytes h.width ++ u16_bytes h.height) ++ (format_bytes host_format
    ++ (u32_bytes (length h.name) ++ h.name))))

-- a pixel of the host format, its fourth byte 0
abbrev pub pixel_text : Color → List ℕ
pixel_text c = c.b ∷ c.g ∷ c.r ∷ 0 ∷ []

-- so many pixels of a row from column x on, and so many rows from y on
abbrev pub row_text : Picture → ℕ → ℕ → ℕ → List ℕ
row_text picture y x zero = []
row_text picture y x (suc n) = pixel_text (picture x y) ++ row_text picture y (x + 1) n

abbrev pub rows_text : Picture → ℕ → ℕ → ℕ → List ℕ
rows_text picture w y zero = []
rows_text picture w y (suc n) = row_text picture y 0 w ++ rows_text picture w (y + 1) n

-- a Raw update of one rectangle over the whole screen
unfoldable pub screen_text : ℕ → ℕ → Picture → List ℕ
screen_text w h picture = raw_update_bytes (whole_area w h) (rows_text picture w 0 h)

-- what stands in front of the messages: the file's start, the opening, and the screen, both at time 0
unfoldable pub front_text : Head → Picture → List ℕ
front_text h picture = start ++ (block_text 0 (opening_text h) ++ block_text 0 (screen_text h.width h.height picture))

-- one block a message, its time less the first one's
abbrev pub messages_text : ℕ → List Stamped → List ℕ
messages_text first [] = []
messages_text first (s ∷ ms) = block_text (s.time - first) s.message.bytes ++ messages_text first ms

abbrev pub first_time : List Stamped → ℕ
first_time [] = 0
first_time (s ∷ ms) = s.time

-- the messages from number `from` on below `to`
abbrev pub between : List Stamped → ℕ → ℕ → List Stamped
between messages from to = drop from (take to messages)

-- their text, their times less the first one's
abbrev pub messages_from : List Stamped → ℕ → ℕ → List ℕ
messages_from messages from to = messages_text (first_time (between messages from to)) (between messages from to)

unfoldable pub export_text : Head → List Stamped → ℕ → ℕ → List ℕ
export_text h messages from to = start
    ++ (block_text 0 (opening_text h)
    ++ (block_text 0 (screen_text h.width h.height (painted (hosts_of (take from messages))))
    ++ messages_from messages from to))

-- the message that brings up the screen, as it is read of a file
abbrev pub screen_host : ℕ → ℕ → Picture → Host
screen_host w h picture = record {
  format = Two;
  width = w;
  height = h;
  bytes = screen_text w h picture;
  rectangles = raw_rectangle (whole_area w h) ∷ [];
}

-- A message as it is read of a file, which says nothing of a recording's format: it is given in
-- format 2, and by its size, its bytes and its rectangles it is the same.
abbrev pub as_read : Host → Host
as_read m = record m { format = Two }

-- messages as they are read of a file, their times less the first one's
abbrev pub less_first : ℕ → List Stamped → List Stamped
less_first first ms = map (λ s. record { time = s.time - first; message = as_read s.message }) ms

-- what an exported text says, of a recording of either format
abbrev pub exported : Head → List Stamped → ℕ → ℕ → Said
exported h messages from to = record {
  opening = record { width = h.width; height = h.height; name = h.name };
  messages = record { time = 0; message = screen_host h.width h.height (painted (hosts_of (take from messages))) }
      ∷ less_first (first_time (between messages from to)) (between messages from to);
  rest = 0;
}
