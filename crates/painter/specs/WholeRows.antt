-- A picture by its rows, from the top.
use Rattle.std.specs.Prelude.{◌≡◌, ℕ, ◌+◌, ◌*◌, ◌<◌, ◌≤◌, All, List, Option, Some, None, length, map, take, drop, slice_index_or}
use Rattle.std.specs.List.{flat_map, range_with_len}
use Rattle.pixel_format.specs.declared.Color.{Color}
use Rattle.pixel_format.specs.Format.{host_format}
use Rattle.pixel_format.specs.Pixel.{IsScreenColor}
use Rattle.terms.specs.declared.area.Area.{Area}
use Rattle.terms.specs.declared.screen_size.ScreenSize.{ScreenSize}
use Rattle.rect_data.specs.declared.encoding.Encoding.{Encoding}
use Rattle.rect_codec.specs.Picture.{painted_data}
use Rattle.painter.specs.Framebuffer.{Framebuffer, color_at, SameSize, Has}

-- the colours of one of its rows, from the left
abbrev pub whole_row : Framebuffer → ℕ → List Color
whole_row screen y = take screen.width (drop (y * screen.width) screen.slots)

-- and of the first so many
abbrev pub first_rows : Framebuffer → ℕ → List (List Color)
first_rows screen count = map (whole_row screen) (range_with_len 0 count)

-- a colour for each of its pixels, whose channels are at most 255
pub record IsFilled (screen : Framebuffer) : Type 0 where
  pub size : length screen.slots ≡ screen.height * screen.width
  pub colors : All IsScreenColor screen.slots

-- Some of its rows are kept: such a one has the colours that the screen has there.
pub record AreKept (screen : Framebuffer) (kept : List (Option (List Color))) : Type 0 where
  pub count : length kept ≤ screen.height
  pub each : (y : ℕ) (row : List Color) → slice_index_or kept y None ≡ Some row → row ≡ whole_row screen y

-- What is kept of so many rows, from `to` on, was kept of as many others, and what is kept of those
-- above and below them was kept there.
pub record AreMoved (from to count : ℕ) (old new : List (Option (List Color))) : Type 0 where
  pub moved : (k : ℕ) (row : List Color) → k < count → slice_index_or new (to + k) None ≡ Some row → slice_index_or old (from + k) None ≡ Some row
  pub above : (y : ℕ) (row : List Color) → y < to → slice_index_or new y None ≡ Some row → slice_index_or old y None ≡ Some row
  pub below : (y : ℕ) (row : List Color) → to + count ≤ y → slice_index_or new y None ≡ Some row → slice_index_or old y None ≡ Some row

-- If the old rows are kept of a picture of this size, the new ones are of what the data leave of it.
abbrev pub StayKept : ScreenSize → Encoding → Area → List ℕ → List (Option (List Color)) → List (Option (List Color)) → Type 0
StayKept size encoding area bytes kept left = (old new : Framebuffer) → old.width ≡ size.width → IsFilled old → IsFilled new → SameSize old new
    → Has new (painted_data host_format encoding area bytes (color_at old)) → AreKept old kept → AreKept new left

-- the picture of this size that these rows make up
abbrev pub stacked : ℕ → ℕ → List (List Color) → Framebuffer
stacked width height rows = record { width = width; height = height; slots = flat_map (λ row. row) rows }

-- They are its rows.
pub record AreRows (width height : ℕ) (rows : List (List Color)) : Type 0 where
  pub filled : IsFilled (stacked width height rows)
  pub count : height ≤ length rows
  pub are : rows ≡ first_rows (stacked width height rows) (length rows)
