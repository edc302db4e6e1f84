-- A screen: a colour for each of its pixels.
use Rattle.std.specs.Prelude.{◌≡◌, ℕ, ◌+◌, ◌*◌, ◌<◌, ◌++◌, All, List, length, slice_index_or}
use Rattle.pixel_format.specs.declared.Color.{Color}
use Rattle.rfb_wire.specs.Host.{Host}
use Rattle.pixel_format.specs.Canvas.{Picture, rows_of}
use Rattle.pixel_format.specs.Pixel.{IsScreenColor}
use Rattle.terms.specs.declared.area.Area.{Area}
use Rattle.painter.specs.Picture.{black, painted}

-- its size, and the colours of its pixels by rows, from the top and the left
pub record Framebuffer : Type 0 where
  pub width : ℕ
  pub height : ℕ
  pub slots : List Color

-- the colour of a pixel
abbrev pub color_at : Framebuffer → Picture
color_at screen x y = slice_index_or screen.slots (y * screen.width + x) (black x y)

-- the two screens are of one size
pub record SameSize (old new : Framebuffer) : Type 0 where
  pub width : new.width ≡ old.width
  pub height : new.height ≡ old.height

-- the screen has this picture at each of its pixels
abbrev pub Has : Framebuffer → Picture → Type 0
Has screen picture = (x y : ℕ) → x < screen.width → y < screen.height → color_at screen x y ≡ picture x y

-- the colours of the pixels of an area, by rows; each channel is at most 255
pub record AreColorsOf (screen : Framebuffer) (area : Area) (colors : List Color) : Type 0 where
  pub size : length colors ≡ area.h * area.w
  pub shows : (x y : ℕ) → x < area.w → y < area.h
      → rows_of colors area.w x y ≡ color_at screen (area.x + x) (area.y + y)
  pub each : All IsScreenColor colors

-- new is old, with the colours of an area after it
pub record AppendsColors (screen : Framebuffer) (area : Area) (old new : List Color) : Type 0 where
  pub colors : List Color
  pub new_is : new ≡ old ++ colors
  pub has : AreColorsOf screen area colors

-- the two screens have the same colour at each pixel of an area
abbrev pub AgreeIn : Area → Framebuffer → Framebuffer → Type 0
AgreeIn area one other = (x y : ℕ) → x < area.w → y < area.h
    → color_at one (area.x + x) (area.y + y) ≡ color_at other (area.x + x) (area.y + y)

-- two screens of one size, with the same colour at each pixel
pub record IsSame (one other : Framebuffer) : Type 0 where
  pub size : SameSize one other
  pub colors : Has one (color_at other)

-- the screen shows what the messages paint
abbrev pub Shows : Framebuffer → List Host → Type 0
Shows screen messages = Has screen (painted messages)
