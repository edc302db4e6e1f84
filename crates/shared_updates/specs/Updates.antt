-- With which colours, and in which encoding, a viewer is answered.
use Rattle.std.specs.Prelude.{◌≡◌, ℕ, ◌+◌, ◌*◌, ◌<◌, All, List, [], ◌∷◌, ◌++◌, length}
use Rattle.std.specs.List.{AllZip}
use Rattle.pixel_format.specs.Format.{Format}
use Rattle.pixel_format.specs.Pixel.{converted, IsWithin}
use Rattle.pixel_format.specs.Canvas.{rows_of}
use Rattle.pixel_format.specs.declared.Color.{Color}
use Rattle.terms.specs.declared.area.Area.{Area}
use Rattle.rect_data.specs.declared.encoding.Encoding.{Encoding}
use Rattle.rect_codec.specs.declared.parts.Part.{Part}
use Rattle.rect_codec.specs.declared.parts.Part.TheVariants as parts
use Rattle.rect_codec.specs.Parts.{AreParts}
use Rattle.painter.specs.Framebuffer.{Framebuffer, color_at}
use Rattle.shared_updates.specs.declared.copy.KeptCopy.{KeptCopy}

-- the colours of an area of a screen, by rows, in a format
pub record AreConverted (f : Format) (screen : Framebuffer) (area : Area) (colors : List Color) : Type 0 where
  pub size : length colors ≡ area.h * area.w
  pub within : All (IsWithin f) colors
  pub value : (x y : ℕ) → x < area.w → y < area.h → rows_of colors area.w x y ≡ converted f (color_at screen (area.x + x) (area.y + y))

-- the part gives an area the screen's colours, in a format, for one who asked for an encoding
abbrev pub IsScreenPart : Format → Encoding → Framebuffer → Area → Part → Type 0
IsScreenPart f asked screen area (parts.Copy to x y) = ⊥
IsScreenPart f asked screen area (parts.Colors of colors encoding) = (of ≡ area) × (encoding ≡ asked) × AreConverted f screen area colors.now

-- a part for each copy, in their order
abbrev pub copy_parts : List KeptCopy → List Part
copy_parts [] = []
copy_parts (c ∷ cs) = parts.Copy c.area c.source_x c.source_y ∷ copy_parts cs

-- An update of these copies, and of these areas of a screen after them, in their order, for one
-- who asked for an encoding: each other rectangle is in that, or in Raw if the encoding
-- would be longer or can't be written; with 0 in padding and in the bits of no channel.
pub record IsUpdateOf (f : Format) (asked : Encoding) (screen : Framebuffer) (copies : List KeptCopy) (areas : List Area) (update : List ℕ) : Type 0 where
  pub parts : List Part
  pub each : AllZip (IsScreenPart f asked screen) areas parts
  pub are : AreParts f (copy_parts copies ++ parts) update
