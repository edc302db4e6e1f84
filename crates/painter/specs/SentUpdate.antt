-- Updates of a screen, as they are written.
use Rattle.std.specs.Prelude.{List, map}
use Rattle.pixel_format.specs.Format.{Format}
use Rattle.terms.specs.Area.{LiesWithin}
use Rattle.rect_codec.specs.declared.parts.Part.{Part}
use Rattle.rect_codec.specs.declared.parts.Part.TheVariants as parts
use Rattle.painter.specs.declared.update.ScreenPart.{ScreenPart}
use Rattle.painter.specs.declared.update.ScreenPart.TheVariants as screen_parts
use Rattle.painter.specs.Framebuffer.{Framebuffer}
use Rattle.painter.specs.Sent.{sent_colors}

-- what the rectangle says, with the screen's colours as the format has them (the memory that holds
-- them plays no part)
abbrev pub part_of : Format → Framebuffer → ScreenPart → Part
part_of f screen (screen_parts.Copy area x y) = parts.Copy area x y
part_of f screen (screen_parts.Region area asked) = parts.Colors area (record { ref_ptr = (0, 0); now = sent_colors f screen area }) asked

abbrev pub parts_of : Format → Framebuffer → List ScreenPart → List Part
parts_of f screen all = map (part_of f screen) all

-- the area whose pixels are sent lies within the screen
abbrev pub CanBeSent : Framebuffer → ScreenPart → Type 0
CanBeSent screen (screen_parts.Copy area x y) = Unit {0}
CanBeSent screen (screen_parts.Region area asked) = LiesWithin screen.width screen.height area
