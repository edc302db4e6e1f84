-- The parts of an update of some areas of a screen.
use Rattle.std.specs.Prelude.{List, ◌++◌, map}
use Rattle.terms.specs.declared.area.Area.{Area}
use Rattle.rect_data.specs.declared.encoding.Encoding.{Encoding}
use Rattle.painter.specs.declared.update.ScreenPart.{ScreenPart}
use Rattle.painter.specs.declared.update.ScreenPart.TheVariants.{Copy, Region}
use Rattle.shared_updates.specs.declared.copy.KeptCopy.{KeptCopy}

-- the pixels of an area, for one who asked for an encoding
abbrev pub pixels_of : Encoding → Area → ScreenPart
pixels_of asked area = Region area asked

-- the part of a copy
abbrev pub copy_of : KeptCopy → ScreenPart
copy_of c = Copy c.area c.source_x c.source_y

-- the parts of copies
abbrev pub screen_copies : List KeptCopy → List ScreenPart
screen_copies copies = map copy_of copies

-- and those of areas after them
abbrev pub screen_parts : List KeptCopy → Encoding → List Area → List ScreenPart
screen_parts copies asked areas = screen_copies copies ++ map (pixels_of asked) areas
