-- An update of one screen is one of another that shows the same in its areas.
use Rattle.std.proofs.Common.{ℕ, List, [], ◌∷◌, ap, ◌∙◌}
use Rattle.std.specs.List.{AllZip, AllByRecursion}
use Rattle.pixel_format.specs.Format.{Format}
use Rattle.pixel_format.specs.Pixel.{converted}
use Rattle.terms.specs.declared.area.Area.{Area}
use Rattle.rect_data.specs.declared.encoding.Encoding.{Encoding}
use Rattle.rect_codec.specs.declared.parts.Part.{Part}
use Rattle.rect_codec.specs.declared.parts.Part.TheVariants as parts
use Rattle.painter.specs.Framebuffer.{Framebuffer, AgreeIn}
use Rattle.std.proofs.lemmas.List.Elements.{recursion_from_All}
use Rattle.shared_updates.specs.declared.copy.KeptCopy.{KeptCopy}
use Rattle.shared_updates.specs.declared.wanted.Wanted.{Wanted}
use Rattle.shared_updates.specs.Known.{Known, IsKnown, IsFor, ShowsSame}
use Rattle.shared_updates.specs.Updates.{IsScreenPart, IsUpdateOf}

part_on : (f : Format) (asked : Encoding) (one other : Framebuffer) (area : Area) (part : Part) → AgreeIn area one other
    → IsScreenPart f asked one area part → IsScreenPart f asked other area part
part_on f asked one other area (parts.Copy to x y) agree is = is
part_on f asked one other area (parts.Colors of colors encoding) agree is = (
  is.0,
  is.1,
  record {
    size = is.2.size;
    within = is.2.within;
    value = λ x y across down. is.2.value x y across down ∙ ap (converted f) (agree x y across down);
  },
)

parts_on : (f : Format) (asked : Encoding) (one other : Framebuffer) (areas : List Area) (list : List Part) → AllByRecursion (λ area. AgreeIn area one other) areas
    → AllZip (IsScreenPart f asked one) areas list → AllZip (IsScreenPart f asked other) areas list
parts_on f asked one other [] [] agree each = tt
parts_on f asked one other [] (part ∷ list) agree each = each
parts_on f asked one other (area ∷ areas) [] agree each = each
parts_on f asked one other (area ∷ areas) (part ∷ list) agree each =
    (part_on f asked one other area part agree.0 each.0, parts_on f asked one other areas list agree.1 each.1)

pub update_on : (f : Format) (asked : Encoding) (one other : Framebuffer) (copies : List KeptCopy) (areas : List Area) (update : List ℕ)
    → AllByRecursion (λ area. AgreeIn area one other) areas → IsUpdateOf f asked one copies areas update → IsUpdateOf f asked other copies areas update
update_on f asked one other copies areas update agree is = record { parts = is.parts; each = parts_on f asked one other areas is.parts agree is.each; are = is.are }

pub known_serves : (k : Known) (wanted : Wanted) (screen : Framebuffer) → IsKnown k → IsFor k wanted → ShowsSame k screen
    → IsUpdateOf wanted.format.now wanted.encoding screen wanted.copies.now wanted.areas.now k.bytes
known_serves k wanted screen known asked same =
    let agree = recursion_from_All (λ area. AgreeIn area k.screen screen) k.areas same.agree in
    let is = update_on k.format k.encoding k.screen screen k.copies k.areas k.bytes agree known.is in
    rw (asked.format, asked.encoding, asked.copies, asked.areas) at is
