-- Areas and parts, one for another.
use Rattle.std.proofs.Common.{◌≡◌, ℕ, suc, ◌+◌, ◌*◌, ◌<◌, ◌≤◌, List, [], ◌∷◌, length, take, get_or, map, refl, sym, ap, ◌∙◌, subst, arith}
use Rattle.std.specs.Prelude.{◌++◌, All}
use Rattle.std.specs.List.{AllZip}
use Rattle.std.proofs.Math.Nat.{mul-le-mul_left}
use Rattle.std.proofs.lemmas.List.{get_or-map, length-map, append_assoc, take_more}
use Rattle.std.proofs.lemmas.List.Elements.{All-head, All-tail, All-nil, All-cons}
use Rattle.pixel_format.specs.declared.Color.{Color}
use Rattle.pixel_format.specs.Format.{Format}
use Rattle.pixel_format.specs.Pixel.{converted, converted_channel, IsScreenColor, IsWithin}
use Rattle.pixel_format.specs.Canvas.{black}
use Rattle.terms.specs.Appending.{Appends}
use Rattle.terms.specs.declared.area.Area.{Area}
use Rattle.terms.specs.Area.{LiesWithin}
use Rattle.rect_data.specs.declared.encoding.Encoding.{Encoding}
use Rattle.painter.specs.Framebuffer.{Framebuffer, AreColorsOf}
use Rattle.painter.specs.Sent.{area_colors, sent_colors}
use Rattle.painter.specs.SentUpdate.{parts_of, CanBeSent}
use Rattle.shared_updates.specs.Updates.{AreConverted}
use Rattle.rect_codec.specs.declared.parts.Part.{Part}
use Rattle.rect_codec.specs.declared.parts.Part.TheVariants as parts
use Rattle.painter.specs.declared.update.ScreenPart.{ScreenPart}
use Rattle.painter.specs.declared.update.ScreenPart.TheVariants.{Copy}
use Rattle.shared_updates.specs.declared.copy.KeptCopy.{KeptCopy}
use Rattle.shared_updates.specs.Updates.{IsScreenPart, copy_parts}
use Rattle.viewer_session.specs.Parts.{pixels_of, screen_copies, screen_parts}

pub zip_length : {A B : Type 0} (R : A → B → Type 0) (xs : List A) (ys : List B) → AllZip R xs ys → length xs ≡ length ys
zip_length R [] [] are = refl
zip_length R [] (b ∷ ys) are = absurd are
zip_length R (a ∷ xs) [] are = absurd are
zip_length R (a ∷ xs) (b ∷ ys) are = ap (λ (n : ℕ). suc n) (zip_length R xs ys are.1)

-- ---- colours as a format has them

channel_within : (max v : ℕ) → v ≤ 255 → converted_channel max v ≤ max
channel_within max v small = omega (arith, mul-le-mul_left max small)

color_within : (f : Format) (c : Color) → IsScreenColor c → IsWithin f (converted f c)
color_within f c is = record {
  red = channel_within f.red.max c.r is.red;
  green = channel_within f.green.max c.g is.green;
  blue = channel_within f.blue.max c.b is.blue;
}

-- what is sent of an area are its pixels' colours
sent_converted : (f : Format) (screen : Framebuffer) (area : Area) → AreColorsOf screen area (area_colors screen area) → AreConverted f screen area (sent_colors f screen area)
sent_converted f screen area are =
    let colors = area_colors screen area in
    let many : length (map (converted f) colors) ≡ length colors = length-map colors (converted f) in
    record {
      size = many ∙ are.size;
      within = λ k d less.
          let inside : k < length colors = omega (arith, less, many) in
          subst (IsWithin f) (sym (get_or-map (converted f) colors k black d inside)) (color_within f (get_or colors k black) (are.each k black inside));
      value = λ x y across down.
          let inside : y * area.w + x < length colors = omega (arith, are.size, mul-le-mul_left area.w down) in
          get_or-map (converted f) colors (y * area.w + x) black black inside ∙ ap (converted f) (are.shows x y across down);
    }

-- the parts of areas say what the screen shows there
pub parts_are : (f : Format) (asked : Encoding) (screen : Framebuffer) (areas : List Area)
    → ((area : Area) → LiesWithin screen.width screen.height area → AreColorsOf screen area (area_colors screen area))
    → All (LiesWithin screen.width screen.height) areas → AllZip (IsScreenPart f asked screen) areas (parts_of f screen (map (pixels_of asked) areas))
parts_are f asked screen [] known within = tt
parts_are f asked screen (a ∷ areas) known within =
    let here = All-head (LiesWithin screen.width screen.height) a areas within in (
      (refl, refl, sent_converted f screen a (known a here)),
      parts_are f asked screen areas known (All-tail (LiesWithin screen.width screen.height) a areas within),
    )

-- after the parts of copies
pub copies_in_front : (f : Format) (asked : Encoding) (screen : Framebuffer) (copies : List KeptCopy) (areas : List Area)
    → parts_of f screen (screen_parts copies asked areas) ≡ copy_parts copies ++ parts_of f screen (map (pixels_of asked) areas)
copies_in_front f asked screen [] areas = refl
copies_in_front f asked screen (c ∷ cs) areas = ap (λ (l : List Part). parts.Copy c.area c.source_x c.source_y ∷ l) (copies_in_front f asked screen cs areas)

areas_sent : (asked : Encoding) (screen : Framebuffer) (areas : List Area) → All (LiesWithin screen.width screen.height) areas → All (CanBeSent screen) (map (pixels_of asked) areas)
areas_sent asked screen [] within = All-nil (CanBeSent screen)
areas_sent asked screen (a ∷ areas) within =
    All-cons (CanBeSent screen) (pixels_of asked a) (map (pixels_of asked) areas) (All-head (LiesWithin screen.width screen.height) a areas within)
    (areas_sent asked screen areas (All-tail (LiesWithin screen.width screen.height) a areas within))

-- and can be sent
pub parts_sent : (copies : List KeptCopy) (asked : Encoding) (screen : Framebuffer) (areas : List Area) → All (LiesWithin screen.width screen.height) areas → All (CanBeSent screen) (screen_parts copies asked areas)
parts_sent [] asked screen areas within = areas_sent asked screen areas within
parts_sent (c ∷ cs) asked screen areas within =
    All-cons (CanBeSent screen) (Copy c.area c.source_x c.source_y) (screen_parts cs asked areas) tt (parts_sent cs asked screen areas within)

pub parts_few : (copies : List KeptCopy) (asked : Encoding) (areas : List Area) → length (screen_parts copies asked areas) ≡ length copies + length areas
parts_few [] asked areas = omega (arith, length-map areas (pixels_of asked))
parts_few (c ∷ cs) asked areas = omega (arith, parts_few cs asked areas)

map_more : (asked : Encoding) (xs ys : List Area) → map (pixels_of asked) (xs ++ ys) ≡ map (pixels_of asked) xs ++ map (pixels_of asked) ys
map_more asked [] ys = refl
map_more asked (x ∷ xs) ys = ap (λ (l : List ScreenPart). pixels_of asked x ∷ l) (map_more asked xs ys)

-- one area more
pub parts_more : (copies : List KeptCopy) (asked : Encoding) (areas : List Area) (i : ℕ) (d : Area) → i < length areas
    → screen_parts copies asked (take i areas) ++ pixels_of asked (get_or areas i d) ∷ [] ≡ screen_parts copies asked (take (i + 1) areas)
parts_more copies asked areas i d lt =
    append_assoc (screen_copies copies) (map (pixels_of asked) (take i areas)) (pixels_of asked (get_or areas i d) ∷ [])
    ∙ ap (λ (l : List ScreenPart). screen_copies copies ++ l) (sym (map_more asked (take i areas) (get_or areas i d ∷ [])))
    ∙ ap (λ (z : List Area). screen_parts copies asked z) (sym (take_more areas i d lt))

pub appended : (P Q : List ℕ → Type 0) (old new : List ℕ) → ((bytes : List ℕ) → P bytes → Q bytes) → Appends P old new → Appends Q old new
appended P Q old new then a = record { bytes = a.bytes; is = a.is; are = then a.bytes a.are }
