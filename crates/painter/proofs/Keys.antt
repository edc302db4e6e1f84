-- An update of a screen's colours over the whole screen is its key.
use Rattle.std.proofs.Common.{◌≡◌, ℕ, ◌+◌, ◌≤◌, ◌⊎◌, List, [], ◌∷◌, length, map, inl, inr, ◌++◌, ◌*◌, refl, sym, ap, subst, ◌∙◌, arith}
use Rattle.std.proofs.lemmas.List.{append-nil}
use Rattle.pixel_format.specs.declared.Color.{Color}
use Rattle.pixel_format.specs.Format.{Format, host_format, pixel_bytes}
use Rattle.pixel_format.specs.Pixel.{converted}
use Rattle.terms.specs.Limits.{limits}
use Rattle.terms.specs.declared.format.Format.{Format as RecordingFormat}
use Rattle.terms.proofs.Sizes.{are_limits}
use Rattle.terms.specs.Appending.{Appends}
use Rattle.terms.specs.declared.area.Area.{Area}
use Rattle.terms.specs.declared.screen_size.ScreenSize.{ScreenSize}
use Rattle.pixel_format.specs.Canvas.{Picture, rows_of}
use Rattle.terms.specs.Area.{whole_area, LiesWithin}
use Rattle.rect_data.specs.declared.encoding.Encoding.{Encoding}
use Rattle.rect_data.specs.declared.encoding.Encoding.TheVariants as encodings
use Rattle.rect_codec.specs.Parts.{parts_head, IsRectangle, IsUpdateFor, AreParts}
use Rattle.rfb_wire.specs.Grammar.{message_limit}
use Rattle.rfb_wire.specs.Host.{Host, host_of}
use Rattle.rfb_wire.specs.Stream.{IsFor}
use Rattle.painter.specs.Framebuffer.{Framebuffer, color_at, AreColorsOf}
use Rattle.painter.specs.Picture.{painted_message}
use Rattle.painter.specs.Key.{IsKey}
use Rattle.painter.specs.Sent.{area_colors, sent_colors}
use Rattle.painter.specs.SentUpdate.{parts_of}
use Rattle.painter.specs.declared.update.ScreenPart.TheVariants as screen_parts
use Rattle.painter.proofs.SentRows.{same_color}
use Rattle.painter.proofs.Updates.{paints_colors, encoding_kept}

from_none : (n : ℕ) → 0 + n ≡ n
from_none n = omega arith

key_of : (format : RecordingFormat) (screen : Framebuffer) (colors : List Color) (e : Encoding) (bytes one : List ℕ) (m : Host) → AreColorsOf screen (whole_area screen.width screen.height) colors
    → (e ≡ encodings.Raw) ⊎ (e ≡ encodings.Hextile) → bytes ≡ parts_head 1 ++ one → IsRectangle host_format (whole_area screen.width screen.height) colors e one → length bytes ≤ message_limit format
    → ((n : Host) → IsFor format screen.width screen.height n → n.bytes ≡ bytes → m ≡ n) → IsKey screen.width screen.height (color_at screen) m
key_of format screen colors e bytes one m are kind is rectangle short only =
    let w = screen.width in
    let h = screen.height in
    let inside : LiesWithin w h (whole_area w h) = record { columns = omega arith; rows = omega arith } in
    let p = paints_colors format w h (whole_area w h) colors e bytes one is rectangle inside short in
    let n : Host = host_of format w h bytes (p.rectangle ∷ []) in
    let kept = encoding_kept format w h (whole_area w h) colors e bytes one is rectangle inside short in
    let same : m ≡ n = only n (record { format_is = refl; width_is = refl; height_is = refl; recorded = p.recorded }) refl in
    let key : IsKey w h (color_at screen) n = record {
      width_is = refl;
      height_is = refl;
      rectangle = p.rectangle;
      only = refl;
      whole = record { area = p.area_is; encoding = subst (λ k. (k ≡ encodings.Raw) ⊎ (k ≡ encodings.Hextile)) (sym kept) kind };
      paints = λ before x y across down.
          let picture : Picture = painted_message n before in
          let here : picture (0 + x) (0 + y) ≡ rows_of colors w x y = (p.paints before).here x y across down in
          let slot : picture x y ≡ picture (0 + x) (0 + y) = ap (λ k. picture k y) (sym (from_none x)) ∙ ap (picture (0 + x)) (sym (from_none y)) in
          let shown : color_at screen (0 + x) (0 + y) ≡ color_at screen x y = ap (λ k. color_at screen k (0 + y)) (from_none x) ∙ ap (color_at screen x) (from_none y) in
          slot ∙ here ∙ are.shows x y across down ∙ shown;
    } in
    subst (λ (k : Host). IsKey w h (color_at screen) k) (sym same) key

-- if Raw or Hextile is asked for, it is one of them
kind_of : (asked e : Encoding) → (asked ≡ encodings.Raw) ⊎ (asked ≡ encodings.Hextile) → (e ≡ asked) ⊎ (e ≡ encodings.Raw) → (e ≡ encodings.Raw) ⊎ (e ≡ encodings.Hextile)
kind_of asked e one (inl is) = subst (λ k. (k ≡ encodings.Raw) ⊎ (k ≡ encodings.Hextile)) (sym is) one
kind_of asked e one (inr is) = inl is

-- the host's format has a screen's colours as they are
same_colors : (colors : List Color) → map (converted host_format) colors ≡ colors
same_colors [] = refl
same_colors (c ∷ colors) = rw (same_color c, same_colors colors) refl

-- an update of one area of pixels is one of one rectangle
single : (f : Format) (screen : Framebuffer) (area : Area) (asked : Encoding) (bytes : List ℕ) → AreParts f (parts_of f screen (screen_parts.Region area asked ∷ [])) bytes
    → IsUpdateFor f area (sent_colors f screen area) asked bytes
single f screen area asked bytes u =
    let body : u.body ≡ u.are.0 = u.are.2 ∙ ap (λ z. u.are.0 ++ z) u.are.4 ∙ append-nil u.are.0 in
    record { rectangle = u.are.0; bytes_are = u.bytes_are ∙ ap (λ z. parts_head 1 ++ z) body; is = u.are.3 }

no_longer : (f : Format) (area : Area) (colors : List Color) (asked : Encoding) (bytes : List ℕ) → IsUpdateFor f area colors asked bytes → length bytes ≤ 16 + area.h * area.w * pixel_bytes f
no_longer f area colors asked bytes u =
    let whole = ap length u.bytes_are in
    omega (arith, whole, u.is.short)

-- a screen's colours of an area as one message
abbrev update_of : Format → Framebuffer → Area → Encoding → List ℕ → Type 0
update_of f screen area asked bytes = AreParts f (parts_of f screen (screen_parts.Region area asked ∷ [])) bytes

-- what is appended to nothing stands alone
alone : (P : List ℕ → Type 0) (empty bytes : List ℕ) → empty ≡ [] → Appends P empty bytes → P bytes
alone P empty bytes first a = subst P (sym (a.is ∙ ap (λ l. l ++ a.bytes) first)) a.are

-- the whole screen as one message, in the words of the calls that make it
sent_whole : (screen : Framebuffer) (size : ScreenSize) (f : Format) (area : Area) (asked : Encoding) → size ≡ record { width = screen.width; height = screen.height } → f ≡ host_format → area ≡ whole_area size.width size.height
    → (empty bytes : List ℕ) → empty ≡ [] → Appends (update_of f screen area asked) empty bytes
    → IsUpdateFor host_format (whole_area screen.width screen.height) (sent_colors host_format screen (whole_area screen.width screen.height)) asked bytes
sent_whole screen size f area asked is host all empty bytes first updated =
    let whole : area ≡ whole_area screen.width screen.height = all ∙ ap (λ (s : ScreenSize). whole_area s.width s.height) is in
    let P : Format → Type 0 = λ g. update_of g screen area asked bytes in
    let Q : Area → Type 0 = λ a. update_of host_format screen a asked bytes in
    single host_format screen (whole_area screen.width screen.height) asked bytes (subst Q whole (subst P host (alone (update_of f screen area asked) empty bytes first updated)))

-- it is never longer than in Raw
pub key_short : (screen : Framebuffer) (size : ScreenSize) (f : Format) (area : Area) (asked : Encoding) → size ≡ record { width = screen.width; height = screen.height } → f ≡ host_format → area ≡ whole_area size.width size.height
    → (empty bytes told : List ℕ) → empty ≡ [] → Appends (update_of f screen area asked) empty bytes → told ≡ bytes → length told ≤ 16 + 4 * (screen.width * screen.height)
key_short screen size f area asked is host all empty bytes told first updated are_told =
    let whole = whole_area screen.width screen.height in
    let short = no_longer host_format whole (sent_colors host_format screen whole) asked bytes (sent_whole screen size f area asked is host all empty bytes first updated) in
    omega (arith, short, ap length are_told)

-- it is the screen's key
pub key_made : (format : RecordingFormat) (screen : Framebuffer) (size : ScreenSize) (f : Format) (area : Area) (asked : Encoding) → size ≡ record { width = screen.width; height = screen.height } → f ≡ host_format → area ≡ whole_area size.width size.height
    → (asked ≡ encodings.Raw) ⊎ (asked ≡ encodings.Hextile) → screen.width * screen.height ≤ (limits format).area
    → AreColorsOf screen (whole_area screen.width screen.height) (area_colors screen (whole_area screen.width screen.height))
    → (empty bytes told : List ℕ) → empty ≡ [] → Appends (update_of f screen area asked) empty bytes → told ≡ bytes
    → (m : Host) → ((n : Host) → IsFor format size.width size.height n → n.bytes ≡ told → m ≡ n) → IsKey screen.width screen.height (color_at screen) m
key_made format screen size f area asked is host all one_of few are empty bytes told first updated are_told m one =
    let whole = whole_area screen.width screen.height in
    let sent = sent_whole screen size f area asked is host all empty bytes first updated in
    let update : IsUpdateFor host_format whole (area_colors screen whole) asked bytes =
    subst (λ l. IsUpdateFor host_format whole l asked bytes) (same_colors (area_colors screen whole)) sent in
    let short : length bytes ≤ message_limit format = omega (arith, (are_limits format).key, no_longer host_format whole (area_colors screen whole) asked bytes update, few) in
    let S : ScreenSize → Type 0 = λ s. (n : Host) → IsFor format s.width s.height n → n.bytes ≡ told → m ≡ n in
    let only = subst S is one in
    key_of format screen (area_colors screen whole) update.is.encoding bytes update.rectangle m are (kind_of asked update.is.encoding one_of update.is.encoding_is) update.bytes_are update.is.is short (λ n for equal. only n for (equal ∙ sym are_told))
