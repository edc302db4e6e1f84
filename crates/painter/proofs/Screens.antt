-- A screen and its pixels.
use Rattle.std.proofs.Common.{◌≡◌, ℕ, zero, suc, ◌+◌, ◌-◌, ◌*◌, ◌/◌, ◌%◌, ◌^◌, ◌<◌, ◌≤◌, List, [], ◌∷◌, ◌++◌, length, take, cond, get_or, map, replicate, refl, sym, ap, ◌∙◌, arith}
use Rattle.std.specs.Prelude.{All, slice_range}
use Rattle.std.proofs.lemmas.List.Elements.{recursion_from_All, All-get_or}
use Rattle.std.proofs.Math.Nat.{mod-lt}
use Rattle.pixel_format.specs.declared.Color.{Color}
use Rattle.pixel_format.specs.Format.{Channel, host_format}
use Rattle.pixel_format.specs.Pixel.{pixel_number, channel_value, pixel_color, IsScreenColor}
use Rattle.terms.specs.Reading.{Reading}
use Rattle.pixel_format.specs.Canvas.{Picture, filled, laid_over, pixel_rows, Agree}
use Rattle.terms.specs.declared.area.Area.{Area}
use Rattle.rre.specs.Grammar as rre
use Rattle.rre.specs.Data as rre_data
use Rattle.rre.specs.Picture as rre_picture
use Rattle.rre.proofs.Content as rre_content
use Rattle.hextile.specs.Grammar as hextile
use Rattle.hextile.specs.Data as hextile_data
use Rattle.hextile.specs.Picture as hextile_picture
use Rattle.hextile.proofs.TilesRead as hextile_content
use Rattle.rect_data.specs.declared.encoding.Encoding.{Encoding}
use Rattle.rect_data.specs.declared.encoding.Encoding.TheVariants as encodings
use Rattle.rect_data.specs.Grammar.{source_of}
use Rattle.rect_data.specs.Data.{AreData, IsSource}
use Rattle.std.proofs.lemmas.List.{get_or-replicate}
use Rattle.std.proofs.lemmas.Nat.{mul-add-lt}
use Rattle.rfb_wire.specs.Host.{Host, IsPlaced}
use Rattle.painter.specs.declared.pixel.Pixel.{Pixel}
use Rattle.painter.specs.Framebuffer.{Framebuffer, color_at, Has, Shows}
use Rattle.terms.specs.Area.{is_in}
use Rattle.rect_codec.specs.Picture.{raw_picture, rre_shown, hextile_shown, shown_at, painted_data}
use Rattle.painter.specs.Picture.{black, painted_rectangle, painted_rectangles, painted_message, painted}
use Rattle.painter.specs.Pixels.{black_pixel, color_of, pixel_color_at, color_in}
use Rattle.painter.proofs.Order.{no_rectangle, last_painted, agree_data, agree_rectangles, one_message_more, no_messages}

-- the screen of these pixels
abbrev pub screen_of : ℕ → ℕ → List Pixel → Framebuffer
screen_of width height pixels = record { width = width; height = height; slots = map color_of pixels }

-- its colours are those of the pixels
pub color_is : (pixels : List Pixel) (k : ℕ) → get_or (map color_of pixels) k (color_of black_pixel) ≡ pixel_color_at pixels k
color_is [] k = refl
color_is (p ∷ pixels) zero = refl
color_is (p ∷ pixels) (suc k) = color_is pixels k

pub is_black : (width height : ℕ) (pixels : List Pixel) (p : Pixel) → color_of p ≡ color_of black_pixel → pixels ≡ replicate (width * height) p → Has (screen_of width height pixels) black
is_black width height pixels p dark all x y across down =
    let here : get_or (replicate (width * height) p) (y * width + x) black_pixel ≡ p =
    get_or-replicate (width * height) (y * width + x) p black_pixel (omega (arith, mul-add-lt y width x height down across)) in
    color_is pixels (y * width + x)
    ∙ ap (λ (ps : List Pixel). pixel_color_at ps (y * width + x)) all
    ∙ ap color_of here ∙ dark

pub shows_none : (screen : Framebuffer) → Has screen black → Shows screen []
shows_none screen h x y across down = h x y across down ∙ sym (ap (λ (p : Picture). p x y) (no_messages black))

-- what painting data into the pixels does to the screen
pub has_data : (width height : ℕ) (old new : List Pixel) (encoding : Encoding) (area : Area) (bytes : List ℕ) → AreData host_format width height encoding area bytes
    → ((x y : ℕ) → x < width → color_in new width x y ≡ painted_data host_format encoding area bytes (color_in old width) x y)
    → Has (screen_of width height new) (painted_data host_format encoding area bytes (color_at (screen_of width height old)))
has_data width height old new encoding area bytes is done x y across down =
    color_is new (y * width + x) ∙ done x y across
    ∙ agree_data width height encoding area bytes (color_in old width) (color_at (screen_of width height old)) is (λ x y _ _. sym (color_is old (y * width + x))) x y across down

-- and so does giving an area one colour
pub has_filled : (width height : ℕ) (old new : List Pixel) (area : Area) (p : Pixel) (color : Color) → color_of p ≡ color
    → ((x y : ℕ) → x < width → color_in new width x y ≡ cond (is_in area x y) (color_of p) (color_in old width x y))
    → Agree width height (color_at (screen_of width height new)) (filled area.x area.y area.w area.h color (color_at (screen_of width height old)))
has_filled width height old new area p color is done x y across down =
    color_is new (y * width + x) ∙ done x y across
    ∙ ap (λ (c : Color). cond (is_in area x y) c (color_in old width x y)) is
    ∙ ap (cond (is_in area x y) color) (sym (color_is old (y * width + x)))

-- and so does giving it the colours of pixels
pub has_pixels : (width height : ℕ) (old new : List Pixel) (area : Area) (bytes : List ℕ)
    → ((x y : ℕ) → x < width → color_in new width x y ≡ cond (is_in area x y) (raw_picture host_format area bytes x y) (color_in old width x y))
    → Agree width height (color_at (screen_of width height new)) (laid_over area.x area.y area.w area.h (pixel_rows host_format area.w bytes) (color_at (screen_of width height old)))
unfolding raw_picture
has_pixels width height old new area bytes done x y across down =
    color_is new (y * width + x) ∙ done x y across
    ∙ ap (cond (is_in area x y) (pixel_rows host_format area.w bytes (x - area.x) (y - area.y))) (sym (color_is old (y * width + x)))

-- what is copied lies within the screen
pub source_within : (width height : ℕ) (area source : Area) (bytes : List ℕ) → source ≡ source_of area bytes → IsSource width height area bytes
    → (source.x + area.w ≤ width) × (source.y + area.h ≤ height)
unfolding source_of
source_within width height area source bytes is known = rw is (known.within.columns, known.within.rows)

-- ---- the codecs

pub rre_painted : (width height : ℕ) (area : Area) (bytes : List ℕ) (content : rre.Content) (before new : Picture) → rre_data.IsData host_format area.w area.h bytes content
    → Agree width height new (rre_picture.painted_over area.x area.y area.w area.h content before)
    → Agree width height new (painted_data host_format encodings.Rre area bytes before)
unfolding painted_data rre_shown
rre_painted width height area bytes content before new is done x y across down =
    done x y across down
    ∙ ap (λ (r : Reading rre.Content rre.Fault). cond (is_in area x y) (shown_at area rre_picture.picture_of r x y) (before x y))
    (sym (rre_content.data_whole host_format area.w area.h bytes content is))

pub hextile_painted : (width height : ℕ) (area : Area) (bytes : List ℕ) (tiles : List hextile.Tile) (before new : Picture) → hextile_data.IsData host_format area.w area.h bytes tiles
    → Agree width height new (hextile_picture.painted_over area.x area.y area.w area.h tiles before)
    → Agree width height new (painted_data host_format encodings.Hextile area bytes before)
unfolding painted_data hextile_shown
hextile_painted width height area bytes tiles before new is done x y across down =
    done x y across down
    ∙ ap (λ (r : Reading (List hextile.Tile) hextile.Fault). cond (is_in area x y) (shown_at area (hextile_picture.picture_of area.w) r x y) (before x y))
    (sym (hextile_content.data_whole host_format area.w area.h bytes tiles is))

-- the colours of the host format are those of a screen
channel_small : (c : Channel) (n : ℕ) → c.max ≡ 255 → channel_value c n ≤ 255
channel_small c n is =
    let less : n / 2 ^ c.shift % (c.max + 1) < c.max + 1 = mod-lt (n / 2 ^ c.shift) (omega arith) in
    omega (arith, less, is)

pub host_colors : (pixel : List ℕ) → IsScreenColor (pixel_color host_format pixel)
unfolding pixel_color
host_colors pixel = record {
  red = channel_small host_format.red (pixel_number host_format pixel) refl;
  green = channel_small host_format.green (pixel_number host_format pixel) refl;
  blue = channel_small host_format.blue (pixel_number host_format pixel) refl;
}

-- ---- messages

-- one rectangle more
pub rectangle_more : (m : Host) (i : ℕ) (before earlier new : Picture) → All (IsPlaced m) m.rectangles → i < length m.rectangles
    → Agree m.width m.height earlier (painted_rectangles m.bytes (take i m.rectangles) before)
    → Agree m.width m.height new (painted_rectangle m.bytes (get_or m.rectangles i no_rectangle) earlier)
    → Agree m.width m.height new (painted_rectangles m.bytes (take (i + 1) m.rectangles) before)
rectangle_more m i before earlier new placed lt so_far done x y across down =
    let r = get_or m.rectangles i no_rectangle in
    let here = All-get_or (IsPlaced m) m.rectangles i no_rectangle lt placed in
    done x y across down
    ∙ agree_data m.width m.height r.encoding r.area (slice_range m.bytes r.start r.end) earlier (painted_rectangles m.bytes (take i m.rectangles) before) here.content so_far x y across down
    ∙ sym (ap (λ (p : Picture). p x y) (last_painted m.bytes m.rectangles i before lt))

-- one message more
pub shows_more : (old new : Framebuffer) (message : Host) (messages : List Host) → message.width ≡ old.width → message.height ≡ old.height → All (IsPlaced message) message.rectangles
    → Has old (painted messages) → ((x y : ℕ) → x < old.width → y < old.height → color_at new x y ≡ painted_message message (color_at old) x y)
    → (x y : ℕ) → x < old.width → y < old.height → color_at new x y ≡ painted (messages ++ message ∷ []) x y
shows_more old new message messages wide high placed shows done x y across down =
    done x y across down
    ∙ agree_rectangles message message.rectangles (color_at old) (painted messages) (recursion_from_All (IsPlaced message) message.rectangles placed)
    (λ x y a d. shows x y (rw (← wide) a) (rw (← high) d)) x y (rw wide across) (rw high down)
    ∙ sym (ap (λ (p : Picture). p x y) (one_message_more messages message black))
