-- Rectangles and messages, one after the other.
use Rattle.std.proofs.Common.{◌≡◌, ℕ, ◌+◌, ◌-◌, ◌<◌, false, List, [], ◌∷◌, ◌++◌, length, take, get_or, inl, inr, refl, ap, ◌∙◌, arith}
use Rattle.std.specs.List.{AllByRecursion}
use Rattle.std.proofs.lemmas.Bool.{cases_Bool}
use Rattle.std.specs.Prelude.{slice_range}
use Rattle.std.proofs.lemmas.List.{take_more}
use Rattle.terms.specs.declared.area.Area.{Area}
use Rattle.rfb_wire.specs.declared.message.Rectangle.{Rectangle}
use Rattle.pixel_format.specs.Format.{host_format}
use Rattle.pixel_format.specs.Canvas.{Picture, Agree}
use Rattle.rect_data.specs.declared.encoding.Encoding.{Encoding}
use Rattle.rect_data.specs.declared.encoding.Encoding.TheVariants as encodings
use Rattle.rect_data.specs.Grammar.{source_of}
use Rattle.rect_data.specs.Data.{AreData}
use Rattle.rfb_wire.specs.Host.{Host, IsPlaced}
use Rattle.terms.specs.Area.{is_in}
use Rattle.rect_codec.specs.Picture.{copied_picture, picture_of, painted_data}
use Rattle.painter.specs.Picture.{painted_rectangle, painted_rectangles, painted_message, painted_over}
use Rattle.painter.proofs.Region.{IsIn, in_is}

pub no_rectangles : (bytes : List ℕ) (before : Picture) → painted_rectangles bytes [] before ≡ before
unfolding painted_rectangles
no_rectangles bytes before = refl

-- the last of some rectangles is painted over what the others left
pub one_more : (bytes : List ℕ) (rectangles : List Rectangle) (r : Rectangle) (before : Picture)
    → painted_rectangles bytes (rectangles ++ r ∷ []) before ≡ painted_rectangle bytes r (painted_rectangles bytes rectangles before)
unfolding painted_rectangles
one_more bytes [] r before = refl
one_more bytes (first ∷ rectangles) r before = one_more bytes rectangles r (painted_rectangle bytes first before)

-- what stands past the last rectangle
abbrev pub no_rectangle : Rectangle
no_rectangle = record { area = record { x = 0; y = 0; w = 0; h = 0 }; encoding = encodings.Raw; start = 0; end = 0 }

-- the first i + 1 rectangles: the last of them is painted over what the others left
pub last_painted : (bytes : List ℕ) (rectangles : List Rectangle) (i : ℕ) (before : Picture) → i < length rectangles
    → painted_rectangles bytes (take (i + 1) rectangles) before ≡ painted_rectangle bytes (get_or rectangles i no_rectangle) (painted_rectangles bytes (take i rectangles) before)
last_painted bytes rectangles i before lt =
    ap (λ (rs : List Rectangle). painted_rectangles bytes rs before) (take_more rectangles i no_rectangle lt)
    ∙ one_more bytes (take i rectangles) (get_or rectangles i no_rectangle) before

-- what is painted on an area leaves the other pixels
pub unpainted : (encoding : Encoding) (area : Area) (bytes : List ℕ) (before : Picture) (x y : ℕ) → is_in area x y ≡ false → painted_data host_format encoding area bytes before x y ≡ before x y
unfolding painted_data
unpainted encoding area bytes before x y outside = rw outside refl

-- ---- screens

-- the picture of data depends on the pixels of the screen alone; those of a CopyRect are the
-- source's
shown_same : (width height : ℕ) (encoding : Encoding) (area : Area) (bytes : List ℕ) (p q : Picture) → AreData host_format width height encoding area bytes → Agree width height p q
    → (x y : ℕ) → IsIn area x y → picture_of host_format encoding area bytes p x y ≡ picture_of host_format encoding area bytes q x y
unfolding copied_picture source_of
shown_same width height encodings.Raw area bytes p q is same x y slot = refl
shown_same width height encodings.CopyRect area bytes p q is same x y slot =
    let left = slot.left in
    let right = slot.right in
    let top = slot.top in
    let bottom = slot.bottom in
    let source = source_of area bytes in
    same (source.x + (x - area.x)) (source.y + (y - area.y)) (omega (arith, is.within.columns)) (omega (arith, is.within.rows))
shown_same width height encodings.Rre area bytes p q is same x y slot = refl
shown_same width height encodings.Hextile area bytes p q is same x y slot = refl

pub agree_data : (width height : ℕ) (encoding : Encoding) (area : Area) (bytes : List ℕ) (p q : Picture) → AreData host_format width height encoding area bytes → Agree width height p q
    → Agree width height (painted_data host_format encoding area bytes p) (painted_data host_format encoding area bytes q)
unfolding painted_data
agree_data width height encoding area bytes p q is same x y across down = elim (cases_Bool (is_in area x y)) [
  | inl here ↦ rw here (shown_same width height encoding area bytes p q is same x y (in_is area x y here))
  | inr away ↦ rw away (same x y across down)
]

-- what rectangles leave depends on the pixels of the screen alone
pub agree_rectangles : (m : Host) (rectangles : List Rectangle) (p q : Picture) → AllByRecursion (IsPlaced m) rectangles → Agree m.width m.height p q
    → Agree m.width m.height (painted_rectangles m.bytes rectangles p) (painted_rectangles m.bytes rectangles q)
unfolding painted_rectangles
agree_rectangles m [] p q placed same = same
agree_rectangles m (r ∷ rectangles) p q placed same =
    agree_rectangles m rectangles (painted_rectangle m.bytes r p) (painted_rectangle m.bytes r q) placed.1
    (agree_data m.width m.height r.encoding r.area (slice_range m.bytes r.start r.end) p q placed.0.content same)

-- the last of some messages is painted over what the others left
pub one_message_more : (messages : List Host) (message : Host) (before : Picture) → painted_over before (messages ++ message ∷ []) ≡ painted_message message (painted_over before messages)
unfolding painted_over
one_message_more [] message before = refl
one_message_more (first ∷ messages) message before = one_message_more messages message (painted_message first before)

pub no_messages : (before : Picture) → painted_over before [] ≡ before
unfolding painted_over
no_messages before = refl

-- the same of messages
pub last_message : (messages : List Host) (i : ℕ) (before : Picture) (d : Host) → i < length messages
    → painted_over before (take (i + 1) messages) ≡ painted_message (get_or messages i d) (painted_over before (take i messages))
last_message messages i before d lt = ap (painted_over before) (take_more messages i d lt) ∙ one_message_more (take i messages) (get_or messages i d) before
