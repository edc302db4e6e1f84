-- A rectangle of all pixels, in Raw or Hextile, hides what stood there.
use Rattle.std.proofs.Common.{◌≡◌, ◌⊎◌, ℕ, true, List, [], ◌∷◌, length, get_or, inl, inr, refl, sym, subst, ap, ◌∙◌, arith}
use Rattle.std.specs.Prelude.{◌↔◌, slice_range}
use Rattle.pixel_format.specs.Format.{host_format}
use Rattle.pixel_format.specs.Canvas.{Picture, Agree}
use Rattle.terms.specs.declared.area.Area.{Area}
use Rattle.terms.specs.declared.screen_size.ScreenSize.{ScreenSize}
use Rattle.rect_data.specs.declared.encoding.Encoding.{Encoding}
use Rattle.rect_data.specs.declared.encoding.Encoding.TheVariants.{Raw, Hextile}
use Rattle.terms.specs.Area.{whole_area, is_in}
use Rattle.rect_codec.specs.Picture.{picture_of, painted_data}
use Rattle.rfb_wire.specs.declared.message.Rectangle.{Rectangle}
use Rattle.rfb_wire.specs.Host.{Host}
use Rattle.painter.specs.Framebuffer.{Framebuffer, color_at, SameSize, Has, IsSame}
use Rattle.painter.specs.Picture.{painted_rectangle, painted_rectangles, painted_message}
use Rattle.painter.specs.Key.{IsWhole, IsKey}
use Rattle.painter.proofs.Order.{one_more, no_rectangles}
use Rattle.painter.proofs.Region.{is_in_true}

-- the encodings that don't look at what stood there
shown_alone : (e : Encoding) (area : Area) (bytes : List ℕ) (p q : Picture) → (e ≡ Raw) ⊎ (e ≡ Hextile)
    → picture_of host_format e area bytes p ≡ picture_of host_format e area bytes q
shown_alone e area bytes p q (inl is) = rw is refl
shown_alone e area bytes p q (inr is) = rw is refl

hidden : (width height : ℕ) (r : Rectangle) (bytes : List ℕ) (p q : Picture) → IsWhole width height r
    → Agree width height (painted_rectangle bytes r p) (painted_rectangle bytes r q)
unfolding painted_data
hidden width height r bytes p q whole x y across down =
    let content = slice_range bytes r.start r.end in
    let within : is_in (whole_area width height) x y ≡ true =
    is_in_true (whole_area width height) x y (record { left = omega arith; right = omega arith; top = omega arith; bottom = omega arith }) in
    let here : is_in r.area x y ≡ true = ap (λ a. is_in a x y) whole.area ∙ within in
    rw here (ap (λ (shown : Picture). shown x y) (shown_alone r.encoding r.area content p q whole.encoding))

one_painted : (bytes : List ℕ) (r : Rectangle) (before : Picture) → painted_rectangles bytes (r ∷ []) before ≡ painted_rectangle bytes r before
one_painted bytes r before = one_more bytes [] r before ∙ ap (painted_rectangle bytes r) (no_rectangles bytes before)

-- what a message of one such rectangle leaves doesn't hang on what was there before
pub message_hides : (width height : ℕ) (m : Host) (r : Rectangle) (p q : Picture) → m.rectangles ≡ r ∷ [] → IsWhole width height r
    → Agree width height (painted_message m p) (painted_message m q)
message_hides width height m r p q only whole x y across down =
    let over : (before : Picture) → painted_message m before x y ≡ painted_rectangle m.bytes r before x y =
    λ before. ap (λ (rs : List Rectangle). painted_rectangles m.bytes rs before x y) only ∙ ap (λ (k : Picture). k x y) (one_painted m.bytes r before) in
    over p ∙ hidden width height r m.bytes p q whole x y across down ∙ sym (over q)

-- such a message is a key of a screen if it paints it over one other
pub is_key_painted : (screen other new : Framebuffer) (m : Host) (r : Rectangle) → m.width ≡ screen.width → m.height ≡ screen.height
    → SameSize screen other → SameSize other new → m.rectangles ≡ r ∷ [] → IsWhole screen.width screen.height r
    → Has new (painted_message m (color_at other)) → IsSame new screen ↔ IsKey screen.width screen.height (color_at screen) m
is_key_painted screen other new m r wide high size kept only whole done =
    let w : new.width ≡ screen.width = kept.width ∙ size.width in
    let h : new.height ≡ screen.height = kept.height ∙ size.height in (
      λ same. record {
        width_is = wide;
        height_is = high;
        rectangle = r;
        only = only;
        whole = whole;
        paints = λ before x y across down.
            message_hides screen.width screen.height m r before (color_at other) only whole x y across down
            ∙ sym (done x y (rw w across) (rw h down)) ∙ same.colors x y (rw w across) (rw h down);
      },
      λ key. record {
        size = record { width = sym w; height = sym h };
        colors = λ x y across down. done x y across down ∙ key.paints (color_at other) x y (rw (← w) across) (rw (← h) down);
      },
    )

-- the one rectangle of a list
pub only_head : (rectangles read : List Rectangle) (d : Rectangle) → read ≡ rectangles → length read ≡ 1 → rectangles ≡ get_or read 0 d ∷ []
only_head rectangles [] d is one = absurd (omega arith)
only_head rectangles (r ∷ []) d is one = sym is
only_head rectangles (r ∷ (s ∷ read)) d is one = absurd (omega arith)

pub sized : (width height : ℕ) (size : ScreenSize) (r : Rectangle) → size ≡ record { width = width; height = height } → IsWhole size.width size.height r → IsWhole width height r
sized width height size r is whole = let P : ScreenSize → Type 0 = λ s. IsWhole s.width s.height r in subst P is whole
