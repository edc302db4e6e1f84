-- What one reads and paints of an update that was written for one.
use Rattle.std.proofs.Common.{◌≡◌, ℕ, ◌+◌, ◌-◌, ◌*◌, ◌/◌, ◌%◌, ◌<◌, List, [], ◌∷◌, ◌++◌, length, take, refl, sym, ap, subst, ◌∙◌, arith, true, append_assoc, length-append}
use Rattle.std.specs.Prelude.{Some}
use Rattle.std.proofs.lemmas.List.{append-nil, take_at}
use Rattle.std.proofs.lemmas.Bool.{le-leb, lt-ltb}
use Rattle.pixel_format.specs.declared.Color.{Color}
use Rattle.pixel_format.specs.Format.{Format}
use Rattle.terms.specs.Reading.{Reading, Got, Extends}
use Rattle.pixel_format.specs.Canvas.{Picture, rows_of}
use Rattle.terms.proofs.Readings.{field-whole}
use Rattle.terms.specs.Number.{u32_at, u32_bytes}
use Rattle.terms.specs.declared.area.Area.{Area}
use Rattle.terms.specs.declared.wire_fault.WireFault.{WireFault}
use Rattle.rre.proofs.Content as rre_content
use Rattle.hextile.proofs.TilesRead as hextile_content
use Rattle.rect_data.specs.declared.encoding.Encoding.{Encoding}
use Rattle.rect_data.specs.declared.encoding.Encoding.TheVariants as encodings
use Rattle.rect_data.specs.Data.{number_of}
use Rattle.terms.specs.Area.{is_in, LiesWithin}
use Rattle.rect_data.specs.Grammar.{encoding_of, is_inside, data_at}
use Rattle.rect_data.proofs.Local.{data_local}
use Rattle.rect_data.proofs.Steps.{pixels_whole}
use Rattle.rect_codec.specs.Picture.{raw_picture, rre_shown, hextile_shown, picture_of, painted_data}
use Rattle.terms.proofs.Areas.{area_back as area_again}
use Rattle.client_wire.specs.Written.{rectangle_head}
use Rattle.rect_codec.specs.Parts.{parts_head, IsRectangle}
use Rattle.rect_codec.specs.Written.{Shows}
use Rattle.rect_codec.specs.Update.{area_of, rectangle_at, rectangles_at, update_at, HasColors, DrawsColors}

-- the data of a rectangle that was written are read whole
pub data_whole : (f : Format) (width height : ℕ) (area : Area) (e : Encoding) (body : List ℕ) (colors : List Color) → Shows e f area.w area.h colors body
    → data_at f width height e area body ≡ Got tt []
unfolding data_at
data_whole f width height area encodings.Raw body colors shows =
    ap (data_at f width height encodings.Raw area) (sym (append-nil body)) ∙ pixels_whole f area body [] (omega (arith, shows.size))
data_whole f width height area encodings.CopyRect body colors shows = absurd shows
data_whole f width height area encodings.Rre body colors shows =
    rw (rre_content.data_whole f area.w area.h body shows.content shows.is) refl
data_whole f width height area encodings.Hextile body colors shows =
    rw (hextile_content.data_whole f area.w area.h body shows.tiles shows.is) refl

-- whatever follows them
pub data_read : (f : Format) (width height : ℕ) (area : Area) (e : Encoding) (body rest : List ℕ) → data_at f width height e area body ≡ Got tt []
    → data_at f width height e area (body ++ rest) ≡ Got tt rest
data_read f width height area e body rest whole =
    subst (λ (r : Reading Unit WireFault). Extends r rest (data_at f width height e area (body ++ rest))) whole (data_local f width height e area body rest)

-- and show what was given
pub data_shown : (f : Format) (area : Area) (e : Encoding) (body : List ℕ) (colors : List Color) (before : Picture) → Shows e f area.w area.h colors body
    → (x y : ℕ) → x < area.w → y < area.h → picture_of f e area body before (area.x + x) (area.y + y) ≡ rows_of colors area.w x y
unfolding raw_picture rre_shown hextile_shown
data_shown f area encodings.Raw body colors before shows x y across down =
    let column : area.x + x - area.x ≡ x = omega arith in
    let row : area.y + y - area.y ≡ y = omega arith in
    rw (column, row) (shows.picture x y across down)
data_shown f area encodings.CopyRect body colors before shows x y across down = absurd shows
data_shown f area encodings.Rre body colors before shows x y across down =
    let column : area.x + x - area.x ≡ x = omega arith in
    let row : area.y + y - area.y ≡ y = omega arith in
    rw (rre_content.data_whole f area.w area.h body shows.content shows.is, column, row) (shows.picture x y across down)
data_shown f area encodings.Hextile body colors before shows x y across down =
    let column : area.x + x - area.x ≡ x = omega arith in
    let row : area.y + y - area.y ≡ y = omega arith in
    rw (hextile_content.data_whole f area.w area.h body shows.tiles shows.is, column, row) (shows.picture x y across down)

-- the pixels of an area, and the others
pub pixel_in : (area : Area) (x y : ℕ) → x < area.w → y < area.h → is_in area (area.x + x) (area.y + y) ≡ true
pixel_in area x y across down = rw (
  le-leb area.x (area.x + x) (omega arith),
  lt-ltb (area.x + x) (area.x + area.w) (omega arith),
  le-leb area.y (area.y + y) (omega arith),
  lt-ltb (area.y + y) (area.y + area.h) (omega arith),
) refl

pub has_colors : (f : Format) (area : Area) (e : Encoding) (body : List ℕ) (colors : List Color) (before : Picture) → Shows e f area.w area.h colors body
    → HasColors area colors before (painted_data f e area body before)
unfolding painted_data
has_colors f area e body colors before shows = record {
  here = λ x y across down. rw (pixel_in area x y across down) (data_shown f area e body colors before shows x y across down);
  elsewhere = λ x y away. rw away refl;
}

-- ---- the head

pub u16_back : (n : ℕ) → 256 * (n / 256) + n % 256 ≡ n
u16_back n = omega arith

area_back : (a : Area) (number : ℕ) → area_of (rectangle_head a number) ≡ a
area_back a number = area_again a (u32_bytes number)

number_back : (a : Area) (number : ℕ) → u32_at (rectangle_head a number) 8 ≡ number
number_back a number = omega arith

pub rectangle_read : (f : Format) (width height : ℕ) (area : Area) (number : ℕ) (e : Encoding) (body rest : List ℕ) → is_inside width height area ≡ true → encoding_of number ≡ Some e
    → data_at f width height e area (body ++ rest) ≡ Got tt rest
    → rectangle_at f width height ((rectangle_head area number ++ body) ++ rest) ≡ Got (record { area = area; encoding = e; content = body }) rest
unfolding rectangle_at
rectangle_read f width height area number e body rest inside is whole =
    let head = field-whole {E = WireFault} 12 (rectangle_head area number) (body ++ rest) refl in
    let kept : take (length (body ++ rest) - length rest) (body ++ rest) ≡ body =
    take_at body rest (length (body ++ rest) - length rest) (omega (arith, length-append body rest)) in
    ap (rectangle_at f width height) (append_assoc (rectangle_head area number) body rest)
    ∙ rw (head, area_back area number, inside, number_back area number, is, whole, kept) refl

pub encoding_is : (e : Encoding) → encoding_of (number_of e) ≡ Some e
encoding_is encodings.Raw = refl
encoding_is encodings.CopyRect = refl
encoding_is encodings.Rre = refl
encoding_is encodings.Hextile = refl

pub inside_is : (width height : ℕ) (area : Area) → LiesWithin width height area → is_inside width height area ≡ true
unfolding is_inside
inside_is width height area is = rw (le-leb (area.x + area.w) width is.columns, le-leb (area.y + area.h) height is.rows) refl

-- an update of one rectangle is read as that
update_read : (f : Format) (width height : ℕ) (area : Area) (colors : List Color) (e : Encoding) (bytes one : List ℕ) → LiesWithin width height area
    → bytes ≡ parts_head 1 ++ one → (r : IsRectangle f area colors e one)
    → update_at f width height bytes ≡ Got (record { area = area; encoding = e; content = r.body } ∷ []) []
unfolding update_at rectangles_at
update_read f width height area colors e bytes one inside is r =
    let rest : List ℕ = rectangle_head area (number_of e) ++ r.body in
    let head = field-whole {E = WireFault} 4 (parts_head 1) rest refl in
    let whole = data_read f width height area e r.body [] (data_whole f width height area e r.body colors r.shows) in
    let first = ap (rectangle_at f width height) (sym (append-nil rest)) ∙ rectangle_read f width height area (number_of e) e r.body [] (inside_is width height area inside) (encoding_is e) whole in
    ap (update_at f width height) (is ∙ ap (λ z. parts_head 1 ++ z) r.bytes_are) ∙ rw (head, first) refl

pub draws_colors : (f : Format) (width height : ℕ) (area : Area) (colors : List Color) (e : Encoding) (bytes one : List ℕ) → LiesWithin width height area
    → bytes ≡ parts_head 1 ++ one → IsRectangle f area colors e one → DrawsColors f width height area colors bytes
draws_colors f width height area colors e bytes one inside is r = record {
  drawn = record { area = area; encoding = e; content = r.body };
  area_is = refl;
  reads = update_read f width height area colors e bytes one inside is r;
  paints = λ before. has_colors f area e r.body colors before r.shows;
}
