-- An update that was written is a message of one rectangle, and paints its colours.
use Rattle.std.proofs.Common.{◌≡◌, ℕ, ◌+◌, ◌-◌, ◌≤◌, List, [], ◌∷◌, ◌++◌, length, take, inl, refl, sym, ap, subst, ◌∙◌, arith}
use Rattle.std.specs.Prelude.{slice_range}
use Rattle.std.proofs.lemmas.List.{append-nil, drop_at, take_all}
use Rattle.terms.proofs.Sizes.{are_limits}
use Rattle.terms.specs.declared.format.Format.{Format}
use Rattle.pixel_format.specs.declared.Color.{Color}
use Rattle.pixel_format.specs.Format.{host_format}
use Rattle.pixel_format.specs.Canvas.{Picture}
use Rattle.terms.specs.declared.area.Area.{Area}
use Rattle.rect_data.specs.Data.{AreData, number_of}
use Rattle.terms.specs.Area.{LiesWithin}
use Rattle.rect_data.specs.declared.encoding.Encoding.{Encoding}
use Rattle.rect_data.specs.declared.encoding.Encoding.TheVariants as encodings
use Rattle.rect_codec.specs.Picture.{painted_data}
use Rattle.rect_codec.specs.Update.{HasColors}
use Rattle.terms.specs.Number.{u32_bytes}
use Rattle.terms.proofs.Areas.{area_back as area_again}
use Rattle.client_wire.specs.Written.{rectangle_head}
use Rattle.rect_codec.specs.Parts.{parts_head, IsRectangle as IsRectangleIn}
use Rattle.rect_codec.specs.Written.{Shows}
use Rattle.rect_codec.proofs.Drawing.{has_colors}
use Rattle.rfb_wire.specs.declared.message.Rectangle.{Rectangle}
use Rattle.rfb_wire.specs.Grammar.{message_limit, area_of, encoding_number}
use Rattle.rfb_wire.specs.Message.{IsRectangle, IsMessage}
use Rattle.rfb_wire.proofs.Messages.{message_is_read}
use Rattle.painter.specs.Picture.{painted_rectangles}
use Rattle.painter.specs.Update.{PaintsColors}

content_is : (width height : ℕ) (area : Area) (colors : List Color) (e : Encoding) (body : List ℕ) → Shows e host_format area.w area.h colors body
    → AreData host_format width height e area body
content_is width height area colors encodings.Raw body shows = omega (arith, shows.size)
content_is width height area colors encodings.CopyRect body shows = absurd shows
content_is width height area colors encodings.Rre body shows = (shows.content, shows.is)
content_is width height area colors encodings.Hextile body shows = (shows.tiles, shows.is)

area_back : (a : Area) (number : ℕ) → area_of (rectangle_head a number) ≡ a
unfolding area_of
area_back a number = area_again a (u32_bytes number)

number_back : (a : Area) (number : ℕ) → encoding_number (rectangle_head a number) ≡ number
unfolding encoding_number
number_back a number = omega arith

abbrev rectangle_of : Area → Encoding → List ℕ → Rectangle
rectangle_of area e body = record { area = area; encoding = e; start = 16; end = 16 + length body }

is_rectangle : (width height : ℕ) (area : Area) (colors : List Color) (e : Encoding) (body : List ℕ) → LiesWithin width height area → Shows e host_format area.w area.h colors body
    → IsRectangle width height 4 (rectangle_of area e body) (rectangle_head area (number_of e) ++ body)
is_rectangle width height area colors e body inside shows = record {
  header = rectangle_head area (number_of e);
  content = body;
  bytes_are = refl;
  header_length = refl;
  area_is = sym (area_back area (number_of e));
  encoding_is = sym (number_back area (number_of e));
  within = inside;
  content_is = content_is width height area colors e body shows;
  start_is = refl;
  end_is = refl;
}

is_message : (format : Format) (width height : ℕ) (area : Area) (colors : List Color) (e : Encoding) (bytes one : List ℕ) → bytes ≡ parts_head 1 ++ one → (r : IsRectangleIn host_format area colors e one)
    → LiesWithin width height area → length bytes ≤ message_limit format → IsMessage (message_limit format) width height bytes (rectangle_of area e r.body ∷ [])
is_message format width height area colors e bytes one is r inside short =
    let first : List ℕ = rectangle_head area (number_of e) ++ r.body in
    record {
      kind = inl (
        record {
          padding = 0;
          high = 0;
          low = 1;
          body = first;
          bytes_are = is ∙ ap (λ z. parts_head 1 ++ z) r.bytes_are;
          count_is = refl;
          body_is = (first, [], sym (append-nil first), is_rectangle width height area colors e r.body inside r.shows, refl);
        },
        short,
      );
      short = omega (arith, short, (are_limits format).text);
    }

-- the data of the rectangle
data_of : (area : Area) (colors : List Color) (e : Encoding) (bytes one : List ℕ) → bytes ≡ parts_head 1 ++ one → (r : IsRectangleIn host_format area colors e one)
    → slice_range bytes 16 (16 + length r.body) ≡ r.body
data_of area colors e bytes one is r =
    ap (λ (z : List ℕ). slice_range z 16 (16 + length r.body)) (is ∙ ap (λ z. parts_head 1 ++ z) r.bytes_are)
    ∙ ap (λ (z : List ℕ). take (16 + length r.body - 16) z) (drop_at (parts_head 1 ++ rectangle_head area (number_of e)) r.body 16 refl)
    ∙ take_all (16 + length r.body - 16) r.body (omega arith)

one_painted : (bytes : List ℕ) (r : Rectangle) (before : Picture) → painted_rectangles bytes (r ∷ []) before ≡ painted_data host_format r.encoding r.area (slice_range bytes r.start r.end) before
unfolding painted_rectangles
one_painted bytes r before = refl

pub paints_colors : (format : Format) (width height : ℕ) (area : Area) (colors : List Color) (e : Encoding) (bytes one : List ℕ) → bytes ≡ parts_head 1 ++ one → IsRectangleIn host_format area colors e one
    → LiesWithin width height area → length bytes ≤ message_limit format → PaintsColors format width height area colors bytes
paints_colors format width height area colors e bytes one is r inside short =
    let rectangle = rectangle_of area e r.body in
    record {
      rectangle = rectangle;
      area_is = refl;
      recorded = message_is_read (message_limit format) width height bytes (rectangle ∷ []) (is_message format width height area colors e bytes one is r inside short);
      paints = λ before.
          let painted = one_painted bytes rectangle before ∙ ap (λ (z : List ℕ). painted_data host_format e area z before) (data_of area colors e bytes one is r) in
          subst (λ (p : Picture). HasColors area colors before p) (sym painted) (has_colors host_format area e r.body colors before r.shows);
    }

pub encoding_kept : (format : Format) (width height : ℕ) (area : Area) (colors : List Color) (e : Encoding) (bytes one : List ℕ) (is : bytes ≡ parts_head 1 ++ one) (r : IsRectangleIn host_format area colors e one)
    (inside : LiesWithin width height area) (short : length bytes ≤ message_limit format) → (paints_colors format width height area colors e bytes one is r inside short).rectangle.encoding ≡ e
unfolding paints_colors
encoding_kept format width height area colors e bytes one is r inside short = refl
