-- What one reads and paints of an update of several parts.
use Rattle.std.proofs.Common.{◌≡◌, ℕ, ◌+◌, ◌-◌, ◌*◌, ◌<◌, ◌^◌, List, [], ◌∷◌, ◌++◌, length, suc, refl, ap, ◌∙◌, arith, inl, inr, length-append}
use Rattle.std.specs.Prelude.{All, Result, Ok, Err, OnOk}
use Rattle.std.specs.List.{AllZip}
use Rattle.pixel_format.specs.declared.Color.{Color}
use Rattle.pixel_format.specs.Format.{Format, pixel_bytes}
use Rattle.pixel_format.specs.Canvas.{Picture}
use Rattle.terms.specs.Appending.{Appends, AreEach}
use Rattle.terms.specs.Reading.{Got}
use Rattle.terms.proofs.Appends.{joined}
use Rattle.terms.proofs.Readings.{field-whole}
use Rattle.terms.specs.declared.area.Area.{Area}
use Rattle.terms.specs.declared.wire_fault.WireFault.{WireFault}
use Rattle.client_wire.specs.Written.{rectangle_head}
use Rattle.rect_data.specs.declared.encoding.Encoding.{Encoding}
use Rattle.rect_data.specs.declared.encoding.Encoding.TheVariants as encodings
use Rattle.rect_data.specs.Data.{number_of}
use Rattle.terms.specs.Area.{LiesWithin}
use Rattle.rect_data.specs.Grammar.{is_inside, source_of, data_at}
use Rattle.rect_data.proofs.Steps.{source_inside}
use Rattle.rect_codec.specs.declared.parts.Part.{Part}
use Rattle.rect_codec.specs.declared.parts.Part.TheVariants as parts
use Rattle.rect_codec.specs.Picture.{copied_picture, painted_data}
use Rattle.rect_codec.specs.Update.{Drawn, rectangle_at, rectangles_at, update_at}
use Rattle.rect_codec.specs.Parts.{source_bytes, parts_head, IsRectangle, IsRectangleFor, IsPart, AreParts, PartLiesWithin, HasCopied, Draws, DrawsParts}
use Rattle.rect_codec.specs.Written.{ArePixels, Shows}
use Rattle.rect_codec.proofs.PixelsJoined.{pixels_show}
use Rattle.rect_codec.proofs.Drawing.{data_whole, data_read, pixel_in, has_colors, u16_back, rectangle_read, encoding_is, inside_is}

-- a part that is read as a rectangle which paints what it says
record IsRead (f : Format) (width height : ℕ) (part : Part) (bytes rest : List ℕ) : Type 0 where
  drawn : Drawn
  reads : rectangle_at f width height (bytes ++ rest) ≡ Got drawn rest
  draws : Draws f part drawn

source_back : (area : Area) (x y : ℕ) → source_of area (source_bytes x y) ≡ record { x = x; y = y; w = area.w; h = area.h }
unfolding source_of
source_back area x y = rw (u16_back x, u16_back y) refl

has_copied : (f : Format) (area : Area) (x y : ℕ) (before : Picture) → HasCopied area x y before (painted_data f encodings.CopyRect area (source_bytes x y) before)
unfolding painted_data copied_picture
has_copied f area x y before = record {
  here = λ column row across down.
      let right : area.x + column - area.x ≡ column = omega arith in
      let below : area.y + row - area.y ≡ row = omega arith in
      rw (pixel_in area column row across down, source_back area x y, right, below) refl;
  elsewhere = λ column row away. rw away refl;
}

copy_whole : (f : Format) (width height : ℕ) (area : Area) (x y : ℕ) (rest : List ℕ) → LiesWithin width height (record { x = x; y = y; w = area.w; h = area.h })
    → data_at f width height encodings.CopyRect area (source_bytes x y ++ rest) ≡ Got tt rest
unfolding data_at
copy_whole f width height area x y rest inside =
    source_inside width height area (source_bytes x y) rest refl (ap (is_inside width height) (source_back area x y) ∙ inside_is width height _ inside)

part_read : (f : Format) (width height : ℕ) (part : Part) (bytes rest : List ℕ) → PartLiesWithin width height part → IsPart f part bytes → IsRead f width height part bytes rest
part_read f width height (parts.Copy area x y) bytes rest inside is = record {
  drawn = record { area = area; encoding = encodings.CopyRect; content = source_bytes x y };
  reads = ap (λ (b : List ℕ). rectangle_at f width height (b ++ rest)) is
      ∙ rectangle_read f width height area (number_of encodings.CopyRect) encodings.CopyRect (source_bytes x y) rest (inside_is width height area inside.0) refl
      (copy_whole f width height area x y rest inside.1);
  draws = record { area_is = refl; encoding_is = refl; paints = has_copied f area x y };
}
part_read f width height (parts.Colors area colors asked) bytes rest inside r =
    let body = r.is.body in
    record {
      drawn = record { area = area; encoding = r.encoding; content = body };
      reads = ap (λ (b : List ℕ). rectangle_at f width height (b ++ rest)) r.is.bytes_are
          ∙ rectangle_read f width height area (number_of r.encoding) r.encoding body rest (inside_is width height area inside) (encoding_is r.encoding)
          (data_read f width height area r.encoding body rest (data_whole f width height area r.encoding body colors.now r.is.shows));
      draws = record { area_is = refl; encoding_is = r.encoding_is; paints = λ before. has_colors f area r.encoding body colors.now before r.is.shows };
    }

record AreRead (f : Format) (width height : ℕ) (parts : List Part) (bytes : List ℕ) : Type 0 where
  drawn : List Drawn
  reads : rectangles_at f width height (length parts) bytes ≡ Got drawn []
  each : AllZip (Draws f) parts drawn

parts_read : (f : Format) (width height : ℕ) (parts : List Part) (bytes : List ℕ) → All (PartLiesWithin width height) parts → AreEach (IsPart f) parts bytes
    → AreRead f width height parts bytes
unfolding rectangles_at
parts_read f width height [] bytes inside none = record { drawn = []; reads = ap (Got []) none; each = tt }
parts_read f width height (part ∷ others) bytes inside are =
    let first = part_read f width height part are.0 are.1 (inside 0 part (omega arith)) are.3 in
    let following = parts_read f width height others are.1 (λ k d less. inside (suc k) d (omega arith)) are.4 in
    record {
      drawn = first.drawn ∷ following.drawn;
      reads = ap (rectangles_at f width height (suc (length others))) are.2 ∙ rw (first.reads, following.reads) refl;
      each = (first.draws, following.each);
    }

pub draws_parts : (f : Format) (width height : ℕ) (parts : List Part) (bytes : List ℕ) → length parts < 2 ^ 16 → All (PartLiesWithin width height) parts → AreParts f parts bytes
    → DrawsParts f width height parts bytes
unfolding update_at
draws_parts f width height parts bytes few inside u =
    let read = parts_read f width height parts u.body inside u.are in
    let head = field-whole {E = WireFault} 4 (parts_head (length parts)) u.body refl in
    record {
      drawn = read.drawn;
      reads = ap (update_at f width height) u.bytes_are ∙ rw (head, u16_back (length parts), read.reads) refl;
      each = read.each;
    }

-- what holds of an answer if two things do
pub on_ok_both : {T E P Q R : Type 0} (r : Result T E) → OnOk r P → OnOk r Q → (P → Q → R) → OnOk r R
on_ok_both (Ok value) p q give = give p q
on_ok_both (Err fault) p q give = tt

-- a head, and rectangles after it
pub update_of_parts : (f : Format) (parts : List Part) (old between new : List ℕ) → between ≡ old ++ parts_head (length parts)
    → Appends (AreEach (IsPart f) parts) between new → Appends (AreParts f parts) old new
update_of_parts f parts old between new begin a = record {
  bytes = parts_head (length parts) ++ a.bytes;
  is = joined old (parts_head (length parts)) a.bytes between new begin a.is;
  are = record { body = a.bytes; bytes_are = refl; are = a.are };
}

-- a head, and pixels after it
pub raw_rectangle : (f : Format) (area : Area) (colors : List Color) (old between new : List ℕ) → length colors ≡ area.h * area.w
    → between ≡ old ++ rectangle_head area (number_of encodings.Raw) → Appends (ArePixels f colors) between new → Appends (IsRectangle f area colors encodings.Raw) old new
raw_rectangle f area colors old between new size begin pixels =
    let shown = pixels_show f area.w area.h colors between new size pixels in
    record {
      bytes = rectangle_head area (number_of encodings.Raw) ++ shown.bytes;
      is = joined old (rectangle_head area (number_of encodings.Raw)) shown.bytes between new begin shown.is;
      are = record { body = shown.bytes; bytes_are = refl; shows = shown.are };
    }

-- a rectangle in Raw is one for who asked for any encoding
pub raw_for : (f : Format) (area : Area) (colors : List Color) (asked : Encoding) (old new : List ℕ) → Appends (IsRectangle f area colors encodings.Raw) old new
    → Appends (IsRectangleFor f area colors asked) old new
raw_for f area colors asked old new a =
    let u = a.are in
    record {
      bytes = a.bytes;
      are = record {
        encoding = encodings.Raw;
        encoding_is = inr refl;
        is = u;
        short = omega (arith, ap length u.bytes_are, length-append (rectangle_head area (number_of encodings.Raw)) u.body, u.shows.size);
      };
      is = a.is;
    }

-- a head, and data after it that are shorter than in Raw
pub short_rectangle : (f : Format) (area : Area) (colors : List Color) (asked : Encoding) (old between new : List ℕ)
    → between ≡ old ++ rectangle_head area (number_of asked) → Appends (Shows asked f area.w area.h colors) between new
    → length new < length between + area.h * area.w * pixel_bytes f → Appends (IsRectangleFor f area colors asked) old new
short_rectangle f area colors asked old between new begin a short =
    let head : List ℕ = rectangle_head area (number_of asked) in
    let all : length new ≡ length between + length a.bytes = ap length a.is ∙ length-append between a.bytes in
    record {
      bytes = head ++ a.bytes;
      is = joined old head a.bytes between new begin a.is;
      are = record {
        encoding = asked;
        encoding_is = inl refl;
        is = record { body = a.bytes; bytes_are = refl; shows = a.are };
        short = omega (arith, length-append head a.bytes, all, short);
      };
    }
