use Rattle.std.proofs.Common.{◌≡◌, ℕ, ◌*◌, ◌≤◌, true, List, [], ◌∷◌, ◌++◌, length, refl, sym, inl, arith}
use Rattle.std.proofs.lemmas.List.{append-nil}
use Rattle.terms.specs.declared.area.Area.{Area}
use Rattle.rect_data.specs.Grammar.{is_inside}
use Rattle.rect_data.proofs.Content.{inside_within}
use Rattle.rfb_wire.specs.Grammar.{area_of, encoding_number}
use Rattle.rfb_wire.specs.Message.{IsUpdate, IsRectangle}
use Rattle.rfb_wire.specs.Written.{raw_update_bytes, raw_rectangle}
use Rattle.terms.specs.Area.{area_bytes}
use Rattle.terms.proofs.Areas.{area_back}
use Rattle.rfb_wire.proofs.Messages.{message_is_read}
use Rattle.rfb_wire.proofs.laws.written_update_is_read.Goals as goal

-- the header of the rectangle
abbrev header_of : Area → List ℕ
header_of a = area_bytes a ++ 0 ∷ 0 ∷ 0 ∷ 0 ∷ []

same_area : (a : Area) → a ≡ area_of (header_of a)
unfolding area_of
same_area a = sym (area_back a (0 ∷ 0 ∷ 0 ∷ 0 ∷ []))

raw_encoding : (a : Area) → 0 ≡ encoding_number (header_of a)
unfolding encoding_number
raw_encoding a = refl

is_rectangle : (width height : ℕ) (a : Area) (pixels : List ℕ) → is_inside width height a ≡ true → length pixels ≡ 4 * (a.w * a.h)
    → IsRectangle width height 4 (raw_rectangle a) (header_of a ++ pixels)
is_rectangle width height a pixels inside whole = record {
  header = header_of a;
  content = pixels;
  bytes_are = refl;
  header_length = refl;
  area_is = same_area a;
  encoding_is = raw_encoding a;
  within = inside_within width height a inside;
  content_is = whole;
  start_is = refl;
  end_is = omega arith;
}

is_update : (width height : ℕ) (a : Area) (pixels : List ℕ) → is_inside width height a ≡ true → length pixels ≡ 4 * (a.w * a.h)
    → IsUpdate width height (raw_update_bytes a pixels) (raw_rectangle a ∷ [])
is_update width height a pixels inside whole = record {
  padding = 0;
  high = 0;
  low = 1;
  body = header_of a ++ pixels;
  bytes_are = refl;
  count_is = refl;
  body_is = (header_of a ++ pixels, [], sym (append-nil (header_of a ++ pixels)), is_rectangle width height a pixels inside whole, refl);
}

pub returns : goal.returns
returns c = λ limit width height a pixels inside whole short.
    let within : length (raw_update_bytes a pixels) ≤ limit = omega arith in
    message_is_read limit width height (raw_update_bytes a pixels) (raw_rectangle a ∷ [])
    (record { kind = inl (is_update width height a pixels inside whole, within); short = omega arith })
