-- What an encoder wrote shows the colours.
use Rattle.std.proofs.Common.{◌≡◌, ℕ, zero, suc, ◌+◌, ◌*◌, ◌<◌, List, [], ◌∷◌, length, ◌++◌, get_or, sym, subst, ◌∙◌, arith}
use Rattle.std.specs.Prelude.{All}
use Rattle.std.proofs.lemmas.List.{append_cancel_left}
use Rattle.std.proofs.lemmas.Nat.{mul-add-lt}
use Rattle.std.proofs.lemmas.List.Elements.{All-get_or}
use Rattle.pixel_format.specs.declared.Color.{Color}
use Rattle.pixel_format.specs.Format.{Format}
use Rattle.pixel_format.specs.Pixel.{IsWithin}
use Rattle.pixel_format.specs.Canvas.{Agree, black, rows_of}
use Rattle.terms.specs.Appending.{Appends}
use Rattle.rre.specs.declared.data.Subrectangle.{Subrectangle}
use Rattle.rre.specs.Data.{AreSubrectangles}
use Rattle.rre.specs.Encoded.{IsUniform, AreUniform, part_picture, AreBytesOfAll, IsWritten, Shows, data_bytes}

uniform_at : (colors : List Color) (w h : ℕ) (parts : List Subrectangle) (k : ℕ) (d : Subrectangle) → AreUniform colors w h parts → k < length parts
    → IsUniform colors w h (get_or parts k d)
uniform_at colors w h [] k d are lt = absurd (omega arith)
uniform_at colors w h (s ∷ parts) zero d are lt = are.0
uniform_at colors w h (s ∷ parts) (suc k) d are lt = uniform_at colors w h parts k d are.1 (omega arith)

-- the colour of a part is one of the colours
color_within : (f : Format) (colors : List Color) (w h : ℕ) (s : Subrectangle) → All (IsWithin f) colors → length colors ≡ h * w → IsUniform colors w h s
    → IsWithin f s.color
color_within f colors w h s all size u =
    let columns = u.within.columns in
    let rows = u.within.rows in
    let across = u.across in
    let down = u.down in
    let same = u.same 0 0 across down in
    let inside : (s.y + 0) * w + (s.x + 0) < length colors = omega (arith, mul-add-lt (s.y + 0) w (s.x + 0) h (omega arith) (omega arith), size) in
    subst (IsWithin f) same (All-get_or (IsWithin f) colors ((s.y + 0) * w + (s.x + 0)) black inside all)

pub parts_within : (f : Format) (colors : List Color) (w h : ℕ) (parts : List Subrectangle) (k : ℕ) (d : Subrectangle) → All (IsWithin f) colors → length colors ≡ h * w
    → AreUniform colors w h parts → k < length parts → IsWithin f (get_or parts k d).color
parts_within f colors w h parts k d all size are lt = color_within f colors w h (get_or parts k d) all size (uniform_at colors w h parts k d are lt)

-- all parts lie within the rectangle
subrectangles_of : (f : Format) (colors : List Color) (w h : ℕ) (parts : List Subrectangle) (body : List ℕ) → AreUniform colors w h parts → AreBytesOfAll f parts body
    → AreSubrectangles f w h parts body
subrectangles_of f colors w h [] body are bytes = bytes
subrectangles_of f colors w h (s ∷ parts) body are bytes =
    (bytes.0, bytes.1, bytes.2, bytes.3, are.0.within, subrectangles_of f colors w h parts bytes.1 are.1 bytes.4)

pub shown : (f : Format) (colors : List Color) (w h : ℕ) (background : Color) (parts : List Subrectangle) (old new : List ℕ) → AreUniform colors w h parts
    → Agree w h (part_picture background parts) (rows_of colors w) → Appends (IsWritten f background parts) old new
    → new ≡ old ++ data_bytes f (record { background = background; subrectangles = parts }) → Appends (Shows f w h colors) old new
shown f colors w h background parts old new are picture written bytes = record {
  bytes = written.bytes;
  is = written.is;
  are = record {
    content = record { background = background; subrectangles = parts };
    is = record {
      head = written.are.head;
      pixel = written.are.pixel;
      body = written.are.body;
      bytes_are = written.are.bytes_are;
      head_is = written.are.head_is;
      background_is = written.are.background_is;
      body_is = subrectangles_of f colors w h parts written.are.body are written.are.body_is;
    };
    bytes_are = append_cancel_left old written.bytes (data_bytes f (record { background = background; subrectangles = parts })) (sym written.is ∙ bytes);
    picture = picture;
  };
}
