-- How long data are.
use Rattle.std.proofs.Common.{◌≡◌, ℕ, ◌+◌, ◌-◌, ◌*◌, ◌/◌, ◌%◌, ◌<◌, ◌≤◌, List, [], ◌∷◌, length, ap, ◌∙◌, arith, length-append}
use Rattle.std.specs.Prelude.{not}
use Rattle.std.proofs.lemmas.Nat.{mul-le, div-add-mod'}
use Rattle.std.proofs.lemmas.List.Sums.{count_by-le-length}
use Rattle.pixel_format.specs.declared.Color.{Color}
use Rattle.pixel_format.specs.Format.{Format, pixel_bytes}
use Rattle.terms.specs.Appending.{Appends}
use Rattle.rre.specs.declared.data.Subrectangle.{Subrectangle}
use Rattle.rre.specs.Frequent.{is_color, others_than}
use Rattle.rre.specs.Encoded.{AreBytesOfAll, IsWritten, IsMajority, HasFew, HasMany, IsLong}

one_more : (n p : ℕ) → (n + 1) * p ≡ n * p + p
one_more n p = omega arith

length_all : (f : Format) (parts : List Subrectangle) (body : List ℕ) → AreBytesOfAll f parts body → length body ≡ length parts * (pixel_bytes f + 8)
length_all f [] body none = ap length none ∙ omega arith
length_all f (s ∷ parts) body (first, rest, is, here, others) =
    ap length is ∙ length-append first rest
    ∙ omega (arith, ap length here.bytes_are, length-append here.pixel here.area, here.pixel_length, here.area_length, length_all f parts rest others, one_more (length parts) (pixel_bytes f + 8))

pub has_few : (f : Format) (colors : List Color) (background : Color) (parts : List Subrectangle) (old new : List ℕ) → IsMajority colors background → length parts ≤ others_than background colors
    → Appends (IsWritten f background parts) old new → HasFew f colors (length old) (length new)
has_few f colors background parts old new majority few written =
    let w = written.are in
    let head = w.head_is in
    record {
      background = background;
      majority = majority;
      count = length parts;
      few = few;
      length_is = omega (
        arith,
        ap length written.is,
        length-append old written.bytes,
        ap length w.bytes_are,
        length-append w.head w.body,
        ap length head.head_is,
        length-append head.number w.pixel,
        head.number_length,
        head.pixel_length,
        length_all f parts w.body w.body_is,
      );
    }

-- if they are as long as a limit, or would be
pub long_few : (f : Format) (colors : List Color) (old new limit : ℕ) → HasFew f colors old new → limit ≤ new - old → IsLong f colors limit
long_few f colors old new limit has long = record {
  background = has.background;
  majority = has.majority;
  long = omega (arith, has.length_is, has.few, mul-le has.count (pixel_bytes f + 8) (others_than has.background colors) (pixel_bytes f + 8) has.few (omega arith));
}

pub long_many : (f : Format) (colors : List Color) (limit size most : ℕ) → size ≡ pixel_bytes f + 8 → most ≡ limit / size → HasMany colors most → IsLong f colors limit
long_many f colors limit size most is divides has = record {
  background = has.background;
  majority = has.majority;
  long =
      let some : 0 < size = omega arith in
      let up : (most + 1) * size ≤ others_than has.background colors * size = mul-le (most + 1) size (others_than has.background colors) size (omega (arith, has.many)) (omega arith) in
      let parts : most * size + limit % size ≡ limit = ap (λ z. z * size + limit % size) divides ∙ div-add-mod' limit size in
      let rest : limit < (most + 1) * size = omega (arith, parts, one_more most size) in
      let sizes : others_than has.background colors * size ≡ others_than has.background colors * (pixel_bytes f + 8) = ap (λ z. others_than has.background colors * z) is in
      omega (arith, up, rest, sizes);
}

-- no more pixels than there are have another colour
pub never_many : (colors : List Color) (most : ℕ) → length colors ≤ most → HasMany colors most → ⊥
never_many colors most all has = absurd (omega (arith, has.many, count_by-le-length (λ (other : Color). not (is_color has.background other)) colors))
