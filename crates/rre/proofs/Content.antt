-- What the grammar reads is data of a rectangle, and data are what it reads. The same of what is
-- refused.
use Rattle.std.proofs.Common.{◌≡◌, ℕ, zero, suc, ◌+◌, ◌<◌, inl, inr, true, false, List, [], ◌∷◌, ◌++◌, length, take, drop, refl, sym, ap, ◌∙◌, subst, arith, append_assoc, length-append}
use Rattle.std.proofs.lemmas.Bool.{le-leb, leb-true, and_parts}
use Rattle.std.proofs.lemmas.List.{append-nil, length-take-le, length-drop, take-append-drop, take_at, drop_at}
use Rattle.pixel_format.specs.Format.{Format, pixel_bytes}
use Rattle.pixel_format.specs.Pixel.{pixel_color}
use Rattle.terms.specs.Reading.{Got, Bad, ◌>>=◌, field, guard}
use Rattle.terms.proofs.Readings.{bind_got, guard_got, field_got, field-whole, true_or_false, field_front}
use Rattle.terms.proofs.Measured.{Front}
use Rattle.terms.proofs.Listed.{ListRead, none_read, one_more_read}
use Rattle.terms.specs.Number.{u32_at}
use Rattle.rre.specs.declared.data.Subrectangle.{Subrectangle}
use Rattle.rre.specs.Grammar.{Content, Fault, Outside, head_bytes, subrectangle_bytes, subrectangle_of, is_inside, subrectangle_at, subrectangles_at, data_at}
use Rattle.rre.specs.Data.{LiesWithin, AreBytesOf, AreSubrectangles, IsHead, IsData, IsRefused}
use Rattle.rre.proofs.Steps.{subrectangle_whole}

-- ---- fields

-- a whole field is the bytes of its subrectangle
pub bytes_of_field : (f : Format) (bytes : List ℕ) → length bytes ≡ subrectangle_bytes f → AreBytesOf f (subrectangle_of f bytes) bytes
unfolding subrectangle_of
bytes_of_field f bytes whole = record {
  pixel = take (pixel_bytes f) bytes;
  area = drop (pixel_bytes f) bytes;
  bytes_are = sym (take-append-drop (pixel_bytes f) bytes);
  pixel_length = length-take-le (pixel_bytes f) bytes (omega arith);
  area_length = rw (length-drop (pixel_bytes f) bytes) (omega arith);
  color_is = refl;
  x_is = refl;
  y_is = refl;
  w_is = refl;
  h_is = refl;
}

-- and the bytes of a subrectangle are a whole field
pub bytes_length : (f : Format) (s : Subrectangle) (bytes : List ℕ) → AreBytesOf f s bytes → length bytes ≡ subrectangle_bytes f
bytes_length f s bytes b = rw b.bytes_are (omega (arith, length-append b.pixel b.area, b.pixel_length, b.area_length))

pub bytes_subrectangle : (f : Format) (s : Subrectangle) (bytes : List ℕ) → AreBytesOf f s bytes → subrectangle_of f bytes ≡ s
unfolding subrectangle_of
bytes_subrectangle f s bytes b =
    let front : take (pixel_bytes f) bytes ≡ b.pixel = rw b.bytes_are (take_at b.pixel b.area (pixel_bytes f) b.pixel_length) in
    let following : drop (pixel_bytes f) bytes ≡ b.area = rw b.bytes_are (drop_at b.pixel b.area (pixel_bytes f) b.pixel_length) in
    rw (front, following, ← b.x_is, ← b.y_is, ← b.w_is, ← b.h_is, ← b.color_is) refl

pub within_is : (w h : ℕ) (s : Subrectangle) → is_inside w h s ≡ true → LiesWithin w h s
unfolding is_inside
within_is w h s e =
    let parts = and_parts _ _ e in
    record { columns = leb-true _ _ parts.0; rows = leb-true _ _ parts.1 }

pub inside_is : (w h : ℕ) (s : Subrectangle) → LiesWithin w h s → is_inside w h s ≡ true
unfolding is_inside
inside_is w h s is = rw (le-leb (s.x + s.w) w is.columns, le-leb (s.y + s.h) h is.rows) refl

outside_is : (w h : ℕ) (s : Subrectangle) → (LiesWithin w h s → ⊥) → is_inside w h s ≡ false
outside_is w h s leaves = elim (true_or_false (is_inside w h s)) [
  | inl t ↦ absurd (leaves (within_is w h s t))
  | inr t ↦ t
]

-- ---- subrectangles

pub record SubrectangleRead (f : Format) (w h : ℕ) (bytes : List ℕ) (s : Subrectangle) (rest : List ℕ) : Type 0 where
  pub first : List ℕ
  pub bytes_are : bytes ≡ first ++ rest
  pub is : AreBytesOf f s first
  pub within : LiesWithin w h s

pub subrectangle_read : (f : Format) (w h : ℕ) (bytes : List ℕ) (s : Subrectangle) (rest : List ℕ) → subrectangle_at f w h bytes ≡ Got s rest
    → SubrectangleRead f w h bytes s rest
unfolding subrectangle_at
subrectangle_read f w h bytes s rest e =
    let b = bind_got (field (subrectangle_bytes f) bytes) (λ whole after. guard (is_inside w h (subrectangle_of f whole)) Outside (Got (subrectangle_of f whole) after)) s rest e in
    let k = field_front (subrectangle_bytes f) bytes b.value b.rest (field_got (subrectangle_bytes f) bytes b.value b.rest b.first) in
    let g = guard_got (is_inside w h (subrectangle_of f b.value)) Outside (Got (subrectangle_of f b.value) b.rest) s rest b.then in
    let last = g.1 in
    let is : subrectangle_of f b.value ≡ s = cc in
    let rest_is : b.rest ≡ rest = cc in
    record {
      first = b.value;
      bytes_are = k.0 ∙ ap (λ z. b.value ++ z) rest_is;
      is = subst (λ (z : Subrectangle). AreBytesOf f z b.value) is (bytes_of_field f b.value k.1);
      within = subst (λ (z : Subrectangle). LiesWithin w h z) is (within_is w h (subrectangle_of f b.value) g.0);
    }

subrectangle_again : (f : Format) (w h : ℕ) (s : Subrectangle) (first more : List ℕ) → AreBytesOf f s first → LiesWithin w h s
    → subrectangle_at f w h (first ++ more) ≡ Got s more
subrectangle_again f w h s first more is within =
    subrectangle_whole f w h first more (bytes_length f s first is)
    ∙ rw (bytes_subrectangle f s first is, inside_is w h s within) refl

subrectangle_refused : (f : Format) (w h : ℕ) (s : Subrectangle) (first more : List ℕ) → AreBytesOf f s first → (LiesWithin w h s → ⊥)
    → subrectangle_at f w h (first ++ more) ≡ Bad Outside
subrectangle_refused f w h s first more is leaves =
    subrectangle_whole f w h first more (bytes_length f s first is)
    ∙ rw (bytes_subrectangle f s first is, outside_is w h s leaves) refl

subrectangles_read : (f : Format) (w h count : ℕ) (bytes : List ℕ) (ss : List Subrectangle) (rest : List ℕ) → subrectangles_at f w h count bytes ≡ Got ss rest
    → ListRead (AreSubrectangles f w h) count bytes ss rest
unfolding subrectangles_at
subrectangles_read f w h zero bytes ss rest e = none_read (AreSubrectangles f w h) bytes ss rest e refl
subrectangles_read f w h (suc count) bytes ss rest e =
    let b = bind_got (subrectangle_at f w h bytes) (λ first after. subrectangles_at f w h count after >>= λ others end. Got (first ∷ others) end) ss rest e in
    let r = subrectangle_read f w h bytes b.value b.rest b.first in
    let d = bind_got (subrectangles_at f w h count b.rest) (λ others end. Got (b.value ∷ others) end) ss rest b.then in
    one_more_read (AreSubrectangles f w h) (AreSubrectangles f w h) b.value d.value ss r.first bytes b.rest d.rest rest count r.bytes_are
    (subrectangles_read f w h count b.rest d.value d.rest d.first) d.then (λ body are. (r.first, body, refl, r.is, r.within, are))

subrectangles_again : (f : Format) (w h : ℕ) (ss : List Subrectangle) (body more : List ℕ) → AreSubrectangles f w h ss body
    → subrectangles_at f w h (length ss) (body ++ more) ≡ Got ss more
unfolding subrectangles_at
subrectangles_again f w h [] body more none = rw none refl
subrectangles_again f w h (s ∷ ss) body more are =
    let all : body ++ more ≡ are.0 ++ (are.1 ++ more) = ap (λ z. z ++ more) are.2 ∙ append_assoc are.0 are.1 more in
    rw (all, subrectangle_again f w h s are.0 (are.1 ++ more) are.3 are.4, subrectangles_again f w h ss are.1 more are.5) refl

subrectangles_refused : (f : Format) (w h : ℕ) (earlier : List Subrectangle) (count : ℕ) (body : List ℕ) (outside : Subrectangle) (field more : List ℕ)
    → AreSubrectangles f w h earlier body → length earlier < count → AreBytesOf f outside field → (LiesWithin w h outside → ⊥)
    → subrectangles_at f w h count (body ++ (field ++ more)) ≡ Bad Outside
unfolding subrectangles_at
subrectangles_refused f w h earlier zero body outside field more are less is leaves = absurd (omega arith)
subrectangles_refused f w h [] (suc count) body outside field more none less is leaves =
    rw (none, subrectangle_refused f w h outside field more is leaves) refl
subrectangles_refused f w h (s ∷ earlier) (suc count) body outside field more are less is leaves =
    let all : body ++ (field ++ more) ≡ are.0 ++ (are.1 ++ (field ++ more)) = ap (λ z. z ++ (field ++ more)) are.2 ∙ append_assoc are.0 are.1 (field ++ more) in
    rw (
      all,
      subrectangle_again f w h s are.0 (are.1 ++ (field ++ more)) are.3 are.4,
      subrectangles_refused f w h earlier count are.1 outside field more are.5 (omega arith) is leaves,
    ) refl

-- ---- the head

four_numbers : (number pixel : List ℕ) → length number ≡ 4 → u32_at (number ++ pixel) 0 ≡ u32_at number 0
four_numbers [] pixel e = absurd (omega arith)
four_numbers (a ∷ []) pixel e = absurd (omega arith)
four_numbers (a ∷ b ∷ []) pixel e = absurd (omega arith)
four_numbers (a ∷ b ∷ c ∷ []) pixel e = absurd (omega arith)
four_numbers (a ∷ b ∷ c ∷ d ∷ []) pixel e = refl
four_numbers (a ∷ b ∷ c ∷ d ∷ x ∷ xs) pixel e = absurd (omega arith)

pub head_is : (f : Format) (head : List ℕ) → length head ≡ head_bytes f → IsHead f head (u32_at head 0) (drop 4 head)
head_is f head whole =
    let number : length (take 4 head) ≡ 4 = length-take-le 4 head (omega arith) in
    record {
      number = take 4 head;
      head_is = sym (take-append-drop 4 head);
      number_length = number;
      count_is = ap (λ z. u32_at z 0) (sym (take-append-drop 4 head)) ∙ four_numbers (take 4 head) (drop 4 head) number;
      pixel_length = rw (length-drop 4 head) (omega arith);
    }

pub head_length : (f : Format) (head : List ℕ) (count : ℕ) (pixel : List ℕ) → IsHead f head count pixel → length head ≡ head_bytes f
head_length f head count pixel is = rw is.head_is (omega (arith, length-append is.number pixel, is.number_length, is.pixel_length))

pub head_count : (f : Format) (head : List ℕ) (count : ℕ) (pixel : List ℕ) → IsHead f head count pixel → u32_at head 0 ≡ count
head_count f head count pixel is = ap (λ z. u32_at z 0) is.head_is ∙ four_numbers is.number pixel is.number_length ∙ sym is.count_is

pub head_pixel : (f : Format) (head : List ℕ) (count : ℕ) (pixel : List ℕ) → IsHead f head count pixel → drop 4 head ≡ pixel
head_pixel f head count pixel is = ap (drop 4) is.head_is ∙ drop_at is.number pixel 4 is.number_length

-- ---- data

pub data_read : (f : Format) (w h : ℕ) (bytes : List ℕ) (content : Content) (rest : List ℕ) → data_at f w h bytes ≡ Got content rest
    → Front (IsData f w h) bytes content rest
unfolding data_at
data_read f w h bytes content rest e =
    let b = bind_got (field (head_bytes f) bytes) (λ head after. subrectangles_at f w h (u32_at head 0) after >>= λ ss end. Got (record { background = pixel_color f (drop 4 head); subrectangles = ss }) end) content rest e in
    let k = field_front (head_bytes f) bytes b.value b.rest (field_got (head_bytes f) bytes b.value b.rest b.first) in
    let d = bind_got (subrectangles_at f w h (u32_at b.value 0) b.rest) (λ ss end. Got (record { background = pixel_color f (drop 4 b.value); subrectangles = ss }) end) content rest b.then in
    let r = subrectangles_read f w h (u32_at b.value 0) b.rest d.value d.rest d.first in
    let last = d.then in
    let is : record { background = pixel_color f (drop 4 b.value); subrectangles = d.value } ≡ content = cc in
    let rest_is : d.rest ≡ rest = cc in
    let whole : IsData f w h (b.value ++ r.body) (record { background = pixel_color f (drop 4 b.value); subrectangles = d.value }) = record {
      head = b.value;
      pixel = drop 4 b.value;
      body = r.body;
      bytes_are = refl;
      head_is = subst (λ (n : ℕ). IsHead f b.value n (drop 4 b.value)) (sym r.count_is) (head_is f b.value k.1);
      background_is = refl;
      body_is = r.are;
    } in
    record {
      front = b.value ++ r.body;
      bytes_are = k.0 ∙ ap (λ z. b.value ++ z) (r.bytes_are ∙ ap (λ z. r.body ++ z) rest_is) ∙ sym (append_assoc b.value r.body rest);
      is = subst (λ (z : Content). IsData f w h (b.value ++ r.body) z) is whole;
    }

pub data_again : (f : Format) (w h : ℕ) (front more : List ℕ) (content : Content) → IsData f w h front content
    → data_at f w h (front ++ more) ≡ Got content more
unfolding data_at
data_again f w h front more content is =
    let all : front ++ more ≡ is.head ++ (is.body ++ more) = ap (λ z. z ++ more) is.bytes_are ∙ append_assoc is.head is.body more in
    let count = length content.subrectangles in
    rw (
      all,
      field-whole {E = Fault} (head_bytes f) is.head (is.body ++ more) (head_length f is.head count is.pixel is.head_is),
      head_count f is.head count is.pixel is.head_is,
      head_pixel f is.head count is.pixel is.head_is,
      subrectangles_again f w h content.subrectangles is.body more is.body_is,
      ← is.background_is,
    ) refl

pub data_whole : (f : Format) (w h : ℕ) (bytes : List ℕ) (content : Content) → IsData f w h bytes content → data_at f w h bytes ≡ Got content []
data_whole f w h bytes content is = ap (data_at f w h) (sym (append-nil bytes)) ∙ data_again f w h bytes [] content is

pub refused_again : (f : Format) (w h : ℕ) (bytes : List ℕ) → IsRefused f w h bytes → data_at f w h bytes ≡ Bad Outside
unfolding data_at
refused_again f w h bytes is =
    rw (
      is.bytes_are,
      field-whole {E = Fault} (head_bytes f) is.head (is.body ++ (is.field ++ is.more)) (head_length f is.head is.count is.pixel is.head_is),
      head_count f is.head is.count is.pixel is.head_is,
      subrectangles_refused f w h is.earlier is.count is.body is.outside is.field is.more is.body_is is.one_of_them is.field_is is.leaves,
    ) refl
