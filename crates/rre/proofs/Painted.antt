-- Painting subrectangles in their order gives each pixel the colour of the last one there.
use Rattle.std.proofs.Common.{◌≡◌, ℕ, ◌+◌, ◌-◌, ◌<◌, ◌≤◌, inl, inr, cond, List, [], ◌∷◌, ◌++◌, length, take, drop, refl, sym, ap, ◌∙◌, subst, arith, append_assoc, length-append}
use Rattle.std.proofs.lemmas.Bool.{cases_Bool}
use Rattle.std.proofs.lemmas.List.{reverse-append, take_at, drop_at, append-nil}
use Rattle.pixel_format.specs.declared.Color.{Color}
use Rattle.pixel_format.specs.Format.{Format}
use Rattle.pixel_format.specs.Pixel.{pixel_color}
use Rattle.pixel_format.specs.Canvas.{Picture, covers, filled, Agree}
use Rattle.pixel_format.proofs.Covering.{in_is, shifted, part_outside}
use Rattle.rre.specs.declared.data.Subrectangle.{Subrectangle}
use Rattle.rre.specs.Grammar.{Content, head_bytes, subrectangle_bytes, subrectangle_of}
use Rattle.rre.specs.Data.{LiesWithin, AreSubrectangles, IsData}
use Rattle.rre.specs.Picture.{is_covered, picture_of, painted_over}
use Rattle.rre.proofs.Content.{bytes_length, bytes_subrectangle, head_length, head_pixel}

abbrev pub content_of : Color → List Subrectangle → Content
content_of background subrectangles = record { background = background; subrectangles = subrectangles }

-- the last one listed is looked at first
pub one_more : (background : Color) (done : List Subrectangle) (s : Subrectangle) (column row : ℕ)
    → picture_of (content_of background (done ++ s ∷ [])) column row
    ≡ cond (is_covered s column row) s.color (picture_of (content_of background done) column row)
one_more background done s column row = rw (reverse-append done (s ∷ [])) refl

-- one subrectangle more is painted
pub part_painted : (x y w h : ℕ) (background : Color) (done : List Subrectangle) (s : Subrectangle) (before : Picture) (column row : ℕ) → LiesWithin w h s
    → filled (x + s.x) (y + s.y) s.w s.h s.color (painted_over x y w h (content_of background done) before) column row
    ≡ painted_over x y w h (content_of background (done ++ s ∷ [])) before column row
part_painted x y w h background done s before column row within =
    elim (cases_Bool (covers x y w h column row)) [
      | inl here ↦
          let is = in_is x y w h column row here in
          let same = shifted x y s.x s.y s.w s.h column row is.left is.top in
          rw (here, same) (sym (one_more background done s (column - x) (row - y)))
      | inr away ↦
          let off = part_outside x y w h s.x s.y s.w s.h column row within.columns within.rows away in
          rw (away, off) refl
    ]

-- What of a content is painted, and the bytes of what is left.
pub record Progress (f : Format) (width height x y w h : ℕ) (old new : Picture) (content : Content) (rest : List ℕ) : Type 0 where
  pub done : List Subrectangle
  pub others : List Subrectangle
  pub all : content.subrectangles ≡ done ++ others
  pub left : AreSubrectangles f w h others rest
  pub shows : Agree width height new (painted_over x y w h (content_of content.background done) old)

-- the bytes after the head
pub record Begun (f : Format) (w h : ℕ) (bytes : List ℕ) (content : Content) : Type 0 where
  pub enough : head_bytes f ≤ length bytes
  pub background : pixel_color f (drop 4 (take (head_bytes f) bytes)) ≡ content.background
  pub left : AreSubrectangles f w h content.subrectangles (drop (head_bytes f) bytes)

pub begun : (f : Format) (w h : ℕ) (bytes : List ℕ) (content : Content) → IsData f w h bytes content → Begun f w h bytes content
begun f w h bytes content is =
    let count = length content.subrectangles in
    let size : length is.head ≡ head_bytes f = head_length f is.head count is.pixel is.head_is in
    let front : take (head_bytes f) bytes ≡ is.head = rw is.bytes_are (take_at is.head is.body (head_bytes f) size) in
    let following : drop (head_bytes f) bytes ≡ is.body = rw is.bytes_are (drop_at is.head is.body (head_bytes f) size) in
    let total : length bytes ≡ length is.head + length is.body = ap length is.bytes_are ∙ length-append is.head is.body in
    record {
      enough = omega (arith, total, size);
      background = ap (λ z. pixel_color f (drop 4 z)) front ∙ ap (pixel_color f) (head_pixel f is.head count is.pixel is.head_is) ∙ sym is.background_is;
      left = subst (λ z. AreSubrectangles f w h content.subrectangles z) (sym following) is.body_is;
    }

-- the first of the subrectangles that are left
pub record NextIs (f : Format) (w h : ℕ) (others : List Subrectangle) (rest : List ℕ) : Type 0 where
  pub part : Subrectangle
  pub later : List Subrectangle
  pub others_are : others ≡ part ∷ later
  pub enough : subrectangle_bytes f ≤ length rest
  pub is : subrectangle_of f (take (subrectangle_bytes f) rest) ≡ part
  pub within : LiesWithin w h part
  pub left : AreSubrectangles f w h later (drop (subrectangle_bytes f) rest)

pub next_is : (f : Format) (w h : ℕ) (others : List Subrectangle) (rest : List ℕ) → AreSubrectangles f w h others rest → 0 < length rest
    → NextIs f w h others rest
next_is f w h [] rest none some = let nothing : length rest ≡ 0 = ap length none in absurd (omega arith)
next_is f w h (s ∷ others) rest are some =
    let n = subrectangle_bytes f in
    let size : length are.0 ≡ n = bytes_length f s are.0 are.3 in
    let front : take n rest ≡ are.0 = rw are.2 (take_at are.0 are.1 n size) in
    let following : drop n rest ≡ are.1 = rw are.2 (drop_at are.0 are.1 n size) in
    let total : length rest ≡ length are.0 + length are.1 = ap length are.2 ∙ length-append are.0 are.1 in
    record {
      part = s;
      later = others;
      others_are = refl;
      enough = omega (arith, total, size);
      is = ap (subrectangle_of f) front ∙ bytes_subrectangle f s are.0 are.3;
      within = are.4;
      left = subst (λ z. AreSubrectangles f w h others z) (sym following) are.5;
    }

-- no bytes are left, and no subrectangles
pub none_left_over : (f : Format) (w h : ℕ) (others : List Subrectangle) (rest : List ℕ) → AreSubrectangles f w h others rest → length rest ≡ 0
    → others ≡ []
none_left_over f w h [] rest are none = refl
none_left_over f w h (s ∷ others) rest are none =
    let size : length are.0 ≡ subrectangle_bytes f = bytes_length f s are.0 are.3 in
    let total : length rest ≡ length are.0 + length are.1 = ap length are.2 ∙ length-append are.0 are.1 in
    absurd (omega (arith, total, size))

-- the background is painted
pub progress_begins : (f : Format) (width height x y w h : ℕ) (old new : Picture) (bytes : List ℕ) (content : Content) (color : Color)
    → IsData f w h bytes content → color ≡ content.background → Agree width height new (filled x y w h color old)
    → Progress f width height x y w h old new content (drop (head_bytes f) bytes)
progress_begins f width height x y w h old new bytes content color is same painted = record {
  done = [];
  others = content.subrectangles;
  all = refl;
  left = (begun f w h bytes content is).left;
  shows = λ column row across down. painted column row across down ∙ ap (λ z. filled x y w h z old column row) same;
}

-- a subrectangle is painted
pub progress_goes : (f : Format) (width height x y w h : ℕ) (old between new : Picture) (content : Content) (rest : List ℕ) (part : Subrectangle)
    → 0 < length rest → part ≡ subrectangle_of f (take (subrectangle_bytes f) rest)
    → Progress f width height x y w h old between content rest
    → Agree width height new (filled (x + part.x) (y + part.y) part.w part.h part.color between)
    → Progress f width height x y w h old new content (drop (subrectangle_bytes f) rest)
progress_goes f width height x y w h old between new content rest part some part_is p painted =
    let next = next_is f w h p.others rest p.left some in
    let same : part ≡ next.part = part_is ∙ next.is in
    record {
      done = p.done ++ next.part ∷ [];
      others = next.later;
      all = p.all ∙ ap (λ z. p.done ++ z) next.others_are ∙ sym (append_assoc p.done (next.part ∷ []) next.later);
      left = next.left;
      shows = λ column row across down.
          painted column row across down
          ∙ ap (λ (s : Subrectangle). filled (x + s.x) (y + s.y) s.w s.h s.color between column row) same
          ∙ ap (λ (c : Color). cond (covers (x + next.part.x) (y + next.part.y) next.part.w next.part.h column row) next.part.color c) (p.shows column row across down)
          ∙ part_painted x y w h content.background p.done next.part old column row next.within;
    }

-- all of it is painted
pub progress_ends : (f : Format) (width height x y w h : ℕ) (old new : Picture) (content : Content) (rest : List ℕ)
    → length rest ≡ 0 → Progress f width height x y w h old new content rest
    → Agree width height new (painted_over x y w h content old)
progress_ends f width height x y w h old new content rest none p =
    let over : p.others ≡ [] = none_left_over f w h p.others rest p.left none in
    let all : content.subrectangles ≡ p.done = p.all ∙ ap (λ z. p.done ++ z) over ∙ append-nil p.done in
    λ column row across down.
    p.shows column row across down ∙ ap (λ z. painted_over x y w h (content_of content.background z) old column row) (sym all)
