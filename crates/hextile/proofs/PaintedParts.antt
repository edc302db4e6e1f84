-- Painting subrectangles, and pixels, of a tile.
use Rattle.std.proofs.Common.{◌≡◌, ℕ, zero, suc, ◌+◌, ◌-◌, ◌*◌, ◌<◌, ◌≤◌, inl, inr, Bool, cond, List, [], ◌∷◌, ◌++◌, length, take, drop, get_or, refl, sym, ap, ◌∙◌, subst, arith, append_assoc, suc-mul, zero-mul}
use Rattle.std.specs.Prelude.{reverse, unwrap_or, None}
use Rattle.std.proofs.lemmas.Bool.{cases_Bool}
use Rattle.std.proofs.lemmas.List.{reverse-append, append-nil, drop-drop}
use Rattle.pixel_format.specs.declared.Color.{Color}
use Rattle.pixel_format.specs.Format.{Format, pixel_bytes}
use Rattle.pixel_format.specs.Pixel.{pixel_color}
use Rattle.pixel_format.specs.Canvas.{Picture, covers, filled, laid_over, pixel_in, pixel_rows, Agree, black}
use Rattle.terms.specs.Reading.{Got, ◌>>=◌, field, guard}
use Rattle.terms.proofs.Readings.{bind_got, guard_got, field_got}
use Rattle.pixel_format.proofs.PixelsLaid.{within_area}
use Rattle.pixel_format.proofs.Covering.{in_is, shifted, part_outside}
use Rattle.hextile.specs.declared.fields.Subrectangle.{Subrectangle}
use Rattle.hextile.specs.Grammar.{Raw, Refused, pixel_if, colors_of, subrectangle_bytes, subrectangle_of, is_inside, subrectangle_at, subrectangles_at}
use Rattle.hextile.specs.Data.{LiesWithin}
use Rattle.hextile.specs.Picture.{first_covering, tile_picture}
use Rattle.hextile.specs.Painting.{parts_over, AreWithin, PartsPainted}
use Rattle.hextile.proofs.FieldsRead.{within_is}

-- ---- subrectangles

-- the first of the subrectangles that are left
pub record NextPart (f : Format) (colored : Bool) (w h count : ℕ) (bytes : List ℕ) (ss : List Subrectangle) (rest : List ℕ) : Type 0 where
  pub part : Subrectangle
  pub others : List Subrectangle
  pub all : ss ≡ part ∷ others
  pub enough : subrectangle_bytes f colored ≤ length bytes
  pub is : subrectangle_of f colored (take (subrectangle_bytes f colored) bytes) ≡ part
  pub within : LiesWithin w h part
  pub left : subrectangles_at f colored w h count (drop (subrectangle_bytes f colored) bytes) ≡ Got others rest

pub next_part : (f : Format) (colored : Bool) (w h count : ℕ) (bytes : List ℕ) (ss : List Subrectangle) (rest : List ℕ)
    → subrectangles_at f colored w h (suc count) bytes ≡ Got ss rest → NextPart f colored w h count bytes ss rest
unfolding subrectangles_at subrectangle_at
next_part f colored w h count bytes ss rest e =
    let n = subrectangle_bytes f colored in
    let b = bind_got (subrectangle_at f colored w h bytes) (λ first after. subrectangles_at f colored w h count after >>= λ others end. Got (first ∷ others) end) ss rest e in
    let d = bind_got (subrectangles_at f colored w h count b.rest) (λ others end. Got (b.value ∷ others) end) ss rest b.then in
    let a = bind_got (field n bytes) (λ whole after. guard (is_inside w h (subrectangle_of f colored whole)) Refused (Got (subrectangle_of f colored whole) after)) b.value b.rest b.first in
    let k = field_got n bytes a.value a.rest a.first in
    let g = guard_got (is_inside w h (subrectangle_of f colored a.value)) Refused (Got (subrectangle_of f colored a.value) a.rest) b.value b.rest a.then in
    let second = g.1 in
    let part_is : subrectangle_of f colored a.value ≡ b.value = cc in
    let rest_is : a.rest ≡ b.rest = cc in
    let last = d.then in
    let all : ss ≡ b.value ∷ d.value = cc in
    let end_is : d.rest ≡ rest = cc in
    let following : drop n bytes ≡ b.rest = sym k.rest_is ∙ rest_is in
    record {
      part = b.value;
      others = d.value;
      all = all;
      enough = k.enough;
      is = ap (subrectangle_of f colored) (sym k.is) ∙ part_is;
      within = subst (λ (z : Subrectangle). LiesWithin w h z) part_is (within_is w h (subrectangle_of f colored a.value) g.0);
      left = ap (subrectangles_at f colored w h count) following ∙ d.first ∙ ap (λ z. Got d.value z) end_is;
    }

-- Which of the subrectangles are painted, and the bytes of those that are left.
pub record PartsProgress (f : Format) (colored : Bool) (x y w h left : ℕ) (foreground : Color) (parts : List Subrectangle) (after rest : List ℕ) (width height : ℕ) (old new : Picture) : Type 0 where
  pub latest : List Subrectangle
  pub others : List Subrectangle
  pub all : reverse parts ≡ reverse others ++ latest
  pub are : subrectangles_at f colored w h left rest ≡ Got others after
  pub within : AreWithin w h latest
  pub shows : Agree width height new (parts_over x y foreground latest old)

pub parts_begin : (f : Format) (colored : Bool) (x y w h count : ℕ) (foreground : Color) (parts : List Subrectangle) (after bytes : List ℕ) (width height : ℕ) (old : Picture)
    → subrectangles_at f colored w h count bytes ≡ Got parts after → PartsProgress f colored x y w h count foreground parts after bytes width height old old
parts_begin f colored x y w h count foreground parts after bytes width height old e =
    record { latest = []; others = parts; all = sym (append-nil (reverse parts)); are = e; within = tt; shows = λ column row across down. refl }

pub parts_go : (f : Format) (colored : Bool) (x y w h left count : ℕ) (foreground : Color) (parts : List Subrectangle) (after rest : List ℕ) (width height : ℕ) (old between new : Picture)
    (part : Subrectangle) (color : Color) → left ≡ suc count → part ≡ subrectangle_of f colored (take (subrectangle_bytes f colored) rest) → color ≡ unwrap_or part.color foreground
    → PartsProgress f colored x y w h left foreground parts after rest width height old between
    → Agree width height new (filled (x + part.x) (y + part.y) part.w part.h color between)
    → PartsProgress f colored x y w h count foreground parts after (drop (subrectangle_bytes f colored) rest) width height old new
parts_go f colored x y w h left count foreground parts after rest width height old between new part color left_is part_is color_is p painted =
    let next = next_part f colored w h count rest p.others after (ap (λ n. subrectangles_at f colored w h n rest) (sym left_is) ∙ p.are) in
    let same : part ≡ next.part = part_is ∙ next.is in
    record {
      latest = part ∷ p.latest;
      others = next.others;
      all = p.all ∙ ap (λ (z : List Subrectangle). reverse z ++ p.latest) (next.all ∙ ap (λ (s : Subrectangle). s ∷ next.others) (sym same))
          ∙ ap (λ z. z ++ p.latest) (reverse-append (part ∷ []) next.others) ∙ append_assoc (reverse next.others) (part ∷ []) p.latest;
      are = next.left;
      within = (subst (λ (s : Subrectangle). LiesWithin w h s) (sym same) next.within, p.within);
      shows = λ column row across down.
          painted column row across down
          ∙ ap (λ (z : Color). cond (covers (x + part.x) (y + part.y) part.w part.h column row) z (between column row)) color_is
          ∙ ap (λ (z : Color). cond (covers (x + part.x) (y + part.y) part.w part.h column row) (unwrap_or part.color foreground) z) (p.shows column row across down);
    }

pub record PartsEnd (x y w h : ℕ) (foreground : Color) (parts : List Subrectangle) (after rest : List ℕ) (width height : ℕ) (old new : Picture) : Type 0 where
  pub rest_is : rest ≡ after
  pub painted : PartsPainted x y w h foreground parts width height old new

pub parts_end : (f : Format) (colored : Bool) (x y w h : ℕ) (foreground : Color) (parts : List Subrectangle) (after rest : List ℕ) (width height : ℕ) (old new : Picture)
    → PartsProgress f colored x y w h 0 foreground parts after rest width height old new → PartsEnd x y w h foreground parts after rest width height old new
unfolding subrectangles_at
parts_end f colored x y w h foreground parts after rest width height old new p =
    let last = p.are in
    let none : p.others ≡ [] = cc in
    let rest_is : rest ≡ after = cc in
    let all : reverse parts ≡ p.latest = p.all ∙ ap (λ (z : List Subrectangle). reverse z ++ p.latest) none in
    record {
      rest_is = rest_is;
      painted = record {
        within = subst (λ (z : List Subrectangle). AreWithin w h z) (sym all) p.within;
        shows = subst (λ (z : List Subrectangle). Agree width height new (parts_over x y foreground z old)) (sym all) p.shows;
      };
    }

-- over the background they are the tile's picture
pub parts_laid : (x y w h : ℕ) (background foreground : Color) (latest : List Subrectangle) (old : Picture) (column row : ℕ) → AreWithin w h latest
    → parts_over x y foreground latest (filled x y w h background old) column row
    ≡ laid_over x y w h (first_covering background foreground latest) old column row
parts_laid x y w h background foreground [] old column row within = refl
parts_laid x y w h background foreground (s ∷ others) old column row within =
    let rest = parts_laid x y w h background foreground others old column row within.1 in
    elim (cases_Bool (covers x y w h column row)) [
      | inl here ↦
          let is = in_is x y w h column row here in
          let same = shifted x y s.x s.y s.w s.h column row is.left is.top in
          ap (λ (z : Color). cond (covers (x + s.x) (y + s.y) s.w s.h column row) (unwrap_or s.color foreground) z) rest
          ∙ rw (here, same) refl
      | inr away ↦
          let off = part_outside x y w h s.x s.y s.w s.h column row within.0.columns within.0.rows away in
          ap (λ b. cond b (unwrap_or s.color foreground) (parts_over x y foreground others (filled x y w h background old) column row)) off
          ∙ rest ∙ rw away refl
    ]

-- ---- pixels

-- the colours of pixels
pub colors_at : (f : Format) (n : ℕ) (bytes : List ℕ) (k : ℕ) → k < n → get_or (colors_of f n bytes) k black ≡ pixel_in f bytes k
unfolding colors_of
colors_at f zero bytes k less = absurd (omega arith)
colors_at f (suc n) bytes zero less = ap (λ m. pixel_color f (take (pixel_bytes f) (drop m bytes))) (sym (zero-mul (pixel_bytes f)))
colors_at f (suc n) bytes (suc k) less =
    let p = pixel_bytes f in
    let at : p + k * p ≡ suc k * p = omega (arith, suc-mul k p) in
    colors_at f n (drop p bytes) k (omega arith)
    ∙ ap (λ z. pixel_color f (take p z)) (drop-drop (k * p) p bytes ∙ ap (λ n. drop n bytes) at)

-- the pixels of a raw tile are its picture
pub raw_laid : (f : Format) (x y w h : ℕ) (background foreground : Color) (pixels : List ℕ) (old : Picture) (column row : ℕ)
    → laid_over x y w h (pixel_rows f w pixels) old column row
    ≡ laid_over x y w h (tile_picture w background foreground (Raw (colors_of f (w * h) pixels))) old column row
raw_laid f x y w h background foreground pixels old column row = elim (cases_Bool (covers x y w h column row)) [
  | inl here ↦
      let is = in_is x y w h column row here in
      let less = within_area w h (column - x) (row - y) (omega (arith, is.left, is.right)) (omega (arith, is.top, is.bottom)) in
      rw here (sym (colors_at f (w * h) pixels ((row - y) * w + (column - x)) less))
  | inr away ↦ rw away refl
]

-- the next of the subrectangles that are left, as the code takes it
pub record PartTaken (f : Format) (colored : Bool) (w h : ℕ) (rest : List ℕ) (part : Subrectangle) : Type 0 where
  pub enough : subrectangle_bytes f colored ≤ length rest
  pub within : part ≡ subrectangle_of f colored (take (subrectangle_bytes f colored) rest) → LiesWithin w h part

pub part_taken : (f : Format) (colored : Bool) (x y w h left count : ℕ) (foreground : Color) (parts : List Subrectangle) (after rest : List ℕ) (width height : ℕ) (old between : Picture)
    (part : Subrectangle) → left ≡ suc count → PartsProgress f colored x y w h left foreground parts after rest width height old between → PartTaken f colored w h rest part
part_taken f colored x y w h left count foreground parts after rest width height old between part left_is p =
    let next = next_part f colored w h count rest p.others after (ap (λ n. subrectangles_at f colored w h n rest) (sym left_is) ∙ p.are) in
    record {
      enough = next.enough;
      within = λ same. subst (λ (s : Subrectangle). LiesWithin w h s) (sym (same ∙ next.is)) next.within;
    }

pub any_part : Subrectangle
any_part = record { x = 0; y = 0; w = 0; h = 0; color = None }

pub taken_field : (f : Format) (colored : Bool) (n : ℕ) (field rest : List ℕ) (part : Subrectangle) → n ≡ pixel_if f colored → field ≡ take (n + 2) rest
    → part ≡ subrectangle_of f colored field → part ≡ subrectangle_of f colored (take (subrectangle_bytes f colored) rest)
taken_field f colored n field rest part is e same = same ∙ ap (subrectangle_of f colored) (e ∙ ap (λ z. take (z + 2) rest) is)
