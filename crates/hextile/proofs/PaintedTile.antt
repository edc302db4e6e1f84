-- Painting a tile.
use Rattle.std.proofs.Common.{◌≡◌, ℕ, ◌+◌, ◌-◌, ◌*◌, ◌≤◌, true, false, cond, List, [], ◌∷◌, length, take, drop, Option, sym, ap, ◌∙◌, arith}
use Rattle.std.specs.Prelude.{reverse, unwrap_or, slice_index}
use Rattle.std.proofs.lemmas.List.{get_or-take, take_rest}
use Rattle.pixel_format.specs.declared.Color.{Color}
use Rattle.pixel_format.specs.Format.{Format, pixel_bytes}
use Rattle.pixel_format.specs.Canvas.{Picture, covers, filled, Agree, laid_over, pixel_rows}
use Rattle.terms.specs.Reading.{Got, ◌>>=◌, field, guard}
use Rattle.terms.proofs.Readings.{bind_got, guard_got, field_got}
use Rattle.hextile.specs.declared.fields.Subrectangle.{Subrectangle}
use Rattle.hextile.specs.declared.fields.Mask.{Mask}
use Rattle.hextile.specs.declared.fields.Named.{Named}
use Rattle.hextile.specs.declared.painting.TileColors.{TileColors}
use Rattle.hextile.specs.Grammar.{Tile, Raw, Parts, Refused, mask_of, is_allowed, colors_of, head_bytes, background_in, foreground_in, count_in, subrectangles_at, raw_at, parts_at, body_at, tile_at}
use Rattle.hextile.specs.Picture.{tile_picture}
use Rattle.hextile.specs.Painting.{carried, PartsPainted, parts_over}
use Rattle.hextile.proofs.PaintedParts.{parts_laid, raw_laid}

pub record TileTaken (f : Format) (w h : ℕ) (bytes : List ℕ) (t : Tile) (rest : List ℕ) : Type 0 where
  pub some : 1 ≤ length bytes
  pub body : body_at f (mask_of (slice_index bytes 0)) w h (drop 1 bytes) ≡ Got t rest

pub tile_taken : (f : Format) (named : Named) (w h : ℕ) (bytes : List ℕ) (t : Tile) (rest : List ℕ) → tile_at f named w h bytes ≡ Got t rest
    → TileTaken f w h bytes t rest
unfolding tile_at
tile_taken f named w h bytes t rest e =
    let b = bind_got (field 1 bytes) (λ mask after. guard (is_allowed named (slice_index mask 0) (mask_of (slice_index mask 0))) Refused (body_at f (mask_of (slice_index mask 0)) w h after)) t rest e in
    let k = field_got 1 bytes b.value b.rest b.first in
    let g = guard_got (is_allowed named (slice_index b.value 0) (mask_of (slice_index b.value 0))) Refused (body_at f (mask_of (slice_index b.value 0)) w h b.rest) t rest b.then in
    let byte : slice_index b.value 0 ≡ slice_index bytes 0 = ap (λ z. slice_index z 0) k.is ∙ get_or-take 1 bytes 0 0 (omega arith) in
    record {
      some = k.enough;
      body = ap (λ n. body_at f (mask_of n) w h (drop 1 bytes)) (sym byte) ∙ ap (body_at f (mask_of (slice_index b.value 0)) w h) (sym k.rest_is) ∙ g.1;
    }

pub record RawTaken (f : Format) (w h : ℕ) (body : List ℕ) (t : Tile) (rest : List ℕ) : Type 0 where
  pub enough : w * h * pixel_bytes f ≤ length body
  pub tile_is : t ≡ Raw (colors_of f (w * h) (take (w * h * pixel_bytes f) body))
  pub rest_is : rest ≡ drop (w * h * pixel_bytes f) body

pub raw_taken : (f : Format) (m : Mask) (w h : ℕ) (body : List ℕ) (t : Tile) (rest : List ℕ) → m.raw ≡ true → body_at f m w h body ≡ Got t rest
    → RawTaken f w h body t rest
unfolding body_at raw_at
raw_taken f m w h body t rest raw e =
    let n = w * h * pixel_bytes f in
    let here : raw_at f w h body ≡ Got t rest = sym (ap (λ b. cond b (raw_at f w h body) (parts_at f m w h body)) raw) ∙ e in
    let b = bind_got (field n body) (λ pixels after. Got (Raw (colors_of f (w * h) pixels)) after) t rest here in
    let k = field_got n body b.value b.rest b.first in
    let last = b.then in
    let is : Raw (colors_of f (w * h) b.value) ≡ t = cc in
    let rest_is : b.rest ≡ rest = cc in
    record {
      enough = k.enough;
      tile_is = sym is ∙ ap (λ z. Raw (colors_of f (w * h) z)) k.is;
      rest_is = sym rest_is ∙ k.rest_is;
    }

pub record PartsTaken (f : Format) (m : Mask) (w h : ℕ) (body : List ℕ) (t : Tile) (rest : List ℕ) : Type 0 where
  pub enough : head_bytes f m ≤ length body
  pub parts : List Subrectangle
  pub are : subrectangles_at f m.colored w h (count_in f m (take (head_bytes f m) body)) (drop (head_bytes f m) body) ≡ Got parts rest
  pub tile_is : t ≡ Parts (background_in f m (take (head_bytes f m) body)) (foreground_in f m (take (head_bytes f m) body)) parts

pub parts_taken : (f : Format) (m : Mask) (w h : ℕ) (body : List ℕ) (t : Tile) (rest : List ℕ) → m.raw ≡ false → body_at f m w h body ≡ Got t rest
    → PartsTaken f m w h body t rest
unfolding body_at parts_at
parts_taken f m w h body t rest raw e =
    let n = head_bytes f m in
    let here : parts_at f m w h body ≡ Got t rest = sym (ap (λ b. cond b (raw_at f w h body) (parts_at f m w h body)) raw) ∙ e in
    let b = bind_got (field n body) (λ head rest. subrectangles_at f m.colored w h (count_in f m head) rest >>= λ parts after. Got (Parts (background_in f m head) (foreground_in f m head) parts) after) t rest here in
    let k = field_got n body b.value b.rest b.first in
    let d = bind_got (subrectangles_at f m.colored w h (count_in f m b.value) b.rest) (λ parts after. Got (Parts (background_in f m b.value) (foreground_in f m b.value) parts) after) t rest b.then in
    let last = d.then in
    let is : Parts (background_in f m b.value) (foreground_in f m b.value) d.value ≡ t = cc in
    let rest_is : d.rest ≡ rest = cc in
    record {
      enough = k.enough;
      parts = d.value;
      are = ap (λ z. subrectangles_at f m.colored w h (count_in f m z) (drop n body)) (sym k.is)
          ∙ ap (subrectangles_at f m.colored w h (count_in f m b.value)) (sym k.rest_is) ∙ d.first ∙ ap (λ z. Got d.value z) rest_is;
      tile_is = sym is ∙ ap (λ z. Parts (background_in f m z) (foreground_in f m z) d.value) k.is;
    }

over_same : (x y : ℕ) (foreground : Color) (latest : List Subrectangle) (p q : Picture) (column row : ℕ) → p column row ≡ q column row
    → parts_over x y foreground latest p column row ≡ parts_over x y foreground latest q column row
over_same x y foreground [] p q column row same = same
over_same x y foreground (s ∷ others) p q column row same =
    ap (λ (z : Color). cond (covers (x + s.x) (y + s.y) s.w s.h column row) (unwrap_or s.color foreground) z)
    (over_same x y foreground others p q column row same)

-- a raw tile is painted
pub raw_painted : (f : Format) (x y w h : ℕ) (body : List ℕ) (t : Tile) (rest : List ℕ) (colors : TileColors) (width height : ℕ) (old new : Picture)
    → RawTaken f w h body t rest
    → Agree width height new (laid_over x y w h (pixel_rows f w (take (w * h * pixel_bytes f) body)) old)
    → Agree width height new (laid_over x y w h (tile_picture w colors.background colors.foreground t) old)
raw_painted f x y w h body t rest colors width height old new taken painted = λ column row across down.
    painted column row across down
    ∙ raw_laid f x y w h colors.background colors.foreground (take (w * h * pixel_bytes f) body) old column row
    ∙ ap (λ (z : Tile). laid_over x y w h (tile_picture w colors.background colors.foreground z) old column row) (sym taken.tile_is)

-- and any other one, from its background and its subrectangles
pub parts_painted : (x y w h : ℕ) (background foreground : Color) (t : Tile) (a b : Option Color) (parts : List Subrectangle) (width height : ℕ) (old between new : Picture)
    → t ≡ Parts a b parts → Agree width height between (filled x y w h background old)
    → PartsPainted x y w h foreground parts width height between new
    → Agree width height new (laid_over x y w h (tile_picture w background foreground t) old)
parts_painted x y w h background foreground t a b parts width height old between new is filled_is p = λ column row across down.
    p.shows column row across down
    ∙ over_same x y foreground (reverse parts) between (filled x y w h background old) column row (filled_is column row across down)
    ∙ parts_laid x y w h background foreground (reverse parts) old column row p.within
    ∙ ap (λ (z : Tile). laid_over x y w h (tile_picture w background foreground z) old column row) (sym is)

-- what follows a mask, as the code takes it
pub code_body : (f : Format) (named : Named) (w h : ℕ) (bytes : List ℕ) (m : Mask) (t : Tile) (rest : List ℕ) → m ≡ mask_of (slice_index bytes 0)
    → tile_at f named w h bytes ≡ Got t rest → body_at f m w h (take (length bytes - 1) (drop 1 bytes)) ≡ Got t rest
code_body f named w h bytes m t rest is e =
    ap (body_at f m w h) (take_rest bytes 1) ∙ ap (λ z. body_at f z w h (drop 1 bytes)) is ∙ (tile_taken f named w h bytes t rest e).body

-- the colours that a tile carries on
pub raw_carried : (colors : TileColors) (t : Tile) (pixels : List Color) → t ≡ Raw pixels → colors ≡ carried colors t
raw_carried colors t pixels is = ap (carried colors) (sym is)

pub parts_carried : (colors new : TileColors) (t : Tile) (a b : Option Color) (parts : List Subrectangle) → t ≡ Parts a b parts
    → new ≡ record { background = unwrap_or a colors.background; foreground = unwrap_or b colors.foreground } → new ≡ carried colors t
parts_carried colors new t a b parts is e = e ∙ ap (carried colors) (sym is)
