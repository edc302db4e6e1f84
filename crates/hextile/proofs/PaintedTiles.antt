-- Painting tile by tile gives each pixel the picture of the tile in which it lies.
use Rattle.std.proofs.Common.{◌≡◌, ℕ, suc, ◌+◌, ◌-◌, ◌%◌, ◌<◌, inl, inr, true, cond, List, [], ◌∷◌, length, refl, sym, ap, ◌∙◌, arith}
use Rattle.std.specs.Prelude.{unwrap_or, nat_lt, ◌&&◌, None, Some}
use Rattle.std.proofs.lemmas.Bool.{cases_Bool, cases_eq, cases_lt, lt-ltb, le-ltb, eq-eqb, ne_eqb}
use Rattle.std.proofs.lemmas.List.{append-nil}
use Rattle.pixel_format.specs.Format.{Format}
use Rattle.pixel_format.specs.Canvas.{Picture, covers, Agree, black, laid_over}
use Rattle.terms.specs.Reading.{Got, ◌>>=◌}
use Rattle.terms.proofs.Readings.{bind_got}
use Rattle.pixel_format.proofs.Covering.{in_is, shifted, part_outside}
use Rattle.hextile.specs.declared.fields.Named.{Named}
use Rattle.hextile.specs.declared.painting.TileColors.{TileColors}
use Rattle.hextile.specs.Tiles.{tile_count, tile_number, tile_left, tile_top, tile_width, tile_height}
use Rattle.hextile.specs.Grammar.{Tile, Raw, Parts, none_named, named_with, tile_at, tiles_at, data_at}
use Rattle.hextile.specs.Data.{background_of, foreground_of, IsData, onto}
use Rattle.hextile.specs.Picture.{tile_picture, latest_picture, upto, tiles_picture, painted_over}
use Rattle.hextile.specs.Painting.{carried}
use Rattle.hextile.proofs.Tiling.{in_its_tile, not_in_other, number_within, tile_across, tile_down}
use Rattle.hextile.proofs.TilesRead.{data_again}

-- the running colours after these tiles, the latest of which stands first
abbrev pub colors_after : List Tile → TileColors
colors_after latest = record { background = unwrap_or (background_of latest) black; foreground = unwrap_or (foreground_of latest) black }

pub colors_more : (latest : List Tile) (t : Tile) → carried (colors_after latest) t ≡ colors_after (t ∷ latest)
colors_more latest (Raw colors) = refl
colors_more latest (Parts None None parts) = refl
colors_more latest (Parts None (Some b) parts) = refl
colors_more latest (Parts (Some a) None parts) = refl
colors_more latest (Parts (Some a) (Some b) parts) = refl

-- the first tiles are painted
abbrev pub tiles_upto : ℕ → ℕ → ℕ → ℕ → ℕ → List Tile → Picture → Picture
tiles_upto x y w h number latest old column row =
    cond (covers x y w h column row && nat_lt (tile_number w (column - x) (row - y)) number) (tiles_picture w latest (column - x) (row - y)) (old column row)

pub record TilesProgress (f : Format) (x y w h : ℕ) (tiles : List Tile) (number : ℕ) (rest : List ℕ) (colors : TileColors) (width height : ℕ) (old new : Picture) : Type 0 where
  pub latest : List Tile
  pub others : List Tile
  pub all : onto tiles [] ≡ onto others latest
  pub number_is : length latest ≡ number
  pub named : Named
  pub are : tiles_at f w h named (tile_count w h - number) rest ≡ Got others []
  pub colors_are : colors ≡ colors_after latest
  pub shows : Agree width height new (tiles_upto x y w h number latest old)

none_upto : (x y w h column row : ℕ) (old : Picture) → old column row ≡ tiles_upto x y w h 0 [] old column row
none_upto x y w h column row old = elim (cases_Bool (covers x y w h column row)) [
  | inl here ↦ rw (here, le-ltb (tile_number w (column - x) (row - y)) 0 (omega arith)) refl
  | inr away ↦ rw away refl
]

pub tiles_begin : (f : Format) (x y w h : ℕ) (tiles : List Tile) (bytes : List ℕ) (width height : ℕ) (old : Picture) → IsData f w h bytes tiles
    → TilesProgress f x y w h tiles 0 bytes (record { background = black; foreground = black }) width height old old
unfolding data_at
tiles_begin f x y w h tiles bytes width height old is =
    let all : tile_count w h - 0 ≡ tile_count w h = omega arith in
    record {
      latest = [];
      others = tiles;
      all = refl;
      number_is = refl;
      named = none_named;
      are = ap (λ n. tiles_at f w h none_named n bytes) all ∙ ap (λ z. tiles_at f w h none_named (tile_count w h) z) (sym (append-nil bytes)) ∙ data_again f w h bytes [] tiles is;
      colors_are = refl;
      shows = λ column row across down. none_upto x y w h column row old;
    }

-- the first of the tiles that are left
pub record NextTile (f : Format) (w h number : ℕ) (named : Named) (bytes : List ℕ) (ts : List Tile) : Type 0 where
  pub tile : Tile
  pub others : List Tile
  pub rest : List ℕ
  pub all : ts ≡ tile ∷ others
  pub is : tile_at f named (tile_width w number) (tile_height w h number) bytes ≡ Got tile rest
  pub are : tiles_at f w h (named_with named tile) (tile_count w h - (number + 1)) rest ≡ Got others []

pub next_tile : (f : Format) (w h number : ℕ) (named : Named) (bytes : List ℕ) (ts : List Tile) → number < tile_count w h
    → tiles_at f w h named (tile_count w h - number) bytes ≡ Got ts [] → NextTile f w h number named bytes ts
unfolding tiles_at
next_tile f w h number named bytes ts less e =
    let more = tile_count w h - (number + 1) in
    let left : tile_count w h - number ≡ suc more = omega arith in
    let n_is : tile_count w h - suc more ≡ number = omega arith in
    let n = tile_count w h - suc more in
    let here : tiles_at f w h named (suc more) bytes ≡ Got ts [] = ap (λ k. tiles_at f w h named k bytes) (sym left) ∙ e in
    let b = bind_got (tile_at f named (tile_width w n) (tile_height w h n) bytes) (λ t after. tiles_at f w h (named_with named t) more after >>= λ others end. Got (t ∷ others) end) ts [] here in
    let d = bind_got (tiles_at f w h (named_with named b.value) more b.rest) (λ others end. Got (b.value ∷ others) end) ts [] b.then in
    let last = d.then in
    let is : ts ≡ b.value ∷ d.value = cc in
    let end : d.rest ≡ [] = cc in
    record {
      tile = b.value;
      others = d.value;
      rest = b.rest;
      all = is;
      is = ap (λ (k : ℕ). tile_at f named (tile_width w k) (tile_height w h k) bytes) (sym n_is) ∙ b.first;
      are = d.first ∙ ap (λ z. Got d.value z) end;
    }

pub upto_same : (number : ℕ) (t : Tile) (latest : List Tile) → length latest ≡ number → upto number (t ∷ latest) ≡ t ∷ latest
upto_same number t latest is = ap (λ b. cond b (t ∷ latest) (upto number latest)) (eq-eqb number (length latest) (sym is))

pub upto_other : (number : ℕ) (t : Tile) (latest : List Tile) → (number ≡ length latest → ⊥) → upto number (t ∷ latest) ≡ upto number latest
upto_other number t latest other = ap (λ b. cond b (t ∷ latest) (upto number latest)) (ne_eqb number (length latest) other)

-- one tile more is painted
pub tile_laid : (x y w h number : ℕ) (latest : List Tile) (t : Tile) (colors : TileColors) (old between : Picture) (column row : ℕ) → length latest ≡ number
    → number < tile_count w h → 0 < w → colors ≡ colors_after (t ∷ latest)
    → between column row ≡ tiles_upto x y w h number latest old column row
    → laid_over (x + tile_left w number) (y + tile_top w number) (tile_width w number) (tile_height w h number)
    (tile_picture (tile_width w number) colors.background colors.foreground t) between column row
    ≡ tiles_upto x y w h (number + 1) (t ∷ latest) old column row
tile_laid x y w h number latest t colors old between column row number_is less some colors_are before =
    let left = tile_left w number in
    let top = tile_top w number in
    let tw = tile_width w number in
    let th = tile_height w h number in
    elim (cases_Bool (covers x y w h column row)) [
      | inl here ↦
          let is = in_is x y w h column row here in
          let across : column - x < w = omega (arith, is.left, is.right) in
          let down : row - y < h = omega (arith, is.top, is.bottom) in
          let same = shifted x y left top tw th column row is.left is.top in
          let at = tile_number w (column - x) (row - y) in
          elim (cases_eq at number) [
            | inl it ↦
                let index = in_its_tile w h (column - x) (row - y) number across down it in
                let across_is : column - (x + left) ≡ (column - x) % 16 = omega (arith, index.across) in
                let down_is : row - (y + top) ≡ (row - y) % 16 = omega (arith, index.down) in
                let next : nat_lt at (number + 1) ≡ true = lt-ltb at (number + 1) (omega (arith, it)) in
                rw (same, index.covered, here, next)
                (ap (λ (z : TileColors). tile_picture tw z.background z.foreground t (column - (x + left)) (row - (y + top))) colors_are
                ∙ ap (λ c. latest_picture tw (t ∷ latest) c (row - (y + top))) across_is
                ∙ ap (λ r. latest_picture tw (t ∷ latest) ((column - x) % 16) r) down_is
                ∙ ap (λ (z : List Tile). latest_picture tw z ((column - x) % 16) ((row - y) % 16)) (sym (upto_same at t latest (number_is ∙ sym it)))
                ∙ ap (λ n. latest_picture (tile_width w n) (upto at (t ∷ latest)) ((column - x) % 16) ((row - y) % 16)) (sym it))
            | inr other ↦
                let off = not_in_other w h (column - x) (row - y) number other in
                let next : nat_lt at (number + 1) ≡ nat_lt at number = elim (cases_lt at number) [
                  | inl below ↦ rw (lt-ltb at number below, lt-ltb at (number + 1) (omega (arith, below))) refl
                  | inr above ↦ rw (le-ltb at number above, le-ltb at (number + 1) (omega (arith, above, other))) refl
                ] in
                rw (same, off, next, upto_other at t latest (λ e. other (e ∙ number_is))) before
          ]
      | inr away ↦
          let off = part_outside x y w h left top tw th column row (tile_across w number some) (tile_down w h number some less) away in
          rw off (before ∙ rw away refl)
    ]

pub tiles_go : (f : Format) (x y w h : ℕ) (tiles : List Tile) (number : ℕ) (rest after : List ℕ) (colors new_colors : TileColors) (width height : ℕ) (old between new : Picture)
    → number < tile_count w h → 0 < w → TilesProgress f x y w h tiles number rest colors width height old between
    → ((named : Named) (t : Tile) (following : List ℕ) → tile_at f named (tile_width w number) (tile_height w h number) rest ≡ Got t following → after ≡ following)
    → ((named : Named) (t : Tile) (following : List ℕ) → tile_at f named (tile_width w number) (tile_height w h number) rest ≡ Got t following → new_colors ≡ carried colors t)
    → ((named : Named) (t : Tile) (following : List ℕ) → tile_at f named (tile_width w number) (tile_height w h number) rest ≡ Got t following
    → Agree width height new (laid_over (x + tile_left w number) (y + tile_top w number) (tile_width w number) (tile_height w h number)
    (tile_picture (tile_width w number) new_colors.background new_colors.foreground t) between))
    → TilesProgress f x y w h tiles (number + 1) after new_colors width height old new
tiles_go f x y w h tiles number rest after colors new_colors width height old between new less some p rest_is colors_are painted =
    let next = next_tile f w h number p.named rest p.others less p.are in
    let following = rest_is p.named next.tile next.rest next.is in
    let colors_after_it : new_colors ≡ colors_after (next.tile ∷ p.latest) =
    colors_are p.named next.tile next.rest next.is ∙ ap (λ (z : TileColors). carried z next.tile) p.colors_are ∙ colors_more p.latest next.tile in
    let number_is = p.number_is in
    record {
      latest = next.tile ∷ p.latest;
      others = next.others;
      all = p.all ∙ ap (λ (z : List Tile). onto z p.latest) next.all;
      number_is = omega arith;
      named = named_with p.named next.tile;
      are = ap (λ z. tiles_at f w h (named_with p.named next.tile) (tile_count w h - (number + 1)) z) following ∙ next.are;
      colors_are = colors_after_it;
      shows = λ column row across down.
          painted p.named next.tile next.rest next.is column row across down
          ∙ tile_laid x y w h number p.latest next.tile new_colors old between column row number_is less some colors_after_it (p.shows column row across down);
    }

-- all of them are painted
pub tiles_end : (f : Format) (x y w h : ℕ) (tiles : List Tile) (rest : List ℕ) (colors : TileColors) (width height : ℕ) (old new : Picture)
    → TilesProgress f x y w h tiles (tile_count w h) rest colors width height old new → Agree width height new (painted_over x y w h tiles old)
unfolding tiles_at
tiles_end f x y w h tiles rest colors width height old new p = λ column row across down.
    let none_left : tile_count w h - tile_count w h ≡ 0 = omega arith in
    let last = ap (λ n. tiles_at f w h p.named n rest) (sym none_left) ∙ p.are in
    let none : p.others ≡ [] = cc in
    let all : onto tiles [] ≡ p.latest = p.all ∙ ap (λ (z : List Tile). onto z p.latest) none in
    p.shows column row across down
    ∙ elim (cases_Bool (covers x y w h column row)) [
      | inl here ↦
          let is = in_is x y w h column row here in
          let less = number_within w h (column - x) (row - y) (omega (arith, is.left, is.right)) (omega (arith, is.top, is.bottom)) in
          rw (here, lt-ltb (tile_number w (column - x) (row - y)) (tile_count w h) less) (ap (λ (z : List Tile). tiles_picture w z (column - x) (row - y)) (sym all))
      | inr away ↦ rw away refl
    ]
