-- Tiles that show their pixels show the rectangle.
use Rattle.std.proofs.Common.{◌≡◌, ℕ, ◌+◌, ◌*◌, ◌/◌, ◌%◌, ◌<◌, ◌≤◌, inl, inr, List, [], ◌∷◌, ◌++◌, length, take, get_or, refl, sym, ap, subst, ◌∙◌, append_assoc, length-append, arith}
use Rattle.std.specs.Prelude.{None, All}
use Rattle.std.specs.List.{flat_map}
use Rattle.std.proofs.lemmas.Grind.{flat_map-append}
use Rattle.std.proofs.Math.Nat.{mul-le-mul}
use Rattle.pixel_format.specs.Pixel.{IsWithin}
use Rattle.std.proofs.lemmas.Bool.{cases_eq}
use Rattle.std.proofs.lemmas.List.{append-nil, get_or-take, get_or_default, length-take-le}
use Rattle.std.proofs.lemmas.Nat.{mul-add-lt, div-mul-add, mod-mul-add}
use Rattle.pixel_format.specs.declared.Color.{Color}
use Rattle.pixel_format.specs.Format.{Format}
use Rattle.pixel_format.specs.Canvas.{black, nth, rows_of}
use Rattle.terms.specs.Appending.{Appends}
use Rattle.pixel_format.proofs.Covering.{in_is}
use Rattle.hextile.specs.declared.writing.Known.{Known}
use Rattle.hextile.specs.Tiles.{tile_count, tile_number, tile_left, tile_top, tile_width, tile_height}
use Rattle.hextile.specs.Grammar.{Tile}
use Rattle.hextile.specs.Data.{IsTile, AreTiles, onto}
use Rattle.hextile.specs.Picture.{latest_picture, tiles_picture}
use Rattle.hextile.specs.Encoded.{tile_bytes, AreTileColors, IsKnown, ShowsTile, Shows}
use Rattle.hextile.proofs.Tiling.{in_its_tile, number_within, index_inside}
use Rattle.hextile.proofs.PaintedTiles.{upto_same, upto_other}

-- ---- one tile more

onto_more : (ts : List Tile) (t : Tile) (before : List Tile) → onto (ts ++ t ∷ []) before ≡ t ∷ onto ts before
onto_more [] t before = refl
onto_more (s ∷ ts) t before = onto_more ts t (s ∷ before)

onto_length : (ts before : List Tile) → length (onto ts before) ≡ length ts + length before
onto_length [] before = omega arith
onto_length (s ∷ ts) before = onto_length ts (s ∷ before) ∙ omega arith

tiles_more : (f : Format) (w h : ℕ) (before ts : List Tile) (t : Tile) (number : ℕ) (body first : List ℕ) → length ts + length before ≡ number → AreTiles f w h before ts body
    → IsTile f (tile_width w number) (tile_height w h number) (onto ts before) t first → AreTiles f w h before (ts ++ t ∷ []) (body ++ first)
tiles_more f w h before [] t number body first count none is =
    let here : number ≡ length before = omega (arith, count) in
    (first, [], ap (λ z. z ++ first) none ∙ sym (append-nil first), subst (λ (n : ℕ). IsTile f (tile_width w n) (tile_height w h n) before t first) here is, refl)
tiles_more f w h before (s ∷ ts) t number body first count are is = (
  are.0,
  are.1 ++ first,
  ap (λ z. z ++ first) are.2 ∙ append_assoc are.0 are.1 first,
  are.3,
  tiles_more f w h (s ∷ before) ts t number are.1 first (omega (arith, count)) are.4 is,
)

-- Tiles that are written, and show their pixels.
pub record Written (f : Format) (w h : ℕ) (colors : List Color) (number : ℕ) (known : Known) (bytes : List ℕ) : Type 0 where
  pub tiles : List Tile
  pub count : length tiles ≡ number
  pub are : AreTiles f w h [] tiles bytes
  pub bytes_are : bytes ≡ flat_map (tile_bytes f) tiles
  pub known_is : IsKnown (onto tiles []) known
  pub shows : (column row : ℕ) → column < w → row < h → tile_number w column row < number → tiles_picture w (onto tiles []) column row ≡ rows_of colors w column row

pub none_written : (f : Format) (w h : ℕ) (colors : List Color) (old : List ℕ) → Appends (Written f w h colors 0 (record { background = None; foreground = None })) old old
none_written f w h colors old = record {
  bytes = [];
  is = sym (append-nil old);
  are = record {
    tiles = [];
    count = refl;
    are = refl;
    bytes_are = refl;
    known_is = record { background = λ color e. absurd (cc); foreground = λ color e. absurd (cc) };
    shows = λ column row across down less. absurd (omega (arith, less));
  };
}

-- a pixel lies within its tile
index_within : (w h column row number : ℕ) → column < w → row < h → tile_number w column row ≡ number
    → (column % 16 < tile_width w number) × (row % 16 < tile_height w h number)
index_within w h column row number across down it =
    let index = in_its_tile w h column row number across down it in
    let inside = in_is (tile_left w number) (tile_top w number) (tile_width w number) (tile_height w h number) column row index.covered in
    (omega (arith, inside.left, inside.right, index.across), omega (arith, inside.top, inside.bottom, index.down))

-- a pixel of the tile has the colour of the rectangle's pixel
color_there : (w h : ℕ) (colors tile : List Color) (number column row : ℕ) → column < w → row < h → tile_number w column row ≡ number
    → AreTileColors colors w (tile_left w number) (tile_top w number) (tile_width w number) tile (tile_width w number * tile_height w h number)
    → column % 16 < tile_width w number → row % 16 < tile_height w h number
    → rows_of tile (tile_width w number) (column % 16) (row % 16) ≡ rows_of colors w column row
color_there w h colors tile number column row across down it are wide high =
    let tw = tile_width w number in
    let th = tile_height w h number in
    let i = column % 16 in
    let j = row % 16 in
    let index = in_its_tile w h column row number across down it in
    let inside = in_is (tile_left w number) (tile_top w number) tw th column row index.covered in
    let left = inside.left in
    let top = inside.top in
    let x : tile_left w number + i ≡ column = omega (arith, index.across, left) in
    let y : tile_top w number + j ≡ row = omega (arith, index.down, top) in
    are (j * tw + i) (mul-add-lt j tw i th high wide)
    ∙ ap (λ n. nth colors ((tile_top w number + n) * w + (tile_left w number + (j * tw + i) % tw))) (div-mul-add j tw i wide)
    ∙ ap (λ n. nth colors ((tile_top w number + j) * w + (tile_left w number + n))) (mod-mul-add j tw i wide)
    ∙ ap (λ n. nth colors (n * w + (tile_left w number + i))) y
    ∙ ap (λ n. nth colors (row * w + n)) x

pub one_written : (f : Format) (w h : ℕ) (colors tile taken : List Color) (number : ℕ) (known after : Known) (tw th : ℕ) (old between new : List ℕ) → number < tile_count w h
    → tw ≡ tile_width w number → th ≡ tile_height w h number
    → AreTileColors colors w (tile_left w number) (tile_top w number) tw tile (tw * th) → taken ≡ take (tw * th) tile
    → Appends (Written f w h colors number known) old between
    → ((before : List Tile) → IsKnown before known → Appends (ShowsTile f tw th taken before after) between new)
    → Appends (Written f w h colors (number + 1) after) old new
one_written f w h colors tile taken number known after tw th old between new less tw_is th_is colors_are taken_is so_far next =
    let done = so_far.are in
    let latest = onto done.tiles [] in
    let more = next latest done.known_is in
    let shown = more.are in
    let t = shown.tile in
    let length_is : length latest ≡ number = onto_length done.tiles [] ∙ omega (arith, done.count) in
    let all = onto_more done.tiles t [] in
    record {
      bytes = so_far.bytes ++ more.bytes;
      is = more.is ∙ ap (λ z. z ++ more.bytes) so_far.is ∙ append_assoc old so_far.bytes more.bytes;
      are = record {
        tiles = done.tiles ++ t ∷ [];
        count = length-append done.tiles (t ∷ []) ∙ omega (arith, done.count);
        are = tiles_more f w h [] done.tiles t number so_far.bytes more.bytes (omega (arith, done.count)) done.are
            (subst (λ (n : ℕ). IsTile f (tile_width w number) n latest t more.bytes) th_is (subst (λ (n : ℕ). IsTile f n th latest t more.bytes) tw_is shown.is));
        bytes_are = ap (λ z. so_far.bytes ++ z) shown.bytes_are ∙ ap (λ z. z ++ tile_bytes f t) done.bytes_are
            ∙ ap (λ z. flat_map (tile_bytes f) done.tiles ++ z) (sym (append-nil (tile_bytes f t))) ∙ sym (flat_map-append (tile_bytes f) done.tiles (t ∷ []));
        known_is = subst (λ (z : List Tile). IsKnown z after) (sym all) shown.known_is;
        shows = λ column row across down before.
            ap (λ (z : List Tile). tiles_picture w z column row) all
            ∙ elim (cases_eq (tile_number w column row) number) [
              | inl it ↦
                  let n = tile_number w column row in
                  let wide : column % 16 < tile_width w number = (index_within w h column row number across down it).0 in
                  let high : row % 16 < tile_height w h number = (index_within w h column row number across down it).1 in
                  let fits : row % 16 * tile_width w number + column % 16 < tw * th =
                  rw (tw_is, th_is) (mul-add-lt (row % 16) (tile_width w number) (column % 16) (tile_height w h number) high wide) in
                  ap (λ (z : List Tile). latest_picture (tile_width w n) z (column % 16) (row % 16)) (upto_same n t latest (length_is ∙ sym it))
                  ∙ ap (λ k. latest_picture (tile_width w k) (t ∷ latest) (column % 16) (row % 16)) it
                  ∙ ap (λ k. latest_picture k (t ∷ latest) (column % 16) (row % 16)) (sym tw_is)
                  ∙ shown.picture (column % 16) (row % 16) (rw tw_is wide) (rw th_is high)
                  ∙ ap (λ k. rows_of taken k (column % 16) (row % 16)) tw_is
                  ∙ ap (λ z. rows_of z (tile_width w number) (column % 16) (row % 16)) taken_is
                  ∙ get_or-take (tw * th) tile (row % 16 * tile_width w number + column % 16) black fits
                  ∙ color_there w h colors tile number column row across down it
                  (subst (λ (k : ℕ). AreTileColors colors w (tile_left w number) (tile_top w number) (tile_width w number) tile (tile_width w number * k)) th_is
                  (subst (λ (k : ℕ). AreTileColors colors w (tile_left w number) (tile_top w number) k tile (k * th)) tw_is colors_are)) wide high
              | inr other ↦
                  ap (λ (z : List Tile). latest_picture (tile_width w (tile_number w column row)) z (column % 16) (row % 16))
                  (upto_other (tile_number w column row) t latest (λ e. other (e ∙ length_is)))
                  ∙ done.shows column row across down (omega (arith, before, other))
            ];
      };
    }

pub all_written : (f : Format) (w h : ℕ) (colors : List Color) (number : ℕ) (known : Known) (old new : List ℕ) → number ≡ tile_count w h
    → Appends (Written f w h colors number known) old new → Appends (Shows f w h colors) old new
all_written f w h colors number known old new is a =
    let done = a.are in
    record {
      bytes = a.bytes;
      is = a.is;
      are = record {
        tiles = done.tiles;
        is = record { all = done.count ∙ is; are = done.are };
        bytes_are = done.bytes_are;
        picture = λ column row across down. done.shows column row across down (rw is (number_within w h column row across down));
      };
    }

-- a tile has at most 256 pixels
pub few_pixels : (w h n : ℕ) → w ≤ 16 → h ≤ 16 → n ≡ 256 → w * h ≤ n
few_pixels w h n wide high all = rw all (mul-le-mul wide high)

-- the colours of a tile keep to what the rectangle's colours keep to
pub tile_within : (f : Format) (w h : ℕ) (colors tile : List Color) (number tw th : ℕ) → number < tile_count w h → tw ≡ tile_width w number → th ≡ tile_height w h number
    → length colors ≡ h * w → AreTileColors colors w (tile_left w number) (tile_top w number) tw tile (tw * th) → tw * th ≤ length tile
    → All (IsWithin f) colors → All (IsWithin f) (take (tw * th) tile)
tile_within f w h colors tile number tw th less tw_is th_is size are fits within = λ k d in_it.
    let short : k < tw * th = omega (arith, length-take-le (tw * th) tile fits, in_it) in
    let at : (tile_top w number + k / tw) * w + (tile_left w number + k % tw) < length colors =
    rw size (index_inside w h number tw th k less tw_is th_is short) in
    let is : get_or (take (tw * th) tile) k d ≡ nth colors ((tile_top w number + k / tw) * w + (tile_left w number + k % tw)) =
    get_or-take (tw * th) tile k d short ∙ get_or_default tile k d black (omega (arith, short, fits)) ∙ are k short in
    subst (λ (z : Color). IsWithin f z) (sym is) (within ((tile_top w number + k / tw) * w + (tile_left w number + k % tw)) black at)
