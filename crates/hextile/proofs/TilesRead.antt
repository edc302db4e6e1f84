-- What tiles the grammar reads are, and that tiles are read so.
use Rattle.std.proofs.Common.{◌≡◌, ℕ, zero, suc, ◌+◌, ◌-◌, ◌*◌, ◌<◌, inl, inr, true, false, Bool, List, [], ◌∷◌, ◌++◌, length, Option, refl, sym, ap, ◌∙◌, subst, arith, append_assoc, cond}
use Rattle.std.specs.Prelude.{slice_index}
use Rattle.std.proofs.lemmas.List.{append-nil}
use Rattle.pixel_format.specs.declared.Color.{Color}
use Rattle.pixel_format.specs.Format.{Format, pixel_bytes}
use Rattle.terms.specs.Reading.{Got, Bad, ◌>>=◌, field, guard}
use Rattle.terms.proofs.Readings.{bind_got, guard_got, field_got, field-whole, true_or_false, field_front, one_number}
use Rattle.terms.proofs.Measured.{Front}
use Rattle.terms.proofs.Listed.{ListRead, none_read, one_more_read}
use Rattle.hextile.specs.declared.fields.Subrectangle.{Subrectangle}
use Rattle.hextile.specs.declared.fields.Mask.{Mask}
use Rattle.hextile.specs.declared.fields.Named.{Named}
use Rattle.hextile.specs.Tiles.{tile_count, tile_width, tile_height}
use Rattle.hextile.specs.Grammar.{Tile, Raw, Parts, Fault, Refused, mask_of, is_allowed, colors_of, head_bytes, background_in, foreground_in, count_in, subrectangle_bytes, subrectangle_of, is_inside, subrectangle_at, subrectangles_at, raw_at, parts_at, body_at, tile_at, named_with, tiles_at, data_at}
use Rattle.hextile.specs.Data.{IsAllowed, LiesWithin, AreBytesOf, AreSubrectangles, IsHead, AreRaw, AreParts, IsTile, AreTiles, IsData}
use Rattle.hextile.proofs.FieldsRead.{pixels_are, pixels_count, pixels_size, pixels_again, head_is, head_again, bytes_of_field, bytes_length, bytes_subrectangle, within_is, inside_is, outside_is, names_of, names_more, allowed_is, allowed_again, raw_is_allowed}
use Rattle.hextile.proofs.Steps.{subrectangle_whole}

-- ---- subrectangles

pub record SubrectangleRead (f : Format) (colored : Bool) (w h : ℕ) (bytes : List ℕ) (s : Subrectangle) (rest : List ℕ) : Type 0 where
  pub first : List ℕ
  pub bytes_are : bytes ≡ first ++ rest
  pub is : AreBytesOf f colored s first
  pub within : LiesWithin w h s

pub subrectangle_read : (f : Format) (colored : Bool) (w h : ℕ) (bytes : List ℕ) (s : Subrectangle) (rest : List ℕ)
    → subrectangle_at f colored w h bytes ≡ Got s rest → SubrectangleRead f colored w h bytes s rest
unfolding subrectangle_at
subrectangle_read f colored w h bytes s rest e =
    let b = bind_got (field (subrectangle_bytes f colored) bytes) (λ whole after. guard (is_inside w h (subrectangle_of f colored whole)) Refused (Got (subrectangle_of f colored whole) after)) s rest e in
    let k = field_front (subrectangle_bytes f colored) bytes b.value b.rest (field_got (subrectangle_bytes f colored) bytes b.value b.rest b.first) in
    let g = guard_got (is_inside w h (subrectangle_of f colored b.value)) Refused (Got (subrectangle_of f colored b.value) b.rest) s rest b.then in
    let last = g.1 in
    let is : subrectangle_of f colored b.value ≡ s = cc in
    let rest_is : b.rest ≡ rest = cc in
    record {
      first = b.value;
      bytes_are = k.0 ∙ ap (λ z. b.value ++ z) rest_is;
      is = subst (λ (z : Subrectangle). AreBytesOf f colored z b.value) is (bytes_of_field f colored b.value k.1);
      within = subst (λ (z : Subrectangle). LiesWithin w h z) is (within_is w h (subrectangle_of f colored b.value) g.0);
    }

subrectangle_again : (f : Format) (colored : Bool) (w h : ℕ) (s : Subrectangle) (first more : List ℕ) → AreBytesOf f colored s first → LiesWithin w h s
    → subrectangle_at f colored w h (first ++ more) ≡ Got s more
subrectangle_again f colored w h s first more is within =
    subrectangle_whole f colored w h first more (bytes_length f colored s first is)
    ∙ rw (bytes_subrectangle f colored s first is, inside_is w h s within) refl

subrectangle_refused : (f : Format) (colored : Bool) (w h : ℕ) (s : Subrectangle) (first more : List ℕ) → AreBytesOf f colored s first → (LiesWithin w h s → ⊥)
    → subrectangle_at f colored w h (first ++ more) ≡ Bad Refused
subrectangle_refused f colored w h s first more is leaves =
    subrectangle_whole f colored w h first more (bytes_length f colored s first is)
    ∙ rw (bytes_subrectangle f colored s first is, outside_is w h s leaves) refl

pub subrectangles_read : (f : Format) (colored : Bool) (w h count : ℕ) (bytes : List ℕ) (ss : List Subrectangle) (rest : List ℕ)
    → subrectangles_at f colored w h count bytes ≡ Got ss rest → ListRead (AreSubrectangles f colored w h) count bytes ss rest
unfolding subrectangles_at
subrectangles_read f colored w h zero bytes ss rest e = none_read (AreSubrectangles f colored w h) bytes ss rest e refl
subrectangles_read f colored w h (suc count) bytes ss rest e =
    let b = bind_got (subrectangle_at f colored w h bytes) (λ first after. subrectangles_at f colored w h count after >>= λ others end. Got (first ∷ others) end) ss rest e in
    let r = subrectangle_read f colored w h bytes b.value b.rest b.first in
    let d = bind_got (subrectangles_at f colored w h count b.rest) (λ others end. Got (b.value ∷ others) end) ss rest b.then in
    one_more_read (AreSubrectangles f colored w h) (AreSubrectangles f colored w h) b.value d.value ss r.first bytes b.rest d.rest rest count r.bytes_are
    (subrectangles_read f colored w h count b.rest d.value d.rest d.first) d.then (λ body are. (r.first, body, refl, r.is, r.within, are))

pub subrectangles_again : (f : Format) (colored : Bool) (w h : ℕ) (ss : List Subrectangle) (body more : List ℕ) → AreSubrectangles f colored w h ss body
    → subrectangles_at f colored w h (length ss) (body ++ more) ≡ Got ss more
unfolding subrectangles_at
subrectangles_again f colored w h [] body more none = rw none refl
subrectangles_again f colored w h (s ∷ ss) body more are =
    let all : body ++ more ≡ are.0 ++ (are.1 ++ more) = ap (λ z. z ++ more) are.2 ∙ append_assoc are.0 are.1 more in
    rw (all, subrectangle_again f colored w h s are.0 (are.1 ++ more) are.3 are.4, subrectangles_again f colored w h ss are.1 more are.5) refl

pub subrectangles_refused : (f : Format) (colored : Bool) (w h : ℕ) (earlier : List Subrectangle) (count : ℕ) (body : List ℕ) (outside : Subrectangle) (field more : List ℕ)
    → AreSubrectangles f colored w h earlier body → length earlier < count → AreBytesOf f colored outside field → (LiesWithin w h outside → ⊥)
    → subrectangles_at f colored w h count (body ++ (field ++ more)) ≡ Bad Refused
unfolding subrectangles_at
subrectangles_refused f colored w h earlier zero body outside field more are less is leaves = absurd (omega arith)
subrectangles_refused f colored w h [] (suc count) body outside field more none less is leaves =
    rw (none, subrectangle_refused f colored w h outside field more is leaves) refl
subrectangles_refused f colored w h (s ∷ earlier) (suc count) body outside field more are less is leaves =
    let all : body ++ (field ++ more) ≡ are.0 ++ (are.1 ++ (field ++ more)) = ap (λ z. z ++ (field ++ more)) are.2 ∙ append_assoc are.0 are.1 (field ++ more) in
    rw (
      all,
      subrectangle_again f colored w h s are.0 (are.1 ++ (field ++ more)) are.3 are.4,
      subrectangles_refused f colored w h earlier count are.1 outside field more are.5 (omega arith) is leaves,
    ) refl

-- ---- a tile

pub record TileRead (f : Format) (w h : ℕ) (before : List Tile) (bytes : List ℕ) (t : Tile) (rest : List ℕ) : Type 0 where
  pub first : List ℕ
  pub bytes_are : bytes ≡ first ++ rest
  pub is : IsTile f w h before t first

raw_read : (f : Format) (w h byte : ℕ) (before : List Tile) (bytes : List ℕ) (t : Tile) (rest : List ℕ) → (mask_of byte).raw ≡ true
    → raw_at f w h bytes ≡ Got t rest → TileRead f w h before (byte ∷ bytes) t rest
unfolding raw_at
raw_read f w h byte before bytes t rest raw e =
    let n = w * h * pixel_bytes f in
    let b = bind_got (field n bytes) (λ pixels after. Got (Raw (colors_of f (w * h) pixels)) after) t rest e in
    let k = field_front n bytes b.value b.rest (field_got n bytes b.value b.rest b.first) in
    let last = b.then in
    let is : Raw (colors_of f (w * h) b.value) ≡ t = cc in
    let rest_is : b.rest ≡ rest = cc in
    let are : AreRaw f w h (colors_of f (w * h) b.value) (byte ∷ b.value) = record {
      byte = byte;
      pixels = b.value;
      bytes_are = refl;
      raw = raw;
      pixel_count = pixels_count f (w * h) b.value;
      pixels_are = pixels_are f (w * h) b.value k.1;
    } in
    record {
      first = byte ∷ b.value;
      bytes_are = ap (λ z. byte ∷ z) (k.0 ∙ ap (λ z. b.value ++ z) rest_is);
      is = subst (λ (z : Tile). IsTile f w h before z (byte ∷ b.value)) is are;
    }

parts_read : (f : Format) (w h byte : ℕ) (before : List Tile) (bytes : List ℕ) (t : Tile) (rest : List ℕ) → (mask_of byte).raw ≡ false
    → IsAllowed before byte (mask_of byte) → parts_at f (mask_of byte) w h bytes ≡ Got t rest → TileRead f w h before (byte ∷ bytes) t rest
unfolding parts_at
parts_read f w h byte before bytes t rest raw allowed e =
    let m = mask_of byte in
    let b = bind_got (field (head_bytes f m) bytes) (λ head rest. subrectangles_at f m.colored w h (count_in f m head) rest >>= λ parts after. Got (Parts (background_in f m head) (foreground_in f m head) parts) after) t rest e in
    let k = field_front (head_bytes f m) bytes b.value b.rest (field_got (head_bytes f m) bytes b.value b.rest b.first) in
    let d = bind_got (subrectangles_at f m.colored w h (count_in f m b.value) b.rest) (λ parts after. Got (Parts (background_in f m b.value) (foreground_in f m b.value) parts) after) t rest b.then in
    let r = subrectangles_read f m.colored w h (count_in f m b.value) b.rest d.value d.rest d.first in
    let last = d.then in
    let is : Parts (background_in f m b.value) (foreground_in f m b.value) d.value ≡ t = cc in
    let rest_is : d.rest ≡ rest = cc in
    let are : AreParts f w h before (background_in f m b.value) (foreground_in f m b.value) d.value (byte ∷ (b.value ++ r.body)) = record {
      bytes_are = refl;
      byte = byte;
      head = b.value;
      body = r.body;
      not_raw = raw;
      allowed = allowed;
      head_is = subst (λ (n : ℕ). IsHead f m (background_in f m b.value) (foreground_in f m b.value) n b.value) (sym r.count_is) (head_is f m b.value k.1);
      body_is = r.are;
    } in
    record {
      first = byte ∷ (b.value ++ r.body);
      bytes_are = ap (λ z. byte ∷ z) (k.0 ∙ ap (λ z. b.value ++ z) (r.bytes_are ∙ ap (λ z. r.body ++ z) rest_is) ∙ sym (append_assoc b.value r.body rest));
      is = subst (λ (z : Tile). IsTile f w h before z (byte ∷ (b.value ++ r.body))) is are;
    }

-- after its mask
body_read : (f : Format) (w h byte : ℕ) (before : List Tile) (bytes : List ℕ) (t : Tile) (rest : List ℕ)
    → is_allowed (names_of before) byte (mask_of byte) ≡ true → body_at f (mask_of byte) w h bytes ≡ Got t rest → TileRead f w h before (byte ∷ bytes) t rest
unfolding body_at
body_read f w h byte before bytes t rest allowed e = elim (true_or_false (mask_of byte).raw) [
  | inl raw ↦ raw_read f w h byte before bytes t rest raw (sym (ap (λ b. cond b (raw_at f w h bytes) (parts_at f (mask_of byte) w h bytes)) raw) ∙ e)
  | inr raw ↦
      parts_read f w h byte before bytes t rest raw (allowed_is before byte (mask_of byte) raw allowed)
      (sym (ap (λ b. cond b (raw_at f w h bytes) (parts_at f (mask_of byte) w h bytes)) raw) ∙ e)
]

pub tile_read : (f : Format) (w h : ℕ) (before : List Tile) (bytes : List ℕ) (t : Tile) (rest : List ℕ) → tile_at f (names_of before) w h bytes ≡ Got t rest
    → TileRead f w h before bytes t rest
unfolding tile_at
tile_read f w h before bytes t rest e =
    let named = names_of before in
    let b = bind_got (field 1 bytes) (λ mask after. guard (is_allowed named (slice_index mask 0) (mask_of (slice_index mask 0))) Refused (body_at f (mask_of (slice_index mask 0)) w h after)) t rest e in
    let byte = slice_index b.value 0 in
    let k = field_front 1 bytes b.value b.rest (field_got 1 bytes b.value b.rest b.first) in
    let g = guard_got (is_allowed named byte (mask_of byte)) Refused (body_at f (mask_of byte) w h b.rest) t rest b.then in
    let all : bytes ≡ byte ∷ b.rest = k.0 ∙ ap (λ z. z ++ b.rest) (one_number b.value k.1) in
    let r = body_read f w h byte before b.rest t rest g.0 g.1 in
    record { first = r.first; bytes_are = all ∙ r.bytes_are; is = r.is }

-- a whole mask
pub mask_first : (f : Format) (named : Named) (w h byte : ℕ) (more : List ℕ)
    → tile_at f named w h (byte ∷ more) ≡ guard (is_allowed named byte (mask_of byte)) Refused (body_at f (mask_of byte) w h more)
unfolding tile_at
mask_first f named w h byte more = rw (field-whole {E = Fault} 1 (byte ∷ []) more refl) refl

parts_again : (f : Format) (m : Mask) (w h : ℕ) (background foreground : Option Color) (parts : List Subrectangle) (head body more : List ℕ)
    → IsHead f m background foreground (length parts) head → AreSubrectangles f m.colored w h parts body
    → parts_at f m w h (head ++ (body ++ more)) ≡ Got (Parts background foreground parts) more
unfolding parts_at
parts_again f m w h background foreground parts head body more is are =
    let h' = head_again f m background foreground (length parts) head is in
    rw (
      field-whole {E = Fault} (head_bytes f m) head (body ++ more) h'.whole,
      h'.background_is,
      h'.foreground_is,
      h'.count_is,
      subrectangles_again f m.colored w h parts body more are,
    ) refl

pub tile_again : (f : Format) (w h : ℕ) (before : List Tile) (t : Tile) (first more : List ℕ) → IsTile f w h before t first
    → tile_at f (names_of before) w h (first ++ more) ≡ Got t more
unfolding body_at raw_at parts_at
tile_again f w h before (Raw colors) first more is =
    let size : length is.pixels ≡ w * h * pixel_bytes f = pixels_size f colors is.pixels is.pixels_are ∙ ap (λ n. n * pixel_bytes f) is.pixel_count in
    let colors_are : colors_of f (w * h) is.pixels ≡ colors = ap (λ n. colors_of f n is.pixels) (sym is.pixel_count) ∙ pixels_again f colors is.pixels is.pixels_are in
    ap (λ z. tile_at f (names_of before) w h (z ++ more)) is.bytes_are
    ∙ mask_first f (names_of before) w h is.byte (is.pixels ++ more)
    ∙ rw (
      raw_is_allowed (names_of before) is.byte (mask_of is.byte) is.raw,
      is.raw,
      field-whole {E = Fault} (w * h * pixel_bytes f) is.pixels more size,
      colors_are,
    ) refl
tile_again f w h before (Parts background foreground parts) first more is =
    let m = mask_of is.byte in
    let head = head_again f m background foreground (length parts) is.head is.head_is in
    let all : (is.head ++ is.body) ++ more ≡ is.head ++ (is.body ++ more) = append_assoc is.head is.body more in
    ap (λ z. tile_at f (names_of before) w h (z ++ more)) is.bytes_are
    ∙ mask_first f (names_of before) w h is.byte ((is.head ++ is.body) ++ more)
    ∙ ap (λ b. guard b Refused (body_at f m w h ((is.head ++ is.body) ++ more))) (allowed_again before is.byte m is.not_raw is.allowed)
    ∙ ap (λ b. cond b (raw_at f w h ((is.head ++ is.body) ++ more)) (parts_at f m w h ((is.head ++ is.body) ++ more))) is.not_raw
    ∙ ap (λ z. parts_at f m w h z) all
    ∙ parts_again f m w h background foreground parts is.head is.body more is.head_is is.body_is

-- ---- a rectangle

pub tiles_read : (f : Format) (w h more : ℕ) (before : List Tile) (bytes : List ℕ) (ts : List Tile) (rest : List ℕ) → length before + more ≡ tile_count w h
    → tiles_at f w h (names_of before) more bytes ≡ Got ts rest → ListRead (AreTiles f w h before) more bytes ts rest
unfolding tiles_at
tiles_read f w h zero before bytes ts rest number e = none_read (AreTiles f w h before) bytes ts rest e refl
tiles_read f w h (suc more) before bytes ts rest number e =
    let named = names_of before in
    let n = tile_count w h - suc more in
    let n_is : n ≡ length before = omega (arith, number) in
    let b = bind_got (tile_at f named (tile_width w n) (tile_height w h n) bytes) (λ t after. tiles_at f w h (named_with named t) more after >>= λ others end. Got (t ∷ others) end) ts rest e in
    let first = ap (λ (k : ℕ). tile_at f named (tile_width w k) (tile_height w h k) bytes) (sym n_is) ∙ b.first in
    let r = tile_read f (tile_width w (length before)) (tile_height w h (length before)) before bytes b.value b.rest first in
    let d = bind_got (tiles_at f w h (named_with named b.value) more b.rest) (λ others end. Got (b.value ∷ others) end) ts rest b.then in
    let second = ap (λ (k : Named). tiles_at f w h k more b.rest) (sym (names_more before b.value)) ∙ d.first in
    let others = tiles_read f w h more (b.value ∷ before) b.rest d.value d.rest (omega (arith, number)) second in
    one_more_read (AreTiles f w h before) (AreTiles f w h (b.value ∷ before)) b.value d.value ts r.first bytes b.rest d.rest rest more r.bytes_are
    others d.then (λ body are. (r.first, body, refl, r.is, are))

pub tiles_again : (f : Format) (w h more : ℕ) (before ts : List Tile) (body rest : List ℕ) → length before + more ≡ tile_count w h → length ts ≡ more
    → AreTiles f w h before ts body → tiles_at f w h (names_of before) more (body ++ rest) ≡ Got ts rest
unfolding tiles_at
tiles_again f w h zero before [] body rest number count none = rw none refl
tiles_again f w h zero before (t ∷ ts) body rest number count are = absurd (omega arith)
tiles_again f w h (suc more) before [] body rest number count are = absurd (omega arith)
tiles_again f w h (suc more) before (t ∷ ts) body rest number count are =
    let n_is : tile_count w h - suc more ≡ length before = omega (arith, number) in
    let all : body ++ rest ≡ are.0 ++ (are.1 ++ rest) = ap (λ z. z ++ rest) are.2 ∙ append_assoc are.0 are.1 rest in
    rw (
      all,
      n_is,
      tile_again f (tile_width w (length before)) (tile_height w h (length before)) before t are.0 (are.1 ++ rest) are.3,
      names_more before t,
      tiles_again f w h more (t ∷ before) ts are.1 rest (omega (arith, number)) (omega arith) are.4,
    ) refl

pub data_read : (f : Format) (w h : ℕ) (bytes : List ℕ) (tiles : List Tile) (rest : List ℕ) → data_at f w h bytes ≡ Got tiles rest
    → Front (IsData f w h) bytes tiles rest
unfolding data_at
data_read f w h bytes tiles rest e =
    let r = tiles_read f w h (tile_count w h) [] bytes tiles rest (omega arith) e in
    record { front = r.body; bytes_are = r.bytes_are; is = record { all = r.count_is; are = r.are } }

pub data_again : (f : Format) (w h : ℕ) (front more : List ℕ) (tiles : List Tile) → IsData f w h front tiles
    → data_at f w h (front ++ more) ≡ Got tiles more
unfolding data_at
data_again f w h front more tiles is = tiles_again f w h (tile_count w h) [] tiles front more (omega arith) is.all is.are

pub data_whole : (f : Format) (w h : ℕ) (bytes : List ℕ) (tiles : List Tile) → IsData f w h bytes tiles → data_at f w h bytes ≡ Got tiles []
data_whole f w h bytes tiles is = ap (data_at f w h) (sym (append-nil bytes)) ∙ data_again f w h bytes [] tiles is
