-- What is appended one after the other.
use Rattle.std.proofs.Common.{◌≡◌, ℕ, ◌+◌, ◌*◌, ◌-◌, ◌<◌, ◌≤◌, Bool, true, false, cond, List, [], ◌∷◌, ◌++◌, length, take, get_or, map, refl, sym, ap, subst, ◌∙◌, append_assoc, arith}
use mir.Val.{bool_byte}
use Rattle.std.specs.List.{flat_map}
use Rattle.std.proofs.lemmas.List.{append-nil, take_more, map-append}
use Rattle.pixel_format.specs.declared.Color.{Color}
use Rattle.pixel_format.specs.Format.{Format}
use Rattle.pixel_format.specs.Pixel.{IsPixel, ArePixels}
use Rattle.terms.specs.Appending.{Appends}
use Rattle.terms.proofs.Appends.{joined}
use Rattle.hextile.specs.declared.fields.Mask.{Mask}
use Rattle.hextile.specs.declared.fields.Subrectangle.{Subrectangle}
use Rattle.hextile.specs.declared.cover.Part.{Part}
use Rattle.hextile.specs.Grammar.{mask_of}
use Rattle.hextile.specs.Data.{IsPixelIf, IsCountIf, LiesWithin, AreBytesOf, AreSubrectangles, IsHead, AreRaw}
use Rattle.hextile.specs.Encoded.{shown_if, drawn, IsPart, IsWritten}

-- the byte of a mask
abbrev pub mask_byte : Bool → Bool → Bool → Bool → Bool → ℕ
mask_byte a b c d e = bool_byte a + 2 * bool_byte b + 4 * bool_byte c + 8 * bool_byte d + 16 * bool_byte e

pub mask_again : (a b c d e : Bool) → mask_of (mask_byte a b c d e) ≡ record { raw = a; background = b; foreground = c; subrectangles = d; colored = e }
unfolding mask_of
mask_again true true true true true = refl
mask_again true true true true false = refl
mask_again true true true false true = refl
mask_again true true true false false = refl
mask_again true true false true true = refl
mask_again true true false true false = refl
mask_again true true false false true = refl
mask_again true true false false false = refl
mask_again true false true true true = refl
mask_again true false true true false = refl
mask_again true false true false true = refl
mask_again true false true false false = refl
mask_again true false false true true = refl
mask_again true false false true false = refl
mask_again true false false false true = refl
mask_again true false false false false = refl
mask_again false true true true true = refl
mask_again false true true true false = refl
mask_again false true true false true = refl
mask_again false true true false false = refl
mask_again false true false true true = refl
mask_again false true false true false = refl
mask_again false true false false true = refl
mask_again false true false false false = refl
mask_again false false true true true = refl
mask_again false false true true false = refl
mask_again false false true false true = refl
mask_again false false true false false = refl
mask_again false false false true true = refl
mask_again false false false true false = refl
mask_again false false false false true = refl
mask_again false false false false false = refl

at_most_one : (b : Bool) → bool_byte b ≤ 1
at_most_one true = omega arith
at_most_one false = omega arith

pub mask_small : (a b c d e : Bool) → mask_byte a b c d e < 32
mask_small a b c d e = omega (arith, at_most_one a, at_most_one b, at_most_one c, at_most_one d, at_most_one e)

-- a pixel that is there or not
pub pixel_there : (f : Format) (there : Bool) (color : Color) (old new : List ℕ) → there ≡ true → Appends (IsPixel f color) old new
    → Appends (IsPixelIf f there (shown_if there color)) old new
pixel_there f true color old new is a = a
pixel_there f false color old new is a = absurd (cc)

pub pixel_away : (f : Format) (there : Bool) (color : Color) (old : List ℕ) → there ≡ false → Appends (IsPixelIf f there (shown_if there color)) old old
pixel_away f true color old is = absurd (cc)
pixel_away f false color old is = record { bytes = []; is = sym (append-nil old); are = (refl, refl) }

-- a head
pub head_appended : (f : Format) (m : Mask) (background foreground : Color) (count : ℕ) (old first between new : List ℕ)
    → Appends (IsPixelIf f m.background (shown_if m.background background)) old first
    → Appends (IsPixelIf f m.foreground (shown_if m.foreground foreground)) first between
    → Appends (IsCountIf m.subrectangles (cond m.subrectangles count 0)) between new
    → Appends (IsHead f m (shown_if m.background background) (shown_if m.foreground foreground) (cond m.subrectangles count 0)) old new
head_appended f m background foreground count old first between new a b d = record {
  bytes = a.bytes ++ (b.bytes ++ d.bytes);
  is = joined old a.bytes (b.bytes ++ d.bytes) first new a.is (joined first b.bytes d.bytes between new b.is d.is);
  are = record { first = a.bytes; second = b.bytes; number = d.bytes; head_is = refl; background_is = a.are; foreground_is = b.are; count_is = d.are };
}

pub count_there : (there : Bool) (count : ℕ) (old new : List ℕ) → there ≡ true → new ≡ old ++ count ∷ [] → Appends (IsCountIf there (cond there count 0)) old new
count_there true count old new is e = record { bytes = count ∷ []; is = e; are = refl }
count_there false count old new is e = absurd (cc)

pub count_away : (there : Bool) (count : ℕ) (old : List ℕ) → there ≡ false → Appends (IsCountIf there (cond there count 0)) old old
count_away true count old is = absurd (cc)
count_away false count old is = record { bytes = []; is = sym (append-nil old); are = (refl, refl) }

-- a subrectangle
pub part_appended : (f : Format) (colored : Bool) (s : Part) (old between new : List ℕ) → IsPart f 16 16 s
    → Appends (IsPixelIf f colored (shown_if colored s.color)) old between → new ≡ between ++ (s.x * 16 + s.y) ∷ ((s.w - 1) * 16 + (s.h - 1)) ∷ []
    → Appends (AreBytesOf f colored (drawn colored s)) old new
part_appended f colored s old between new is pixel added =
    let across = is.across in
    let down = is.down in
    let columns = is.columns in
    let rows = is.rows in
    record {
      bytes = pixel.bytes ++ (s.x * 16 + s.y) ∷ ((s.w - 1) * 16 + (s.h - 1)) ∷ [];
      is = joined old pixel.bytes ((s.x * 16 + s.y) ∷ ((s.w - 1) * 16 + (s.h - 1)) ∷ []) between new pixel.is added;
      are = record {
        pixel = pixel.bytes;
        corner = s.x * 16 + s.y;
        size = (s.w - 1) * 16 + (s.h - 1);
        bytes_are = refl;
        color_is = pixel.are;
        x_is = omega arith;
        y_is = omega arith;
        w_is = omega arith;
        h_is = omega arith;
      };
    }

subrectangles_more : (f : Format) (colored : Bool) (w h : ℕ) (ss : List Subrectangle) (s : Subrectangle) (body first : List ℕ) → AreSubrectangles f colored w h ss body
    → AreBytesOf f colored s first → LiesWithin w h s → AreSubrectangles f colored w h (ss ++ s ∷ []) (body ++ first)
subrectangles_more f colored w h [] s body first none is within = (first, [], ap (λ z. z ++ first) none ∙ sym (append-nil first), is, within, refl)
subrectangles_more f colored w h (head ∷ ss) s body first are is within =
    (are.0, are.1 ++ first, ap (λ z. z ++ first) are.2 ∙ append_assoc are.0 are.1 first, are.3, are.4, subrectangles_more f colored w h ss s are.1 first are.5 is within)

pub parts_more : (f : Format) (colored : Bool) (w h : ℕ) (parts : List Part) (k : ℕ) (d : Part) (old between new : List ℕ) → k < length parts → IsPart f w h (get_or parts k d)
    → Appends (AreSubrectangles f colored w h (map (drawn colored) (take k parts))) old between → Appends (AreBytesOf f colored (drawn colored (get_or parts k d))) between new
    → Appends (AreSubrectangles f colored w h (map (drawn colored) (take (k + 1) parts))) old new
parts_more f colored w h parts k d old between new less is before last =
    let all : map (drawn colored) (take (k + 1) parts) ≡ map (drawn colored) (take k parts) ++ drawn colored (get_or parts k d) ∷ [] =
    ap (map (drawn colored)) (take_more parts k d less) ∙ map-append (drawn colored) (take k parts) (get_or parts k d ∷ []) in
    record {
      bytes = before.bytes ++ last.bytes;
      is = joined old before.bytes last.bytes between new before.is last.is;
      are = subst (λ (ss : List Subrectangle). AreSubrectangles f colored w h ss (before.bytes ++ last.bytes)) (sym all)
          (subrectangles_more f colored w h (map (drawn colored) (take k parts)) (drawn colored (get_or parts k d)) before.bytes last.bytes before.are last.are
          (record { columns = is.columns; rows = is.rows }));
    }

pub flat_map-map : {A B : Type 0} (g : B → List ℕ) (m : A → B) (all : List A) → flat_map (λ a. g (m a)) all ≡ flat_map g (map m all)
flat_map-map g m [] = refl
flat_map-map g m (a ∷ all) = ap (λ z. g (m a) ++ z) (flat_map-map g m all)

-- a tile of parts
pub parts_tile_appended : (f : Format) (w h : ℕ) (m : Mask) (background foreground : Color) (parts : List Part) (byte count : ℕ) (old first between new : List ℕ)
    → mask_of byte ≡ m → byte < 32 → count ≡ length parts → first ≡ old ++ byte ∷ []
    → Appends (IsHead f m (shown_if m.background background) (shown_if m.foreground foreground) (cond m.subrectangles count 0)) first between
    → Appends (AreSubrectangles f m.colored w h (map (drawn m.colored) parts)) between new
    → Appends (IsWritten f w h m background foreground parts) old new
parts_tile_appended f w h m background foreground parts byte count old first between new mask_is small count_is added head body = record {
  bytes = byte ∷ (head.bytes ++ body.bytes);
  is = joined old (byte ∷ []) (head.bytes ++ body.bytes) first new added (joined first head.bytes body.bytes between new head.is body.is);
  are = record {
    byte = byte;
    head = head.bytes;
    body = body.bytes;
    bytes_are = refl;
    mask_is = mask_is;
    known = small;
    head_is = subst (λ (n : ℕ). IsHead f m (shown_if m.background background) (shown_if m.foreground foreground) (cond m.subrectangles n 0) head.bytes) count_is head.are;
    body_is = body.are;
  };
}

-- a raw tile
pub raw_tile_appended : (f : Format) (w h : ℕ) (colors : List Color) (old first new : List ℕ) → length colors ≡ w * h → first ≡ old ++ 1 ∷ []
    → Appends (ArePixels f colors) first new → Appends (AreRaw f w h colors) old new
unfolding mask_of
raw_tile_appended f w h colors old first new pixel_count added pixels = record {
  bytes = 1 ∷ pixels.bytes;
  is = joined old (1 ∷ []) pixels.bytes first new added pixels.is;
  are = record { byte = 1; pixels = pixels.bytes; bytes_are = refl; raw = refl; pixel_count = pixel_count; pixels_are = pixels.are };
}
