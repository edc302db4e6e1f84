-- What fields the grammar reads are, and that fields are read so.
use Rattle.std.proofs.Common.{◌≡◌, ℕ, zero, suc, ◌+◌, ◌*◌, ◌≤◌, ◌⊎◌, inl, inr, true, false, Bool, List, [], ◌∷◌, ◌++◌, length, take, drop, Option, Some, None, refl, sym, ap, ◌∙◌, arith, append_assoc, length-append, cond, zero-mul, suc-mul}
use Rattle.std.specs.Prelude.{slice_index, is_some, ◌||◌, ◌&&◌, not, nat_lt}
use Rattle.std.proofs.lemmas.Bool.{le-leb, leb-true, lt-ltb, ltb-true, and_parts, or_cases, not-true, false_from_ne_true}
use Rattle.std.proofs.lemmas.List.{length-take-le, length-drop, take-append-drop, take_at, drop_at, get_or-drop, get_or_at, drop-drop}
use Rattle.pixel_format.specs.declared.Color.{Color}
use Rattle.pixel_format.specs.Format.{Format, pixel_bytes}
use Rattle.pixel_format.specs.Pixel.{pixel_color, ArePixels}
use Rattle.terms.proofs.Readings.{one_number}
use Rattle.hextile.specs.declared.fields.Subrectangle.{Subrectangle}
use Rattle.hextile.specs.declared.fields.Mask.{Mask}
use Rattle.hextile.specs.declared.fields.Named.{Named}
use Rattle.hextile.specs.Grammar.{Tile, Raw, Parts, is_allowed, pixel_if, color_if, colors_of, head_bytes, background_in, foreground_in, count_in, subrectangle_bytes, subrectangle_of, is_inside, named_with}
use Rattle.hextile.specs.Data.{background_of, foreground_of, IsNamed, IsAllowed, IsPixelIf, IsCountIf, LiesWithin, AreBytesOf, IsHead}

-- ---- lists

no_bytes : (bytes : List ℕ) → length bytes ≡ 0 → bytes ≡ []
no_bytes [] e = refl
no_bytes (b ∷ bytes) e = absurd (omega arith)

pub two_bytes : (bytes : List ℕ) → length bytes ≡ 2 → bytes ≡ slice_index bytes 0 ∷ slice_index bytes 1 ∷ []
two_bytes [] e = absurd (omega arith)
two_bytes (a ∷ []) e = absurd (omega arith)
two_bytes (a ∷ b ∷ []) e = refl
two_bytes (a ∷ b ∷ d ∷ bytes) e = absurd (omega arith)

-- ---- pixels

-- the pixel that begins the bytes, if it is there
pub pixel_front : (f : Format) (there : Bool) (bytes : List ℕ) → pixel_if f there ≤ length bytes
    → IsPixelIf f there (color_if f there bytes) (take (pixel_if f there) bytes)
pixel_front f true bytes enough = record { size = length-take-le (pixel_bytes f) bytes enough; color_is = refl }
pixel_front f false bytes enough = (refl, refl)

pub pixel_size : (f : Format) (there : Bool) (color : Option Color) (bytes : List ℕ) → IsPixelIf f there color bytes → length bytes ≡ pixel_if f there
pixel_size f true None bytes is = absurd is
pixel_size f true (Some color) bytes is = is.size
pixel_size f false color bytes is = ap length is.1

pub pixel_again : (f : Format) (there : Bool) (color : Option Color) (bytes more : List ℕ) → IsPixelIf f there color bytes
    → color_if f there (bytes ++ more) ≡ color
pixel_again f true None bytes more is = absurd is
pixel_again f true (Some color) bytes more is =
    ap (λ z. Some z) (ap (pixel_color f) (take_at bytes more (pixel_bytes f) is.size) ∙ sym is.color_is)
pixel_again f false color bytes more is = sym is.0

pub pixels_are : (f : Format) (n : ℕ) (bytes : List ℕ) → length bytes ≡ n * pixel_bytes f → ArePixels f (colors_of f n bytes) bytes
unfolding colors_of
pixels_are f zero bytes size = no_bytes bytes (omega (arith, size, zero-mul (pixel_bytes f)))
pixels_are f (suc n) bytes size =
    let p = pixel_bytes f in
    let all : length bytes ≡ n * p + p = size ∙ suc-mul n p in (
      take p bytes,
      drop p bytes,
      sym (take-append-drop p bytes),
      record { size = length-take-le p bytes (omega (arith, all)); color_is = refl },
      pixels_are f n (drop p bytes) (length-drop p bytes ∙ omega (arith, all)),
    )

pub pixels_count : (f : Format) (n : ℕ) (bytes : List ℕ) → length (colors_of f n bytes) ≡ n
unfolding colors_of
pixels_count f zero bytes = refl
pixels_count f (suc n) bytes = ap suc (pixels_count f n (drop (pixel_bytes f) bytes))

pub pixels_size : (f : Format) (colors : List Color) (bytes : List ℕ) → ArePixels f colors bytes → length bytes ≡ length colors * pixel_bytes f
pixels_size f [] bytes none = ap length none ∙ sym (zero-mul (pixel_bytes f))
pixels_size f (color ∷ colors) bytes are =
    let others = pixels_size f colors are.1 are.4 in
    let all : length bytes ≡ length are.0 + length are.1 = ap length are.2 ∙ length-append are.0 are.1 in
    omega (arith, all, others, are.3.size, suc-mul (length colors) (pixel_bytes f))

pub pixels_again : (f : Format) (colors : List Color) (bytes : List ℕ) → ArePixels f colors bytes → colors_of f (length colors) bytes ≡ colors
unfolding colors_of
pixels_again f [] bytes none = refl
pixels_again f (color ∷ colors) bytes are =
    let p = pixel_bytes f in
    let front : take p bytes ≡ are.0 = rw are.2 (take_at are.0 are.1 p are.3.size) in
    let following : drop p bytes ≡ are.1 = rw are.2 (drop_at are.0 are.1 p are.3.size) in
    rw (front, following, ← are.3.color_is, pixels_again f colors are.1 are.4) refl

-- ---- a tile's head

count_front : (there : Bool) (n : ℕ) (head : List ℕ) → length head ≡ n + (cond there 1 0)
    → IsCountIf there (cond there (slice_index head n) 0) (drop n head)
count_front true n head size =
    let one : length (drop n head) ≡ 1 = length-drop n head ∙ omega (arith, size) in
    one_number (drop n head) one ∙ ap (λ z. z ∷ []) (get_or-drop n head 0 0 ∙ ap (λ z. slice_index head z) (omega arith))
count_front false n head size = (refl, no_bytes (drop n head) (length-drop n head ∙ omega (arith, size)))

count_size : (there : Bool) (count : ℕ) (bytes : List ℕ) → IsCountIf there count bytes → length bytes ≡ cond there 1 0
count_size true count bytes is = ap length is
count_size false count bytes is = ap length is.1

count_again : (there : Bool) (n count : ℕ) (front bytes : List ℕ) → length front ≡ n → IsCountIf there count bytes
    → cond there (slice_index (front ++ bytes) n) 0 ≡ count
count_again true n count front bytes size is = rw is (get_or_at front count [] 0 n size)
count_again false n count front bytes size is = sym is.0

pub head_is : (f : Format) (m : Mask) (head : List ℕ) → length head ≡ head_bytes f m
    → IsHead f m (background_in f m head) (foreground_in f m head) (count_in f m head) head
unfolding background_in foreground_in count_in
head_is f m head whole =
    let a = pixel_if f m.background in
    let b = pixel_if f m.foreground in
    record {
      first = take a head;
      second = take b (drop a head);
      number = drop (a + b) head;
      head_is = sym (take-append-drop a head)
          ∙ ap (λ z. take a head ++ z) (sym (take-append-drop b (drop a head)) ∙ ap (λ z. take b (drop a head) ++ z) (drop-drop b a head));
      background_is = pixel_front f m.background head (omega (arith, whole));
      foreground_is = pixel_front f m.foreground (drop a head) (rw (length-drop a head) (omega (arith, whole)));
      count_is = count_front m.subrectangles (a + b) head whole;
    }

pub record HeadAgain (f : Format) (m : Mask) (background foreground : Option Color) (count : ℕ) (head : List ℕ) : Type 0 where
  pub whole : length head ≡ head_bytes f m
  pub background_is : background_in f m head ≡ background
  pub foreground_is : foreground_in f m head ≡ foreground
  pub count_is : count_in f m head ≡ count

pub head_again : (f : Format) (m : Mask) (background foreground : Option Color) (count : ℕ) (head : List ℕ) → IsHead f m background foreground count head
    → HeadAgain f m background foreground count head
unfolding background_in foreground_in count_in
head_again f m background foreground count head is =
    let a = pixel_if f m.background in
    let b = pixel_if f m.foreground in
    let first = pixel_size f m.background background is.first is.background_is in
    let second = pixel_size f m.foreground foreground is.second is.foreground_is in
    let number = count_size m.subrectangles count is.number is.count_is in
    let all : length head ≡ length is.first + (length is.second + length is.number) =
    ap length is.head_is ∙ length-append is.first (is.second ++ is.number) ∙ ap (λ n. length is.first + n) (length-append is.second is.number) in
    let following : drop a head ≡ is.second ++ is.number = ap (drop a) is.head_is ∙ drop_at is.first (is.second ++ is.number) a first in
    let fronts : length (is.first ++ is.second) ≡ a + b = length-append is.first is.second ∙ omega (arith, first, second) in
    record {
      whole = omega (arith, all, first, second, number);
      background_is = ap (color_if f m.background) is.head_is ∙ pixel_again f m.background background is.first (is.second ++ is.number) is.background_is;
      foreground_is = ap (color_if f m.foreground) following ∙ pixel_again f m.foreground foreground is.second is.number is.foreground_is;
      count_is = ap (λ z. cond m.subrectangles (slice_index z (a + b)) 0) (is.head_is ∙ sym (append_assoc is.first is.second is.number))
          ∙ count_again m.subrectangles (a + b) count (is.first ++ is.second) is.number fronts is.count_is;
    }

-- ---- subrectangles

-- a whole field is the bytes of its subrectangle
pub bytes_of_field : (f : Format) (colored : Bool) (bytes : List ℕ) → length bytes ≡ subrectangle_bytes f colored
    → AreBytesOf f colored (subrectangle_of f colored bytes) bytes
unfolding subrectangle_of
bytes_of_field f colored bytes whole =
    let n = pixel_if f colored in
    let two : length (drop n bytes) ≡ 2 = length-drop n bytes ∙ omega (arith, whole) in
    record {
      pixel = take n bytes;
      corner = slice_index (drop n bytes) 0;
      size = slice_index (drop n bytes) 1;
      bytes_are = sym (take-append-drop n bytes) ∙ ap (λ z. take n bytes ++ z) (two_bytes (drop n bytes) two);
      color_is = pixel_front f colored bytes (omega (arith, whole));
      x_is = refl;
      y_is = refl;
      w_is = refl;
      h_is = refl;
    }

-- and the bytes of a subrectangle are a whole field
pub bytes_length : (f : Format) (colored : Bool) (s : Subrectangle) (bytes : List ℕ) → AreBytesOf f colored s bytes
    → length bytes ≡ subrectangle_bytes f colored
bytes_length f colored s bytes b =
    let pixel = pixel_size f colored s.color b.pixel b.color_is in
    ap length b.bytes_are ∙ length-append b.pixel (b.corner ∷ b.size ∷ []) ∙ omega (arith, pixel)

pub bytes_subrectangle : (f : Format) (colored : Bool) (s : Subrectangle) (bytes : List ℕ) → AreBytesOf f colored s bytes
    → subrectangle_of f colored bytes ≡ s
unfolding subrectangle_of
bytes_subrectangle f colored s bytes b =
    let pixel = pixel_size f colored s.color b.pixel b.color_is in
    let following : drop (pixel_if f colored) bytes ≡ b.corner ∷ b.size ∷ [] =
    ap (drop (pixel_if f colored)) b.bytes_are ∙ drop_at b.pixel (b.corner ∷ b.size ∷ []) (pixel_if f colored) pixel in
    let color : color_if f colored bytes ≡ s.color =
    ap (color_if f colored) b.bytes_are ∙ pixel_again f colored s.color b.pixel (b.corner ∷ b.size ∷ []) b.color_is in
    rw (following, color, ← b.x_is, ← b.y_is, ← b.w_is, ← b.h_is) refl

pub inside_is : (w h : ℕ) (s : Subrectangle) → LiesWithin w h s → is_inside w h s ≡ true
unfolding is_inside
inside_is w h s is = rw (le-leb (s.x + s.w) w is.columns, le-leb (s.y + s.h) h is.rows) refl

pub within_is : (w h : ℕ) (s : Subrectangle) → is_inside w h s ≡ true → LiesWithin w h s
unfolding is_inside
within_is w h s e =
    let parts = and_parts _ _ e in
    record { columns = leb-true _ _ parts.0; rows = leb-true _ _ parts.1 }

pub outside_is : (w h : ℕ) (s : Subrectangle) → (LiesWithin w h s → ⊥) → is_inside w h s ≡ false
outside_is w h s leaves = false_from_ne_true (is_inside w h s) (λ e. leaves (within_is w h s e))

-- ---- masks

-- which colours these tiles named, the latest of which stands first
abbrev pub names_of : List Tile → Named
names_of before = record { background = is_some (background_of before); foreground = is_some (foreground_of before) }

or_some : (b : Bool) → (b || true) ≡ true
or_some true = refl
or_some false = refl

or_none : (b : Bool) → (b || false) ≡ b
or_none true = refl
or_none false = refl

pub names_more : (before : List Tile) (t : Tile) → named_with (names_of before) t ≡ names_of (t ∷ before)
names_more before (Raw colors) = refl
names_more before (Parts None None parts) = rw (or_none (is_some (background_of before)), or_none (is_some (foreground_of before))) refl
names_more before (Parts None (Some b) parts) = rw (or_none (is_some (background_of before)), or_some (is_some (foreground_of before))) refl
names_more before (Parts (Some a) None parts) = rw (or_some (is_some (background_of before)), or_none (is_some (foreground_of before))) refl
names_more before (Parts (Some a) (Some b) parts) = rw (or_some (is_some (background_of before)), or_some (is_some (foreground_of before))) refl

named_is : (color : Option Color) → is_some color ≡ true → IsNamed color
named_is None e = absurd (cc)
named_is (Some color) e = (color, refl)

named_again : (color : Option Color) → IsNamed color → is_some color ≡ true
named_again color is = rw is.1 refl

or_true : (a b : Bool) → (a ≡ true) ⊎ (b ≡ true) → (a || b) ≡ true
or_true true b e = refl
or_true false b (inl e) = absurd (cc)
or_true false b (inr e) = e

-- The tests of a mask that isn't a raw tile's.
pub allowed_is : (before : List Tile) (byte : ℕ) (m : Mask) → m.raw ≡ false → is_allowed (names_of before) byte m ≡ true → IsAllowed before byte m
unfolding is_allowed
allowed_is before byte m raw e =
    let named = names_of before in
    let background = named.background || m.background in
    let foreground = not m.subrectangles || m.colored || named.foreground || m.foreground in
    let tests : (nat_lt byte 32 && not (m.foreground && m.colored) && background && foreground) ≡ true = rw raw at e in
    let three = and_parts (nat_lt byte 32 && not (m.foreground && m.colored) && background) foreground tests in
    let two = and_parts (nat_lt byte 32 && not (m.foreground && m.colored)) background three.0 in
    let one = and_parts (nat_lt byte 32) (not (m.foreground && m.colored)) two.0 in
    record {
      known = ltb-true byte 32 one.0;
      apart = λ a b. let clash = not-true (m.foreground && m.colored) one.1 in let both : (m.foreground && m.colored) ≡ true = rw (a, b) refl in absurd (cc);
      background = elim (or_cases named.background m.background two.1) [ inl a ↦ inr (named_is (background_of before) a) | inr a ↦ inl a ];
      foreground = λ a b.
          let last : (named.foreground || m.foreground) ≡ true = rw (a, b) at three.1 in
          elim (or_cases named.foreground m.foreground last) [ inl d ↦ inr (named_is (foreground_of before) d) | inr d ↦ inl d ];
    }

foreground_tests : (subrectangles colored named there : Bool) → (subrectangles ≡ true → colored ≡ false → (there ≡ true) ⊎ (named ≡ true))
    → (not subrectangles || colored || named || there) ≡ true
foreground_tests false colored named there is = refl
foreground_tests true true named there is = refl
foreground_tests true false true there is = refl
foreground_tests true false false there is = elim (is refl refl) [ inl a ↦ a | inr a ↦ absurd (cc) ]

apart_tests : (a b : Bool) → (a ≡ true → b ≡ true → ⊥) → not (a && b) ≡ true
apart_tests true true is = absurd (is refl refl)
apart_tests true false is = refl
apart_tests false b is = refl

pub allowed_again : (before : List Tile) (byte : ℕ) (m : Mask) → m.raw ≡ false → IsAllowed before byte m → is_allowed (names_of before) byte m ≡ true
unfolding is_allowed
allowed_again before byte m raw is =
    let named = names_of before in
    let background : (named.background || m.background) ≡ true =
    or_true named.background m.background (elim is.background [ inl a ↦ inr a | inr a ↦ inl (named_again (background_of before) a) ]) in
    let foreground : (not m.subrectangles || m.colored || named.foreground || m.foreground) ≡ true =
    foreground_tests m.subrectangles m.colored named.foreground m.foreground
    (λ a b. elim (is.foreground a b) [ inl d ↦ inl d | inr d ↦ inr (named_again (foreground_of before) d) ]) in
    rw (raw, lt-ltb byte 32 is.known, apart_tests m.foreground m.colored is.apart, background, foreground) refl

pub forbidden_again : (before : List Tile) (byte : ℕ) (m : Mask) → m.raw ≡ false → (IsAllowed before byte m → ⊥) → is_allowed (names_of before) byte m ≡ false
forbidden_again before byte m raw forbidden =
    false_from_ne_true (is_allowed (names_of before) byte m) (λ e. forbidden (allowed_is before byte m raw e))

pub raw_is_allowed : (named : Named) (byte : ℕ) (m : Mask) → m.raw ≡ true → is_allowed named byte m ≡ true
unfolding is_allowed
raw_is_allowed named byte m raw = rw raw refl

pub refused_is_not_raw : (named : Named) (byte : ℕ) (m : Mask) → is_allowed named byte m ≡ false → m.raw ≡ false
refused_is_not_raw named byte m e =
    false_from_ne_true m.raw (λ raw. let clash = raw_is_allowed named byte m raw in absurd (cc))
