-- Pixels that stand one after the other.
use Rattle.std.proofs.Common.{◌≡◌, ℕ, zero, suc, ◌+◌, ◌-◌, ◌*◌, ◌≤◌, List, [], ◌∷◌, ◌++◌, length, take, drop, inl, inr, refl, sym, ap, subst, ◌∙◌, arith, length-append, zero-mul}
use Rattle.std.specs.Int.{bytes_low_first, bytes_high_first}
use Rattle.std.specs.List.{flat_map}
use Rattle.std.proofs.lemmas.Bool.{cases_Bool, cases_lt}
use Rattle.std.proofs.lemmas.List.{take_at, take_all, take-append-le, drop-append-le, get_or-append-add, length-drop, append_cancel_left}
use Rattle.std.proofs.Math.Seq.{drop-append-add}
use Rattle.std.proofs.Math.ListN.{get_or-append}
use Rattle.std.proofs.Math.Nat.{mul-le-mul_left, mul_comm, mul-add}
use Rattle.pixel_format.specs.declared.Color.{Color}
use Rattle.pixel_format.specs.Format.{Format, pixel_bytes}
use Rattle.pixel_format.specs.Pixel.{pixel_of, color_number, ArePixels as HavePixels}
use Rattle.pixel_format.specs.Canvas.{nth, black}
use Rattle.terms.specs.Appending.{Appends}
use Rattle.rect_codec.specs.Picture.{pixel_at}
use Rattle.rect_codec.specs.Written.{IsPixelOf, ArePixels, ShowsRaw}

distribute : (a b s : ℕ) → (a + b) * s ≡ a * s + b * s
distribute a b s = mul_comm (a + b) s ∙ mul-add s a b ∙ omega (arith, mul_comm s a, mul_comm s b)

-- the pixels of some colours, and those of others after them
pub are_joined : (f : Format) (a b : List Color) (p q : List ℕ) → ArePixels f a p → ArePixels f b q → ArePixels f (a ++ b) (p ++ q)
are_joined f a b p q first second =
    let s = pixel_bytes f in
    let len = length-append a b in
    record {
      size = length-append p q ∙ omega (arith, first.size, second.size, distribute (length a) (length b) s) ∙ ap (λ (n : ℕ). n * s) (sym len);
      pixels_are = λ n less. elim (cases_lt n (length a)) [
        | inl below ↦
            let wide : n * s + s ≤ length p = omega (arith, first.size, mul-le-mul_left s below, distribute n 1 s) in
            let front : drop (n * s) (p ++ q) ≡ drop (n * s) p ++ q = drop-append-le (n * s) p q (omega arith) in
            let long : s ≤ length (drop (n * s) p) = omega (arith, length-drop (n * s) p) in
            let pixel : pixel_at f (p ++ q) n ≡ pixel_at f p n = ap (take s) front ∙ take-append-le s (drop (n * s) p) q long in
            let color : nth (a ++ b) n ≡ nth a n = get_or-append a b black n below in
            let is : IsPixelOf f (nth a n) (pixel_at f p n) = first.pixels_are n below in
            subst (λ (c : Color). IsPixelOf f c (pixel_at f (p ++ q) n)) (sym color) (subst (λ (z : List ℕ). IsPixelOf f (nth a n) z) (sym pixel) is)
        | inr following ↦
            let m = n - length a in
            let split : length a + m ≡ n = omega arith in
            let start : length p + m * s ≡ n * s = omega (arith, first.size, distribute (length a) m s, ap (λ (k : ℕ). k * s) split) in
            let back : drop (n * s) (p ++ q) ≡ drop (m * s) q = ap (λ (k : ℕ). drop k (p ++ q)) (sym start) ∙ drop-append-add p q (m * s) in
            let pixel : pixel_at f (p ++ q) n ≡ pixel_at f q m = ap (take s) back in
            let color : nth (a ++ b) n ≡ nth b m = ap (λ (k : ℕ). nth (a ++ b) k) (sym split) ∙ get_or-append-add a b m black in
            let is : IsPixelOf f (nth b m) (pixel_at f q m) = second.pixels_are m (omega (arith, len, less, split)) in
            subst (λ (c : Color). IsPixelOf f c (pixel_at f (p ++ q) n)) (sym color) (subst (λ (z : List ℕ). IsPixelOf f (nth b m) z) (sym pixel) is)
      ];
    }

pub no_pixels : (f : Format) → ArePixels f [] []
no_pixels f = record { size = sym (zero-mul (pixel_bytes f)); pixels_are = λ n less. absurd (omega arith) }

-- a pixel has as many bytes as the format says
high_long : (n x : ℕ) → length (bytes_high_first n x) ≡ n
high_long zero x = refl
high_long (suc n) x = ap suc (high_long n x)

low_long : (i n x : ℕ) → length (bytes_low_first i n x) ≡ n
low_long i zero x = refl
low_long i (suc n) x = ap suc (low_long (suc i) n x)

pixel_long : (f : Format) (c : Color) → length (pixel_of f c) ≡ pixel_bytes f
unfolding pixel_of
pixel_long f c = elim (cases_Bool f.big_endian) [
  | inl big ↦ rw big (high_long (pixel_bytes f) (color_number f c))
  | inr little ↦ rw little (low_long 0 (pixel_bytes f) (color_number f c))
]

one_pixel : (f : Format) (c : Color) (pixel : List ℕ) → length pixel ≡ pixel_bytes f → IsPixelOf f c pixel → ArePixels f (c ∷ []) pixel
one_pixel f c pixel long is = record {
  size = long ∙ omega arith;
  pixels_are = λ n less.
      let first : n ≡ 0 = omega arith in
      let whole : pixel_at f pixel 0 ≡ pixel = rw (zero-mul (pixel_bytes f)) (take_all (pixel_bytes f) pixel (omega arith)) in
      rw (first, whole) is;
}

-- bytes that have the colours, one after the other, and are those that are written of them
pub pixels_are : (f : Format) (colors : List Color) (bytes : List ℕ) → HavePixels f colors bytes → bytes ≡ flat_map (pixel_of f) colors → ArePixels f colors bytes
pixels_are f [] bytes none written = subst (ArePixels f []) (sym none) (no_pixels f)
pixels_are f (c ∷ colors) bytes are written =
    let first : List ℕ = are.0 in
    let rest : List ℕ = are.1 in
    let one = pixel_long f c in
    let both : first ++ rest ≡ pixel_of f c ++ flat_map (pixel_of f) colors = sym are.2 ∙ written in
    let same : first ≡ pixel_of f c =
    sym (take_at first rest (pixel_bytes f) are.3.size) ∙ ap (take (pixel_bytes f)) both ∙ take_at (pixel_of f c) (flat_map (pixel_of f) colors) (pixel_bytes f) one in
    let following : rest ≡ flat_map (pixel_of f) colors = append_cancel_left first rest (flat_map (pixel_of f) colors) (both ∙ ap (λ (z : List ℕ). z ++ flat_map (pixel_of f) colors) (sym same)) in
    subst (ArePixels f (c ∷ colors)) (sym are.2)
    (are_joined f (c ∷ []) colors first rest (one_pixel f c first are.3.size (record { bytes_are = same; color_is = sym are.3.color_is })) (pixels_are f colors rest are.4 following))

-- the same of what is appended
pub pixels_appended : (f : Format) (colors : List Color) (old new : List ℕ) → Appends (HavePixels f colors) old new → new ≡ old ++ flat_map (pixel_of f) colors
    → Appends (ArePixels f colors) old new
pixels_appended f colors old new a written = record {
  bytes = a.bytes;
  is = a.is;
  are = pixels_are f colors a.bytes a.are (append_cancel_left old a.bytes (flat_map (pixel_of f) colors) (sym a.is ∙ written));
}

-- appended pixels show their colours, by rows
pub pixels_show : (f : Format) (w h : ℕ) (colors : List Color) (old new : List ℕ) → length colors ≡ h * w
    → Appends (ArePixels f colors) old new → Appends (ShowsRaw f w h colors) old new
pixels_show f w h colors old new all_pixels appended =
    let pixels = appended.are in
    record {
      bytes = appended.bytes;
      is = appended.is;
      are = record {
        size = pixels.size ∙ ap (λ (n : ℕ). n * pixel_bytes f) all_pixels;
        are = pixels;
        picture = λ column row across down. (pixels.pixels_are (row * w + column) (omega (arith, mul-le-mul_left w down))).color_is;
      };
    }
