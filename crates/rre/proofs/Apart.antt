-- Pixels of another number than the background's: each subrectangle begins at one of its own.
use Rattle.std.proofs.Common.{◌≡◌, ℕ, ◌+◌, ◌*◌, ◌<◌, ◌≤◌, ◌==◌, slice_index, subst, inl, inr, cond, false, List, length, take, drop, get_or, sym, ap, ◌∙◌, arith, rules}
use Rattle.std.specs.Prelude.{not}
use Rattle.std.proofs.lemmas.Bool.{cases_Bool, cases_lt, eqb-true}
use Rattle.std.proofs.lemmas.Nat.{mul-add-lt}
use Rattle.std.proofs.lemmas.List.{places, take-take}
use Rattle.std.proofs.lemmas.List.Sums.{count_by_more_yes, sum_by-take-le}
use Rattle.pixel_format.specs.declared.Color.{Color}
use Rattle.pixel_format.specs.Format.{Format}
use Rattle.pixel_format.specs.Number.{number_color, colors_of}
use Rattle.pixel_format.specs.Canvas.{nth, rows_of}
use Rattle.rre.specs.declared.data.Subrectangle.{Subrectangle}
use Rattle.rre.specs.Encoded.{Reaches, part_picture}
use Rattle.rre.specs.Numbered.{others_in}
use Rattle.pixel_format.proofs.Numbers.{color_nth}

pub others_all : (background : ℕ) (numbers : List ℕ) (i : ℕ) → others_in background (take i numbers) ≤ others_in background numbers
others_all background numbers i = sum_by-take-le (λ (other : ℕ). cond (not (background == other)) 1 0) numbers i

pub others_le : (background : ℕ) (numbers : List ℕ) (i j : ℕ) → i ≤ j → others_in background (take i numbers) ≤ others_in background (take j numbers)
others_le background numbers i j le =
    let fewer = others_all background (take j numbers) i in
    rw (take-take i j numbers le) at fewer

-- one pixel more
pub one_apart : (background : ℕ) (numbers : List ℕ) (n : ℕ) → n < length numbers → (get_or numbers n 0 ≡ background → ⊥) → others_in background (take (n + 1) numbers) ≡ others_in background (take n numbers) + 1
one_apart background numbers n lt other =
    let away : (background == get_or numbers n 0) ≡ false = elim (cases_Bool (background == get_or numbers n 0)) as (λ _. (background == get_or numbers n 0) ≡ false) [
      | inl same ↦ absurd (other (sym (eqb-true background (get_or numbers n 0) same)))
      | inr different ↦ different
    ] in
    count_by_more_yes (λ (other : ℕ). not (background == other)) numbers n 0 lt (ap not away)

-- after a pixel of another number, and as many more as there are
pub apart_on : (background : ℕ) (numbers : List ℕ) (count n m : ℕ) → n < m → n < length numbers → (get_or numbers n 0 ≡ background → ⊥) → count ≤ others_in background (take n numbers)
    → count + 1 ≤ others_in background (take m numbers)
apart_on background numbers count n m before lt other so_far =
    omega (arith, one_apart background numbers n lt other, others_le background numbers (n + 1) m (omega arith))

-- more are needed than there may be
pub apart_all : (background : ℕ) (numbers : List ℕ) (most count n : ℕ) → n < length numbers → (get_or numbers n 0 ≡ background → ⊥) → count ≤ others_in background (take n numbers) → most ≤ count
    → most < others_in background numbers
apart_all background numbers most count n lt other so_far many =
    omega (arith, apart_on background numbers count n (n + 1) (omega arith) lt other so_far, others_all background numbers (n + 1))

-- a pixel of a row
pub line_at : (numbers : List ℕ) (from n i : ℕ) → i < n → get_or (take n (drop from numbers)) i 0 ≡ get_or numbers (from + i) 0
line_at numbers from n i lt = search (rules, places)

-- a pixel of a row that lies in the rectangle
pub index_in : (row w column h size : ℕ) → row < h → column < w → size ≡ h * w → row * w + column < size
index_in row w column h size below across is = omega (arith, mul-add-lt row w column h (omega arith) (omega arith))

pub away_at : (numbers : List ℕ) (background row w column n : ℕ) → column < n → (get_or (take n (drop (row * w) numbers)) column 0 ≡ background → ⊥) → get_or numbers (row * w + column) 0 ≡ background → ⊥
away_at numbers background row w column n across other e = other (line_at numbers (row * w) n column across ∙ e)

-- pixels that have their colours are passed
pub skip_to : (colors : List Color) (w h : ℕ) (background : Color) (parts : List Subrectangle) (reach : List ℕ) (column row end : ℕ) → Reaches colors w h background parts reach column row → column ≤ end
    → ((c : ℕ) → c < w → column ≤ c → c < end → part_picture background parts c row ≡ rows_of colors w c row) → Reaches colors w h background parts reach end row
skip_to colors w h background parts reach column row end i on good = record {
  uniform = i.uniform;
  few = omega (arith, i.few);
  sound = i.sound;
  before = λ c r inside above stands. elim stands [
    | inl higher ↦ i.before c r inside above (inl higher)
    | inr level ↦ elim (cases_lt c column) [
      | inl earlier ↦ i.before c r inside above (inr (level.0, earlier))
      | inr later ↦
          subst (λ (z : ℕ). part_picture background parts c z ≡ rows_of colors w c z) (sym level.0) (good c inside later level.1)
    ]
  ];
  below = i.below;
}

run_at : (line : List ℕ) (background column end : ℕ) → get_or line column 0 ≡ background
    → ((k : ℕ) → column + 1 ≤ k → k < end → get_or line k 0 ≡ background) → (c : ℕ) → column ≤ c → c < end → get_or line c 0 ≡ background
run_at line background column end first run c from to = elim (cases_lt column c) [
  | inl following ↦ run c (omega arith) to
  | inr not_after ↦ (let e : c ≡ column = omega arith in ap (λ n. get_or line n 0) e ∙ first)
]

-- a run of the background's number
pub skip_run : (f : Format) (numbers : List ℕ) (w h background : ℕ) (parts : List Subrectangle) (reach : List ℕ) (column row end n : ℕ) → row < h
    → Reaches (colors_of f numbers) w h (number_color f background) parts reach column row → column < end → end ≤ n
    → get_or (take n (drop (row * w) numbers)) column 0 ≡ background → ((k : ℕ) → column + 1 ≤ k → k < end → get_or (take n (drop (row * w) numbers)) k 0 ≡ background)
    → Reaches (colors_of f numbers) w h (number_color f background) parts reach end row
skip_run f numbers w h background parts reach column row end n below i on within first run =
    skip_to (colors_of f numbers) w h (number_color f background) parts reach column row end i (omega arith) (λ c inside from to.
    let number : get_or numbers (row * w + c) 0 ≡ background = sym (line_at numbers (row * w) n c (omega arith)) ∙ run_at (take n (drop (row * w) numbers)) background column end first run c from to in
    let here : nth (colors_of f numbers) (row * w + c) ≡ number_color f background = color_nth f numbers (row * w + c) ∙ ap (number_color f) number in
    elim (i.sound c row inside below) [
      | inl good ↦ good
      | inr under ↦ under ∙ sym here
    ])

-- a pixel that a subrectangle from above reaches
pub skip_reached : (colors : List Color) (w h : ℕ) (background : Color) (parts : List Subrectangle) (reach : List ℕ) (column row : ℕ) → row < h → Reaches colors w h background parts reach column row → row < slice_index reach column
    → Reaches colors w h background parts reach (column + 1) row
skip_reached colors w h background parts reach column row below i reaches = skip_to colors w h background parts reach column row (column + 1) i (omega arith) (λ c inside from to.
    let e : c ≡ column = omega arith in
    i.below c row inside below (omega arith) (rw e reaches))
