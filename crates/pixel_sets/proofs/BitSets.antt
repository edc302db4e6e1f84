-- Bits of words, and sets of numbers that are kept as such.
use Rattle.std.proofs.Common.{subst, Fits, ◌≡◌, ℕ, suc, ◌+◌, ◌-◌, ◌*◌, ◌/◌, ◌%◌, ◌^◌, ◌<◌, ◌≤◌, ◌⊎◌, inl, inr, Bool, true, false, cond, List, length, get_or, slice_set, refl, sym, ap, ◌∙◌, arith, eqb-true, pow_pos, pow-suc, nat_eq, nat_le, nat_lt}
use Rattle.std.specs.Prelude.{◌||◌, ◌&&◌, not, bit_and, bit_or, min, max, Option, Some, None}
use Rattle.std.specs.Int.{Width, bit_at, bit_not, trailing_zeros}
use mir.Val.{bits}
use lib.Count.{count_leading_zeros}
use Rattle.std.proofs.lemmas.Nat.{leading_top, le-div, div_below}
use Rattle.std.proofs.lemmas.Bool.{cases_Bool, cases_lt, cases_order, and_parts, ltb-true, leb-true, lt-ltb, le-leb, false_from_ne_true}
use Rattle.std.proofs.lemmas.List.{get_or-set_same, get_or-set_other}
use Rattle.std.proofs.lemmas.Nat.Bits.{bit_at_and, bit_at_or, bit_at_not, bit_at-lt, ones_shl, ones_shr, bit_at_ones, bit_at_ones_above, bit_at_mask_inside, bit_at_mask_below, bit_at-zero, bit_at-trailing_zeros, bit_at_above}
use Rattle.terms.proofs.Areas.{or_left, or_right, or_parts}
use Rattle.pixel_sets.specs.Bits.{bit, is_set, is_between, AreEnds, AreEndsOf, IsFirst}
use Rattle.pixel_sets.specs.declared.bits.Ends.{Ends}

-- ---- tests of numbers

-- a number from the first to below the second, as a fact
pub record IsBetween (from to k : ℕ) : Type 0 where
  pub above : from ≤ k
  pub below : k < to

pub between_is : (from to k : ℕ) → is_between from to k ≡ true → IsBetween from to k
between_is from to k e = let parts = and_parts _ _ e in record { above = leb-true _ _ parts.0; below = ltb-true _ _ parts.1 }

pub is_between_true : (from to k : ℕ) → from ≤ k → k < to → is_between from to k ≡ true
is_between_true from to k above below = rw (le-leb from k above, lt-ltb k to below) refl

pub is_between_false : (from to k : ℕ) → (IsBetween from to k → ⊥) → is_between from to k ≡ false
is_between_false from to k out = false_from_ne_true (is_between from to k) (λ e. out (between_is from to k e))

-- ---- bits of a word

-- a bit is 0 or 1
zero_or_one : (n : ℕ) → n < 2 → (n ≡ 0) ⊎ (n ≡ 1)
zero_or_one n lt = elim (cases_lt n 1) [
  | inl less ↦ inl (omega arith)
  | inr more ↦ inr (omega arith)
]

both : (x y : ℕ) → x < 2 → y < 2 → nat_eq (min x y) 1 ≡ (nat_eq x 1 && nat_eq y 1)
both x y a b = elim (zero_or_one x a) [
  | inl p ↦ elim (zero_or_one y b) [ inl q ↦ rw (p, q) refl | inr q ↦ rw (p, q) refl ]
  | inr p ↦ elim (zero_or_one y b) [ inl q ↦ rw (p, q) refl | inr q ↦ rw (p, q) refl ]
]

either : (x y : ℕ) → x < 2 → y < 2 → nat_eq (max x y) 1 ≡ (nat_eq x 1 || nat_eq y 1)
either x y a b = elim (zero_or_one x a) [
  | inl p ↦ elim (zero_or_one y b) [ inl q ↦ rw (p, q) refl | inr q ↦ rw (p, q) refl ]
  | inr p ↦ elim (zero_or_one y b) [ inl q ↦ rw (p, q) refl | inr q ↦ rw (p, q) refl ]
]

other : (x : ℕ) → x < 2 → nat_eq (1 - x) 1 ≡ not (nat_eq x 1)
other x a = elim (zero_or_one x a) [ inl p ↦ rw p refl | inr p ↦ rw p refl ]

pub bit_of_and : (a b i : ℕ) → bit (bit_and a b) i ≡ (bit a i && bit b i)
bit_of_and a b i = ap (λ (n : ℕ). nat_eq n 1) (bit_at_and a b i) ∙ both (bit_at a i) (bit_at b i) (bit_at-lt a i) (bit_at-lt b i)

pub bit_of_or : (a b i : ℕ) → bit (bit_or a b) i ≡ (bit a i || bit b i)
bit_of_or a b i = ap (λ (n : ℕ). nat_eq n 1) (bit_at_or a b i) ∙ either (bit_at a i) (bit_at b i) (bit_at-lt a i) (bit_at-lt b i)

pub bit_of_not : (w : Width) (a i : ℕ) → bits w ≡ 64 → a < 2 ^ 64 → i < 64 → bit (bit_not w a) i ≡ not (bit a i)
bit_of_not w a i wide fits lt = ap (λ (n : ℕ). nat_eq n 1) (bit_at_not w a i (rw wide fits) (rw wide lt)) ∙ other (bit_at a i) (bit_at-lt a i)

-- all ones from a number on
high_ones : (from i : ℕ) → from ≤ 64 → i < 64 → bit ((2 ^ 64 - 1) * 2 ^ from % 2 ^ 64) i ≡ nat_le from i
high_ones from i within lt = elim (cases_lt i from) [
  | inl below ↦
      ap (λ (n : ℕ). bit n i) (ones_shl 64 from within)
      ∙ ap (λ (n : ℕ). nat_eq n 1) (bit_at_mask_below from 64 i below)
      ∙ sym (false_from_ne_true (nat_le from i) (λ e. let le = leb-true from i e in absurd (omega arith)))
  | inr above ↦
      ap (λ (n : ℕ). bit n i) (ones_shl 64 from within)
      ∙ ap (λ (n : ℕ). nat_eq n 1) (bit_at_mask_inside from 64 i above lt)
      ∙ sym (le-leb from i above)
]

-- all ones below a number
low_ones : (to i : ℕ) → to ≤ 64 → bit ((2 ^ 64 - 1) / 2 ^ (64 - to)) i ≡ nat_lt i to
low_ones to i within =
    let there : 64 - (64 - to) ≡ to = omega arith in
    let is : (2 ^ 64 - 1) / 2 ^ (64 - to) ≡ 2 ^ to - 1 = ones_shr 64 (64 - to) (omega arith) ∙ ap (λ (n : ℕ). 2 ^ n - 1) there in
    elim (cases_lt i to) [
      | inl below ↦
          ap (λ (n : ℕ). bit n i) is ∙ ap (λ (n : ℕ). nat_eq n 1) (bit_at_ones to i below) ∙ sym (lt-ltb i to below)
      | inr above ↦
          ap (λ (n : ℕ). bit n i) is ∙ ap (λ (n : ℕ). nat_eq n 1) (bit_at_ones_above to i above)
          ∙ sym (false_from_ne_true (nat_lt i to) (λ e. let lt = ltb-true i to e in absurd (omega arith)))
    ]

-- all ones from a number to below another
pub mask_bits : (from to i : ℕ) → from ≤ 64 → to ≤ 64 → i < 64
    → bit (bit_and ((2 ^ 64 - 1) * 2 ^ from % 2 ^ 64) ((2 ^ 64 - 1) / 2 ^ (64 - to))) i ≡ is_between from to i
mask_bits from to i low high lt =
    bit_of_and _ _ i ∙ ap (λ (b : Bool). b && bit ((2 ^ 64 - 1) / 2 ^ (64 - to)) i) (high_ones from i low lt)
    ∙ ap (λ (b : Bool). nat_le from i && b) (low_ones to i high)

or_chosen : (b c : Bool) → (c || b) ≡ cond b true c
or_chosen true true = refl
or_chosen true false = refl
or_chosen false true = refl
or_chosen false false = refl

and_chosen : (b c : Bool) → (c && not b) ≡ cond b false c
and_chosen true true = refl
and_chosen true false = refl
and_chosen false true = refl
and_chosen false false = refl

pub ones_put : (word mask i : ℕ) (b : Bool) → bit mask i ≡ b → bit (bit_or word mask) i ≡ cond b true (bit word i)
ones_put word mask i b is = bit_of_or word mask i ∙ ap (λ (c : Bool). bit word i || c) is ∙ or_chosen b (bit word i)

pub zeros_put : (w : Width) (word mask i : ℕ) (b : Bool) → Fits w word → bits w ≡ 64 → mask < 2 ^ 64 → i < 64 → bit mask i ≡ b
    → bit (bit_and word (bit_not w mask)) i ≡ cond b false (bit word i)
zeros_put w word mask i b whole wide fits lt is =
    bit_of_and word (bit_not w mask) i ∙ ap (λ (c : Bool). bit word i && c) (bit_of_not w mask i wide fits lt ∙ ap not is) ∙ and_chosen b (bit word i)

-- ---- sets of numbers

pub same_test : (a b : Bool) → (a ≡ true → b ≡ true) → (b ≡ true → a ≡ true) → a ≡ b
same_test true b to from = sym (to refl)
same_test false true to from = from refl
same_test false false to from = refl

-- the bits of a word, and the numbers that they stand for
word_between : (next count k : ℕ) → next % 64 + count ≤ 64 → k / 64 ≡ next / 64 → is_between (next % 64) (next % 64 + count) (k % 64) ≡ is_between next (next + count) k
word_between next count k fits same =
    same_test (is_between (next % 64) (next % 64 + count) (k % 64)) (is_between next (next + count) k)
    (λ e. let b = between_is (next % 64) (next % 64 + count) (k % 64) e in let low = b.above in let high = b.below in is_between_true next (next + count) k (omega arith) (omega arith))
    (λ e. let b = between_is next (next + count) k e in let low = b.above in let high = b.below in is_between_true (next % 64) (next % 64 + count) (k % 64) (omega arith) (omega arith))

-- numbers of one word
same_word : (next count k : ℕ) → next % 64 + count ≤ 64 → is_between next (next + count) k ≡ true → k / 64 ≡ next / 64
same_word next count k fits e = let b = between_is next (next + count) k e in let low = b.above in let high = b.below in omega arith

-- a word with other bits from one number on
pub word_put : (words : List ℕ) (new next count : ℕ) (value : Bool) → next / 64 < length words → next % 64 + count ≤ 64
    → ((i : ℕ) → i < 64 → bit new i ≡ cond (is_between (next % 64) (next % 64 + count) i) value (bit (get_or words (next / 64) 0) i))
    → (k : ℕ) → is_set (slice_set words (next / 64) new) k ≡ cond (is_between next (next + count) k) value (is_set words k)
unfolding is_set
word_put words new next count value within fits put k =
    elim (cases_order (k / 64) (next / 64)) [
      | inl same ↦
          ap (λ (n : ℕ). bit (get_or (slice_set words (next / 64) new) n 0) (k % 64)) same
          ∙ ap (λ (n : ℕ). bit n (k % 64)) (get_or-set_same words (next / 64) new 0 within)
          ∙ put (k % 64) (omega arith)
          ∙ ap (λ (b : Bool). cond b value (bit (get_or words (next / 64) 0) (k % 64))) (word_between next count k fits same)
          ∙ ap (λ (n : ℕ). cond (is_between next (next + count) k) value (bit (get_or words n 0) (k % 64))) (sym same)
      | inr apart ↦
          let off : k / 64 ≡ next / 64 → ⊥ = λ e. elim apart [ inl less ↦ absurd (omega arith) | inr more ↦ absurd (omega arith) ] in
          let out : is_between next (next + count) k ≡ false = false_from_ne_true (is_between next (next + count) k) (λ e. off (same_word next count k fits e)) in
          ap (λ (n : ℕ). bit n (k % 64)) (get_or-set_other words (next / 64) (k / 64) new 0 off)
          ∙ sym (ap (λ (b : Bool). cond b value (bit (get_or words (k / 64) 0) (k % 64))) out)
    ]

-- numbers that are filled, and those after them
pub filled_more : (from next end k : ℕ) (value before : Bool) → from ≤ next → next ≤ end
    → cond (is_between next end k) value (cond (is_between from next k) value before) ≡ cond (is_between from end k) value before
filled_more from next end k value before low high =
    elim (cases_Bool (is_between next end k)) [
      | inl here ↦
          let b = between_is next end k here in
          let above = b.above in
          let all = is_between_true from end k (omega arith) b.below in
          rw (here, all) refl
      | inr off ↦
          elim (cases_Bool (is_between from next k)) [
            | inl earlier ↦
                let b = between_is from next k earlier in
                let below = b.below in
                let all = is_between_true from end k b.above (omega arith) in
                rw (off, earlier, all) refl
            | inr away ↦
                let none : is_between from end k ≡ false = is_between_false from end k (λ b.
                let above = b.above in
                let below = b.below in
                elim (cases_lt k next) [
                  | inl before ↦ (let clash = is_between_true from next k above before in absurd cc)
                  | inr following ↦ (let clash = is_between_true next end k following below in absurd cc)
                ]) in
                rw (off, away, none) refl
          ]
    ]

pub none_between : (from k : ℕ) → is_between from from k ≡ false
none_between from k = is_between_false from from k (λ b. let above = b.above in let below = b.below in absurd (omega arith))

-- all bits of a word
pub word_filled : (words : List ℕ) (whole pixel : ℕ) (value : Bool) → pixel < length words
    → ((i : ℕ) → i < 64 → bit whole i ≡ cond (is_between 0 64 i) value (bit 0 i))
    → (k : ℕ) → is_set (slice_set words pixel whole) k ≡ cond (is_between (64 * pixel) (64 * (pixel + 1)) k) value (is_set words k)
word_filled words whole pixel value within all k =
    let at : 64 * pixel / 64 ≡ pixel = omega arith in
    let low : 64 * pixel % 64 ≡ 0 = omega arith in
    let next : 64 * (pixel + 1) ≡ 64 * pixel + 64 = omega arith in
    let put : (i : ℕ) → i < 64 → bit whole i ≡ cond (is_between (64 * pixel % 64) (64 * pixel % 64 + 64) i) value (bit (get_or words (64 * pixel / 64) 0) i) = λ i less.
    rw low (all i less ∙ ap (λ (b : Bool). cond b value (bit 0 i)) (is_between_true 0 64 i (omega arith) less)
    ∙ sym (ap (λ (b : Bool). cond b value (bit (get_or words (64 * pixel / 64) 0) i)) (is_between_true 0 64 i (omega arith) less))) in
    ap (λ (n : ℕ). is_set (slice_set words n whole) k) (sym at) ∙ word_put words whole (64 * pixel) 64 value (omega (arith, at)) (omega (arith, low)) put k
    ∙ ap (λ (n : ℕ). cond (is_between (64 * pixel) n k) value (is_set words k)) (sym next)

-- ---- ends

pub same_ends : (p q : ℕ → Bool) → ((k : ℕ) → p k ≡ q k) → (o : Option Ends) → AreEndsOf p o → AreEndsOf q o
same_ends p q same None none = λ k e. none k (same k ∙ e)
same_ends p q same (Some ends) are = record {
  first = sym (same ends.first) ∙ are.first;
  last = sym (same ends.last) ∙ are.last;
  between = λ k e. are.between k (same k ∙ e);
}

pub none_at_zero : (i : ℕ) → (nat_lt i 64 && bit 0 i) ≡ true → ⊥
none_at_zero i e =
    let parts = and_parts (nat_lt i 64) (bit 0 i) e in
    let zero_is = bit_at-zero i in
    let one_is : bit_at 0 i ≡ 1 = eqb-true (bit_at 0 i) 1 parts.1 in
    absurd (omega arith)

-- a number between two powers of 2 has a 1 there
top_bit : (n j : ℕ) → 2 ^ j ≤ n → n < 2 ^ suc j → bit_at n j ≡ 1
top_bit n j low high =
    let some : 0 < 2 ^ j = pow_pos j in
    let least : 1 ≤ n / 2 ^ j = le-div 1 n (2 ^ j) some (omega arith) in
    let most : n / 2 ^ j < 2 = div_below n (2 ^ j) 2 some (omega (arith, pow-suc 2 j)) in
    let is : n / 2 ^ j ≡ 1 = omega arith in
    ap (λ (q : ℕ). q % 2) is

-- the lowest and the highest 1 of a word that isn't 0
pub word_ends : (w : Width) (n first last : ℕ) → Fits w n → bits w ≡ 64 → 0 < n → n < 2 ^ 64 → first ≡ trailing_zeros w n → last ≡ 63 - count_leading_zeros 64 n
    → AreEnds (λ i. nat_lt i 64 && bit n i) (record { first = first; last = last })
word_ends w n first last whole wide some fits first_is last_is =
    let low = bit_at-trailing_zeros w n some (rw wide fits) in
    let below : trailing_zeros w n < 64 = subst (λ (k : ℕ). trailing_zeros w n < k) wide low.0 in
    let top = leading_top 64 n some fits in
    let at : last ≡ top.0 = omega (arith, top.1) in
    let one : bit_at n top.0 ≡ 1 = top_bit n top.0 top.2 top.3 in
    let high : bit n last ≡ true = rw (at, one) refl in
    record {
      first = rw (lt-ltb first 64 (omega (arith, below)), first_is, low.1) refl;
      last = rw (lt-ltb last 64 (omega (arith, top.1)), high) refl;
      between = λ k e.
          let parts = and_parts (nat_lt k 64) (bit n k) e in
          let one : bit_at n k ≡ 1 = eqb-true (bit_at n k) 1 parts.1 in (
            elim (cases_lt k first) [
              | inl below ↦ (let none = low.2 k (omega arith) in absurd (omega arith))
              | inr above ↦ above
            ],
            elim (cases_lt last k) [
              | inl above ↦ (let none = bit_at_above n (suc top.0) k top.3 (omega arith) in absurd (omega arith))
              | inr below ↦ below
            ],
          );
    }

turned : (a b : Bool) → (a && b) ≡ (b && a)
turned true true = refl
turned true false = refl
turned false true = refl
turned false false = refl

pub ends_joined : (p q : ℕ → Bool) (ends following : Ends) → AreEnds p ends → AreEnds q following → ((k l : ℕ) → p k ≡ true → q l ≡ true → k ≤ l)
    → AreEnds (λ k. p k || q k) (record { first = ends.first; last = following.last })
ends_joined p q ends following are others before = record {
  first = or_left (p ends.first) (q ends.first) are.first;
  last = or_right (p following.last) (q following.last) others.last;
  between = λ k e. elim (or_parts (p k) (q k) e) [
    | inl old ↦ ((are.between k old).0, before k following.last old others.last)
    | inr new ↦ (before ends.first k are.first new, (others.between k new).1)
  ];
}

pub ends_of_others : (p q : ℕ → Bool) (following : Ends) → AreEndsOf p None → AreEnds q following → AreEnds (λ k. p k || q k) following
ends_of_others p q following none others = record {
  first = or_right (p following.first) (q following.first) others.first;
  last = or_right (p following.last) (q following.last) others.last;
  between = λ k e. elim (or_parts (p k) (q k) e) [
    | inl old ↦ absurd (none k old)
    | inr new ↦ others.between k new
  ];
}

-- ---- the words of a set

-- what is in a word stands for numbers of the set
pub in_word : (words : List ℕ) (word mask next count k : ℕ) → next % 64 + count ≤ 64 → word ≡ bit_and (get_or words (next / 64) 0) mask
    → ((i : ℕ) → i < 64 → bit mask i ≡ is_between (next % 64) (next % 64 + count) i) → k / 64 ≡ next / 64
    → (nat_lt (k % 64) 64 && bit word (k % 64)) ≡ (is_between next (next + count) k && is_set words k)
unfolding is_set
in_word words word mask next count k fits is masked same =
    let small : nat_lt (k % 64) 64 ≡ true = lt-ltb (k % 64) 64 (omega arith) in
    ap (λ (b : Bool). b && bit word (k % 64)) small
    ∙ ap (λ (n : ℕ). bit n (k % 64)) is
    ∙ bit_of_and (get_or words (next / 64) 0) mask (k % 64)
    ∙ ap (λ (b : Bool). bit (get_or words (next / 64) 0) (k % 64) && b) (masked (k % 64) (omega arith) ∙ word_between next count k fits same)
    ∙ ap (λ (n : ℕ). bit (get_or words n 0) (k % 64) && is_between next (next + count) k) (sym same)
    ∙ turned (bit (get_or words (k / 64) 0) (k % 64)) (is_between next (next + count) k)

-- a number of the word
of_word : (words : List ℕ) (next count k : ℕ) → next % 64 + count ≤ 64 → (is_between next (next + count) k && is_set words k) ≡ true → k / 64 ≡ next / 64
of_word words next count k fits e = same_word next count k fits (and_parts _ _ e).0

-- a bit of the word, as a number
numbered : (next i : ℕ) → i < 64 → ((next - next % 64 + i) / 64 ≡ next / 64) × ((next - next % 64 + i) % 64 ≡ i)
numbered next i lt = (omega arith, omega arith)

-- a word that has none
pub none_in_word : (words : List ℕ) (word mask next count : ℕ) → next % 64 + count ≤ 64 → word ≡ bit_and (get_or words (next / 64) 0) mask
    → ((i : ℕ) → i < 64 → bit mask i ≡ is_between (next % 64) (next % 64 + count) i)
    → AreEndsOf (λ i. nat_lt i 64 && bit word i) None → (k : ℕ) → (is_between next (next + count) k && is_set words k) ≡ true → ⊥
none_in_word words word mask next count fits is masked none k e =
    none (k % 64) (in_word words word mask next count k fits is masked (of_word words next count k fits e) ∙ e)

-- the ends of those of a word
pub ends_in_word : (words : List ℕ) (word mask next count : ℕ) (ends : Ends) → next % 64 + count ≤ 64 → word ≡ bit_and (get_or words (next / 64) 0) mask
    → ((i : ℕ) → i < 64 → bit mask i ≡ is_between (next % 64) (next % 64 + count) i)
    → AreEnds (λ i. nat_lt i 64 && bit word i) ends
    → AreEnds (λ k. is_between next (next + count) k && is_set words k) (record { first = next - next % 64 + ends.first; last = next - next % 64 + ends.last })
ends_in_word words word mask next count ends fits is masked are =
    let low : ends.first < 64 = ltb-true _ _ (and_parts _ _ are.first).0 in
    let high : ends.last < 64 = ltb-true _ _ (and_parts _ _ are.last).0 in
    let a = numbered next ends.first low in
    let b = numbered next ends.last high in
    record {
      first = sym (in_word words word mask next count (next - next % 64 + ends.first) fits is masked a.0) ∙ rw (a.1) are.first;
      last = sym (in_word words word mask next count (next - next % 64 + ends.last) fits is masked b.0) ∙ rw (b.1) are.last;
      between = λ k e.
          let same = of_word words next count k fits e in
          let at = are.between (k % 64) (in_word words word mask next count k fits is masked same ∙ e) in
          let first = at.0 in
          let last = at.1 in
          (omega arith, omega arith);
    }

-- the numbers up to one, and those up to another
pub between_more : (from next end k : ℕ) (s : Bool) → from ≤ next → next ≤ end
    → ((is_between from next k && s) || (is_between next end k && s)) ≡ (is_between from end k && s)
between_more from next end k s low high =
    same_test ((is_between from next k && s) || (is_between next end k && s)) (is_between from end k && s)
    (λ e. elim (or_parts (is_between from next k && s) (is_between next end k && s) e) [
      | inl before ↦ (let parts = and_parts (is_between from next k) s before in let b = between_is from next k parts.0 in let below = b.below in let all = is_between_true from end k b.above (omega arith) in rw (all, parts.1) refl)
      | inr following ↦ (let parts = and_parts (is_between next end k) s following in let b = between_is next end k parts.0 in let above = b.above in let all = is_between_true from end k (omega arith) b.below in rw (all, parts.1) refl)
    ])
    (λ e. let parts = and_parts (is_between from end k) s e in
    let b = between_is from end k parts.0 in
    let above = b.above in
    let below = b.below in
    elim (cases_lt k next) [
      | inl before ↦ (let here = is_between_true from next k above before in or_left (is_between from next k && s) _ (rw (here, parts.1) refl))
      | inr following ↦ (let here = is_between_true next end k following below in or_right (is_between from next k && s) _ (rw (here, parts.1) refl))
    ])

pub after_more : (words : List ℕ) (from next end : ℕ) (o : Option Ends) → from ≤ next → next ≤ end
    → AreEndsOf (λ k. (is_between from next k && is_set words k) || (is_between next end k && is_set words k)) o → AreEndsOf (λ k. is_between from end k && is_set words k) o
after_more words from next end o low high are =
    same_ends (λ k. (is_between from next k && is_set words k) || (is_between next end k && is_set words k)) (λ k. is_between from end k && is_set words k)
    (λ k. between_more from next end k (is_set words k) low high) o are

pub nothing_more : (p q : ℕ → Bool) → ((k : ℕ) → q k ≡ true → ⊥) → (o : Option Ends) → AreEndsOf p o → AreEndsOf (λ k. p k || q k) o
nothing_more p q none o are =
    same_ends p (λ k. p k || q k) (λ k. same_test (p k) (p k || q k) (or_left (p k) (q k)) (λ e. elim (or_parts (p k) (q k) e) [
      | inl old ↦ old
      | inr new ↦ absurd (none k new)
    ])) o are

pub before_next : (words : List ℕ) (from next end k l : ℕ) → (is_between from next k && is_set words k) ≡ true → (is_between next end l && is_set words l) ≡ true → k ≤ l
before_next words from next end k l old new =
    let a = between_is from next k (and_parts (is_between from next k) (is_set words k) old).0 in
    let b = between_is next end l (and_parts (is_between next end l) (is_set words l) new).0 in
    let below = a.below in
    let above = b.above in
    omega arith

-- ---- the first number of a set

pub none_more : (words : List ℕ) (from next end : ℕ) → ((k : ℕ) → (is_between from next k && is_set words k) ≡ true → ⊥)
    → ((k : ℕ) → (is_between next end k && is_set words k) ≡ true → ⊥) → (k : ℕ) → (is_between from end k && is_set words k) ≡ true → ⊥
none_more words from next end before here k e =
    let parts = and_parts (is_between from end k) (is_set words k) e in
    let b = between_is from end k parts.0 in
    elim (cases_lt k next) [
      | inl below ↦ before k (rw (is_between_true from next k b.above below, parts.1) refl)
      | inr above ↦ here k (rw (is_between_true next end k above b.below, parts.1) refl)
    ]

-- the first of some numbers, after others of which none is in the set
pub first_here : (words : List ℕ) (from next end to : ℕ) (ends : Ends) → from ≤ next → end ≤ to → ((k : ℕ) → (is_between from next k && is_set words k) ≡ true → ⊥)
    → AreEnds (λ k. is_between next end k && is_set words k) ends → IsFirst (λ k. is_between from to k && is_set words k) ends.first
first_here words from next end to ends low high before are =
    let parts = and_parts (is_between next end ends.first) (is_set words ends.first) are.first in
    let b = between_is next end ends.first parts.0 in
    let above = b.above in
    let below = b.below in
    record {
      passes = rw (is_between_true from to ends.first (omega arith) (omega arith), parts.1) refl;
      least = λ k e.
          let of = and_parts (is_between from to k) (is_set words k) e in
          let c = between_is from to k of.0 in
          elim (cases_lt k next) [
            | inl earlier ↦ absurd (before k (rw (is_between_true from next k c.above earlier, of.1) refl))
            | inr later ↦ elim (cases_lt k end) [
              | inl here ↦ (are.between k (rw (is_between_true next end k later here, of.1) refl)).0
              | inr following ↦ omega arith
            ]
          ];
    }
