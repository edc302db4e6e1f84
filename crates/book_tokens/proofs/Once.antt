-- Each step keeps that a number is held once.
use Rattle.std.proofs.Common.{◌≡◌, ◌≢◌, ℕ, zero, suc, ◌+◌, ◌≤◌, List, [], ◌∷◌, ◌++◌, set, take, drop, true, false, true≢false, refl, sym, ap, ◌∙◌, subst, ⊎_elim, arith}
use mathlib.Core.Option.{some, some-ne-none, some-injective}
use lib.ListN.{get_elem?}
use Rattle.std.proofs.lemmas.Bool.Decides.{nat_tests}
use Rattle.atomic_table.specs.Table.{State, Me, Allows, Splits, Joins, keeps}
use Rattle.atomic_table.proofs.Lists.{at_set, at_snoc, set_again}
use Rattle.book_tokens.specs.declared.numbers.Hand.{Hand}
use Rattle.book_tokens.specs.Numbers.{times, held_times, giver, holder, AreOnce, Learns}

-- the rule of the table
abbrev pub ruled : State (Unit {0}) Hand → Type 0
ruled table = AreOnce table.views

pub times-append : (x : ℕ) (xs ys : List ℕ) → times x (xs ++ ys) ≡ times x xs + times x ys
times-append x [] ys = omega arith
times-append x (y ∷ xs) ys = omega (arith, times-append x xs ys)

pub times_cut : (x n : ℕ) (xs : List ℕ) → times x xs ≡ times x (take n xs) + times x (drop n xs)
times_cut x zero xs = omega arith
times_cut x (suc n) [] = omega arith
times_cut x (suc n) (y ∷ xs) = omega (arith, times_cut x n xs)

held_set : (x : ℕ) (views : List Hand) (by : ℕ) (v w : Hand) → get_elem? views by ≡ some v → held_times x (set views by w) + times x v.numbers ≡ held_times x views + times x w.numbers
held_set x [] by v w at = absurd (some-ne-none v (sym at))
held_set x (u ∷ views) zero v w at = let same : u ≡ v = some-injective _ _ at in let t : times x u.numbers ≡ times x v.numbers = ap (λ h. times x h.numbers) same in omega (arith, t)
held_set x (u ∷ views) (suc by) v w at = omega (arith, held_set x views by v w at)

held_snoc : (x : ℕ) (views : List Hand) (v : Hand) → held_times x (views ++ v ∷ []) ≡ held_times x views + times x v.numbers
held_snoc x [] v = omega arith
held_snoc x (u ∷ views) v = omega (arith, held_snoc x views v)

-- what the rule says of the seat that gives
abbrev Fits : ℕ → ℕ → ℕ → Hand → Type 0
Fits seat next by v = v.gives ≡ true → (by ≡ seat) × (v.next ≡ next)

fits_set : (seat next now : ℕ) (views : List Hand) (by : ℕ) (w : Hand) → ((j : ℕ) (u : Hand) → j ≢ by → get_elem? views j ≡ some u → Fits seat now j u) → Fits seat now by w → (j : ℕ) (u : Hand) → get_elem? (set views by w) j ≡ some u → Fits seat now j u
fits_set seat next now views by w others mine j u e =
    ⊎_elim
    (λ (x : (j ≡ by) × (w ≡ u)). subst (λ (y : ℕ × Hand). Fits seat now y.0 y.1) (λ i. (sym x.0 i, x.1 i)) mine)
    (λ (x : (j ≢ by) × (get_elem? views j ≡ some u)). others j u x.0 x.1)
    (at_set views by j w u e)

fits_snoc : (seat now : ℕ) (views : List Hand) (w : Hand) → ((j : ℕ) (u : Hand) → get_elem? views j ≡ some u → Fits seat now j u) → w.gives ≡ false → (j : ℕ) (u : Hand) → get_elem? (views ++ w ∷ []) j ≡ some u → Fits seat now j u
fits_snoc seat now views w all quiet j u e =
    ⊎_elim
    (λ was. all j u was)
    (λ (same : w ≡ u). λ gives. absurd (true≢false (sym gives ∙ (sym (ap (λ h. h.gives) same) ∙ quiet))))
    (at_snoc views w u j e)

off : false ≡ true → ⊥
off e = true≢false (sym e)

pub begins : AreOnce (giver 0 ∷ [])
begins = record { seat = 0; next = 0; giver_is = one; once = λ x. omega arith; not_yet = λ x le. refl }
  where
    one : (by : ℕ) (v : Hand) → get_elem? (giver 0 ∷ []) by ≡ some v → Fits 0 0 by v
    one zero v e = let same : giver 0 ≡ v = some-injective _ _ e in λ gives. (refl, sym (ap (λ h. h.next) same))
    one (suc by) v e = absurd (some-ne-none v (sym e))

pub gives : (by n : ℕ) → Splits ruled by (giver n) (giver (n + 1)) (holder (n ∷ []))
gives by n table h at =
    let views = table.views in
    let mine : (by ≡ h.seat) × (n ≡ h.next) = (h.giver_is by (giver n) at) refl in
    let left = giver (n + 1) in
    let right = holder (n ∷ []) in
    let after = set views by left in
    let sum : (x : ℕ) → held_times x (after ++ right ∷ []) ≡ held_times x views + times x (n ∷ []) = λ x. (let a = held_set x views by (giver n) left at in let b = held_snoc x after right in omega arith) in
    let none : held_times n views ≡ 0 = h.not_yet n (omega (arith, mine.1)) in
    record {
      seat = h.seat;
      next = n + 1;
      giver_is = fits_snoc h.seat (n + 1) after right
          (fits_set h.seat n (n + 1) views by left
          (λ j u apart e. λ g. absurd (apart (((h.giver_is j u e) g).0 ∙ sym mine.0)))
          (λ g. (mine.0, refl)))
          refl;
      once = λ x. at_most x n (held_times x views) (held_times x (after ++ right ∷ [])) (sum x) (h.once x) (λ e. ap (λ k. held_times k views) e ∙ none);
      not_yet = λ x le. above x n (held_times x views) (held_times x (after ++ right ∷ [])) (sum x) le (h.not_yet x (omega (arith, mine.1, le)));
    }
  where
    at_most : (x n before after : ℕ) → after ≡ before + times x (n ∷ []) → before ≤ 1 → (x ≡ n → before ≡ 0) → after ≤ 1
    at_most x n before after is le at = grind (arith, nat_tests)

    above : (x n before after : ℕ) → after ≡ before + times x (n ∷ []) → n + 1 ≤ x → before ≡ 0 → after ≡ 0
    above x n before after is le at = grind (arith, nat_tests)

-- a holder gives away a part
pub parts : (by : ℕ) (ns xs ys : List ℕ) → ((x : ℕ) → times x ns ≡ times x xs + times x ys) → Splits ruled by (holder ns) (holder xs) (holder ys)
parts by ns xs ys cut table h at =
    let views = table.views in
    let left = holder xs in
    let right = holder ys in
    let after = set views by left in
    let sum : (x : ℕ) → held_times x (after ++ right ∷ []) ≡ held_times x views = λ x. (let a = held_set x views by (holder ns) left at in let b = held_snoc x after right in let c = cut x in omega arith) in
    record {
      seat = h.seat;
      next = h.next;
      giver_is = fits_snoc h.seat h.next after right (fits_set h.seat h.next h.next views by left (λ j u apart e. h.giver_is j u e) (λ g. absurd (off g))) refl;
      once = λ x. omega (arith, sum x, h.once x);
      not_yet = λ x le. sum x ∙ h.not_yet x le;
    }

-- a holder takes in what another holds
pub takes_in : (by : ℕ) (ns : List ℕ) (other : ℕ) (ms : List ℕ) → Joins ruled by (holder ns) other (holder ms) (holder (ns ++ ms)) (holder [])
takes_in by ns other ms table h at apart there =
    let views = table.views in
    let both = holder (ns ++ ms) in
    let mid = set views by both in
    let after = set mid other (holder []) in
    let sum : (x : ℕ) → held_times x after ≡ held_times x views = λ x. (let a = held_set x views by (holder ns) both at in let b = held_set x mid other (holder ms) (holder []) there in let c = times-append x ns ms in omega arith) in
    record {
      seat = h.seat;
      next = h.next;
      giver_is = fits_set h.seat h.next h.next mid other (holder [])
          (λ j u _ e. fits_set h.seat h.next h.next views by both (λ i y _ e'. h.giver_is i y e') (λ g. absurd (off g)) j u e)
          (λ g. absurd (off g));
      once = λ x. omega (arith, sum x, h.once x);
      not_yet = λ x le. sum x ∙ h.not_yet x le;
    }

-- a seat that looks
pub looks : (slots id : ℕ) (me : Me (Unit {0}) Hand) → Allows ruled slots id me 0 (λ n. n) (λ found after. Learns me after)
looks slots id me table h counted at small =
    let same = set_again table.views id me.0 at in
    (me.0, keeps, tt, subst AreOnce (sym same) h, (refl, λ x. (let a = at_most x table.views id me.0 at in omega (arith, a, h.once x))))
  where
    at_most : (x : ℕ) (views : List Hand) (by : ℕ) (v : Hand) → get_elem? views by ≡ some v → times x v.numbers ≤ held_times x views
    at_most x [] by v at = absurd (some-ne-none v (sym at))
    at_most x (u ∷ views) zero v at = let same : u ≡ v = some-injective _ _ at in let t : times x u.numbers ≡ times x v.numbers = ap (λ h. times x h.numbers) same in omega (arith, t)
    at_most x (u ∷ views) (suc by) v at = omega (arith, at_most x views by v at)

-- two numbers of one holder differ
pub differ : (a b : ℕ) → ((x : ℕ) → times x (a ∷ b ∷ []) ≤ 1) → a ≢ b
differ a b once same = let o = once a in two a b o same
  where
    two : (a b : ℕ) → times a (a ∷ b ∷ []) ≤ 1 → a ≡ b → ⊥
    two a b o same = grind (arith, nat_tests)

-- the moves, at a view that is known
pub gives_as : (by n : ℕ) (v left right : Hand) → v ≡ giver n → left ≡ giver (n + 1) → right ≡ holder (n ∷ []) → Splits ruled by v left right
gives_as by n v left right is l r = rw (is, l, r) (gives by n)

pub parts_as : (by : ℕ) (ns xs ys : List ℕ) (v left right : Hand) → v ≡ holder ns → left ≡ holder xs → right ≡ holder ys → ((x : ℕ) → times x ns ≡ times x xs + times x ys) → Splits ruled by v left right
parts_as by ns xs ys v left right is l r cut = rw (is, l, r) (parts by ns xs ys cut)

pub takes_in_as : (by : ℕ) (ns : List ℕ) (other : ℕ) (ms : List ℕ) (v u both : Hand) → v ≡ holder ns → u ≡ holder ms → both ≡ holder (ns ++ ms) → Joins ruled by v other u both (holder [])
takes_in_as by ns other ms v u both is is' b = rw (is, is', b) (takes_in by ns other ms)
