-- The number at more than half of the positions, by votes; and how often a run of one number
-- counts.
use Rattle.std.proofs.Common.{◌≡◌, ℕ, zero, suc, ◌+◌, ◌-◌, ◌*◌, ◌<◌, ◌≤◌, ◌==◌, Bool, true, false, cond, List, length, take, get_or, refl, sym, ap, ◌∙◌, arith}
use Rattle.std.proofs.lemmas.Bool.{eqb-true}
use Rattle.std.proofs.lemmas.List.{take_all}
use Rattle.std.proofs.lemmas.List.Sums.{count_by_more_no, count_by_more_yes}
use Rattle.pixel_format.specs.Number.{times_in, HasMajority}

cond_same : (test : Bool) (n : ℕ) → cond test n n ≡ n
cond_same true n = refl
cond_same false n = refl

one_more : (number : ℕ) (numbers : List ℕ) (start n : ℕ) (other : ℕ) (test : Bool) → (other == number) ≡ test
    → start + n < length numbers → get_or numbers (start + n) 0 ≡ number
    → times_in other (take (start + n) numbers) ≡ times_in other (take start numbers) + cond (other == number) n 0
    → times_in other (take (start + suc n) numbers) ≡ times_in other (take start numbers) + cond test (suc n) 0
one_more number numbers start n other true is fits here before =
    let last = count_by_more_yes (λ (y : ℕ). other == y) numbers (start + n) 0 fits (ap (λ (y : ℕ). other == y) here ∙ is) in
    let next : start + suc n ≡ start + n + 1 = omega arith in
    let so_far = before ∙ ap (λ t. times_in other (take start numbers) + cond t n 0) is in
    ap (λ m. times_in other (take m numbers)) next ∙ last ∙ omega (arith, so_far)
one_more number numbers start n other false is fits here before =
    let last = count_by_more_no (λ (y : ℕ). other == y) numbers (start + n) 0 fits (ap (λ (y : ℕ). other == y) here ∙ is) in
    let next : start + suc n ≡ start + n + 1 = omega arith in
    ap (λ m. times_in other (take m numbers)) next ∙ last ∙ before ∙ ap (λ t. times_in other (take start numbers) + cond t n 0) is

-- a run of one number counts for that number alone
pub count_run : (number : ℕ) (numbers : List ℕ) (start n : ℕ) (other : ℕ) → start + n ≤ length numbers
    → ((k : ℕ) → start ≤ k → k < start + n → get_or numbers k 0 ≡ number)
    → times_in other (take (start + n) numbers) ≡ times_in other (take start numbers) + cond (other == number) n 0
count_run number numbers start zero other fits same =
    let next : start + zero ≡ start = omega arith in
    let none = cond_same (other == number) 0 in
    ap (λ m. times_in other (take m numbers)) next ∙ omega (arith, none)
count_run number numbers start (suc n) other fits same =
    one_more number numbers start n other (other == number) refl (omega arith) (same (start + n) (omega arith) (omega arith))
    (count_run number numbers start n other (omega arith) (λ k from to. same k from (omega arith)))

-- The colour at `index` has so many votes after k positions: it stands at no more than half of them
-- and half of the votes, and any other number at that many fewer.
pub record IsVote (numbers : List ℕ) (k index votes : ℕ) : Type 0 where
  pub stands : index < length numbers
  pub few : votes ≤ k
  pub bound : (number : ℕ) → 2 * times_in number (take k numbers) + cond (number == get_or numbers index 0) 0 votes
      ≤ k + cond (number == get_or numbers index 0) votes 0

counted_here : (numbers : List ℕ) (k : ℕ) (number : ℕ) (here : Bool) → k < length numbers → (number == get_or numbers k 0) ≡ here
    → times_in number (take (k + 1) numbers) ≡ times_in number (take k numbers) + cond here 1 0
counted_here numbers k number true inside is = count_by_more_yes (λ (y : ℕ). number == y) numbers k 0 inside is
counted_here numbers k number false inside is = count_by_more_no (λ (y : ℕ). number == y) numbers k 0 inside is ∙ omega arith

bound_at : (numbers : List ℕ) (k index votes : ℕ) → IsVote numbers k index votes → (number : ℕ) (test : Bool) → (number == get_or numbers index 0) ≡ test
    → 2 * times_in number (take k numbers) + cond test 0 votes ≤ k + cond test votes 0
bound_at numbers k index votes so_far number test is = rw is at (so_far.bound number)

-- a run of one number from the first position on counts for that number alone, and is as many votes
-- for it
module _ (numbers : List ℕ) (run : ℕ) (within : run ≤ length numbers) (same : (k : ℕ) → k < run → get_or numbers k 0 ≡ get_or numbers 0 0) where
  run_count : (number : ℕ) (test : Bool) → (number == get_or numbers 0 0) ≡ test → times_in number (take run numbers) ≡ cond test run 0
  run_count number test is =
      let all : 0 + run ≡ run = omega arith in
      let counts = count_run (get_or numbers 0 0) numbers 0 run number (omega (arith, within)) (λ k from to. same k (omega arith)) in
      ap (λ m. times_in number (take m numbers)) (sym all) ∙ counts ∙ ap (λ t. times_in number (take 0 numbers) + cond t run 0) is ∙ omega arith

  run_bound : (number : ℕ) (test : Bool) → (number == get_or numbers 0 0) ≡ test → 2 * times_in number (take run numbers) + cond test 0 run ≤ run + cond test run 0
  run_bound number true is = omega (arith, run_count number true is)
  run_bound number false is = omega (arith, run_count number false is)

  pub run_votes : 0 < run → IsVote numbers run 0 run
  run_votes some = record {
    stands = omega arith;
    few = omega arith;
    bound = λ number. run_bound number (number == get_or numbers 0 0) refl;
  }

module _ (numbers : List ℕ) (k index votes : ℕ) (so_far : IsVote numbers k index votes) (inside : k < length numbers) where
  bound_here : (number : ℕ) (test : Bool) → (number == get_or numbers index 0) ≡ test → 2 * times_in number (take k numbers) + cond test 0 votes ≤ k + cond test votes 0
  bound_here = bound_at numbers k index votes so_far

  first_bound : votes ≡ 0 → (number : ℕ) (here : Bool) → (number == get_or numbers k 0) ≡ here
      → (test : Bool) → (number == get_or numbers index 0) ≡ test
      → 2 * times_in number (take (k + 1) numbers) + cond here 0 1 ≤ k + 1 + cond here 1 0
  first_bound none number true is true was = omega (arith, counted_here numbers k number true inside is, bound_here number true was)
  first_bound none number true is false was = omega (arith, counted_here numbers k number true inside is, bound_here number false was)
  first_bound none number false is true was = omega (arith, counted_here numbers k number false inside is, bound_here number true was)
  first_bound none number false is false was = omega (arith, counted_here numbers k number false inside is, bound_here number false was)

  pub first_vote : votes ≡ 0 → IsVote numbers (k + 1) k 1
  first_vote none = record {
    stands = inside;
    few = omega arith;
    bound = λ number. first_bound none number (number == get_or numbers k 0) refl (number == get_or numbers index 0) refl;
  }

  same_bound : get_or numbers k 0 ≡ get_or numbers index 0 → (number : ℕ) (test : Bool) → (number == get_or numbers index 0) ≡ test
      → 2 * times_in number (take (k + 1) numbers) + cond test 0 (votes + 1) ≤ k + 1 + cond test (votes + 1) 0
  same_bound same number true is = omega (arith, counted_here numbers k number true inside (ap (λ (y : ℕ). number == y) same ∙ is), bound_here number true is)
  same_bound same number false is = omega (arith, counted_here numbers k number false inside (ap (λ (y : ℕ). number == y) same ∙ is), bound_here number false is)

  pub vote_more : get_or numbers k 0 ≡ get_or numbers index 0 → IsVote numbers (k + 1) index (votes + 1)
  vote_more same = record {
    stands = so_far.stands;
    few = let few = so_far.few in omega arith;
    bound = λ number. same_bound same number (number == get_or numbers index 0) refl;
  }

  other_bound : (get_or numbers k 0 ≡ get_or numbers index 0 → ⊥) → 0 < votes → (number : ℕ) (test here : Bool) → (number == get_or numbers index 0) ≡ test → (number == get_or numbers k 0) ≡ here
      → 2 * times_in number (take (k + 1) numbers) + cond test 0 (votes - 1) ≤ k + 1 + cond test (votes - 1) 0
  other_bound other some number true true is here =
      absurd (other (sym (eqb-true number (get_or numbers k 0) here) ∙ eqb-true number (get_or numbers index 0) is))
  other_bound other some number true false is here = omega (arith, counted_here numbers k number false inside here, bound_here number true is)
  other_bound other some number false true is here = omega (arith, counted_here numbers k number true inside here, bound_here number false is)
  other_bound other some number false false is here = omega (arith, counted_here numbers k number false inside here, bound_here number false is)

  pub vote_less : (get_or numbers k 0 ≡ get_or numbers index 0 → ⊥) → 0 < votes → IsVote numbers (k + 1) index (votes - 1)
  vote_less other some = record {
    stands = so_far.stands;
    few = let few = so_far.few in omega arith;
    bound = λ number. other_bound other some number (number == get_or numbers index 0) (number == get_or numbers k 0) refl refl;
  }

voted_at : (numbers : List ℕ) (k index votes : ℕ) → IsVote numbers k index votes → length numbers ≤ k → k ≤ length numbers → (number : ℕ) (test : Bool) → (number == get_or numbers index 0) ≡ test
    → length numbers < 2 * times_in number numbers → number ≡ get_or numbers index 0
voted_at numbers k index votes so_far all end number true is most = eqb-true number (get_or numbers index 0) is
voted_at numbers k index votes so_far all end number false is most =
    let whole = ap (times_in number) (take_all k numbers all) in
    absurd (omega (arith, bound_at numbers k index votes so_far number false is, whole))

pub voted : (numbers : List ℕ) (k index votes : ℕ) → IsVote numbers k index votes → length numbers ≤ k → k ≤ length numbers → HasMajority numbers index
voted numbers k index votes so_far all end number most = voted_at numbers k index votes so_far all end number (number == get_or numbers index 0) refl most
