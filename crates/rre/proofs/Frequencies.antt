-- What counting a run of one number does to a list that counts numbers.
use Rattle.std.proofs.Common.{◌≡◌, ℕ, ◌+◌, ◌-◌, ◌<◌, ◌≤◌, ◌==◌, Bool, true, false, cond, List, length, take, get_or, refl, ap, sym, ◌∙◌, arith}
use Rattle.std.proofs.lemmas.Bool.{eq-eqb, eqb-true}
use Rattle.std.proofs.lemmas.List.{take_all}
use Rattle.pixel_format.specs.Number.{times_in}
use Rattle.pixel_format.proofs.Voting.{count_run}
use Rattle.rre.specs.declared.cover.Count.{Count}
use Rattle.rre.specs.Numbered.{counted}

-- The numbers before `start` are counted. The one at `index` is counted most often.
pub record IsTally (numbers : List ℕ) (counts : List Count) (start index most : ℕ) : Type 0 where
  pub within : start ≤ length numbers
  pub stands : index < length numbers
  pub counts_are : (number : ℕ) → counted counts number ≡ times_in number (take start numbers)
  pub at_most : (number : ℕ) → counted counts number ≤ most
  pub best : counted counts (get_or numbers index 0) ≡ most

-- a run of one number, from `start` to `end`
pub record IsRun (numbers : List ℕ) (start end : ℕ) : Type 0 where
  pub some : start < end
  pub within : end ≤ length numbers
  pub same : (k : ℕ) → start ≤ k → k < end → get_or numbers k 0 ≡ get_or numbers start 0

count_run_to : (numbers : List ℕ) (start end : ℕ) (other : ℕ) → IsRun numbers start end
    → times_in other (take end numbers) ≡ times_in other (take start numbers) + cond (other == get_or numbers start 0) (end - start) 0
count_run_to numbers start end other run =
    let some = run.some in
    let within = run.within in
    let next : start + (end - start) ≡ end = omega arith in
    ap (λ m. times_in other (take m numbers)) (sym next)
    ∙ count_run (get_or numbers start 0) numbers start (end - start) other (omega arith) (λ k from to. run.same k from (omega arith))

module _ (numbers : List ℕ) (old new : List Count) (start end index most count : ℕ)
    (tally : IsTally numbers old start index most) (run : IsRun numbers start end)
    (total : count ≡ counted old (get_or numbers start 0) + (end - start))
    (sets : (other : ℕ) → counted new other ≡ cond (other == get_or numbers start 0) count (counted old other)) where
  counted_at : (other : ℕ) (test : Bool) → (other == get_or numbers start 0) ≡ test → counted new other ≡ cond test count (counted old other)
  counted_at other test is = sets other ∙ ap (λ t. cond t count (counted old other)) is

  before_at : (other : ℕ) → (other == get_or numbers start 0) ≡ true → counted old other ≡ counted old (get_or numbers start 0)
  before_at other is = ap (counted old) (eqb-true other (get_or numbers start 0) is)

  count_at : (other : ℕ) (test : Bool) → (other == get_or numbers start 0) ≡ test
      → times_in other (take end numbers) ≡ times_in other (take start numbers) + cond test (end - start) 0
  count_at other test is = count_run_to numbers start end other run ∙ ap (λ t. times_in other (take start numbers) + cond t (end - start) 0) is

  counts_next : (other : ℕ) (test : Bool) → (other == get_or numbers start 0) ≡ test → counted new other ≡ times_in other (take end numbers)
  counts_next other true is = omega (arith, counted_at other true is, before_at other is, count_at other true is, tally.counts_are other, total)
  counts_next other false is = omega (arith, counted_at other false is, count_at other false is, tally.counts_are other)

  at_most_next : (bound : ℕ) → most ≤ bound → count ≤ bound → (other : ℕ) (test : Bool) → (other == get_or numbers start 0) ≡ test → counted new other ≤ bound
  at_most_next bound low high other true is = omega (arith, counted_at other true is)
  at_most_next bound low high other false is = omega (arith, counted_at other false is, tally.at_most other)

  best_kept : count ≤ most → (test : Bool) → (get_or numbers index 0 == get_or numbers start 0) ≡ test → counted new (get_or numbers index 0) ≡ most
  best_kept low true is =
      let some = run.some in
      omega (arith, before_at (get_or numbers index 0) is, tally.best, total)
  best_kept low false is = counted_at (get_or numbers index 0) false is ∙ tally.best

  pub tally_when_more : most < count → IsTally numbers new end start count
  tally_when_more more = record {
    within = run.within;
    stands = let some = run.some in let within = run.within in omega arith;
    counts_are = λ other. counts_next other (other == get_or numbers start 0) refl;
    at_most = λ other. at_most_next count (omega arith) (omega arith) other (other == get_or numbers start 0) refl;
    best = counted_at (get_or numbers start 0) true (eq-eqb (get_or numbers start 0) (get_or numbers start 0) refl);
  }

  pub tally_when_no_more : count ≤ most → IsTally numbers new end index most
  tally_when_no_more low = record {
    within = run.within;
    stands = tally.stands;
    counts_are = λ other. counts_next other (other == get_or numbers start 0) refl;
    at_most = λ other. at_most_next most (omega arith) low other (other == get_or numbers start 0) refl;
    best = best_kept low (get_or numbers index 0 == get_or numbers start 0) refl;
  }

-- once all are counted, no number is that of more pixels
pub most_frequent : (numbers : List ℕ) (counts : List Count) (start index most : ℕ) → IsTally numbers counts start index most
    → length numbers ≤ start → (number : ℕ) → times_in number numbers ≤ times_in (get_or numbers index 0) numbers
most_frequent numbers counts start index most tally done number =
    let best = get_or numbers index 0 in
    let all = take_all start numbers done in
    omega (arith, ap (times_in number) all, ap (times_in best) all, tally.counts_are number, tally.counts_are best, tally.at_most number, tally.best)
