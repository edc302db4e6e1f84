use Rattle.std.proofs.Common.{◌≡◌, ℕ, ◌+◌, ◌-◌, ◌<◌, ◌≤◌, List, length, get_or, take, drop, inl, inr, sym, ap, ◌∙◌, arith, rules}
use Rattle.std.proofs.lemmas.Bool.{cases_lt}
use Rattle.std.proofs.lemmas.List.{places, length-take, length-drop}
use Rattle.pixel_format.proofs.runs.end_of_number.Invariants.{OneNumber}
use Rattle.pixel_format.proofs.runs.end_of_number.Goals as goal

part : (numbers : List ℕ) (from n i : ℕ) → i < n → get_or (take n (drop from numbers)) i 0 ≡ get_or numbers (from + i) 0
part numbers from n i lt = search (rules, places)

-- so many more positions have the number
more : (numbers : List ℕ) (start end n : ℕ) (number : ℕ) → end + 8 ≤ length numbers → n ≡ 8 → OneNumber numbers start end number
    → ((k : ℕ) → k < length (take n (drop end numbers)) → get_or (take n (drop end numbers)) k 0 ≡ number) → OneNumber numbers start (end + 8) number
more numbers start end n number fits is so_far next = record {
  reached = omega (arith, so_far.reached);
  within = fits;
  one_number = λ k above below. elim (cases_lt k end) [
    | inl before ↦ so_far.one_number k above before
    | inr following ↦
        let at : end + (k - end) ≡ k = omega arith in
        let here : k - end < n = omega arith in
        let long : k - end < length (take n (drop end numbers)) = omega (arith, here, is, fits, length-take n (drop end numbers), length-drop end numbers) in
        ap (λ (i : ℕ). get_or numbers i 0) (sym at) ∙ sym (part numbers end n (k - end) here) ∙ next (k - end) long
  ];
}

pub many-preserved : goal.many-preserved
many-preserved c =
    let end = c.many.end in
    more c.args.numbers.now c.args.start end (end + 8 - end) c.args.number (omega (arith, c.many-test.true, c.many.invariant.within)) (omega arith) c.many.invariant (c.are_all.ensures c.if-are_all.true)
