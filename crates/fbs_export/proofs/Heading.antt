-- The bytes in front of a name, one by one.
use Rattle.std.proofs.Common.{◌≡◌, ◌+◌, ℕ, List, [], ◌++◌, take, drop, sym, ap, ◌∙◌, arith, append_assoc, take-append-drop}
use Rattle.std.proofs.Math.Seq.{take-add}
use Rattle.terms.specs.Reading.{Bad}
use Rattle.fbs_export.specs.declared.fault.FbsFault.{FbsFault}
use Rattle.fbs_export.specs.declared.fault.FbsFault.TheVariants as faults
use Rattle.fbs_export.specs.declared.judge.Announced.{Announced}
use Rattle.fbs_export.specs.declared.opening.Name.{Name}
use Rattle.fbs_export.specs.Judged.{OfOpening}
use Rattle.fbs_export.specs.Opening.{opening_at, named}
use Rattle.fbs_export.specs.Reader.{IsDataFault, IsInName}

-- one byte more
pub head_more : (head new s piece : List ℕ) (n k : ℕ) → s ++ take n piece ≡ head → new ≡ head ++ take k (drop n piece) → k ≡ 1 → s ++ take (n + 1) piece ≡ new
head_more head new s piece n k before is one =
    ap (λ z. s ++ z) (take-add n 1 piece) ∙ sym (append_assoc s (take n piece) (take 1 (drop n piece)))
    ∙ ap (λ z. z ++ take 1 (drop n piece)) before ∙ ap (λ z. head ++ take z (drop n piece)) (sym one) ∙ sym is

-- a fault in a front of the stream
pub data_fault : (f : FbsFault) (front more stream : List ℕ) → stream ≡ front ++ more → OfOpening f ((more : List ℕ) → opening_at (front ++ more) ≡ Bad f) → IsDataFault stream f
data_fault faults.NotFbs front more stream is bad = bad
data_fault faults.Truncated front more stream is bad = bad
data_fault faults.Version front more stream is bad = ap opening_at is ∙ bad more
data_fault faults.Security front more stream is bad = ap opening_at is ∙ bad more
data_fault faults.Format front more stream is bad = ap opening_at is ∙ bad more
data_fault faults.Size front more stream is bad = ap opening_at is ∙ bad more
data_fault (faults.Message w) front more stream is bad = absurd bad
data_fault faults.NoMemory front more stream is bad = absurd bad
data_fault faults.Read front more stream is bad = bad

pub all_of : (s piece : List ℕ) (n : ℕ) → (s ++ take n piece) ++ drop n piece ≡ s ++ piece
all_of s piece n = append_assoc s (take n piece) (drop n piece) ∙ ap (λ z. s ++ z) (take-append-drop n piece)

-- a name begins
pub name_begins : (n : Name) (a : Announced) (s : List ℕ) → n.announced ≡ a → n.left ≡ a.count → n.kept.items ≡ []
    → ((more : List ℕ) → opening_at (s ++ more) ≡ named a.size.width a.size.height a.count more) → IsInName n s
name_begins n a s is left none link = record {
  came = [];
  kept_is = none;
  counted = omega (arith, left, ap (λ (z : Announced). z.count) is);
  link = λ more. rw is (link more);
}
