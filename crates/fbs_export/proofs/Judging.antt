-- Judging the parts of an opening, one after the other.
use Rattle.std.proofs.Common.{◌≡◌, ◌<◌, ◌≤◌, ℕ, ◌+◌, List, [], ◌++◌, length, take, drop, refl, sym, ap, ◌∙◌, arith, append-nil, append_assoc, take-append-drop, length-drop, drop-drop, Result, Ok, Err}
use Rattle.std.specs.Prelude.{Option, Some, None}
use Rattle.std.proofs.lemmas.List.{length-take}
use Rattle.terms.specs.Reading.{Reading, More, Bad, ◌>>=◌, field}
use Rattle.terms.proofs.Readings.{field-whole, field-short}
use Rattle.fbs_export.specs.declared.fault.FbsFault.{FbsFault}
use Rattle.fbs_export.specs.declared.fault.FbsFault.TheVariants as faults
use Rattle.fbs_export.specs.declared.judge.Announced.{Announced}
use Rattle.fbs_export.specs.Judged.{OfOpening, IsJudged}
use Rattle.fbs_export.specs.Opening.{Opening, named}

-- a part that isn't whole
pub part_short : {B : Type 0} (n : ℕ) (bytes : List ℕ) (next : List ℕ → List ℕ → Reading B FbsFault) → length bytes < n → (field n bytes >>= next) ≡ More
part_short n bytes next short = rw (field-short {E = FbsFault} n bytes short) refl

-- a whole part, and what follows it
pub part_whole : {B : Type 0} (n : ℕ) (bytes more : List ℕ) (next : List ℕ → List ℕ → Reading B FbsFault) → n ≤ length bytes
    → (field n (bytes ++ more) >>= next) ≡ next (take n bytes) (drop n bytes ++ more)
part_whole n bytes more next enough =
    let front : length (take n bytes) ≡ n = omega (arith, length-take n bytes) in
    let split : bytes ++ more ≡ take n bytes ++ (drop n bytes ++ more) = ap (λ z. z ++ more) (sym (take-append-drop n bytes)) ∙ append_assoc (take n bytes) (drop n bytes) more in
    rw (split, field-whole {E = FbsFault} n (take n bytes) (drop n bytes ++ more) front) refl

pub of_opening_map : (f : FbsFault) (P Q : Type 0) → (P → Q) → OfOpening f P → OfOpening f Q
of_opening_map faults.NotFbs P Q h p = p
of_opening_map faults.Truncated P Q h p = p
of_opening_map faults.Version P Q h p = h p
of_opening_map faults.Security P Q h p = h p
of_opening_map faults.Format P Q h p = h p
of_opening_map faults.Size P Q h p = h p
of_opening_map (faults.Message g) P Q h p = p
of_opening_map faults.NoMemory P Q h p = p
of_opening_map faults.Read P Q h p = p

-- what is judged after a part is judged of all the bytes
pub judged_after : (read next : List ℕ → Reading Opening FbsFault) (n reach all : ℕ) (bytes : List ℕ) (r : Result (Option Announced) FbsFault)
    → ((more : List ℕ) → read (bytes ++ more) ≡ next (drop n bytes ++ more)) → n ≤ length bytes → all ≡ n + reach → IsJudged next reach (drop n bytes) r → IsJudged read all bytes r
judged_after read next n reach all bytes (Ok None) link enough is judged =
    let here : read bytes ≡ next (drop n bytes) = ap read (sym (append-nil bytes)) ∙ link [] ∙ ap next (append-nil (drop n bytes)) in
    (here ∙ judged.0, omega (arith, judged.1, length-drop n bytes, is, enough))
judged_after read next n reach all bytes (Ok (Some a)) link enough is judged =
    let same : drop reach (drop n bytes) ≡ drop all bytes = drop-drop reach n bytes ∙ ap (λ z. drop z bytes) (omega (arith, is)) in
    (omega (arith, judged.0, length-drop n bytes, is, enough), λ more. link more ∙ judged.1 more ∙ ap (λ z. named a.size.width a.size.height a.count (z ++ more)) same)
judged_after read next n reach all bytes (Err f) link enough is judged =
    of_opening_map f ((more : List ℕ) → next (drop n bytes ++ more) ≡ Bad f) ((more : List ℕ) → read (bytes ++ more) ≡ Bad f) (λ h more. link more ∙ h more) judged
