-- What is judged of the front of an opening.
use Rattle.std.specs.Prelude.{◌≡◌, ◌<◌, ◌≤◌, ℕ, List, ◌++◌, length, drop, Option, Some, None, Result, Ok, Err}
use Rattle.terms.specs.Reading.{Reading, More, Bad}
use Rattle.fbs_export.specs.declared.fault.FbsFault.{FbsFault}
use Rattle.fbs_export.specs.declared.fault.FbsFault.TheVariants as faults
use Rattle.fbs_export.specs.declared.judge.Announced.{Announced}
use Rattle.fbs_export.specs.Opening.{Opening, named}

-- what holds of a fault of the opening; no other fault is one
abbrev pub OfOpening : FbsFault → Type 0 → Type 0
OfOpening faults.NotFbs P = ⊥
OfOpening faults.Truncated P = ⊥
OfOpening faults.Version P = P
OfOpening faults.Security P = P
OfOpening faults.Format P = P
OfOpening faults.Size P = P
OfOpening (faults.Message f) P = ⊥
OfOpening faults.NoMemory P = ⊥
OfOpening faults.Read P = ⊥

-- Bytes are too few up to the name, which so many bytes reach; or the name follows, of so many bytes;
-- or a fault stands in them, whatever follows.
abbrev pub IsJudged : (List ℕ → Reading Opening FbsFault) → ℕ → List ℕ → Result (Option Announced) FbsFault → Type 0
IsJudged read reach bytes (Ok None) = (read bytes ≡ More) × (length bytes < reach)
IsJudged read reach bytes (Ok (Some a)) =
    (reach ≤ length bytes) × ((more : List ℕ) → read (bytes ++ more) ≡ named a.size.width a.size.height a.count (drop reach bytes ++ more))
IsJudged read reach bytes (Err f) = OfOpening f ((more : List ℕ) → read (bytes ++ more) ≡ Bad f)
