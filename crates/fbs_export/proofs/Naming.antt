-- A name that comes in pieces.
use Rattle.std.proofs.Common.{◌≡◌, ◌≤◌, ◌+◌, ◌-◌, ℕ, List, ◌++◌, length, take, inl, inr, refl, sym, ap, ◌∙◌, arith, append_assoc, append-nil, length-append}
use Rattle.std.specs.Prelude.{min}
use Rattle.std.proofs.lemmas.Bool.{cases_lt}
use Rattle.std.proofs.lemmas.List.{length-take, take_all, take-append-le}
use Rattle.std.proofs.Math.Seq.{take-append-add, take-take}
use Rattle.terms.proofs.Readings.{field-whole}
use Rattle.fbs_export.specs.declared.fault.FbsFault.{FbsFault}
use Rattle.fbs_export.specs.declared.opening.Name.{Name}
use Rattle.fbs_export.specs.Opening.{opening_at, named}
use Rattle.fbs_export.specs.Reader.{IsInName, IsOpened}

-- what is kept of a name and of what comes after
keep_more : (came new : List ℕ) (k : ℕ) → k ≡ min (length new) (1024 - length (take 1024 came)) → take 1024 came ++ take k new ≡ take 1024 (came ++ new)
keep_more came new k is = elim (cases_lt 1024 (length came)) [
  | inl long ↦
      (let none : k ≡ 0 = omega (arith, is, length-take 1024 came) in
      let kept : take 1024 (came ++ new) ≡ take 1024 came = take-append-le 1024 came new (omega (arith, long)) in
      ap (λ z. take 1024 came ++ take z new) none ∙ append-nil (take 1024 came) ∙ sym kept)
  | inr short ↦
      (let all : take 1024 came ≡ came = take_all 1024 came short in
      let room : ℕ = 1024 - length came in
      let whole : 1024 ≡ length came + room = omega (arith, short) in
      let fits : k ≡ min (length new) room = is ∙ ap (λ z. min (length new) (1024 - length z)) all in
      let some : take k new ≡ take room new = elim (cases_lt room (length new)) [
        | inl less ↦ ap (λ z. take z new) (omega (arith, fits, less))
        | inr more ↦ take_all k new (omega (arith, fits, more)) ∙ sym (take_all room new more)
      ] in
      rw (all, some) (sym (take-append-add came new room)) ∙ ap (λ z. take z (came ++ new)) (sym whole))
]

-- some more bytes of the name
pub kept_more : (came piece : List ℕ) (n k : ℕ) → n ≤ length piece → k ≡ min n (1024 - length (take 1024 came)) → take 1024 came ++ take k piece ≡ take 1024 (came ++ take n piece)
kept_more came piece n k fits is =
    let long : length (take n piece) ≡ n = omega (arith, length-take n piece) in
    let same : take k (take n piece) ≡ take k piece = take-take k n piece (omega (arith, is)) in
    ap (λ z. take 1024 came ++ z) (sym same) ∙ keep_more came (take n piece) k (is ∙ ap (λ z. min z (1024 - length (take 1024 came))) (sym long))

pub name_waits : (old new : Name) (s piece : List ℕ) (k : ℕ) → new.announced ≡ old.announced → new.kept.items ≡ old.kept.items ++ take k piece → new.left ≡ old.left - length piece → length piece ≤ old.left
    → k ≡ min (length piece) (1024 - length old.kept.items) → IsInName old s → IsInName new (s ++ piece)
name_waits old new s piece k same kept left fits is stands =
    let all : take (length piece) piece ≡ piece = take_all (length piece) piece (omega arith) in
    let is' : k ≡ min (length piece) (1024 - length (take 1024 stands.came)) = is ∙ ap (λ z. min (length piece) (1024 - length z)) stands.kept_is in
    record {
      came = stands.came ++ piece;
      kept_is = kept ∙ ap (λ z. z ++ take k piece) stands.kept_is ∙ kept_more stands.came piece (length piece) k (omega arith) is' ∙ ap (λ z. take 1024 (stands.came ++ z)) all;
      counted = rw same (omega (arith, left, fits, stands.counted, length-append stands.came piece));
      link = λ more. rw same (ap opening_at (append_assoc s piece more) ∙ stands.link (piece ++ more)
          ∙ ap (named old.announced.size.width old.announced.size.height old.announced.count) (sym (append_assoc stands.came piece more)));
    }

pub name_ends : (old new : Name) (s piece : List ℕ) (n k : ℕ) → new.kept.items ≡ old.kept.items ++ take k piece → n ≡ old.left → n ≤ length piece
    → k ≡ min n (1024 - length old.kept.items) → IsInName old s → IsOpened old.announced.size.width old.announced.size.height new.kept.items (s ++ take n piece)
unfolding named
name_ends old new s piece n k kept left fits is stands = λ more.
    let taken : List ℕ = take n piece in
    let long : length taken ≡ n = omega (arith, length-take n piece) in
    let is' : k ≡ min n (1024 - length (take 1024 stands.came)) = is ∙ ap (λ z. min n (1024 - length z)) stands.kept_is in
    let name : take 1024 (stands.came ++ taken) ≡ new.kept.items = sym (kept ∙ ap (λ z. z ++ take k piece) stands.kept_is ∙ kept_more stands.came piece n k fits is') in
    let whole : length (stands.came ++ taken) ≡ old.announced.count = omega (arith, left, long, stands.counted, length-append stands.came taken) in
    ap opening_at (append_assoc s taken more) ∙ stands.link (taken ++ more)
    ∙ ap (named old.announced.size.width old.announced.size.height old.announced.count) (sym (append_assoc stands.came taken more))
    ∙ rw (field-whole {E = FbsFault} old.announced.count (stands.came ++ taken) more whole, name) refl
