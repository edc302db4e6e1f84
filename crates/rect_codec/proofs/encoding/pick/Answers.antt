use Rattle.std.proofs.Common.{rules, ◌≡◌, ℕ, ◌<◌, List, ◌∷◌, ◌++◌, length, take, drop, get_or, suc, inl, inr, refl, sym, ap, subst, ◌∙◌, arith, pos, ℤ, drop-cons}
use Rattle.std.specs.Prelude.{All}
use Rattle.std.proofs.Math.ListN.{get_or-append}
use Rattle.std.proofs.Math.Seq.{get_or-append_seam}
use Rattle.std.proofs.lemmas.Bool.{cases_lt}
use Rattle.std.proofs.lemmas.List.{take-append-drop, take_all, length-append}
use Rattle.rect_data.specs.declared.encoding.Encoding.{Encoding}
use Rattle.rect_data.specs.declared.encoding.Encoding.TheVariants as encodings
use Rattle.rect_data.specs.Data.{number_of}
use Rattle.rect_codec.specs.Encoding.{IsWritten, IsOther, StandsFirst}
use Rattle.rect_codec.proofs.encoding.pick.Goals as goal

-- the index at which the number stands
at_its_index : (numbers : List ℤ) (one : Encoding) (s : StandsFirst numbers one) → get_or numbers (length s.before) (pos 0) ≡ pos (number_of one)
at_its_index numbers one s =
    ap (λ (ns : List ℤ). get_or ns (length s.before) (pos 0)) s.numbers_are ∙ get_or-append_seam s.before (pos (number_of one)) s.following (pos 0)

-- its index is none before another first one
not_before : (numbers : List ℤ) (one other : Encoding) (s : StandsFirst numbers one) (t : StandsFirst numbers other) → length s.before < length t.before → ⊥
not_before numbers one other s t less =
    t.others (length s.before) (pos 0) less one s.written
    (sym (get_or-append t.before (pos (number_of other) ∷ t.following) (pos 0) (length s.before) less)
    ∙ sym (ap (λ (ns : List ℤ). get_or ns (length s.before) (pos 0)) t.numbers_are)
    ∙ at_its_index numbers one s)

-- a number is that of one encoding
same_number : (one other : Encoding) → pos (number_of one) ≡ pos (number_of other) → one ≡ other
same_number encodings.Raw encodings.Raw e = refl
same_number encodings.Raw encodings.CopyRect e = cc
same_number encodings.Raw encodings.Rre e = cc
same_number encodings.Raw encodings.Hextile e = cc
same_number encodings.CopyRect encodings.Raw e = cc
same_number encodings.CopyRect encodings.CopyRect e = refl
same_number encodings.CopyRect encodings.Rre e = cc
same_number encodings.CopyRect encodings.Hextile e = cc
same_number encodings.Rre encodings.Raw e = cc
same_number encodings.Rre encodings.CopyRect e = cc
same_number encodings.Rre encodings.Rre e = refl
same_number encodings.Rre encodings.Hextile e = cc
same_number encodings.Hextile encodings.Raw e = cc
same_number encodings.Hextile encodings.CopyRect e = cc
same_number encodings.Hextile encodings.Rre e = cc
same_number encodings.Hextile encodings.Hextile e = refl

-- only one stands first
one_first : (numbers : List ℤ) (one other : Encoding) → StandsFirst numbers one → StandsFirst numbers other → one ≡ other
one_first numbers one other s t =
    elim (cases_lt (length s.before) (length t.before)) [
      | inl less ↦ absurd (not_before numbers one other s t less)
      | inr more ↦ elim (cases_lt (length t.before) (length s.before)) [
        | inl less ↦ absurd (not_before numbers other one t s less)
        | inr again ↦
            let same : length s.before ≡ length t.before = omega arith in
            same_number one other
            (sym (at_its_index numbers one s) ∙ ap (λ (i : ℕ). get_or numbers i (pos 0)) same ∙ at_its_index numbers other t)
      ]
    ]

-- among other numbers none does
none_first : (numbers : List ℤ) (one : Encoding) → All IsOther numbers → StandsFirst numbers one → ⊥
none_first numbers one others s =
    let size = ap length s.numbers_are ∙ length-append s.before (pos (number_of one) ∷ s.following) in
    others (length s.before) (pos 0) (omega arith) one s.written (at_its_index numbers one s)

-- a number after others
stands : (numbers : List ℤ) (i : ℕ) (d : ℤ) (one : Encoding) → IsWritten one → i < length numbers → All IsOther (take i numbers) → get_or numbers i d ≡ pos (number_of one) → StandsFirst numbers one
stands numbers i d one written lt others is = record {
  written = written;
  before = take i numbers;
  following = drop (suc i) numbers;
  numbers_are = sym (take-append-drop i numbers) ∙ ap (λ (ns : List ℤ). take i numbers ++ ns) (drop-cons numbers i d lt ∙ ap (λ (n : ℤ). n ∷ drop (suc i) numbers) is);
  others = others;
}

pub returns-in-0-clause-first : goal.returns-in-0-clause-first
returns-in-0-clause-first c = λ encoding first.
    one_first c.args.numbers.now encodings.Raw encoding
    (stands c.args.numbers.now c.loop-number.number-index (pos 0) encodings.Raw (λ e. cc) c.loop-number-test.true c.loop-number.invariant (search rules)) first

pub returns-in-0-clause-given : goal.returns-in-0-clause-given
returns-in-0-clause-given c =
    inl (stands c.args.numbers.now c.loop-number.number-index (pos 0) encodings.Raw (λ e. cc) c.loop-number-test.true c.loop-number.invariant (search rules))

pub returns-in-2-clause-first : goal.returns-in-2-clause-first
returns-in-2-clause-first c = λ encoding first.
    one_first c.args.numbers.now encodings.Rre encoding
    (stands c.args.numbers.now c.loop-number.number-index (pos 0) encodings.Rre (λ e. cc) c.loop-number-test.true c.loop-number.invariant (search rules)) first

pub returns-in-2-clause-given : goal.returns-in-2-clause-given
returns-in-2-clause-given c =
    inl (stands c.args.numbers.now c.loop-number.number-index (pos 0) encodings.Rre (λ e. cc) c.loop-number-test.true c.loop-number.invariant (search rules))

pub returns-in-5-clause-first : goal.returns-in-5-clause-first
returns-in-5-clause-first c = λ encoding first.
    one_first c.args.numbers.now encodings.Hextile encoding
    (stands c.args.numbers.now c.loop-number.number-index (pos 0) encodings.Hextile (λ e. cc) c.loop-number-test.true c.loop-number.invariant (search rules)) first

pub returns-in-5-clause-given : goal.returns-in-5-clause-given
returns-in-5-clause-given c =
    inl (stands c.args.numbers.now c.loop-number.number-index (pos 0) encodings.Hextile (λ e. cc) c.loop-number-test.true c.loop-number.invariant (search rules))

pub returns-clause-first : goal.returns-clause-first
returns-clause-first c = λ encoding first.
    absurd (none_first c.args.numbers.now encoding (subst (All IsOther) (take_all c.loop-number.number-index c.args.numbers.now c.loop-number-test.false) c.loop-number.invariant) first)

pub returns-clause-given : goal.returns-clause-given
returns-clause-given c = inr (subst (All IsOther) (take_all c.loop-number.number-index c.args.numbers.now c.loop-number-test.false) c.loop-number.invariant, refl)
