use Rattle.std.proofs.Common.{◌≡◌, ◌-◌, ℕ, ◌++◌, length, take, drop, sym, ap, ◌∙◌, subst, arith, append_assoc, length-drop}
use Rattle.std.proofs.lemmas.List.{take_all}
use Rattle.std.proofs.Math.Seq.{take-add}
use Rattle.fbs_export.specs.Reader.{IsInHead, IsInName, IsOpened}
use Rattle.fbs_export.proofs.Heading.{name_begins, all_of}
use Rattle.fbs_export.proofs.opening.OpeningReader.take.Goals as goal

pub returns-in_default-whole-clause-goes : goal.returns-in_default-whole-clause-goes
returns-in_default-whole-clause-goes c = λ s stands.
    let piece = c.args.piece.now in
    let t : ℕ = c.in-Some-2.begun.taken in
    let rest : take (length piece - t) (drop t piece) ≡ drop t piece = take_all (length piece - t) (drop t piece) (omega (arith, length-drop t piece)) in
    let head : IsInHead c.args.self.now.head.items s = rw c.in_default.is at stands in
    let went = rw c.in-Some-2.is at c.in_ok-begun.ensures.goes in
    let name : IsInName c.new-name.result (s ++ take t piece) =
    name_begins c.new-name.result c.in-Some-2.begun.announced (s ++ take t piece) c.new-name.ensures.announced c.new-name.ensures.left c.new-name.ensures.none (went s head) in
    let waits = rw c.in_default-whole.is at c.in_ok-whole-2.ensures.goes in
    let after = waits (s ++ take t piece) name in
    (subst (IsInName c.take-2.new.self) (ap (λ z. (s ++ take t piece) ++ z) rest ∙ all_of s piece t) after.0, after.1)

pub returns-clause-goes : goal.returns-clause-goes
returns-clause-goes c = λ s stands.
    let piece = c.args.piece.now in
    let t : ℕ = c.in-Some-2.begun.taken in
    let w = c.in-Some-whole.whole in
    let rest : take (length piece - t) (drop t piece) ≡ drop t piece = take_all (length piece - t) (drop t piece) (omega (arith, length-drop t piece)) in
    let head : IsInHead c.args.self.now.head.items s = rw c.in_default.is at stands in
    let went = rw c.in-Some-2.is at c.in_ok-begun.ensures.goes in
    let name : IsInName c.new-name.result (s ++ take t piece) =
    name_begins c.new-name.result c.in-Some-2.begun.announced (s ++ take t piece) c.new-name.ensures.announced c.new-name.ensures.left c.new-name.ensures.none (went s head) in
    let ends = rw c.in-Some-whole.is at c.in_ok-whole-2.ensures.goes in
    let opened : IsOpened w.size.width w.size.height c.take-2.new.self.kept.items ((s ++ take t piece) ++ take w.taken (take (length piece - t) (drop t piece))) = ends (s ++ take t piece) name in
    subst (IsOpened w.size.width w.size.height c.take-2.new.self.kept.items)
    (ap (λ z. (s ++ take t piece) ++ take w.taken z) rest ∙ append_assoc s (take t piece) (take w.taken (drop t piece)) ∙ ap (λ z. s ++ z) (sym (take-add t w.taken piece))) opened
