use Rattle.std.proofs.Common.{◌≡◌, ◌-◌, ◌++◌, length, take, drop, refl, sym, ap, ◌∙◌, ℕ, List, [], arith, length-append, length-drop}
use Rattle.std.proofs.lemmas.Grind.{common_steps}
use Rattle.std.proofs.lemmas.List.{take_all}
use Rattle.std.proofs.lemmas.Result.{err_from_is_err_and}
use Rattle.terms.specs.declared.format.Format.TheVariants.{Two}
use Rattle.rfb_wire.specs.Reader.{Reader}
use Rattle.fbs_export.specs.Reader.{Opens, IsOpened, name_in}
use Rattle.fbs_export.proofs.Heading.{all_of}
use Rattle.fbs_export.proofs.Hearing.{begins_to_hear, begins_with_fault, stands_open}
use Rattle.fbs_export.proofs.stream.Stream.open.Goals as goal

pub returns-in_err-hear-clause-fault : goal.returns-in_err-hear-clause-fault
returns-in_err-hear-clause-fault g c =
    let self = c.args.self.now in
    let piece = c.args.piece.now in
    let w = c.in-Some.whole in
    let p = err_from_is_err_and c.from_residual-in_err-hear.result c.from_residual-in_err-hear.ensures.1 in
    let f = c.in_err-hear.field-0.0 in
    rw (p.1, p.2) (λ none times s stands.
    let o : Opens g.T.Tally.stands_for self times s = stands_open g.T.Tally.stands_for self times s none stands in
    let rest : List ℕ = take (length piece - w.taken) (drop w.taken piece) in
    let rest_is : rest ≡ drop w.taken piece = take_all (length piece - w.taken) (drop w.taken piece) (omega (arith, length-drop w.taken piece)) in
    let went = rw c.in-Some.is at c.in_ok-whole.ensures.goes in
    let opened : IsOpened w.size.width w.size.height (name_in c.take.new.self.name) (s ++ take w.taken piece) = went s o.opening in
    let fault = rw (c.in_format-reader.ensures, c.new-hosts.ensures.items) at c.in_err-hear.ensures.fault in
    begins_with_fault f w.size.width w.size.height (name_in c.take.new.self.name) (s ++ take w.taken piece) rest (s ++ piece) [] c.hear.new.hosts.items opened
    (sym (ap (λ z. (s ++ take w.taken piece) ++ z) rest_is ∙ all_of s piece w.taken)) (fault refl))

pub returns-clause-goes : goal.returns-clause-goes
returns-clause-goes g c = λ none times s stands.
    let self = c.args.self.now in
    let piece = c.args.piece.now in
    let w = c.in-Some.whole in
    let o : Opens g.T.Tally.stands_for self times s = stands_open g.T.Tally.stands_for self times s none stands in
    let rest : List ℕ = take (length piece - w.taken) (drop w.taken piece) in
    let rest_is : rest ≡ drop w.taken piece = take_all (length piece - w.taken) (drop w.taken piece) (omega (arith, length-drop w.taken piece)) in
    let went = rw c.in-Some.is at c.in_ok-whole.ensures.goes in
    let opened : IsOpened w.size.width w.size.height (name_in c.take.new.self.name) (s ++ take w.taken piece) = went s o.opening in
    let wide : c.hear.new.reader.width ≡ w.size.width = c.in_ok-hear.ensures.screen.1 ∙ ap (λ (r : Reader). r.width) c.in_format-reader.ensures in
    let high : c.hear.new.reader.height ≡ w.size.height = c.in_ok-hear.ensures.screen.2 ∙ ap (λ (r : Reader). r.height) c.in_format-reader.ensures in
    let format : c.hear.new.reader.format ≡ Two = c.in_ok-hear.ensures.screen.0 ∙ ap (λ (r : Reader). r.format) c.in_format-reader.ensures in
    let goes = rw (c.in_format-reader.ensures, c.new-hosts.ensures.items) at c.in_ok-hear.ensures.goes in
    begins_to_hear g.T.Tally.stands_for _ c.hear.new.reader c.hear.new.hosts.items times (s ++ piece) (s ++ take w.taken piece) rest (rw (wide, high) opened) (omega (arith, o.before, length-append s (take w.taken piece))) format (c.in_ok-tell.ensures [] [] o.nothing) c.in_ok-hear.ensures.going
    (sym (ap (λ z. (s ++ take w.taken piece) ++ z) rest_is ∙ all_of s piece w.taken)) (rw (wide, high) (goes [] (record { skipped = []; count = refl; is = refl })))

pub returns-in_default-clause-goes : goal.returns-in_default-clause-goes
returns-in_default-clause-goes g c = grind (arith, common_steps)
