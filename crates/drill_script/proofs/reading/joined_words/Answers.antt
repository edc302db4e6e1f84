use Rattle.std.proofs.Common.{◌≢◌, [], ℕ, List, Bor, Vec, Global}
use Rattle.std.proofs.lemmas.Result.{err_from_is_err_and}
use Rattle.drill_script.proofs.Joined.{goes_on, ends, is_done}
use Rattle.drill_script.proofs.reading.joined_words.Goals as goal

pub returns-in_err-word : goal.returns-in_err-word
returns-in_err-word c =
    let p = err_from_is_err_and c.from_residual.result c.from_residual.ensures.1 in
    let over = c.is_over.ensures in
    let some : c.loop-joined.words ≢ [] = λ none. let t = over.1 none in absurd cc in
    rw (p.1, p.2) (ends {A = Bor (List ℕ)} {B = Vec ℕ Global} (λ word. word.now) (λ digits. digits.items) c.in_err-word.field-0.0 c.loop-joined.joined.items c.loop-joined.words c.word.new.self c.word.new.self _ c.in_err-word.ensures some c.loop-joined.invariant)

pub loop-joined-preserved : goal.loop-joined-preserved
loop-joined-preserved c =
    rw c.in_ok-extend_from_slice.ensures.items
    (goes_on c.loop-joined.joined.items c.loop-joined.words c.in_ok-word.field-0.now c.word.new.self _ c.in_ok-word.ensures c.loop-joined.invariant)

pub returns : goal.returns
returns c =
    let over = c.is_over.ensures in
    is_done c.loop-joined.joined.items c.loop-joined.words _ (over.0 c.loop-joined-test.false) c.loop-joined.invariant
