use Rattle.std.proofs.Common.{◌≡◌, ◌≢◌, ◌<◌, ◌≤◌, ◌++◌, length, take, drop, ap, sym, ◌∙◌, arith, append_assoc, append-nil, min}
use Rattle.std.proofs.lemmas.Bool.{eqb-true, eqb-false}
use Rattle.std.proofs.lemmas.List.{drop_min, take_min}
use Rattle.pictures.specs.Chunks.{longest_block, stored, stored_block}
use Rattle.pictures.proofs.Blocks.{longest, stored_none, stored_step}
use Rattle.pictures.proofs.chunk.append_stored.Goals as goal

pub loop-rest-preserved : goal.loop-rest-preserved
loop-rest-preserved c =
    let rest = c.loop-rest.rest.now in
    let out = c.loop-rest.out.items in
    let isnt_empty : length rest ≢ 0 = eqb-false (length rest) 0 (sym c.is_empty.ensures ∙ c.loop-rest-test.true) in
    let some : 0 < length rest = omega arith in
    let size : c.min.result ≡ min longest_block (length rest) = c.min.ensures ∙ ap (λ n. min n (length rest)) (sym longest) in
    let front : c.split_at.result.0.now ≡ take longest_block rest = c.split_at.ensures.front ∙ ap (λ n. take n rest) size ∙ take_min longest_block rest in
    let back : c.split_at.result.1.now ≡ drop longest_block rest = c.split_at.ensures.back ∙ ap (λ n. drop n rest) size ∙ drop_min longest_block rest in
    let block = stored_block (take longest_block rest) in
    let written : c.append_block.new.out.items ≡ out ++ block = c.in_ok-append_block.ensures ∙ ap (λ xs. out ++ stored_block xs) front in
    ap (λ xs. xs ++ stored c.split_at.result.1.now) written
    ∙ append_assoc out block (stored c.split_at.result.1.now)
    ∙ ap (λ xs. out ++ (block ++ stored xs)) back
    ∙ ap (λ xs. out ++ xs) (sym (stored_step rest some))
    ∙ c.loop-rest.invariant

pub returns : goal.returns
returns c =
    let rest = c.loop-rest.rest.now in
    let is_empty : length rest ≡ 0 = eqb-true (length rest) 0 (sym c.is_empty.ensures ∙ c.loop-rest-test.false) in
    let none : length rest ≤ 0 = omega arith in
    let left = stored_none rest none in
    sym (append-nil c.loop-rest.out.items) ∙ ap (λ z. c.loop-rest.out.items ++ z) (sym left) ∙ c.loop-rest.invariant
