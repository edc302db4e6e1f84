-- Which of the kinds a word begins, kind by kind.
use Rattle.std.proofs.Common.{◌≡◌, ◌<◌, ◌+◌, ℕ, Bool, cond, List, length, drop, get_or, Some, ◌∙◌, ap}
use Rattle.std.specs.Str.{bytes_eq}
use Rattle.std.proofs.lemmas.List.{at_drop_more}
use Rattle.drill_script.specs.declared.words.Kind.{Kind}
use Rattle.drill_script.specs.declared.words.Kind.TheVariants.{New}
use Rattle.drill_script.specs.Reading.{keyword, kind_among}

-- one of these kinds is told by a test, or another one after it
pub kind_after : (among : List Kind) (i : ℕ) (word : List ℕ) (test : Bool) → i < length among → bytes_eq word (keyword (get_or among i New)) ≡ test
    → kind_among (drop i among) word ≡ cond test (Some (get_or among i New)) (kind_among (drop (i + 1) among) word)
kind_after among i word test less same =
    at_drop_more (λ l. kind_among l word) among i New less
    ∙ ap (λ t. cond t (Some (get_or among i New)) (kind_among (drop (i + 1) among) word)) same
