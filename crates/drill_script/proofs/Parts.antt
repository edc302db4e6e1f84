-- The parts of a text, from the first to the last.
use Rattle.std.proofs.Common.{◌≡◌, ℕ, ◌+◌, ◌-◌, ◌≤◌, Bool, true, false, cond, eqb, List, [], ◌∷◌, length, take, drop, Option, Some, None, refl, ap, ◌∙◌, arith, ◌≢◌, inl, inr}
use Rattle.std.specs.Prelude.{position, ◌↔◌, IsTrue, is_some, not}
use Rattle.std.specs.Option.{option_map_or}
use Rattle.std.specs.List.{AllByRecursion, position_or_len, onto_first, join_with_byte}
use Rattle.std.proofs.lemmas.Bool.{ltb-true, ltb-false, eqb-false, ne_eqb, cases_Bool, cases_lt}
use Rattle.std.proofs.lemmas.Option.{cond_some}
use Rattle.std.proofs.lemmas.List.{take_rest, take_all}
use Rattle.std.proofs.lemmas.List.Elements.{All-from_get_or, All-from_recursion}
use Rattle.std.proofs.lemmas.List.Splits.{slice_split_none, slice_split_first, slice_split_at, slice_split-cons_yes, slice_split-cons_no, length-slice_split, join_with_byte-slice_split}
use Rattle.std.proofs.lemmas.List.Sums.{fails_before_first}
use Rattle.drill_script.specs.Grammar.{IsWord, IsTextOf, first_word}
use Rattle.drill_script.specs.Reading.{parts}
use Rattle.drill_script.proofs.Taken.{AreSome}

abbrev is_space : ℕ → Bool
is_space byte = eqb byte 32

cond_none : (b : Bool) (n : ℕ) → cond b (Some n) None ≡ None → b ≡ false
cond_none true n e = absurd cc
cond_none false n e = refl

-- a text with no space is one part
parts_past : (text : List ℕ) → length text ≤ position_or_len is_space text → parts text ≡ text ∷ []
parts_past text past = slice_split_none is_space text (All-from_get_or (λ x. is_space x ≡ false) text 0 (λ i lt. fails_before_first is_space text i 0 (omega arith)))

pub parts_whole : (text : List ℕ) → position is_space text ≡ None → parts text ≡ text ∷ []
parts_whole text none = parts_past text (ltb-false _ _ (cond_none _ _ none))

-- a space ends the first part
pub parts_first : (text : List ℕ) (end : ℕ) → position is_space text ≡ Some end
    → parts text ≡ take end text ∷ parts (take (length text - (end + 1)) (drop (end + 1) text))
parts_first text end found =
    let at = cond_some _ _ _ found in
    let split = slice_split_first is_space text 0 (ltb-true _ _ at.0) in
    rw (take_rest text (end + 1), ← at.1) split

-- the first part is the first word
pub parts_begin : (text first : List ℕ) (rest : List (List ℕ)) → parts text ≡ first ∷ rest → first ≡ first_word text
parts_begin text first rest e =
    elim (cases_lt (position_or_len is_space text) (length text)) [
      | inl within ↦ let split = slice_split_first is_space text 0 within in cc
      | inr past ↦ let whole = parts_past text past in let all = take_all (position_or_len is_space text) text past in cc
    ]

-- there is a part
pub parts_some : (text : List ℕ) → parts text ≡ [] → ⊥
parts_some text none = absurd (omega (arith, length-slice_split is_space text, ap length none))

-- nothing is left exactly when there is no part
pub over_is : {T : Type 0} (text : T → List ℕ) (rest : Option T) (over : Bool) → is_some rest ≡ not over
    → IsTrue over ↔ (option_map_or (λ t. parts (text t)) rest [] ≡ [])
over_is text None true e = (λ _. refl, λ _. refl)
over_is text None false e = absurd cc
over_is text (Some t) true e = absurd cc
over_is text (Some t) false e = (λ h. absurd cc, λ h. absurd (parts_some (text t) h))

-- ---- parts and words

-- no space
abbrev IsUnspaced : List ℕ → Type 0
IsUnspaced word = AllByRecursion (λ byte. byte ≢ 32) word

unspaced-onto_first : (byte : ℕ) (words : List (List ℕ)) → byte ≢ 32 → AllByRecursion IsUnspaced words → AllByRecursion IsUnspaced (onto_first byte words)
unspaced-onto_first byte [] ne h = ((ne, tt), tt)
unspaced-onto_first byte (word ∷ words) ne h = ((ne, h.0), h.1)

-- no part has a space in it
parts_unspaced : (text : List ℕ) → AllByRecursion IsUnspaced (parts text)
parts_unspaced [] = (tt, tt)
parts_unspaced (byte ∷ text) =
    elim (cases_Bool (is_space byte)) [
      | inl space ↦ rw (slice_split-cons_yes is_space byte text space) (tt, parts_unspaced text)
      | inr other ↦ rw (slice_split-cons_no is_space byte text other) (unspaced-onto_first byte (parts text) (eqb-false byte 32 other) (parts_unspaced text))
    ]

both : (words : List (List ℕ)) → AreSome words → AllByRecursion IsUnspaced words → AllByRecursion IsWord words
both [] some unspaced = tt
both (word ∷ words) some unspaced = ((some.0, unspaced.0), both words some.1 unspaced.1)

-- the parts of a text are its words if none is empty
pub parts_text : (text : List ℕ) → AreSome (parts text) → IsTextOf (parts text) text
parts_text text some = record {
  some = parts_some text;
  each = both (parts text) some (parts_unspaced text);
  joined = join_with_byte-slice_split 32 text;
}

pub words_some : (words : List (List ℕ)) → AllByRecursion IsWord words → AreSome words
words_some [] h = tt
words_some (word ∷ words) h = (h.0.0, words_some words h.1)

passes : (word : List ℕ) → IsUnspaced word → AllByRecursion (λ byte. is_space byte ≡ false) word
passes [] h = tt
passes (byte ∷ bytes) h = (ne_eqb byte 32 h.0, passes bytes h.1)

split_joined : (words : List (List ℕ)) → words ≢ [] → AllByRecursion IsWord words → parts (join_with_byte 32 words) ≡ words
split_joined [] some h = absurd (some refl)
split_joined (word ∷ []) some h = slice_split_none is_space word (All-from_recursion (λ byte. is_space byte ≡ false) word (passes word h.0.1))
split_joined (word ∷ next ∷ words) some h =
    slice_split_at is_space word 32 (join_with_byte 32 (next ∷ words)) (All-from_recursion (λ byte. is_space byte ≡ false) word (passes word h.0.1)) refl
    ∙ ap (λ (others : List (List ℕ)). word ∷ others) (split_joined (next ∷ words) (λ none. absurd cc) h.1)

-- the words of a text are its parts
pub text_parts : (words : List (List ℕ)) (text : List ℕ) → IsTextOf words text → parts text ≡ words
text_parts words text h = rw (← h.joined) (split_joined words h.some h.each)
