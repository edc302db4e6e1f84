-- Joining the words of a line one after the other.
use Rattle.std.proofs.Common.{◌≡◌, ◌≢◌, ℕ, List, [], ◌∷◌, ◌++◌, Option, Some, None, Err, refl, sym, ap, ◌∙◌, append_assoc}
use Rattle.std.proofs.lemmas.List.{append-nil}
use Rattle.std.proofs.lemmas.Option.{some_pair_parts}
use Rattle.drill_script.specs.declared.fault.LineFault.{LineFault}
use Rattle.drill_script.specs.declared.fault.LineFault.TheVariants.{Bad, NoMemory}
use Rattle.drill_script.specs.Reading.{◌>>=◌, Reads, ReadsInMemory, word_at, joined_at}

-- what was joined before, and what is still left
abbrev pub with_front : List ℕ → Option (List ℕ × List (List ℕ)) → Option (List ℕ × List (List ℕ))
with_front front read = read >>= λ x. Some (front ++ x.0, x.1)

regroup : (front word : List ℕ) (read : Option (List ℕ × List (List ℕ))) → with_front front (read >>= λ x. Some (word ++ x.0, x.1)) ≡ with_front (front ++ word) read
regroup front word None = refl
regroup front word (Some x) = ap (λ (digits : List ℕ). Some (digits, x.1)) (sym (append_assoc front word x.0))

joined_word : (words : List (List ℕ)) (word : List ℕ) (rest : List (List ℕ)) → word_at words ≡ Some (word, rest) → joined_at words ≡ (joined_at rest >>= λ x. Some (word ++ x.0, x.1))
unfolding joined_at
joined_word [] word rest e = absurd cc
joined_word ([] ∷ ws) word rest e = absurd cc
joined_word ((b ∷ bs) ∷ ws) word rest e =
    let parts = some_pair_parts (b ∷ bs) word ws rest e in
    rw (← parts.0, ← parts.1) refl

-- one word more
pub goes_on : (front : List ℕ) (words : List (List ℕ)) (word : List ℕ) (rest : List (List ℕ)) (total : Option (List ℕ × List (List ℕ))) → word_at words ≡ Some (word, rest)
    → with_front front (joined_at words) ≡ total → with_front (front ++ word) (joined_at rest) ≡ total
goes_on front words word rest total e so_far =
    sym (regroup front word (joined_at rest)) ∙ ap (with_front front) (sym (joined_word words word rest e)) ∙ so_far

no_word : (words : List (List ℕ)) → word_at words ≡ None → words ≢ [] → joined_at words ≡ None
unfolding joined_at
no_word [] e some = absurd (some refl)
no_word ([] ∷ ws) e some = refl
no_word ((b ∷ bs) ∷ ws) e some = absurd cc

-- no word, though one has to be there
pub ends : {A B : Type 0} (view : A → List ℕ) (digits_of : B → List ℕ) (fault : LineFault) (front : List ℕ) (words after left : List (List ℕ)) (total : Option (List ℕ × List (List ℕ)))
    → Reads view (Err fault) after (word_at words) → words ≢ [] → with_front front (joined_at words) ≡ total → ReadsInMemory digits_of (Err fault) left total
ends view digits_of Bad front words after left total none some so_far = sym so_far ∙ ap (with_front front) (no_word words none some)
ends view digits_of NoMemory front words after left total none some so_far = tt

-- all the words
pub is_done : (front : List ℕ) (words : List (List ℕ)) (total : Option (List ℕ × List (List ℕ))) → words ≡ [] → with_front front (joined_at words) ≡ total → total ≡ Some (front, words)
unfolding joined_at
is_done front words total none so_far = sym so_far ∙ rw none (ap (λ (digits : List ℕ). Some (digits, [])) (append-nil front))
