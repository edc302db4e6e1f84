-- The method of a head, told by its first line.
use Rattle.std.proofs.Common.{◌≡◌, ℕ, true, List, [], ◌∷◌, ◌++◌, refl, sym, ap, ◌∙◌, subst, arith}
use Rattle.std.specs.Prelude.{take, drop, codes}
use Rattle.std.specs.List.{list_all}
use Rattle.std.proofs.lemmas.Bool.{false≢true, and_parts}
use Rattle.std.proofs.lemmas.List.{take-append-drop}
use Rattle.std.proofs.lemmas.List.Elements.{All-head, All-tail}
use Rattle.std.proofs.lemmas.Slice.Eq.{bytes_eq-Decides}
use Rattle.httparse.specs.Grammar.{is_token_byte, AllPass, IsToken, LineEnd, crlf, lf, print_blank, print_end, print_section, print_version, RequestHead}
use Rattle.httparse.proofs.GrammarLemmas.{print_request-append}
use Rattle.httparse.proofs.PieceLemmas.{token_is_no_newline}
use Rattle.request_head.specs.Heads.{ReadsHead}
use Rattle.request_head.specs.Lines.{begins_with_head, is_line_of_head}

-- empty lines change nothing
blank_passed : (blank : List LineEnd) (bytes : List ℕ) → begins_with_head (print_blank blank ++ bytes) ≡ begins_with_head bytes
blank_passed [] bytes = refl
blank_passed (crlf ∷ blank) bytes = blank_passed blank bytes
blank_passed (lf ∷ blank) bytes = blank_passed blank bytes

-- a line begins with its method
at_method : (method bytes : List ℕ) → IsToken method → begins_with_head (method ++ bytes) ≡ is_line_of_head (method ++ bytes)
at_method [] bytes token = absurd (omega (arith, token.0))
at_method (b ∷ method) bytes token =
    rw (token_is_no_newline b (All-head (λ v. is_token_byte v ≡ true) b method token.1)) refl

-- no method has a space
no_space : (b : ℕ) → is_token_byte b ≡ true → b ≡ 32 → ⊥
unfolding is_token_byte
no_space b token is = false≢true (subst (λ (v : ℕ). is_token_byte v ≡ true) is token)

-- so what comes before a space is one word
same_word : (word other bytes others : List ℕ) → AllPass is_token_byte word → list_all is_token_byte other ≡ true → word ++ 32 ∷ bytes ≡ other ++ 32 ∷ others → word ≡ other
same_word [] [] bytes others all passes is = refl
same_word [] (y ∷ other) bytes others all passes is =
    let space : y ≡ 32 = cc is in
    absurd (no_space y (and_parts (is_token_byte y) (list_all is_token_byte other) passes).0 space)
same_word (x ∷ word) [] bytes others all passes is =
    let space : x ≡ 32 = cc is in
    absurd (no_space x (All-head (λ v. is_token_byte v ≡ true) x word all) space)
same_word (x ∷ word) (y ∷ other) bytes others all passes is =
    let heads : x ≡ y = cc is in
    let tails : word ++ 32 ∷ bytes ≡ other ++ 32 ∷ others = cc is in
    let rest = same_word word other bytes others (All-tail (λ v. is_token_byte v ≡ true) x word all) (and_parts (is_token_byte y) (list_all is_token_byte other) passes).1 tails in
    cc (heads, rest)

head_is_token : list_all is_token_byte (codes "HEAD") ≡ true
unfolding is_token_byte
head_is_token = refl

-- the line of a method
of_method : (method bytes : List ℕ) → IsToken method
    → (is_line_of_head (method ++ 32 ∷ bytes) ≡ true → method ≡ codes "HEAD") × (method ≡ codes "HEAD" → is_line_of_head (method ++ 32 ∷ bytes) ≡ true)
of_method method bytes token =
    let line : List ℕ = method ++ 32 ∷ bytes in
    let decides = bytes_eq-Decides (take 5 line) (codes "HEAD ") in (
      (λ t.
          let whole : line ≡ codes "HEAD" ++ 32 ∷ drop 5 line = sym (take-append-drop 5 line) ∙ ap (λ (front : List ℕ). front ++ drop 5 line) (decides.0 t) in
          same_word method (codes "HEAD") bytes (drop 5 line) token.1 head_is_token whole),
      (λ is. subst (λ (m : List ℕ). is_line_of_head (m ++ 32 ∷ bytes) ≡ true) (sym is) refl),
    )

-- a whole head begins with its method
pub head_is : (bytes : List ℕ) (head : RequestHead) (rest : List ℕ) → ReadsHead bytes head rest
    → (begins_with_head bytes ≡ true → head.method ≡ codes "HEAD") × (head.method ≡ codes "HEAD" → begins_with_head bytes ≡ true)
head_is bytes head rest reads =
    let after : List ℕ = head.target ++ 32 ∷ (print_version head.minor ++ (print_end head.line_end ++ (print_section head.fields head.last ++ rest))) in
    let same : begins_with_head bytes ≡ is_line_of_head (head.method ++ 32 ∷ after) =
    ap begins_with_head (reads.0.1 ∙ print_request-append head rest)
    ∙ blank_passed head.blank (head.method ++ 32 ∷ after)
    ∙ at_method head.method (32 ∷ after) reads.0.0.method in
    let is = of_method head.method after reads.0.0.method in (
      (λ t. is.0 (sym same ∙ t)),
      (λ m. same ∙ is.1 m),
    )
