-- When bytes that aren't a head yet can become a sound one.
use Rattle.std.proofs.Common.{◌≡◌, ◌≢◌, ◌<◌, ◌≤◌, ℕ, zero, suc, Bool, true, false, List, [], ◌∷◌, ◌++◌, refl, sym, ap, ◌∙◌, subst, arith, append_assoc, append-nil, length-append, inl, inr, lit<}
use Rattle.std.specs.Prelude.{All, IsAscii, nat_lt, ◌==◌, cond, ◌&&◌, ◌||◌, ◌⊎◌, codes}
use Rattle.std.proofs.lemmas.Bool.{false≢true, or_left, or_right, or_cases, ne_eqb, and_parts, and_from, lt-ltb, ltb-true}
use Rattle.std.proofs.lemmas.Bool.Decides.{nat_tests}
use Rattle.std.proofs.lemmas.List.Elements.{All-head, All-tail, All-cons, All-nil, All-push}
use Rattle.std.proofs.lemmas.List.{append_cancel_left}
use Rattle.std.proofs.lemmas.Str.{IsUtf8-from_ascii}
use Rattle.std.proofs.lemmas.Str.Ascii.{IsAscii-nil, IsAscii-cons, IsAscii-push}
use Rattle.httparse.specs.Grammar.{is_token_byte, is_uri_byte, AllPass, IsToken, LineEnd, crlf, lf, print_end, print_blank, print_version, print_section, RequestHead, print_request, ReadsRequest, EndsInTarget, MayBecomeRequest}
use Rattle.httparse.proofs.GrammarLemmas.{cons-append, print_request-append}
use Rattle.httparse.proofs.PieceLemmas.{token_is_no_newline}
use Rattle.request_head.specs.Lines.{is_plain_line, is_plain_start}
use Rattle.request_head.specs.Heads.{ReadsHead, BeginsHead, NeverHasHead}

-- ---- bytes

token_is_ascii : (b : ℕ) → is_token_byte b ≡ true → b < 128
unfolding is_token_byte
token_is_ascii b token = grind (arith, nat_tests)

token_not_end : (b : ℕ) → is_token_byte b ≡ true → b ≢ 10
unfolding is_token_byte
token_not_end b token is = false≢true (subst (λ (v : ℕ). is_token_byte v ≡ true) is token)

uri_not_end : (b : ℕ) → is_uri_byte b ≡ true → b ≢ 10
uri_not_end b uri is = false≢true (subst (λ (v : ℕ). is_uri_byte v ≡ true) is uri)

-- ---- lines

-- a byte of ASCII that doesn't end a line changes nothing
passed : (b : ℕ) (bytes : List ℕ) → b < 128 → b ≢ 10 → is_plain_line (b ∷ bytes) ≡ is_plain_line bytes
passed b bytes small other = rw (ne_eqb b 10 other, lt-ltb b 128 small) refl

token_passed : (word bytes : List ℕ) → AllPass is_token_byte word → is_plain_line (word ++ bytes) ≡ is_plain_line bytes
token_passed [] bytes all = refl
token_passed (b ∷ word) bytes all =
    let token = All-head (λ v. is_token_byte v ≡ true) b word all in
    passed b (word ++ bytes) (token_is_ascii b token) (token_not_end b token)
    ∙ token_passed word bytes (All-tail (λ v. is_token_byte v ≡ true) b word all)

-- the target of a plain line is of ASCII
target_is_ascii : (target bytes : List ℕ) → AllPass is_uri_byte target → is_plain_line (target ++ bytes) ≡ true → IsAscii target
target_is_ascii [] bytes all plain = IsAscii-nil
target_is_ascii (b ∷ target) bytes all plain =
    let uri = All-head (λ v. is_uri_byte v ≡ true) b target all in
    let test : (false || (nat_lt b 128 && is_plain_line (target ++ bytes))) ≡ true = subst (λ (t : Bool). (t || (nat_lt b 128 && is_plain_line (target ++ bytes))) ≡ true) (ne_eqb b 10 (uri_not_end b uri)) plain in
    let both = and_parts (nat_lt b 128) (is_plain_line (target ++ bytes)) test in
    IsAscii-cons b target (ltb-true b 128 both.0) (target_is_ascii target bytes (All-tail (λ v. is_uri_byte v ≡ true) b target all) both.1)

-- and a target of ASCII changes nothing
target_passed : (target bytes : List ℕ) → AllPass is_uri_byte target → IsAscii target → is_plain_line (target ++ bytes) ≡ is_plain_line bytes
target_passed [] bytes all ascii = refl
target_passed (b ∷ target) bytes all ascii =
    let uri = All-head (λ v. is_uri_byte v ≡ true) b target all in
    passed b (target ++ bytes) (ascii 0) (uri_not_end b uri)
    ∙ target_passed target bytes (All-tail (λ v. is_uri_byte v ≡ true) b target all) (λ i. ascii (suc i))

-- empty lines change nothing
blank_passed : (blank : List LineEnd) (bytes : List ℕ) → is_plain_start (print_blank blank ++ bytes) ≡ is_plain_start bytes
blank_passed [] bytes = refl
blank_passed (crlf ∷ blank) bytes = blank_passed blank bytes
blank_passed (lf ∷ blank) bytes = blank_passed blank bytes

-- a line begins with its method
at_method : (method bytes : List ℕ) → IsToken method → is_plain_start (method ++ bytes) ≡ is_plain_line (method ++ bytes)
at_method [] bytes token = absurd (omega (arith, token.0))
at_method (b ∷ method) bytes token =
    rw (token_is_no_newline b (All-head (λ v. is_token_byte v ≡ true) b method token.1)) refl

-- a version, and the end of its line
end_is_plain : (minor : ℕ) (end : LineEnd) (bytes : List ℕ) → minor ≤ 1 → is_plain_line (print_version minor ++ (print_end end ++ bytes)) ≡ true
end_is_plain zero crlf bytes small = refl
end_is_plain zero lf bytes small = refl
end_is_plain (suc zero) crlf bytes small = refl
end_is_plain (suc zero) lf bytes small = refl
end_is_plain (suc (suc n)) end bytes small = absurd (omega (arith, small))

-- what begins plainly begins plainly as far as it is there
line_front : (bytes more : List ℕ) → is_plain_line (bytes ++ more) ≡ true → is_plain_line bytes ≡ true
line_front [] more plain = refl
line_front (b ∷ bytes) more plain = elim (or_cases (b == 10) (nat_lt b 128 && is_plain_line (bytes ++ more)) plain) [
  | inl end ↦ or_left (b == 10) (nat_lt b 128 && is_plain_line bytes) end
  | inr rest ↦
      let both = and_parts (nat_lt b 128) (is_plain_line (bytes ++ more)) rest in
      or_right (b == 10) (nat_lt b 128 && is_plain_line bytes) (and_from (nat_lt b 128) (is_plain_line bytes) both.0 (line_front bytes more both.1))
]

one_way : (test one two one' two' : Bool) → (one ≡ true → one' ≡ true) → (two ≡ true → two' ≡ true) → cond test one two ≡ true → cond test one' two' ≡ true
one_way true one two one' two' f s is = f is
one_way false one two one' two' f s is = s is

start_front : (bytes more : List ℕ) → is_plain_start (bytes ++ more) ≡ true → is_plain_start bytes ≡ true
start_front [] more plain = refl
start_front (b ∷ bytes) more plain =
    one_way (b == 13 || b == 10) (is_plain_start (bytes ++ more)) (is_plain_line (b ∷ (bytes ++ more))) (is_plain_start bytes) (is_plain_line (b ∷ bytes))
    (start_front bytes more) (line_front (b ∷ bytes) more) plain

-- a request line up to its target
to_target : (blank : List LineEnd) (method target rest : List ℕ) → IsToken method
    → is_plain_start (print_blank blank ++ (method ++ 32 ∷ (target ++ rest))) ≡ is_plain_line (target ++ rest)
to_target blank method target rest token =
    blank_passed blank (method ++ 32 ∷ (target ++ rest))
    ∙ at_method method (32 ∷ (target ++ rest)) token
    ∙ token_passed method (32 ∷ (target ++ rest)) token.1
    ∙ passed 32 (target ++ rest) (lit< tt) (λ is. omega arith)

-- a sound head begins plainly
sound_is_plain : (bytes : List ℕ) (head : RequestHead) (rest : List ℕ) → ReadsHead bytes head rest → is_plain_start bytes ≡ true
sound_is_plain bytes head rest reads =
    let tail : List ℕ = print_end head.line_end ++ (print_section head.fields head.last ++ rest) in
    let line : List ℕ = 32 ∷ (print_version head.minor ++ tail) in
    ap is_plain_start (reads.0.1 ∙ print_request-append head rest)
    ∙ to_target head.blank head.method head.target line reads.0.0.method
    ∙ target_passed head.target line reads.0.0.target.1 reads.1
    ∙ passed 32 (print_version head.minor ++ tail) (lit< tt) (λ is. omega arith)
    ∙ end_is_plain head.minor head.line_end (print_section head.fields head.last ++ rest) reads.0.0.minor

-- what doesn't begin plainly never has a sound head
pub never_sound : (bytes : List ℕ) → is_plain_start bytes ≡ false → NeverHasHead bytes
never_sound bytes other more head rest reads =
    let plain = start_front bytes more (sound_is_plain (bytes ++ more) head rest reads) in
    false≢true (sym other ∙ plain)

-- ---- what can follow

regroup : (blank method target rest : List ℕ) → (blank ++ (method ++ 32 ∷ target)) ++ (47 ∷ rest) ≡ blank ++ (method ++ 32 ∷ ((target ++ 47 ∷ []) ++ rest))
regroup blank method target rest = simp (append_assoc, cons-append)

-- a target of ASCII, which may go on
completed : (bytes after : List ℕ) (blank : List LineEnd) (method target : List ℕ) → IsToken method → AllPass is_uri_byte target → IsAscii target
    → bytes ++ after ≡ print_blank blank ++ (method ++ 32 ∷ target) → BeginsHead bytes
completed bytes after blank method target token uri ascii is =
    let head : RequestHead = record { blank = blank; method = method; target = target ++ 47 ∷ []; minor = 0; line_end = lf; fields = []; last = lf } in
    let plain : IsAscii (target ++ 47 ∷ []) = IsAscii-push target 47 ascii (lit< tt) in
    let same : bytes ++ (after ++ 47 ∷ (32 ∷ codes "HTTP/1.0\n\n")) ≡ print_request head ++ [] =
    sym (append_assoc bytes after (47 ∷ (32 ∷ codes "HTTP/1.0\n\n")))
    ∙ ap (λ (z : List ℕ). z ++ 47 ∷ (32 ∷ codes "HTTP/1.0\n\n")) is
    ∙ regroup (print_blank blank) method target (32 ∷ codes "HTTP/1.0\n\n")
    ∙ sym (print_request-append head []) in (
      after ++ 47 ∷ (32 ∷ codes "HTTP/1.0\n\n"),
      head,
      (
        (
          record {
            method = token;
            target = (omega (arith, length-append target (47 ∷ [])), All-push (λ v. is_uri_byte v ≡ true) target 47 uri refl);
            target_text = IsUtf8-from_ascii _ plain;
            minor = omega arith;
            fields = All-nil _;
          },
          same,
        ),
        plain,
      ),
    )

in_target : (bytes : List ℕ) → is_plain_start bytes ≡ true → EndsInTarget bytes → BeginsHead bytes
in_target bytes plain ends =
    let method : List ℕ = ends.1 in
    let target : List ℕ = ends.2 in
    let is : bytes ≡ print_blank ends.0 ++ (method ++ 32 ∷ target) = ends.5 ∙ append_assoc (print_blank ends.0) method (32 ∷ target) in
    let whole : is_plain_start (print_blank ends.0 ++ (method ++ 32 ∷ (target ++ []))) ≡ true =
    subst (λ (z : List ℕ). is_plain_start (print_blank ends.0 ++ (method ++ 32 ∷ z)) ≡ true) (sym (append-nil target)) (subst (λ (z : List ℕ). is_plain_start z ≡ true) is plain) in
    let line = sym (to_target ends.0 method target [] ends.3) ∙ whole in
    completed bytes [] ends.0 method target ends.3 ends.4 (target_is_ascii target [] ends.4 line) (append-nil bytes ∙ is)

-- of two fronts of the same bytes, one is a front of the other
fronts : (a b c d : List ℕ) → a ++ b ≡ c ++ d → ((e : List ℕ) × (a ≡ c ++ e)) ⊎ ((e : List ℕ) × (c ≡ a ++ e))
fronts [] b c d is = inr (c, refl)
fronts (x ∷ a) b [] d is = inl (x ∷ a, refl)
fronts (x ∷ a) b (y ∷ c) d is =
    let first : x ≡ y = cc is in
    let rest : a ++ b ≡ c ++ d = cc is in
    elim (fronts a b c d rest) [
      | inl more ↦ inl (more.0, cc (first, more.1))
      | inr more ↦ inr (more.0, cc (first, more.1))
    ]

all_front : (P : ℕ → Type 0) (xs ys : List ℕ) → All P (xs ++ ys) → All P xs
all_front P [] ys all = All-nil P
all_front P (x ∷ xs) ys all = All-cons P x xs (All-head P x (xs ++ ys) all) (all_front P xs ys (All-tail P x (xs ++ ys) all))

at_space : (blank method target : List ℕ) → blank ++ (method ++ 32 ∷ target) ≡ (blank ++ (method ++ 32 ∷ [])) ++ target
at_space blank method target = simp (append_assoc, cons-append)

at_target : (blank method target rest : List ℕ) → blank ++ (method ++ 32 ∷ (target ++ rest)) ≡ (blank ++ (method ++ 32 ∷ target)) ++ rest
at_target blank method target rest = simp (append_assoc, cons-append)

-- the head that was to be ends its target later
in_line : (bytes : List ℕ) → is_plain_start bytes ≡ true → (blank : List LineEnd) (method target after : List ℕ) → IsToken method → AllPass is_uri_byte target
    → print_blank blank ++ (method ++ 32 ∷ target) ≡ bytes ++ after → BeginsHead bytes
in_line bytes plain blank method target after token uri is =
    let split : bytes ++ after ≡ (print_blank blank ++ (method ++ 32 ∷ [])) ++ target = sym is ∙ at_space (print_blank blank) method target in
    elim (fronts bytes after (print_blank blank ++ (method ++ 32 ∷ [])) target split) [
      | inl more ↦
          let rest : more.0 ++ after ≡ target =
          append_cancel_left (print_blank blank ++ (method ++ 32 ∷ [])) (more.0 ++ after) target
          (sym (append_assoc (print_blank blank ++ (method ++ 32 ∷ [])) more.0 after) ∙ ap (λ (z : List ℕ). z ++ after) (sym more.1) ∙ split) in
          let all : AllPass is_uri_byte more.0 = all_front (λ v. is_uri_byte v ≡ true) more.0 after (subst (λ (z : List ℕ). AllPass is_uri_byte z) (sym rest) uri) in
          in_target bytes plain (blank, method, more.0, token, all, more.1 ∙ sym (at_space (print_blank blank) method more.0) ∙ sym (append_assoc (print_blank blank) method (32 ∷ more.0)))
      | inr more ↦ completed bytes more.0 blank method [] token (All-nil _) IsAscii-nil (sym more.1)
    ]

of_head : (bytes more : List ℕ) (head : RequestHead) → is_plain_start bytes ≡ true → ReadsRequest (bytes ++ more) head [] → BeginsHead bytes
of_head bytes more head plain reads =
    let rest : List ℕ = 32 ∷ (print_version head.minor ++ (print_end head.line_end ++ (print_section head.fields head.last ++ []))) in
    let front : List ℕ = print_blank head.blank ++ (head.method ++ 32 ∷ head.target) in
    let split : bytes ++ more ≡ front ++ rest = reads.1 ∙ print_request-append head [] ∙ at_target (print_blank head.blank) head.method head.target rest in
    elim (fronts bytes more front rest split) [
      | inl after ↦
          let line : is_plain_start front ≡ true = start_front front after.0 (subst (λ (z : List ℕ). is_plain_start z ≡ true) after.1 plain) in
          let nil : is_plain_start (print_blank head.blank ++ (head.method ++ 32 ∷ (head.target ++ []))) ≡ true =
          subst (λ (z : List ℕ). is_plain_start (print_blank head.blank ++ (head.method ++ 32 ∷ z)) ≡ true) (sym (append-nil head.target)) line in
          let ascii = target_is_ascii head.target [] reads.0.target.1 (sym (to_target head.blank head.method head.target [] reads.0.method) ∙ nil) in
          (more, head, (reads, ascii))
      | inr after ↦ in_line bytes plain head.blank head.method head.target after.0 reads.0.method reads.0.target.1 after.1
    ]

-- what begins plainly, and may become a head, may become a sound one
pub may_be_sound : (bytes : List ℕ) → is_plain_start bytes ≡ true → MayBecomeRequest bytes → BeginsHead bytes
may_be_sound bytes plain may = elim may [
  | inl head ↦ of_head bytes head.0 head.1 plain head.2
  | inr ends ↦ in_target bytes plain ends
]
