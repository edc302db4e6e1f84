-- Numbers that follow one another, and how lists begin and end.
use Rattle.std.proofs.Common.{◌≡◌, ℕ, zero, suc, List, [], ◌∷◌, ◌++◌, refl, sym, ap, ◌∙◌, ◌≤◌, ◌+◌, append_assoc, append-nil, arith}
use Rattle.showing.specs.Run.{count_up, BeginsWith}

pub count_up-snoc : (n many : ℕ) → count_up n (suc many) ≡ count_up n many ++ (n + many) ∷ []
count_up-snoc n zero = let e : n + 0 ≡ n = omega arith in rw e refl
count_up-snoc n (suc many) =
    let e : suc n + many ≡ n + suc many = omega arith in
    ap (λ (l : List ℕ). n ∷ l) (count_up-snoc (suc n) many) ∙ rw e refl

-- what is appended leaves the beginning as it was
pub begins-append : (xs ys zs : List ℕ) → BeginsWith xs ys → BeginsWith (xs ++ zs) ys
begins-append xs ys zs b = (b.0 ++ zs, ap (λ (l : List ℕ). l ++ zs) b.1 ∙ append_assoc ys b.0 zs)

pub begins-whole : (xs ys : List ℕ) → xs ≡ ys → BeginsWith xs ys
begins-whole xs ys e = ([], e ∙ sym (append-nil ys))

pub begins-trans : (xs ys zs : List ℕ) → BeginsWith xs ys → BeginsWith ys zs → BeginsWith xs zs
begins-trans xs ys zs a b = (b.0 ++ a.0, a.1 ∙ ap (λ (l : List ℕ). l ++ a.0) b.1 ∙ append_assoc zs b.0 a.0)

-- fewer of them are a beginning of more
pub count_up-begins : (n few many : ℕ) → few ≤ many → BeginsWith (count_up n many) (count_up n few)
count_up-begins n zero many l = (count_up n many, refl)
count_up-begins n (suc few) zero l = absurd (omega arith)
count_up-begins n (suc few) (suc many) l =
    let more = count_up-begins (suc n) few many (omega arith) in
    (more.0, ap (λ (l : List ℕ). n ∷ l) more.1)
