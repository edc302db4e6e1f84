-- How many pixels the first of several copies go to.
use Rattle.std.proofs.Common.{◌≡◌, ℕ, zero, suc, ◌+◌, ◌*◌, ◌<◌, ◌≤◌, List, [], ◌∷◌, length, take, get_or, refl, subst, arith}
use Rattle.shared_updates.specs.declared.copy.KeptCopy.{KeptCopy}
use Rattle.shared_updates.specs.Copies.{pixels_copied}

one_after : (cs : List KeptCopy) (k : ℕ) (d : KeptCopy) → k < length cs
    → pixels_copied (take (suc k) cs) ≡ pixels_copied (take k cs) + (get_or cs k d).area.w * (get_or cs k d).area.h
one_after [] k d within = absurd (omega (arith, within))
one_after (c ∷ cs) zero d within = omega arith
one_after (c ∷ cs) (suc k) d within =
    let next = one_after cs k d (omega (arith, within)) in
    let longer : pixels_copied (take (suc (suc k)) (c ∷ cs)) ≡ c.area.w * c.area.h + pixels_copied (take (suc k) cs) = refl in
    omega (arith, next, longer)

pub one_more : (cs : List KeptCopy) (k : ℕ) (d : KeptCopy) → k < length cs
    → pixels_copied (take (k + 1) cs) ≡ pixels_copied (take k cs) + (get_or cs k d).area.w * (get_or cs k d).area.h
one_more cs k d within =
    let next : suc k ≡ k + 1 = omega arith in
    subst (λ n. pixels_copied (take n cs) ≡ pixels_copied (take k cs) + (get_or cs k d).area.w * (get_or cs k d).area.h) next (one_after cs k d within)

pub no_more : (cs : List KeptCopy) (k : ℕ) (d : KeptCopy) → k < length cs
    → pixels_copied (take k cs) + (get_or cs k d).area.w * (get_or cs k d).area.h ≤ pixels_copied cs
no_more [] k d within = absurd (omega (arith, within))
no_more (c ∷ cs) zero d within = omega arith
no_more (c ∷ cs) (suc k) d within =
    let next = no_more cs k d (omega (arith, within)) in
    omega (arith, next)
