use Rattle.std.proofs.Common.{◌≡◌, ℕ, ◌+◌, ◌<◌, ◌==◌, List, cond, length, take, drop, ◌++◌, get_or, slice_set, refl, sym, ap, ◌∙◌, subst, arith}
use Rattle.rre.specs.declared.cover.Count.{Count}
use Rattle.rre.specs.Numbered.{counted, IsFirstOf, IsNew}
use Rattle.rre.proofs.Counts.{new_counted, added, first_counted, set_counted, set_there, written}
use Rattle.rre.proofs.cover.count_more.Goals as goal

abbrev nothing : Count
nothing = record { number = 0; times = 0 }

pub returns-in_default-clause-total : goal.returns-in_default-clause-total
returns-in_default-clause-total c =
    let new : IsNew c.args.counts.now.items c.args.number = subst (λ (l : List Count). IsNew l c.args.number) c.as_slice.ensures.value (c.in_default.ensures.none refl) in
    omega (arith, new_counted c.args.counts.now.items c.args.number new)

pub returns-in_default-clause-counts : goal.returns-in_default-clause-counts
returns-in_default-clause-counts c = λ other.
    let new : IsNew c.args.counts.now.items c.args.number = subst (λ (l : List Count). IsNew l c.args.number) c.as_slice.ensures.value (c.in_default.ensures.none refl) in
    ap (λ (l : List Count). counted l other) c.push.ensures.items ∙ added c.args.counts.now.items c.args.number c.args.more other new

pub overflow_add-counts : goal.overflow_add-counts
overflow_add-counts c =
    let counts = c.args.counts.now.items in
    let number = c.args.number in
    let i = c.in-Some.index in
    let first : IsFirstOf counts number i = subst (λ (l : List Count). IsFirstOf l number i) c.as_slice.ensures.value c.in-Some.ensures.found in
    let same : c.as_mut_slice-counts.result.now ≡ counts = c.as_mut_slice-counts.ensures.value in
    let times : counted counts number ≡ (get_or c.as_mut_slice-counts.result.now i nothing).times = first_counted counts number i nothing first ∙ ap (λ (l : List Count). (get_or l i nothing).times) (sym same) in
    let fits = c.requires in
    omega (arith, times, fits)

pub returns-clause-total : goal.returns-clause-total
returns-clause-total c =
    let counts = c.args.counts.now.items in
    let number = c.args.number in
    let i = c.in-Some.index in
    let first : IsFirstOf counts number i = subst (λ (l : List Count). IsFirstOf l number i) c.as_slice.ensures.value c.in-Some.ensures.found in
    let same : c.as_mut_slice-counts.result.now ≡ counts = c.as_mut_slice-counts.ensures.value in
    let within : i < length c.as_mut_slice-counts.result.now = subst (λ (l : List Count). i < length l) (c.as_slice.ensures.value ∙ sym same) c.in-Some.ensures.within in
    ap (λ (k : Count). k.times) (set_there c.as_mut_slice-counts.result.now i _ nothing within)
    ∙ ap (λ (l : List Count). (get_or l i nothing).times + c.args.more) same
    ∙ ap (λ (n : ℕ). n + c.args.more) (sym (first_counted counts number i nothing first))

pub returns-clause-counts : goal.returns-clause-counts
returns-clause-counts c = λ other.
    let counts = c.args.counts.now.items in
    let number = c.args.number in
    let i = c.in-Some.index in
    let first : IsFirstOf counts number i = subst (λ (l : List Count). IsFirstOf l number i) c.as_slice.ensures.value c.in-Some.ensures.found in
    let same : c.as_mut_slice-counts.result.now ≡ counts = c.as_mut_slice-counts.ensures.value in
    let more = c.args.more in
    let set : List Count → List Count = λ l. slice_set l i (record { number = (get_or l i nothing).number; times = (get_or l i nothing).times + more }) in
    let times : List Count → ℕ = λ l. (get_or (set l) i nothing).times in
    let within : i < length counts = subst (λ (l : List Count). i < length l) c.as_slice.ensures.value c.in-Some.ensures.within in
    subst (λ (l : List Count). counted (take (length counts) (set l ++ drop (length (set l)) counts)) other ≡ cond (other == number) (times l) (counted counts other)) (sym same)
    (ap (λ (l : List Count). counted l other) (written counts i _)
    ∙ set_counted counts number i ((get_or counts i nothing).times + more) other nothing first
    ∙ ap (λ (n : ℕ). cond (other == number) n (counted counts other)) (sym (ap (λ (k : Count). k.times) (set_there counts i _ nothing within))))
