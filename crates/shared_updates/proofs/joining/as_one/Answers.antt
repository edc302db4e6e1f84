use Rattle.std.proofs.Common.{◌≡◌, ◌∙◌, ℕ, ◌+◌, ◌-◌, sym, subst, arith}
use Rattle.std.specs.Prelude.{◌&&◌, ◌||◌}
use Rattle.terms.specs.declared.area.Area.{Area}
use Rattle.terms.specs.Area.{is_in, HasJust}
use Rattle.shared_updates.specs.Copies.{source, moved_by, AreOne}
use Rattle.shared_updates.specs.Inside.{LiesInside}
use Rattle.shared_updates.proofs.TwoCopies.{common_inside, moved_inside_area, as_one}
use Rattle.shared_updates.proofs.joining.as_one.Goals as goal

pub moved-area-requires-clause-left : goal.moved-area-requires-clause-left
moved-area-requires-clause-left c =
    let taken = c.in_ok-taken.taken in
    let both = common_inside c.args.first.area (source c.args.second) taken (subst (λ (a : Area). HasJust (λ x y. is_in c.args.first.area x y && is_in a x y) taken) c.source.ensures c.in_ok-taken.ensures) in
    both.in_other.left

pub moved-area-requires-clause-top : goal.moved-area-requires-clause-top
moved-area-requires-clause-top c =
    let taken = c.in_ok-taken.taken in
    let both = common_inside c.args.first.area (source c.args.second) taken (subst (λ (a : Area). HasJust (λ x y. is_in c.args.first.area x y && is_in a x y) taken) c.source.ensures c.in_ok-taken.ensures) in
    both.in_other.top

pub moved-area-requires-clause-right : goal.moved-area-requires-clause-right
moved-area-requires-clause-right c =
    let taken = c.in_ok-taken.taken in
    let both = common_inside c.args.first.area (source c.args.second) taken (subst (λ (a : Area). HasJust (λ x y. is_in c.args.first.area x y && is_in a x y) taken) c.source.ensures c.in_ok-taken.ensures) in
    let left = both.in_other.left in
    let right = both.in_other.right in
    let columns = c.requires.second.area.within.columns in
    omega (arith, c.in_ok-taken.ensures.across)

pub moved-area-requires-clause-bottom : goal.moved-area-requires-clause-bottom
moved-area-requires-clause-bottom c =
    let taken = c.in_ok-taken.taken in
    let both = common_inside c.args.first.area (source c.args.second) taken (subst (λ (a : Area). HasJust (λ x y. is_in c.args.first.area x y && is_in a x y) taken) c.source.ensures c.in_ok-taken.ensures) in
    let top = both.in_other.top in
    let bottom = both.in_other.bottom in
    let rows = c.requires.second.area.within.rows in
    omega (arith, c.in_ok-taken.ensures.down)

pub beside-requires-clause-inside : goal.beside-requires-clause-inside
beside-requires-clause-inside c =
    let taken = c.in_ok-taken.taken in
    let both = common_inside c.args.first.area (source c.args.second) taken (subst (λ (a : Area). HasJust (λ x y. is_in c.args.first.area x y && is_in a x y) taken) c.source.ensures c.in_ok-taken.ensures) in
    subst (λ (a : Area). LiesInside a c.args.second.area) (sym c.moved-area.ensures) (moved_inside_area c.args.second taken both.in_other)

pub overflow_sub-copy : goal.overflow_sub-copy
overflow_sub-copy c =
    let taken = c.in_ok-taken.taken in
    let both = common_inside c.args.first.area (source c.args.second) taken (subst (λ (a : Area). HasJust (λ x y. is_in c.args.first.area x y && is_in a x y) taken) c.source.ensures c.in_ok-taken.ensures) in
    both.in_one.left

pub overflow_sub-copy-2 : goal.overflow_sub-copy-2
overflow_sub-copy-2 c =
    let taken = c.in_ok-taken.taken in
    let both = common_inside c.args.first.area (source c.args.second) taken (subst (λ (a : Area). HasJust (λ x y. is_in c.args.first.area x y && is_in a x y) taken) c.source.ensures c.in_ok-taken.ensures) in
    both.in_one.top

pub overflow_add-copy : goal.overflow_add-copy
overflow_add-copy c =
    let taken = c.in_ok-taken.taken in
    let both = common_inside c.args.first.area (source c.args.second) taken (subst (λ (a : Area). HasJust (λ x y. is_in c.args.first.area x y && is_in a x y) taken) c.source.ensures c.in_ok-taken.ensures) in
    let left = both.in_one.left in
    let right = both.in_one.right in
    let columns = c.requires.first.source.columns in
    omega (arith, c.in_ok-taken.ensures.across)

pub overflow_add-copy-2 : goal.overflow_add-copy-2
overflow_add-copy-2 c =
    let taken = c.in_ok-taken.taken in
    let both = common_inside c.args.first.area (source c.args.second) taken (subst (λ (a : Area). HasJust (λ x y. is_in c.args.first.area x y && is_in a x y) taken) c.source.ensures c.in_ok-taken.ensures) in
    let top = both.in_one.top in
    let bottom = both.in_one.bottom in
    let rows = c.requires.first.source.rows in
    omega (arith, c.in_ok-taken.ensures.down)

pub returns : goal.returns
returns c =
    let taken = c.in_ok-taken.taken in
    let first = c.args.first in
    let second = c.args.second in
    let rest = c.in_ok-rest.rest in
    let moved : c.moved-area.result ≡ moved_by second taken = c.moved-area.ensures in
    let just = subst (λ (a : Area). HasJust (λ x y. is_in first.area x y && is_in a x y) taken) c.source.ensures c.in_ok-taken.ensures in
    subst (λ (a : Area). AreOne first second (record { area = a; source_x = first.source_x + (taken.x - first.area.x); source_y = first.source_y + (taken.y - first.area.y) }) rest) (sym moved)
    (as_one first second taken rest (sym c.lies_in.ensures ∙ c.if-not-lies_in.false) just c.in_ok-rest.ensures.inside
    (subst (λ (a : Area). (x y : ℕ) → (is_in a x y || is_in rest x y) ≡ is_in second.area x y) moved c.in_ok-rest.ensures.all))
