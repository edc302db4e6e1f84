use Rattle.std.proofs.Common.{◌≡◌, ◌-◌, List, [], ◌++◌, drop, take, length, sym, ap, ◌∙◌, arith}
use Rattle.std.specs.Prelude.{◌||◌}
use Rattle.std.proofs.lemmas.List.{drop_all, length-drop, take_all, take-append-drop}
use Rattle.pixel_sets.specs.Pixels.{holds}
use Rattle.shared_updates.specs.declared.copy.KeptCopy.{KeptCopy}
use Rattle.shared_updates.specs.Copies.{is_copied}
use Rattle.shared_updates.proofs.copies.Copies.make_way.Goals as goal

pub returns-clause-gives_up : goal.returns-clause-gives_up
returns-clause-gives_up c =
    let items = c.self.inside.list.items in
    let slice = c.as_slice.result.now in
    let k = c.in-Some.kept in
    let rest : List KeptCopy = drop k slice in
    let whole : take (length slice - k) rest ≡ rest = take_all (length slice - k) rest (omega (arith, length-drop k slice)) in
    let none : drop c.loop-last.last-index (take (length slice - k) rest) ≡ [] = drop_all c.loop-last.last-index (take (length slice - k) rest) (omega (arith, c.loop-last-test.false)) in
    record {
      given_up = rest;
      old_are = sym c.self.view_is ∙ sym (take-append-drop k items)
          ∙ ap (λ (l : List KeptCopy). take k items ++ drop k l) (sym c.as_slice.ensures.value)
          ∙ ap (λ (l : List KeptCopy). l ++ rest) (sym c.truncate.ensures.items);
      left_are = λ x y across down.
          sym (ap (λ (l : List KeptCopy). is_copied l x y || holds c.loop-last.stale x y) none)
          ∙ c.loop-last.invariant.just x y across down
          ∙ ap (λ (l : List KeptCopy). is_copied l x y || holds c.args.stale.now x y) whole;
    }
