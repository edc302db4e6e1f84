use Rattle.std.proofs.Common.{◌≡◌, ◌<◌, ◌+◌, ◌-◌, ℕ, suc, List, ◌∷◌, take, drop, sym, ap, ◌∙◌, subst, arith, Some}
use Rattle.std.proofs.lemmas.Grind.{common_steps}
use Rattle.std.specs.List.{slice_get}
use Rattle.std.proofs.KnownBytes.{Appends-trans}
use Rattle.disk.specs.FailuresLaws.{unfailed}
use Rattle.keyed_entries.specs.Entry.{messages_in}
use Rattle.keyed_entries.specs.declared.entry.Stamped.{Stamped}
use Rattle.fbs_export.specs.Export.{first_time, between}
use Rattle.fbs_export.proofs.Left.{SoFar, next_left, base_is, starts_here, front_within, one_more_so_far}
use Rattle.fbs_export.proofs.exporting.write_messages.Goals as goal

pub returns-in_err-write_block-clause-front : goal.returns-in_err-write_block-clause-front
returns-in_err-write_block-clause-front g c = λ m.
    let all : List Stamped = messages_in c.args.index.now.blocks in
    let from : ℕ = c.args.from in
    let n : ℕ = c.loop-number.number in
    let to : ℕ = c.args.to in
    let s : Stamped = c.in_ok-stamped.stamped in
    let below : n < to = c.loop-number-test.true in
    let found : slice_get all n ≡ Some s = subst (λ z. slice_get (messages_in z) n ≡ Some s) (c.loop-number.invariant.blocks m) (c.in_ok-stamped.ensures.message m) in
    let left : drop n (take to all) ≡ s ∷ drop (suc n) (take to all) = next_left all n to s found below in
    let base : c.unwrap_or-base.result ≡ first_time (between all from to) =
    c.unwrap_or-base.ensures ∙ base_is c.loop-number.first n from s.time (first_time (between all from to)) (c.loop-number.invariant.base m) (starts_here all from n to s left) in
    let time : c.saturating_sub-time.result ≡ s.time - first_time (between all from to) = c.saturating_sub-time.ensures ∙ ap (λ z. s.time - z) base in
    front_within all from n to (g.W.Write.contents c.args.out.now) (g.W.Write.contents c.loop-number.out) (g.W.Write.contents c.write_block.new.out) s c.saturating_sub-time.result c.bytes.result.now
    (c.loop-number.invariant.wrote m) left time c.bytes.ensures.value c.write_block.ensures.front

pub loop-number-preserved : goal.loop-number-preserved
loop-number-preserved g c =
    let inv = c.loop-number.invariant in
    let i = c.args.index.now in
    let from : ℕ = c.args.from in
    let n : ℕ = c.loop-number.number in
    let to : ℕ = c.args.to in
    let s : Stamped = c.in_ok-stamped.stamped in
    let below : n < to = c.loop-number-test.true in
    let next : n + 1 ≡ suc n = omega arith in
    let all : List Stamped = messages_in i.blocks in
    let left : g.D.Disk.is_modelled → drop n (take to all) ≡ s ∷ drop (suc n) (take to all) =
    λ m. next_left all n to s (subst (λ z. slice_get (messages_in z) n ≡ Some s) (inv.blocks m) (c.in_ok-stamped.ensures.message m)) below in
    let base : g.D.Disk.is_modelled → c.unwrap_or-base.result ≡ first_time (between all from to) =
    λ m. c.unwrap_or-base.ensures ∙ base_is c.loop-number.first n from s.time (first_time (between all from to)) (inv.base m) (starts_here all from n to s (left m)) in
    record {
      numbers = c.in_ok-stamped.ensures.only.1 ∙ inv.numbers;
      head = c.in_ok-stamped.ensures.only.2 ∙ inv.head;
      blocks = λ m. c.in_ok-stamped.ensures.only.3 m ∙ inv.blocks m;
      history = λ m. c.in_ok-stamped.ensures.only.0 m ∙ inv.history m;
      unfailed = λ m. unfailed (c.in_ok-stamped.ensures.cause m) (λ failed. cc) ∙ inv.unfailed m;
      base = base;
      wrote = λ m. subst (λ z. SoFar all from z to (g.W.Write.contents c.args.out.now) (g.W.Write.contents c.write_block.new.out)) (sym next)
          (one_more_so_far all from n to (g.W.Write.contents c.args.out.now) (g.W.Write.contents c.loop-number.out) (g.W.Write.contents c.write_block.new.out) s c.saturating_sub-time.result c.bytes.result.now
          (inv.wrote m) (left m) (c.saturating_sub-time.ensures ∙ ap (λ z. s.time - z) (base m)) c.bytes.ensures.value
          (λ x p. Appends-trans _ _ _ x _ p c.in_ok-write_block.ensures.all));
    }

pub returns-clause-all : goal.returns-clause-all
returns-clause-all g c = grind (arith, common_steps)
