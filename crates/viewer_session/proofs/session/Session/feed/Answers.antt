use Rattle.std.proofs.Common.{◌≡◌, ◌++◌, List, ℕ, ◌∙◌, take, drop, sym, ap, subst, append_assoc, arith}
use Rattle.std.proofs.lemmas.Grind.{common_steps}
use Rattle.std.proofs.lemmas.List.{take-append-drop}
use Rattle.std.proofs.lemmas.Result.{err_from_is_err_and}
use Rattle.viewer_session.specs.Session.{Stopped}
use Rattle.viewer_session.proofs.Pieces.{fed_more, fed_stopped, kept_again}
use Rattle.viewer_session.proofs.session.Session.feed.Goals as goal

-- a part and what is after it
split : (n : ℕ) (rest part following : List ℕ) → part ≡ take n rest → following ≡ drop n rest → rest ≡ part ++ following
split n rest part following front back =
    sym (take-append-drop n rest) ∙ ap (λ (z : List ℕ). z ++ drop n rest) (sym front) ∙ ap (λ (z : List ℕ). part ++ z) (sym back)

pub parts-preserved : goal.parts-preserved
parts-preserved c =
    let inv = c.parts.invariant in
    let part = c.split_at.result.0.now in
    let following = c.split_at.result.1.now in
    let is = split c.min.result c.parts.rest.now part following c.split_at.ensures.front c.split_at.ensures.back in
    let now = c.in_ok-feed_part.ensures in
    record {
      front = inv.front ++ part;
      piece = inv.piece ∙ ap (λ (z : List ℕ). inv.front ++ z) is ∙ sym (append_assoc inv.front part following);
      going = now.going;
      fed = λ stream told messages h.
          fed_more c.args.self.now c.parts.self c.feed_part.new.self stream inv.front part told messages (inv.fed stream told messages h) (λ s t ms k. now.goes s t ms k);
      kept = kept_again c.args.self.now c.parts.self c.feed_part.new.self inv.kept now.kept;
    }

pub returns-in_err-feed_part-clause-kept : goal.returns-in_err-feed_part-clause-kept
returns-in_err-feed_part-clause-kept c = kept_again c.args.self.now c.parts.self c.feed_part.new.self c.parts.invariant.kept c.in_err-feed_part.ensures.kept

pub returns-in_err-feed_part-clause-faults : goal.returns-in_err-feed_part-clause-faults
returns-in_err-feed_part-clause-faults c =
    let p = err_from_is_err_and c.from_residual.result c.from_residual.ensures.1 in
    let inv = c.parts.invariant in
    let part = c.split_at.result.0.now in
    let following = c.split_at.result.1.now in
    let is = split c.min.result c.parts.rest.now part following c.split_at.ensures.front c.split_at.ensures.back in
    let all = inv.piece ∙ ap (λ (z : List ℕ). inv.front ++ z) is in
    let f = c.in_err-feed_part.field-0.0 in
    rw (p.1, p.2) (λ going stream told messages h.
    subst (λ (z : List ℕ). Stopped c.args.self.now c.feed_part.new.self (stream ++ z) messages told f) (sym all)
    (fed_stopped c.args.self.now c.parts.self c.feed_part.new.self stream inv.front part following told messages f (inv.fed stream told messages h)
    (λ s t ms k. c.in_err-feed_part.ensures.faults s t ms k)))

pub returns-clause-goes : goal.returns-clause-goes
returns-clause-goes c = grind (arith, common_steps)
