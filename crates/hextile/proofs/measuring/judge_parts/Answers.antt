use Rattle.std.proofs.Common.{◌≡◌, ◌+◌, ◌∙◌, ◌++◌, inr, suc, true, false, length, sym, ap, arith, append_assoc}
use Rattle.std.proofs.lemmas.Grind.{common_steps}
use Rattle.std.proofs.lemmas.List.{length-append}
use Rattle.hextile.specs.Grammar.{subrectangle_bytes, subrectangle_of, is_inside}
use Rattle.hextile.specs.Measuring.{width_of, height_of}
use Rattle.hextile.proofs.Steps.{parts_inside, parts_outside, parts_of}
use Rattle.hextile.proofs.measuring.judge_parts.Goals as goal

pub returns-then-not-is_part_inside-clause-refused : goal.returns-then-not-is_part_inside-clause-refused
returns-then-not-is_part_inside-clause-refused c =
    let f = c.args.format.now in
    let tile = c.args.tile in
    let i = c.loop-left.invariant in
    let part = c.split_at.result.0.now in
    let following = c.split_at.result.1.now in
    let whole : length part ≡ subrectangle_bytes f c.args.colored = c.split_at.ensures.front_len ∙ ap (λ n. n + 2) c.pixel_size-size.ensures.size in
    let outside : is_inside (width_of tile) (height_of tile) (subrectangle_of f c.args.colored part) ≡ false =
    rw (← c.area-area.ensures.width, ← c.area-area.ensures.height) (sym c.is_part_inside.ensures ∙ c.if-not-is_part_inside.true) in
    let is : c.loop-left.rest.now ≡ part ++ following = parts_of _ c.loop-left.rest.now part following c.split_at.ensures.front c.split_at.ensures.back in
    parts_outside f tile c.args.colored (suc c.args.others) c.loop-left.left i.front part following c.args.bytes.now
    i.same (i.bytes_are ∙ ap (λ z. i.front ++ z) is) (omega arith) whole outside

pub loop-left-preserved : goal.loop-left-preserved
loop-left-preserved c =
    let f = c.args.format.now in
    let tile = c.args.tile in
    let i = c.loop-left.invariant in
    let part = c.split_at.result.0.now in
    let following = c.split_at.result.1.now in
    let whole : length part ≡ subrectangle_bytes f c.args.colored = c.split_at.ensures.front_len ∙ ap (λ n. n + 2) c.pixel_size-size.ensures.size in
    let inside : is_inside (width_of tile) (height_of tile) (subrectangle_of f c.args.colored part) ≡ true =
    rw (← c.area-area.ensures.width, ← c.area-area.ensures.height) (sym c.is_part_inside.ensures ∙ c.if-not-is_part_inside.false) in
    let is : c.loop-left.rest.now ≡ part ++ following = parts_of _ c.loop-left.rest.now part following c.split_at.ensures.front c.split_at.ensures.back in
    let size : length c.args.bytes.now ≡ length i.front + length c.loop-left.rest.now = ap length i.bytes_are ∙ length-append i.front c.loop-left.rest.now in
    record {
      front = i.front ++ part;
      bytes_are = i.bytes_are ∙ ap (λ z. i.front ++ z) is ∙ sym (append_assoc i.front part following);
      same = parts_inside f tile c.args.colored (suc c.args.others) c.loop-left.left i.front part i.same (omega arith) whole inside;
      first = inr (omega (arith, whole, size, c.split_at.ensures.back_len));
      fewer = omega arith;
    }

pub returns-clause-goes : goal.returns-clause-goes
returns-clause-goes c = grind (arith, common_steps)
