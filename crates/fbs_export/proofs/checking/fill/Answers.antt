use Rattle.std.proofs.Common.{◌+◌, ◌-◌, length, take, refl, rules, arith}
use Rattle.std.proofs.lemmas.Grind.{common_steps}
use Rattle.std.proofs.KnownBytes.{Consumes-trans}
use Rattle.std.proofs.lemmas.Slice.{take-put_mid}
use Rattle.fbs_export.proofs.Filling.{filled_part}
use Rattle.fbs_export.proofs.checking.fill.Goals as goal

pub loop-filled-preserved : goal.loop-filled-preserved
loop-filled-preserved g c =
    let inv = c.loop-filled.invariant in
    let n = c.in-Ok.n in
    let buffer = c.loop-filled.buffer in
    let filled = c.loop-filled.filled in
    let new = c.read.new.buf in
    record {
      within = search rules;
      size = search rules;
      read = rw (filled_part filled buffer new _ n (take-put_mid filled (length buffer - filled) buffer new (filled + length new) refl inv.within) inv.within c.in-Ok.ensures.bound.0)
          (Consumes-trans _ _ _ (take filled buffer) (take n new) inv.read c.in-Ok.ensures.bytes.0);
    }

pub returns-then-n-eq0-clause-read : goal.returns-then-n-eq0-clause-read
returns-then-n-eq0-clause-read g c = grind (arith, common_steps)
