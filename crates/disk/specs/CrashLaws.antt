-- Each fill leaves a file that the rules allow.
use Rattle.std.specs.Prelude.{◌≡◌, ℕ, List, slice_index, refl, if◌then◌else◌}
use Rattle.std.proofs.Common.{arith, sym, ap, ◌∙◌, subst}
use Rattle.disk.specs.Contents.{Contents, MayLeave, Agrees}
use Rattle.disk.specs.Crash.{IsLeft}
use Rattle.disk.specs.declared.memory.crash.Fill.{Fill}
use Rattle.disk.specs.declared.memory.crash.Fill.TheVariants.{Held, Now, Byte}

pub MayLeave-left : (fill : Fill) (c : Contents) (file : List ℕ) → Agrees c → IsLeft fill c file → MayLeave c file
MayLeave-left Held c file agrees left =
    subst (MayLeave c) (sym left) (record { no_shorter = omega arith; no_longer = omega (arith, agrees.no_shorter); untouched = λ p l e. refl })
MayLeave-left Now c file agrees left = subst (MayLeave c) (sym left) agrees
MayLeave-left (Byte byte) c file agrees left = record {
  no_shorter = omega (arith, agrees.no_shorter, left.same_length);
  no_longer = omega (arith, left.same_length);
  untouched = λ p l e.
      let here : slice_index file p ≡ (if c.touched p then byte else slice_index c.now p) = left.each p (omega (arith, agrees.no_shorter)) in
      here ∙ ap (λ t. if t then byte else slice_index c.now p) e ∙ agrees.untouched p l e;
}
