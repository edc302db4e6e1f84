-- What is left of a disk whose newest write was perhaps taken back.
use Rattle.std.specs.Prelude.{Bool, IsTrue, ◌≡◌, ◌⊎◌, ℕ, List}
use Rattle.std.proofs.Common.{sym, subst, inl, inr}
use Rattle.disk.specs.Contents.{Contents, MayLeave}
use Rattle.disk.specs.History.{present}
use Rattle.disk.specs.Memory.{Kept, IsTakenBack, history_of}
use Rattle.disk.specs.MemoryLaws.{MayLeave-taken_back, present-taken_back}
use Rattle.disk.specs.Crash.{IsLeft, IsLeftAfter}
use Rattle.disk.specs.declared.memory.crash.Fill.{Fill}

pub allowed_after : (old new : Kept) (file : List ℕ) → (new ≡ old) ⊎ IsTakenBack old new → MayLeave (present (history_of new)) file → MayLeave (present (history_of old)) file
allowed_after old new file (inl same) left =
    let P : Kept → Type 0 = λ kept. MayLeave (present (history_of kept)) file in
    subst P same left
allowed_after old new file (inr back) left = MayLeave-taken_back old new file back left

pub filled_after : (fill : Fill) (old new : Kept) (ends : Bool) (file : List ℕ) → IsTrue ends → (new ≡ old) ⊎ IsTakenBack old new → IsLeft fill (present (history_of new)) file → IsLeftAfter fill (history_of old) ends file
filled_after fill old new ends file stopped (inl same) left =
    let P : Kept → Type 0 = λ kept. IsLeft fill (present (history_of kept)) file in
    inl (subst P same left)
filled_after fill old new ends file stopped (inr back) left =
    let P : Contents → Type 0 = λ c. IsLeft fill c file in
    inr (stopped, subst P (sym (present-taken_back old new back)) left)
