-- What a drill takes a crash to leave, of all that the rules allow.
use Rattle.std.specs.Prelude.{Bool, IsTrue, ◌≡◌, ◌⊎◌, ◌-◌, ℕ, ◌<◌, List, length, slice_index, if◌then◌else◌}
use Rattle.disk.specs.Contents.{Contents}
use Rattle.disk.specs.History.{History, present}
use Rattle.disk.specs.declared.memory.crash.Fill.{Fill}
use Rattle.disk.specs.declared.memory.crash.Fill.TheVariants.{Held, Now, Byte}

-- what reads gave, with this byte at each touched offset
pub record IsOverwritten (byte : ℕ) (c : Contents) (file : List ℕ) : Type 0 where
  pub same_length : length file ≡ length c.now
  pub each : (p : ℕ) → p < length c.now → slice_index file p ≡ (if c.touched p then byte else slice_index c.now p)

-- what each fill leaves of these contents
abbrev pub IsLeft : Fill → Contents → List ℕ → Type 0
IsLeft Held c file = file ≡ c.held
IsLeft Now c file = file ≡ c.now
IsLeft (Byte byte) c file = IsOverwritten byte c file

-- the same of the present moment, or of the one before it, if the present one is a write that a
-- stop met
abbrev pub IsLeftAfter : Fill → History → Bool → List ℕ → Type 0
IsLeftAfter fill h ends_in_stopped_write file =
    IsLeft fill (present h) file ⊎ (IsTrue ends_in_stopped_write × IsLeft fill (h.at (h.moment - 1)) file)
