-- A table of which one row applies says what that row does.
use Rattle.std.proofs.Common.{◌≡◌, Bool, true, false, List, [], ◌∷◌, refl, arith}
use Rattle.std.specs.Prelude.{if◌then◌else◌}
use Rattle.showing.specs.declared.next.Next.{Next}
use Rattle.showing.specs.Table.{Row, applying, said_by}

-- of what each row does this is so, if it applies
abbrev pub AllSay : (Next → Type 0) → List Row → Type 0
AllSay P [] = Unit {0}
AllSay P (r ∷ rows) = (r.applies ≡ true → P r.next) × AllSay P rows

row_says : (P : Next → Type 0) (applies : Bool) (next : Next) (rows : List Row) → applying (record { applies = applies; next = next } ∷ rows) ≡ 1
    → (applies ≡ true → P next) → (applying rows ≡ 1 → P (said_by rows)) → P (if applies then next else said_by rows)
row_says P true next rows one here later = here refl
row_says P false next rows one here later = later one

pub say : (P : Next → Type 0) (rows : List Row) → applying rows ≡ 1 → AllSay P rows → P (said_by rows)
say P [] one each = absurd (omega arith)
say P (r ∷ rows) one each = row_says P r.applies r.next rows one each.0 (λ o. say P rows o each.1)
