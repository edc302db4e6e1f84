-- What a viewer asks for by a text: a JSON object of one member (RFC 8259), without white space.
use Rattle.std.specs.Prelude.{◌≡◌, ◌==◌, ◌&&◌, ℕ, ◌^◌, Bool, true, false, nat_lt, List, ◌++◌, codes, length, slice_index, Option, None, Some, if◌then◌else◌}
use Rattle.terms.specs.Decimal.{number_of}
use Rattle.playing.specs.Playing.{IsPace}
use Rattle.web_target.specs.declared.asked.Order.{Order}
use Rattle.web_target.specs.declared.asked.Order.TheVariants.{At, After, Pace, LongestPause, Pause, Live}

-- a zero stands before further digits
abbrev pub leads_with_zero : List ℕ → Bool
leads_with_zero digits = nat_lt 1 (length digits) && (slice_index digits 0 == 48)

-- the number below a limit that bytes write in JSON: natural, without a zero before it (section 6)
abbrev pub json_number : ℕ → List ℕ → Option ℕ
json_number limit digits = if leads_with_zero digits then None else number_of limit digits

-- an object whose member's value is this number, which is below a limit
abbrev pub IsNumbered : List ℕ → ℕ → ℕ → List ℕ → Type 0
IsNumbered front limit number text =
    (digits : List ℕ) × (text ≡ front ++ (digits ++ codes "}")) × (json_number limit digits ≡ Some number)

-- an order that has a number
abbrev pub IsCounted : Order → List ℕ → Type 0
IsCounted (At time) text = IsNumbered (codes "{\"at\":") (2 ^ 32) time text
IsCounted (After count) text = IsNumbered (codes "{\"message\":") (2 ^ 64) count text
IsCounted (Pace pace) text = IsNumbered (codes "{\"pace\":") (2 ^ 32) pace text × IsPace pace
IsCounted (LongestPause None) text = ⊥
IsCounted (LongestPause (Some time)) text = IsNumbered (codes "{\"longest-pause\":") (2 ^ 32) time text
IsCounted (Pause _) text = ⊥
IsCounted Live text = ⊥

-- The text gives this order.
abbrev pub IsOrder : Order → List ℕ → Type 0
IsOrder (At time) text = IsCounted (At time) text
IsOrder (After count) text = IsCounted (After count) text
IsOrder (Pace pace) text = IsCounted (Pace pace) text
IsOrder (LongestPause None) text = text ≡ codes "{\"longest-pause\":null}"
IsOrder (LongestPause (Some time)) text = IsCounted (LongestPause (Some time)) text
IsOrder (Pause true) text = text ≡ codes "{\"pause\":true}"
IsOrder (Pause false) text = text ≡ codes "{\"pause\":false}"
IsOrder Live text = text ≡ codes "{\"live\":true}"
