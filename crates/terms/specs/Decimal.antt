-- Decimal numbers in text.
use Rattle.std.specs.Prelude.{ℕ, ◌+◌, ◌*◌, ◌-◌, ◌^◌, ◌&&◌, nat_lt, List, [], ◌∷◌, length, Option, Some, None, if◌then◌else◌}
use Rattle.std.specs.List.{list_all}
use Rattle.std.specs.Char.{is_ascii_digit}

-- the value of decimal digits, the first of them the greatest
abbrev pub decimal : List ℕ → ℕ
decimal [] = 0
decimal (digit ∷ digits) = (digit - 48) * 10 ^ length digits + decimal digits

-- the number below a limit that bytes write, in decimal digits alone, one or more
abbrev pub number_of : ℕ → List ℕ → Option ℕ
number_of limit [] = None
number_of limit (digit ∷ digits) =
    if list_all is_ascii_digit (digit ∷ digits) && nat_lt (decimal (digit ∷ digits)) limit then Some (decimal (digit ∷ digits)) else None
