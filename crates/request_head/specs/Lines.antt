-- What the first line of bytes tells of a request before all of its head is there.
use Rattle.std.specs.Prelude.{ℕ, Bool, true, false, ◌&&◌, ◌||◌, ◌==◌, nat_lt, List, [], ◌∷◌, take, codes, bytes_eq, if◌then◌else◌}

-- the line that begins so is of ASCII, as far as it is there
abbrev pub is_plain_line : List ℕ → Bool
is_plain_line [] = true
is_plain_line (byte ∷ bytes) = byte == 10 || (nat_lt byte 128 && is_plain_line bytes)

-- the first line that isn't empty is of ASCII, as far as it is there
abbrev pub is_plain_start : List ℕ → Bool
is_plain_start [] = true
is_plain_start (byte ∷ bytes) = if byte == 13 || byte == 10 then is_plain_start bytes else is_plain_line (byte ∷ bytes)

-- the line that begins so is of the method HEAD
abbrev pub is_line_of_head : List ℕ → Bool
is_line_of_head bytes = bytes_eq (take 5 bytes) (codes "HEAD ")

-- the first line that isn't empty is of the method HEAD
abbrev pub begins_with_head : List ℕ → Bool
begins_with_head [] = false
begins_with_head (byte ∷ bytes) = if byte == 13 || byte == 10 then begins_with_head bytes else is_line_of_head (byte ∷ bytes)
