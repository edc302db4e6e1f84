-- How people write a moment of a recording, and what each spelling means, in milliseconds.
use Rattle.std.specs.Prelude.{ℕ, ◌+◌, ◌*◌, ◌-◌, ◌^◌, ◌==◌, ◌<◌, nat_lt, List, [], ◌∷◌, length, take, drop, Option, Some, None, option_and_then, option_map, position, if◌then◌else◌}
use Rattle.terms.specs.Decimal.{number_of}

infixl 10 ◌>>=◌
abbrev pub ◌>>=◌ : {A B : Type 0} → Option A → (A → Option B) → Option B
o >>= f = option_and_then f o

-- what stands before the first such byte, and after it
abbrev pub parted : ℕ → List ℕ → Option (List ℕ × List ℕ)
parted mark word = option_map (λ at. (take at word, drop (at + 1) word)) (position (λ byte. byte == mark) word)

-- a number in digits
abbrev pub number : List ℕ → Option ℕ
number word = number_of (2 ^ 32) word

-- two digits, below sixty
abbrev pub sixtieths : List ℕ → Option ℕ
sixtieths word = if length word == 2 then number_of 60 word else None

-- the digits after a point, in thousandths: one to three
abbrev pub thousandths : List ℕ → Option ℕ
thousandths word =
    if length word == 1 then option_map (λ tenths. tenths * 100) (number word)
    else if length word == 2 then option_map (λ hundredths. hundredths * 10) (number word)
    else if length word == 3 then number word
    else None

abbrev pub with_thousandths : (List ℕ → Option ℕ) → List ℕ → Option (List ℕ × List ℕ) → Option ℕ
with_thousandths whole word None = option_map (λ seconds. seconds * 1000) (whole word)
with_thousandths whole word (Some parts) = do
  seconds ← whole parts.0
  rest ← thousandths parts.1
  Some (seconds * 1000 + rest)

-- seconds, with a point or without, in milliseconds; whole says what their whole part may be
abbrev pub seconds_by : (List ℕ → Option ℕ) → List ℕ → Option ℕ
seconds_by whole word = with_thousandths whole word (parted 46 word)

abbrev pub after_colon : List ℕ → List ℕ → Option (List ℕ × List ℕ) → Option ℕ
after_colon front rest None = do
  minutes ← number front
  milliseconds ← seconds_by sixtieths rest
  Some (minutes * 60000 + milliseconds)
after_colon front rest (Some parts) = do
  hours ← number front
  minutes ← sixtieths parts.0
  milliseconds ← seconds_by sixtieths parts.1
  Some (hours * 3600000 + minutes * 60000 + milliseconds)

-- M:SS or H:MM:SS, with thousandths after a point or without; front stands before the first colon,
-- rest after it
abbrev pub clock : List ℕ → List ℕ → Option ℕ
clock front rest = after_colon front rest (parted 58 rest)

abbrev pub without_unit : List ℕ → Option (List ℕ × List ℕ) → Option ℕ
without_unit word None = number word
without_unit word (Some parts) = clock parts.0 parts.1

abbrev pub by_unit : List ℕ → Option (List ℕ × List ℕ) → Option ℕ
by_unit word None = without_unit word (parted 58 word)
by_unit word (Some parts) = if length parts.1 == 0 then seconds_by number parts.0 else None

-- what a word means: `61210` milliseconds, `61.2s` seconds, `1:01.2` minutes and seconds, or `1:02:03` hours, minutes and seconds
abbrev pub milliseconds : List ℕ → Option ℕ
milliseconds word = by_unit word (parted 115 word)

abbrev pub below : ℕ → Option ℕ → Option ℕ
below limit None = None
below limit (Some n) = if nat_lt n limit then Some n else None

-- the moment that a word names: what it means, if a recording has such a time
abbrev pub moment_of : List ℕ → Option ℕ
moment_of word = below (2 ^ 32) (milliseconds word)
