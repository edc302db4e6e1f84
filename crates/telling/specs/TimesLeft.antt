-- What is left of a recording's times.
use Rattle.std.specs.Prelude.{ℕ, ◌-◌, ◌^◌, ◌==◌, nat_le, if◌then◌else◌, Option, None, Some}
use Rattle.telling.specs.declared.times_left.TimesLeft.{TimesLeft}
use Rattle.telling.specs.declared.times_left.TimesLeft.TheVariants.{Day, Nothing}

-- the last time that a message may have, in milliseconds
abbrev pub last_time : ℕ
last_time = 2 ^ 32 - 1

-- what is told of what is left at a time: nothing before the last day
abbrev pub left_at : ℕ → Option TimesLeft
left_at time = if time == last_time then Some Nothing else if nat_le (last_time - 86400000) time then Some Day else None
