-- When the messages of a recording are due to one who watches it in its own time.
use Rattle.std.specs.Prelude.{ℕ, ◌-◌, ◌+◌, ◌*◌, ◌≤◌, ◌<◌, min, Option, None, Some, List, [], ◌∷◌}

-- how fast it is played, in thousandths of its own time: from a tenth to a hundredfold
pub record IsPace (thousandths : ℕ) : Type 0 where
  pub slowest : 100 ≤ thousandths
  pub fastest : thousandths ≤ 100000

-- of a pause no more counts than the longest
abbrev pub shortened : Option ℕ → ℕ → ℕ
shortened None pause = pause
shortened (Some longest) pause = min longest pause

-- how many milliseconds of the recording are played until the last of these times, from a time on
abbrev pub played : Option ℕ → ℕ → List ℕ → ℕ
played longest from [] = 0
played longest from (time ∷ times) = shortened longest (time - from) + played longest time times

-- The first millisecond of playing in which so much of the recording is played: not before its time,
-- and no later.
pub record IsDue (thousandths much due : ℕ) : Type 0 where
  pub not_before : much * 1000 ≤ due * thousandths
  pub no_later : (earlier : ℕ) → earlier < due → earlier * thousandths < much * 1000

-- what a timetable keeps: the pace in thousandths, the longest pause, the time of the message before
-- and how many milliseconds of the recording are played until that
pub record Timetable : Type 0 where
  pub pace : ℕ
  pub longest : Option ℕ
  pub last : ℕ
  pub played : ℕ
