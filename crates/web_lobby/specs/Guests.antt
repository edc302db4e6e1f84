-- Which of the connections that are served are meant.
use Rattle.std.specs.Prelude.{ℕ, ◌+◌, ◌==◌, nat_le, Bool, true, false}
use Rattle.web_lobby.specs.declared.guests.Guest.{Guest}
use Rattle.web_lobby.specs.declared.guests.Progress.{Progress}
use Rattle.web_lobby.specs.declared.guests.Progress.TheVariants.{Asking, Answered, Over}

-- how many are served at a time
abbrev pub most : ℕ
most = 128

-- for how many milliseconds one may say nothing
abbrev pub patience : ℕ
patience = 1000

-- it has this number
abbrev pub has_number : ℕ → Guest → Bool
has_number number g = g.number == number

-- one that came so far, and of which something came at this time last, gives way to another now
abbrev pub is_given_up : ℕ → ℕ → Progress → Bool
is_given_up now heard Asking = nat_le (heard + patience) now
is_given_up now heard Answered = false
is_given_up now heard Over = true

-- it gives way: nothing came from it for so long before its request was whole, or its answer is written
abbrev pub gives_way : ℕ → Guest → Bool
gives_way now g = is_given_up now g.heard g.progress
