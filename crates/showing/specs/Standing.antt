-- What a viewer is shown next that stands still at one position.
use Rattle.std.specs.Prelude.{ℕ, Bool, true, false, if◌then◌else◌, ◌-◌, min, ◌||◌, nat_lt}
use Rattle.showing.specs.declared.next.Next.{Next}
use Rattle.showing.specs.declared.next.Next.TheVariants.{Want, Sleep, Stop}
use Rattle.showing.specs.declared.stillness.Stillness.{Stillness}

-- nothing once it is over; then the screen, what lies before its position, and the moment itself
abbrev pub next_of : Stillness → Next
next_of s =
    if s.is_over || s.is_closing then Stop else
    (if s.is_fresh then Want 0 else
    (if nat_lt s.position s.at then Want (min (s.at - s.position) 256) else Sleep 60000))
