-- What is so if something is done next.
use Rattle.std.proofs.Common.{◌≡◌, ◌⊎◌, true, refl, inl, inr}
use Rattle.showing.specs.declared.situation.Situation.{Situation}
use Rattle.showing.specs.declared.next.Next.{Next}
use Rattle.showing.specs.declared.next.Next.TheVariants.{Want, Wait, WaitUntilAsked, HoldBack, Newest, Seek, Begin, Sleep, Show, Rest, Stop}
use Rattle.showing.specs.Table.{table, next_of, most, has_all, is_stopped, is_unread, starts_at_newest, starts_at_position, is_awaited, leaps_now, is_held_back, comes_on, takes_one, keeps_up, lacks_none, coming_by}
use Rattle.showing.proofs.OneRow.{say}
use Rattle.showing.proofs.Rows.{one_row}

-- which row applies if this is done next
abbrev pub Says : Situation → Next → Type 0
Says s Rest = has_all s ≡ true
Says s Stop = is_stopped s ≡ true
Says s Newest = (is_unread s ≡ true) ⊎ ((starts_at_newest s ≡ true) ⊎ (leaps_now s ≡ true))
Says s (Want limit) = ((starts_at_position s ≡ true) × (limit ≡ 0)) ⊎ (((comes_on s ≡ true) × (limit ≡ coming_by s))
    ⊎ (((takes_one s ≡ true) × (limit ≡ 1)) ⊎ ((keeps_up s ≡ true) × (limit ≡ most))))
Says s WaitUntilAsked = is_awaited s ≡ true
Says s HoldBack = is_held_back s ≡ true
Says s Wait = lacks_none s ≡ true
Says s (Seek count) = ⊥
Says s Begin = ⊥
Says s (Sleep time) = ⊥
Says s Show = ⊥

pub says : (s : Situation) → Says s (next_of s)
says s = say (Says s) (table s) (one_row s) (
  λ e. e,
  (
    λ e. e,
    (
      λ e. inl e,
      (
        λ e. inr (inl e),
        (
          λ e. inl (e, refl),
          (
            λ e. e,
            (
              λ e. inr (inr e),
              (
                λ e. e,
                (λ e. inr (inl (e, refl)), (λ e. inr (inr (inl (e, refl))), (λ e. inr (inr (inr (e, refl))), (λ e. e, tt)))),
              ),
            ),
          ),
        ),
      ),
    ),
  ),
)
