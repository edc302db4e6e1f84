-- What a viewer's sink wants, and its position then.
use Rattle.std.specs.Prelude.{ℕ, Bool, true}
use Rattle.book_workers.specs.declared.parties.ViewerWish.{ViewerWish}
use Rattle.book_workers.specs.declared.parties.ViewerWish.TheVariants.{Want, Wait, Seek, Newest, Stop}

-- the position of a viewer's sink after its wish, and whether it is handed a start there next; at
-- Newest it is told its position
abbrev pub position_after : ViewerWish → ℕ → ℕ
position_after (Want limit) position = position
position_after Wait position = position
position_after (Seek n) position = n
position_after Newest position = position
position_after Stop position = position

abbrev pub fresh_after : ViewerWish → Bool → Bool
fresh_after (Want limit) fresh = fresh
fresh_after Wait fresh = fresh
fresh_after (Seek n) fresh = true
fresh_after Newest fresh = fresh
fresh_after Stop fresh = fresh
