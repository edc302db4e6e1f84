-- What a token names.
use Rattle.atomic_table.specs.Seated.{TableId}
use Rattle.logbook.specs.Pages.{Book}

-- the history that receipts and tickets speak of, the cell of their numbers, and those of how many
-- messages were accepted, and committed
pub record Names : Type 0 where
  pub book : Book
  pub table : TableId
  pub accepted : TableId
  pub committed : TableId
