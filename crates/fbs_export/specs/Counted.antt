-- What a file says, its messages counted.
use Rattle.std.specs.Prelude.{◌≡◌, ℕ, List, length}
use Rattle.fbs_export.specs.declared.summary.Counted.{Counted}
use Rattle.fbs_export.specs.Summary.{Said, IsSummary}

-- The file says this, and these are its size, how many messages it has, and its rest.
pub record IsCounted (file : List ℕ) (c : Counted) : Type 0 where
  pub said : Said
  pub is : IsSummary file said
  pub width_is : c.size.width ≡ said.opening.width
  pub height_is : c.size.height ≡ said.opening.height
  pub count : c.messages ≡ length said.messages
  pub rest_is : c.rest ≡ said.rest
