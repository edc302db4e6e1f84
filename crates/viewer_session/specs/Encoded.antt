-- With which colours, and in which encoding, a viewer is answered.
use Rattle.std.specs.Prelude.{ℕ, List}
use Rattle.terms.specs.declared.area.Area.{Area}
use Rattle.shared_updates.specs.Updates.{IsUpdateOf}
use Rattle.viewer_session.specs.declared.view.View.{View}

-- the update is written for one who asked for the view's encoding
pub record IsEncodedFor (v : View) (update : List ℕ) : Type 0 where
  pub areas : List Area
  pub is : IsUpdateOf v.format v.encoding v.screen v.copies areas update
