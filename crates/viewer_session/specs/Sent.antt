-- What becomes of an update of a view's stale pixels.
use Rattle.std.specs.Prelude.{◌≡◌, ℕ, List, []}
use Rattle.terms.specs.Appending.{Appends}
use Rattle.terms.specs.declared.area.Area.{Area}
use Rattle.pixel_sets.specs.Pixels.{AreSent}
use Rattle.viewer_session.specs.declared.view.View.{View}
use Rattle.shared_updates.specs.Updates.{IsUpdateOf}

-- there is no copy and no pixel to be sent, and nothing is written
pub record IsNothing (v : View) (pending : Area) (before after : List ℕ) : Type 0 where
  pub copies_are : v.copies ≡ []
  pub sent : AreSent v.stale pending []
  pub after_is : after ≡ before

-- an update of the copies, and of the areas by which pixels are sent
pub record IsSent (v : View) (pending : Area) (areas : List Area) (before after : List ℕ) : Type 0 where
  pub sent : AreSent v.stale pending areas
  -- there is a copy, or an area
  pub some : v.copies ≡ [] → areas ≡ [] → ⊥
  pub written : Appends (IsUpdateOf v.format v.encoding v.screen v.copies areas) before after
