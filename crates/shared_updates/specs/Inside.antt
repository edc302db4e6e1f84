-- Areas inside others.
use Rattle.std.specs.Prelude.{◌+◌, ◌≤◌}
use Rattle.terms.specs.declared.area.Area.{Area}

-- the area lies in another, by its four edges
pub record LiesInside (area outer : Area) : Type 0 where
  pub left : outer.x ≤ area.x
  pub right : area.x + area.w ≤ outer.x + outer.w
  pub top : outer.y ≤ area.y
  pub bottom : area.y + area.h ≤ outer.y + outer.h
