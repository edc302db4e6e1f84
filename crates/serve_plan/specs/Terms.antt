-- How long a recorder goes on.
use Rattle.std.specs.Prelude.{Bool, ◌&&◌, ◌||◌, is_some, not}
use Rattle.serve_plan.specs.declared.plan.Plan.{Plan}

-- there is a host, and its end is the recorder's: as long as no browser may stay, or if that is asked for
abbrev pub is_over_with_host : Plan → Bool
is_over_with_host plan = is_some plan.host && (plan.ends_with_host || not (is_some plan.web))
