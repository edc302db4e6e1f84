use Rattle.std.proofs.Common.{rules, arith}
use Rattle.broadcast.proofs.desk.Desk.next_part.Goals as goal

pub end-position-requires : goal.end-position-requires
end-position-requires g c = omega (arith, c.in_ok-slice.ensures.within, c.known.ensures.small)

pub returns-clause-step : goal.returns-clause-step
returns-clause-step c = search rules

pub returns-clause-goes_on : goal.returns-clause-goes_on
returns-clause-goes_on c = search rules

pub returns-clause-sized : goal.returns-clause-sized
returns-clause-sized c = search rules

pub returns-clause-within : goal.returns-clause-within
returns-clause-within c = search rules

pub returns-clause-stands : goal.returns-clause-stands
returns-clause-stands c = search rules

pub returns-clause-handed : goal.returns-clause-handed
returns-clause-handed c = search rules

pub returns-clause-held : goal.returns-clause-held
returns-clause-held c = search rules

pub returns-clause-only : goal.returns-clause-only
returns-clause-only c = search rules
