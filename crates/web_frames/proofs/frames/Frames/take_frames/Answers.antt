use Rattle.std.proofs.Common.{◌+◌, ◌∙◌, ap, subst, arith, length}
use Rattle.web_frames.specs.Frames.{Reader, IsServers}
use Rattle.web_frames.proofs.Runs.{run_none, run_next, run_all, run_waits, run_stops}
use Rattle.web_frames.proofs.frames.Frames.take_frames.Goals as goal

pub loop-taken-init : goal.loop-taken-init
loop-taken-init c = (run_none c.args.self.now c.args.heard.now (subst (λ (r : Reader). IsServers r.conn) c.self.view_is c.self.invariant), c.len-most.ensures ∙ c.self.inside.rest.ok.0 ∙ ap (λ (r : Reader). length r.rest) c.self.view_is)

pub returns-in-Ok-false-clause-goes : goal.returns-in-Ok-false-clause-goes
returns-in-Ok-false-clause-goes c =
    run_waits c.loop-taken._taken c.len-most.result c.args.self.now c.loop-taken.self c.take_frame.new.self _ _ _ c.in-Ok-false.field-0
    c.loop-taken.invariant.0 c.loop-taken-test.true c.loop-taken.invariant.1 c.in-Ok-false.ensures.steps c.in-Ok-false.field-0-test

pub returns-in-Err-clause-stops : goal.returns-in-Err-clause-stops
returns-in-Err-clause-stops c =
    run_stops c.loop-taken._taken c.args.self.now c.loop-taken.self _ _ _ c.in-Err.fault c.loop-taken.invariant.0 c.in-Err.ensures.refused

pub loop-taken-preserved : goal.loop-taken-preserved
loop-taken-preserved c = (
  run_next c.loop-taken._taken c.args.self.now c.loop-taken.self c.take_frame.new.self _ _ _ c.in-Ok-true.field-0
      c.loop-taken.invariant.0 c.in-Ok-true.ensures.steps c.in-Ok-true.field-0-test c.in-Ok-true.ensures.fault,
  c.loop-taken.invariant.1,
)

pub returns-in-Ok-true-clause-goes : goal.returns-in-Ok-true-clause-goes
returns-in-Ok-true-clause-goes c =
    run_all (c.loop-taken._taken + 1) c.len-most.result c.args.self.now c.take_frame.new.self _ _
    (run_next c.loop-taken._taken c.args.self.now c.loop-taken.self c.take_frame.new.self _ _ _ c.in-Ok-true.field-0
    c.loop-taken.invariant.0 c.in-Ok-true.ensures.steps c.in-Ok-true.field-0-test c.in-Ok-true.ensures.fault) (omega arith) c.loop-taken.invariant.1
