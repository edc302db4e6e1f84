use Rattle.std.proofs.Common.{◌≡◌, ◌∙◌, ◌++◌, ℕ, List, ap, subst}
use Rattle.std.specs.Prelude.{IfErr, ◌⊎◌}
use Rattle.websocket.specs.Connection.{Connection}
use Rattle.web_frames.specs.declared.fault.Fault.TheVariants.{NoMemory}
use Rattle.web_frames.specs.Frames.{Reader, StopsAt}
use Rattle.web_frames.proofs.frames.Frames.take_piece.Goals as goal

pub returns-clause-stops : goal.returns-clause-stops
returns-clause-stops c =
    let whole : c.extend_from_slice.new.self.items ≡ c.args.self.now.rest ++ c.args.piece.now = c.in_ok-extend_from_slice.ensures.items ∙ ap (λ (r : Reader). r.rest ++ c.args.piece.now) c.self.view_is in
    let conn : c.self.inside.context ≡ c.args.self.now.conn = ap (λ (r : Reader). r.conn) c.self.view_is in
    subst (λ (z : List ℕ). IfErr c.take_frames.result (λ f. (f ≡ NoMemory) ⊎ StopsAt c.args.self.now.conn z c.args.heard.now c.take_frames.new.heard f)) whole
    (subst (λ (k : Connection). IfErr c.take_frames.result (λ f. (f ≡ NoMemory) ⊎ StopsAt k c.extend_from_slice.new.self.items c.args.heard.now c.take_frames.new.heard f)) conn c.take_frames.ensures.stops)
