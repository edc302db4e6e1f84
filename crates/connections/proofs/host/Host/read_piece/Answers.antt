use Rattle.connections.proofs.host.Host.read_piece.Goals as goal

pub returns-clause-read : goal.returns-clause-read
returns-clause-read c bytes given h = let r = c.read_from.ensures.given bytes given (rw (← c.self.view_is) at h) in (r.0, r.1)
