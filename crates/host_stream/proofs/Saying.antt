-- What is due to a host and is put out changes nothing of what its stream holds.
use Rattle.std.proofs.Common.{◌≡◌, ℕ, List, [], ◌++◌, Option, None, Some, sym, subst, append-nil}
use Rattle.std.specs.Io.KnownBytes.{Keeps, Consumes}
use Rattle.rfb_wire.specs.Host.{Host}
use Rattle.host_session.specs.declared.fault.HostFault.{HostFault}
use Rattle.host_session.specs.Fault.{UnlessMemory}
use Rattle.host_session.specs.Session.{Session, Stands, EndsAfter, expected_of}
use Rattle.host_stream.specs.declared.end.HostEnd.{HostEnd}
use Rattle.host_stream.specs.Streams.{Holds, HasGiven, Stream}

-- the session after what is due was put out
abbrev pub quiet : Session → Session
quiet s = record { format = s.format; expected = s.expected; position = s.position; kept = s.kept; reader = s.reader; due = []; fault = s.fault }

pub says : (fault : Option HostFault) (s : Session) (bytes : List ℕ) (messages : List Host) (sent : List ℕ) → Holds fault s bytes messages sent → Holds fault (quiet s) bytes messages (sent ++ s.due)
says None s bytes messages sent h = subst (λ (said : List ℕ). Stands (expected_of s) s.position s.kept s.reader bytes messages said) (sym (append-nil (sent ++ s.due))) h
says (Some f) s bytes messages sent h = record {
  given = h.given;
  ends = subst (λ (said : List ℕ). UnlessMemory f (EndsAfter (expected_of s) s.kept s.reader bytes messages said f)) (sym (append-nil (sent ++ s.due))) h.ends;
}

-- nothing was consumed
pub none_consumed : (old new : Option (List ℕ)) → Keeps old new → Consumes old new []
none_consumed None new k = tt
none_consumed (Some xs) None k = k
none_consumed (Some xs) (Some ys) k = sym k

-- a read that gave nothing
pub none_came : {s : Stream} (bytes : List ℕ) (given : List Host) (old new : Option (List ℕ)) → HasGiven s bytes given → Keeps old new → (piece : List ℕ) × HasGiven s (bytes ++ piece) given × Consumes old new piece
none_came {s} bytes given old new h k = ([], subst (λ (b : List ℕ). HasGiven s b given) (sym (append-nil bytes)) h, none_consumed old new k)

pub none_came_at_end : {s : Stream} (end : Option HostEnd) (bytes : List ℕ) (given : List Host) (old new : Option (List ℕ)) → HasGiven s bytes given → Keeps old new → (piece : List ℕ) × HasGiven (record { session = s.session; waiting = s.waiting; end = end }) (bytes ++ piece) given × Consumes old new piece
none_came_at_end {s} end bytes given old new h k = none_came bytes given old new (record { sent = h.sent; holds = h.holds }) k
