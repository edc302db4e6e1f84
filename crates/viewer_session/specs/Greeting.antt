-- A viewer's handshake, heard in pieces and answered.
use Rattle.std.specs.Prelude.{◌≡◌, ℕ, ◌<◌, ◌≤◌, ◌^◌, true, List, [], ◌++◌, length, take, Option, Some, None}
use Rattle.terms.specs.Reading.{Reading, Got, More, Bad}
use Rattle.terms.specs.Talk.{Talk}
use Rattle.viewer_session.specs.declared.fault.SessionFault.{SessionFault}
use Rattle.viewer_session.specs.declared.greeting.Greeting.{Greeting}
use Rattle.viewer_session.specs.Handshake.{handshake_at}

-- what the handshake's bytes say so far
abbrev pub talk_by : Greeting → Talk (Unit {0}) SessionFault
talk_by g = handshake_at g.size.width g.size.height g.name.items g.heard.items

-- all that they are answered with
abbrev pub said_by : Greeting → List ℕ
said_by g = (talk_by g).said

-- what always holds
pub record IsSoundGreeting (g : Greeting) : Type 0 where
  pub name : length g.name.items < 2 ^ 32
  pub sent : g.sent ≤ length (said_by g)
  pub settled : g.settled ≡ true → g.sent ≡ length (said_by g)

-- so many bytes of a piece are heard, and then this is what was heard
pub record HearsSo (old new : Greeting) (piece : List ℕ) (n : ℕ) (reading : Reading (Unit {0}) SessionFault) : Type 0 where
  pub some : n ≤ length piece
  pub heard : new.heard.items ≡ old.heard.items ++ take n piece
  pub reads : (talk_by new).heard ≡ reading

-- the piece is heard, and the handshake isn't whole; or it is whole after so many bytes
abbrev pub Hears : Greeting → Greeting → List ℕ → Option ℕ → Type 0
Hears old new piece None = HearsSo old new piece (length piece) More
Hears old new piece (Some n) = HearsSo old new piece n (Got tt [])

-- it is refused after some
pub record Refuses (old new : Greeting) (piece : List ℕ) (f : SessionFault) : Type 0 where
  pub n : ℕ
  pub hears : HearsSo old new piece n (Bad f)
