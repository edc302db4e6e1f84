-- A session that gets a piece more.
use Rattle.std.proofs.Common.{◌≡◌, ℕ, List, [], ◌++◌, take, drop, refl, sym, ap, ◌∙◌, subst, append_assoc, arith, length-append}
use Rattle.std.specs.Prelude.{Result, Ok, Err, OnOk, IfErr, Option, None, Some}
use Rattle.std.proofs.lemmas.List.{append-nil, take-append-drop, append_cancel_left}
use Rattle.terms.specs.declared.format.Format.{Format}
use Rattle.terms.specs.Reading.{Reading, More}
use Rattle.terms.specs.Talk.{say, silent}
use Rattle.terms.proofs.Readings.{field-short}
use Rattle.terms.specs.declared.wire_fault.WireFault.{WireFault}
use Rattle.client_wire.specs.Stream.{Gives}
use Rattle.client_wire.proofs.Streams.{gives_then, gives_none, flat_append}
use Rattle.rfb_wire.specs.Grammar.{message_at, message_limit}
use Rattle.rfb_wire.specs.Host.{Host}
use Rattle.rfb_wire.specs.Reader.{Reader}
use Rattle.rfb_wire.specs.Stream.{given}
use Rattle.host_session.specs.declared.fault.HostFault.{HostFault}
use Rattle.host_session.specs.declared.fault.HostFault.TheVariants as faults
use Rattle.host_session.specs.declared.stage.Position.{Position}
use Rattle.host_session.specs.declared.exchange.Exchange.{Exchange}
use Rattle.host_session.specs.declared.stage.Stage.TheVariants as stages
use Rattle.host_session.specs.declared.stage.Position.TheVariants as positions
use Rattle.host_session.specs.Fault.{UnlessMemory}
use Rattle.host_session.specs.Handshake.{Told, Refusal, handshake_at}
use Rattle.host_session.specs.Stage.{Leads, Ends, Fails, IsUnfinished, position_at, resume}
use Rattle.host_session.specs.Take.{Says, told_at}
use Rattle.host_session.specs.Session.{Session, expected_of, requests_after, request_after, start, IsHandshake, Gets, Follows, IsListening, Stands, EndsInHandshake, EndsListening, EndsAfter, AreGiven, Fed, Stopped}
use Rattle.host_session.specs.Exchange.{Advances, Halts}
use Rattle.host_session.specs.TakeHandshake.{GoesOn, IsWhole, IsHandshakeRefused}
use Rattle.host_session.specs.Listening.{Answers, Listens, StopsListening, ListensToSome}
use Rattle.host_session.proofs.Goes.{resume-short, rest-short}
use Rattle.host_session.proofs.Messages.{unless_memory_by}
use Rattle.host_session.proofs.Turns.{leads_more, leads_end, leads_fail, unless_memory_map}
use Rattle.host_session.specs.declared.expected.ExpectedScreen.{ExpectedScreen}

-- a reader goes on for the same screen, recorded in the same format
abbrev SameScreen : Reader → Reader → Type 0
SameScreen r after = (after.format ≡ r.format) × (after.width ≡ r.width) × (after.height ≡ r.height)

-- messages after others
gets_more : (expected : ExpectedScreen) (w h : ℕ) (name stream piece : List ℕ) (messages more : List Host) (tail rest : List ℕ)
    → (g : Gets expected w h name stream messages tail)
    → Gives (message_at (message_limit expected.format) w h) (given expected.format w h) [] more (tail ++ piece) rest
    → Gets expected w h name (stream ++ piece) (messages ++ more) rest
gets_more expected w h name stream piece messages more tail rest f g = record {
  front = f.front;
  rest = f.rest ++ piece;
  stream_is = ap (λ z. z ++ piece) f.stream_is ∙ append_assoc f.front f.rest piece;
  answers = f.answers;
  ends = f.ends;
  gives = gives_then (message_at (message_limit expected.format) w h) (given expected.format w h) [] messages (messages ++ more) f.rest tail piece rest f.gives
      (record { parts = g.parts; given = ap (λ z. messages ++ z) g.given; reads = g.reads });
}

-- messages that a reader gives of the recording's format
gives_in : (expected : ExpectedScreen) (r : Reader) (more : List Host) (rest tail : List ℕ) → r.format ≡ expected.format
    → Gives (message_at (message_limit r.format) r.width r.height) (given r.format r.width r.height) [] more rest tail
    → Gives (message_at (message_limit expected.format) r.width r.height) (given expected.format r.width r.height) [] more rest tail
gives_in expected r more rest tail is g =
    subst (λ (z : Format). Gives (message_at (message_limit z) r.width r.height) (given z r.width r.height) [] more rest tail) is g

follows_more : (expected : ExpectedScreen) (r : Reader) (name stream piece : List ℕ) (messages : List Host) (sent : List ℕ) (old new : List Host) (due later tail rest : List ℕ)
    → r.format ≡ expected.format
    → Follows expected r.width r.height name stream messages (sent ++ due) tail
    → (a : Answers r tail piece old new due later rest)
    → Follows expected r.width r.height name (stream ++ piece) (messages ++ a.hears.more) (sent ++ later) rest
unfolding gets_more
follows_more expected r name stream piece messages sent old new due later tail rest is f a =
    let more : List Host = a.hears.more in
    let requests : List Host → List ℕ = requests_after r.width r.height in
    record {
      gets = gets_more expected r.width r.height name stream piece messages more tail rest f.gets (gives_in expected r more (tail ++ piece) rest is a.hears.gives);
      said_is = ap (λ z. sent ++ z) a.said ∙ sym (append_assoc sent due (requests more)) ∙ ap (λ z. z ++ requests more) f.said_is
          ∙ append_assoc f.gets.answers (requests messages) (requests more)
          ∙ ap (λ z. f.gets.answers ++ z) (sym (flat_append (request_after r.width r.height) messages more));
    }

-- the same, for a reader of the same screen
sized : (expected : ExpectedScreen) (r after : Reader) (name stream : List ℕ) (messages : List Host) (said tail : List ℕ)
    → SameScreen r after
    → Follows expected r.width r.height name stream messages said tail → Follows expected after.width after.height name stream messages said tail
sized expected r after name stream messages said tail e x =
    subst (λ (z : ℕ). Follows expected after.width z name stream messages said tail) (sym e.2)
    (subst (λ (z : ℕ). Follows expected z r.height name stream messages said tail) (sym e.1) x)

gets_sized : (expected : ExpectedScreen) (r after : Reader) (name stream : List ℕ) (messages : List Host) (tail : List ℕ)
    → SameScreen r after
    → Gets expected r.width r.height name stream messages tail → Gets expected after.width after.height name stream messages tail
gets_sized expected r after name stream messages tail e x =
    subst (λ (z : ℕ). Gets expected after.width z name stream messages tail) (sym e.2)
    (subst (λ (z : ℕ). Gets expected z r.height name stream messages tail) (sym e.1) x)

read_sized : (expected : ExpectedScreen) (r after : Reader) (rest : List ℕ) → r.format ≡ expected.format → SameScreen r after
    → message_at (message_limit expected.format) after.width after.height rest ≡ message_at (message_limit r.format) r.width r.height rest
read_sized expected r after rest is e =
    ap (λ (z : Format). message_at (message_limit z) after.width after.height rest) (sym is)
    ∙ ap (λ z. message_at (message_limit r.format) z after.height rest) e.1 ∙ ap (λ z. message_at (message_limit r.format) r.width z rest) e.2

-- a session that listens, and hears more
pub listening_goes : (expected : ExpectedScreen) (position : Position) (name : List ℕ) (r after : Reader) (stream piece : List ℕ) (messages : List Host) (sent : List ℕ) (old new : List Host) (due later : List ℕ)
    → SameScreen r after
    → Listens r after piece old new due later → IsListening expected name r stream messages (sent ++ due)
    → Advances expected position name (Some after) (stream ++ piece) messages (sent ++ later) old new
listening_goes expected position name r after stream piece messages sent old new due later screen goes is =
    let g = goes is.tail is.stands in
    let more : List Host = g.answers.hears.more in
    record {
      more = more;
      out = g.answers.hears.out;
      stands = record {
        of_format = screen.0 ∙ is.of_format;
        tail = g.tail;
        follows = sized expected r after name (stream ++ piece) (messages ++ more) (sent ++ later) g.tail screen
            (follows_more expected r name stream piece messages sent old new due later is.tail g.tail is.of_format is.follows g.answers);
        stands = g.stands;
        waits = read_sized expected r after g.tail is.of_format screen ∙ g.waits;
      };
    }

ends_wire : (expected : ExpectedScreen) (name : List ℕ) (r : Reader) (stream : List ℕ) (messages : List Host) (said : List ℕ) (f : HostFault) (w : WireFault)
    → f ≡ faults.Wire w → EndsListening expected name r stream messages said w → EndsAfter expected name (Some r) stream messages said f
ends_wire expected name r stream messages said f w is ends =
    subst (λ (z : HostFault). EndsAfter expected name (Some r) stream messages said z) (sym is) ends

-- the messages that two readings of a rest give after others are the same
more_is : (old new more other : List Host) → new ≡ old ++ more → new ≡ old ++ other → more ≡ other
more_is old new more other a b = append_cancel_left old more other (sym a ∙ b)

-- a session that listens, and is stopped
pub listening_stops : (expected : ExpectedScreen) (name : List ℕ) (r after : Reader) (f : HostFault) (stream piece : List ℕ) (messages : List Host) (sent : List ℕ) (old new : List Host) (due later : List ℕ)
    → SameScreen r after
    → ListensToSome r piece old new
    → UnlessMemory f (StopsListening r f piece old new due later) → IsListening expected name r stream messages (sent ++ due)
    → Halts expected name (Some after) (stream ++ piece) messages (sent ++ later) f old new
listening_stops expected name r after f stream piece messages sent old new due later screen some stops is =
    let g = some is.tail is.stands in
    let more : List Host = g.hears.more in
    record {
      more = more;
      out = g.hears.out;
      given = record {
        tail = g.tail;
        gets = gets_sized expected r after name (stream ++ piece) (messages ++ more) g.tail screen
            (gets_more expected r.width r.height name stream piece messages more is.tail g.tail is.follows.gets
            (gives_in expected r more (is.tail ++ piece) g.tail is.of_format g.hears.gives));
      };
      ends = unless_memory_map f _ _ (λ (s : StopsListening r f piece old new due later).
          let h = s.hears is.tail is.stands in
          let same : h.answers.hears.more ≡ more = more_is old new h.answers.hears.more more h.answers.hears.out g.hears.out in
          let ends : EndsListening expected name after (stream ++ piece) (messages ++ h.answers.hears.more) (sent ++ later) s.wire = record {
            tail = h.tail;
            follows = sized expected r after name (stream ++ piece) (messages ++ h.answers.hears.more) (sent ++ later) h.tail screen
                (follows_more expected r name stream piece messages sent old new due later is.tail h.tail is.of_format is.follows h.answers);
            fault = read_sized expected r after h.tail is.of_format screen ∙ h.fault;
          } in
          subst (λ (z : List Host). EndsAfter expected name (Some after) (stream ++ piece) (messages ++ z) (sent ++ later) f) same
          (ends_wire expected name after (stream ++ piece) (messages ++ h.answers.hears.more) (sent ++ later) f s.wire s.is ends)) stops;
    }

nothing_waits : (limit w h : ℕ) → message_at limit w h [] ≡ More
unfolding message_at
nothing_waits limit w h = rw (field-short {E = WireFault} 1 [] (omega arith)) refl

-- what leads to the front of a stream, from its start
from_start : (expected : ExpectedScreen) (position : Position) (kept stream said : List ℕ) → Leads expected start [] stream said position kept
    → Says (λ said. Leads expected start [] stream said position kept) [] said
from_start expected position kept stream said leads = record { said = said; due = refl; is = leads }

-- what is due is more, also after what was sent
sent_more : (P : List ℕ → Type 0) (sent due later : List ℕ) → Says P due later → Says P (sent ++ due) (sent ++ later)
sent_more P sent due later s = record {
  said = s.said;
  due = ap (λ z. sent ++ z) s.due ∙ sym (append_assoc sent due s.said);
  is = s.is;
}

-- the handshake is whole
pub listening_begins : (expected : ExpectedScreen) (old new : Exchange) (n : ℕ) (stream piece : List ℕ) (messages : List Host) (sent due later : List ℕ)
    → (w : IsWhole expected old new n piece due later) → IsHandshake expected old.handshake.position old.handshake.kept.items stream messages (sent ++ due)
    → IsListening expected new.handshake.kept.items w.reader (stream ++ take n piece) messages (sent ++ later)
listening_begins expected old new n stream piece messages sent due later w is =
    let r = w.reader in
    let told : Told = told_at r.width r.height new.handshake.kept.items in
    let old_position : Position = old.handshake.position in
    let old_kept : List ℕ = old.handshake.kept.items in
    let front : List ℕ = stream ++ take n piece in
    let a = from_start expected old_position old_kept stream (sent ++ due) is.leads in
    let ended : Says (λ said. Ends expected old_position old_kept (take n piece) (said ++ []) told) due later = record {
      said = w.ends.said;
      due = w.ends.due;
      is = subst (λ (z : List ℕ). Ends expected old_position old_kept (take n piece) z told) (sym (append-nil w.ends.said)) w.ends.is;
    } in
    let b = sent_more (λ said. Ends expected old_position old_kept (take n piece) (said ++ []) told) sent due later ended in
    let all = leads_end expected start old_position [] old_kept stream (take n piece) [] (sent ++ due) (sent ++ later) [] told a b in
    let ends : Ends expected start [] front all.said told = subst (λ (z : List ℕ). Ends expected start [] front z told) (append-nil all.said) all.is in
    record {
      of_format = rw w.begins refl;
      tail = [];
      follows = record {
        gets = record {
          front = front;
          rest = [];
          stream_is = sym (append-nil front);
          answers = all.said;
          ends = ends;
          gives = gives_none (message_at (message_limit expected.format) r.width r.height) (given expected.format r.width r.height) [] messages [] [] is.none refl;
        };
        said_is = all.due ∙ sym (append-nil all.said) ∙ ap (λ z. all.said ++ requests_after r.width r.height z) (sym is.none);
      };
      stands = record { skipped = []; count = rw w.begins refl; is = rw w.begins refl };
      waits = nothing_waits (message_limit expected.format) r.width r.height;
    }

-- a field that isn't whole says nothing
unfinished_waits : (expected : ExpectedScreen) (position : Position) (kept : List ℕ) → IsUnfinished position kept → position_at expected position kept [] ≡ silent More
unfinished_waits expected (positions.Field stage) kept short = resume-short expected stage (kept ++ []) (omega (arith, length-append kept []))
unfinished_waits expected (positions.Rest size left) kept some = rest-short size.width size.height left kept [] some

pub handshake_is : (expected : ExpectedScreen) (bytes : List ℕ) → resume expected stages.Version bytes ≡ handshake_at expected bytes
unfolding resume
handshake_is expected bytes = refl

-- the last that is said
pub say_last : (said : List ℕ) (heard : Reading Told Refusal) → say said (silent heard) ≡ record { said = said; heard = heard }
say_last said heard = rw (append-nil said) refl

leads_waits : (expected : ExpectedScreen) (stream said : List ℕ) (position : Position) (kept : List ℕ) → Leads expected start [] stream said position kept → IsUnfinished position kept
    → handshake_at expected stream ≡ record { said = said; heard = More }
leads_waits expected stream said position kept leads short =
    ap (handshake_at expected) (sym (append-nil stream)) ∙ sym (handshake_is expected (stream ++ [])) ∙ leads.link [] ∙ ap (say said) (unfinished_waits expected position kept short)
    ∙ say_last said More

-- a session in the handshake, which goes on
handshake_goes : (expected : ExpectedScreen) (old new : Exchange) (stream piece : List ℕ) (messages : List Host) (sent due later : List ℕ)
    → GoesOn expected old new piece due later → IsHandshake expected old.handshake.position old.handshake.kept.items stream messages (sent ++ due)
    → IsHandshake expected new.handshake.position new.handshake.kept.items (stream ++ piece) messages (sent ++ later)
handshake_goes expected old new stream piece messages sent due later g is =
    let old_position : Position = old.handshake.position in
    let old_kept : List ℕ = old.handshake.kept.items in
    let position : Position = new.handshake.position in
    let kept : List ℕ = new.handshake.kept.items in
    let a = from_start expected old_position old_kept stream (sent ++ due) is.leads in
    let b = sent_more (λ said. Leads expected old_position old_kept piece said position kept) sent due later g.leads in
    let all = leads_more expected start old_position position [] old_kept kept stream piece [] (sent ++ due) (sent ++ later) a b in
    let leads : Leads expected start [] (stream ++ piece) (sent ++ later) position kept =
    subst (λ (z : List ℕ). Leads expected start [] (stream ++ piece) z position kept) (sym all.due) all.is in
    record {
      leads = leads;
      reads = leads_waits expected (stream ++ piece) (sent ++ later) position kept leads g.unfinished;
      none = is.none;
    }

pub handshake_fails : (expected : ExpectedScreen) (old : Exchange) (kept : List ℕ) (stream piece : List ℕ) (messages : List Host) (sent due later : List ℕ) (f : HostFault)
    → Says (λ said. Fails expected old.handshake.position old.handshake.kept.items piece said f kept) due later
    → IsHandshake expected old.handshake.position old.handshake.kept.items stream messages (sent ++ due)
    → EndsInHandshake expected kept (stream ++ piece) messages (sent ++ later) f
handshake_fails expected old kept stream piece messages sent due later f g is =
    let old_position : Position = old.handshake.position in
    let old_kept : List ℕ = old.handshake.kept.items in
    let a = from_start expected old_position old_kept stream (sent ++ due) is.leads in
    let b = sent_more (λ said. Fails expected old_position old_kept piece said f kept) sent due later g in
    let all = leads_fail expected start old_position [] old_kept stream piece [] (sent ++ due) (sent ++ later) f kept a b in
    record {
      fails = subst (λ (z : List ℕ). Fails expected start [] (stream ++ piece) z f kept) (sym all.due) all.is;
      none = is.none;
    }

-- the session by its reader
pub stands_listening : (expected : ExpectedScreen) (position : Position) (kept : List ℕ) (reader : Option Reader) (r : Reader) (stream : List ℕ) (messages : List Host) (said : List ℕ)
    → reader ≡ Some r → Stands expected position kept reader stream messages said → IsListening expected kept r stream messages said
stands_listening expected position kept reader r stream messages said is x =
    subst (λ (z : Option Reader). Stands expected position kept z stream messages said) is x

pub stands_handshake : (expected : ExpectedScreen) (position : Position) (kept : List ℕ) (reader : Option Reader) (stream : List ℕ) (messages : List Host) (said : List ℕ)
    → reader ≡ None → Stands expected position kept reader stream messages said → IsHandshake expected position kept stream messages said
stands_handshake expected position kept reader stream messages said is x =
    subst (λ (z : Option Reader). Stands expected position kept z stream messages said) is x

-- a session that is stopped in the handshake
pub handshake_stops : (expected : ExpectedScreen) (old new : Exchange) (f : HostFault) (stream piece : List ℕ) (messages : List Host) (sent due later : List ℕ) (out : List Host)
    → IsHandshakeRefused expected old new piece due later f
    → IsHandshake expected old.handshake.position old.handshake.kept.items stream messages (sent ++ due)
    → Halts expected new.handshake.kept.items new.reader (stream ++ piece) messages (sent ++ later) f out out
handshake_stops expected old new f stream piece messages sent due later out bad is =
    let kept : List ℕ = new.handshake.kept.items in
    let none : messages ++ [] ≡ [] = append-nil messages ∙ is.none in
    record {
      more = [];
      out = sym (append-nil out);
      given = subst (λ (z : Option Reader). AreGiven expected kept z (stream ++ piece) (messages ++ [])) (sym bad.handshake) none;
      ends = unless_memory_map f _ _ (λ (s : Says (λ said. Fails expected old.handshake.position old.handshake.kept.items piece said f kept) due later).
          let ends : EndsInHandshake expected kept (stream ++ piece) messages (sent ++ later) f = handshake_fails expected old kept stream piece messages sent due later f s is in
          subst (λ (z : Option Reader). EndsAfter expected kept z (stream ++ piece) (messages ++ []) (sent ++ later) f) (sym bad.handshake)
          (subst (λ (z : List Host). EndsInHandshake expected kept (stream ++ piece) z (sent ++ later) f) (sym (append-nil messages)) ends)) bad.fault;
    }

-- the stream with the piece, after the bytes that the handshake took of it
whole_piece : (stream piece following : List ℕ) (n : ℕ) → following ≡ drop n piece → (stream ++ take n piece) ++ following ≡ stream ++ piece
whole_piece stream piece following n is =
    append_assoc stream (take n piece) following ∙ ap (λ z. stream ++ (take n piece ++ z)) is ∙ ap (λ z. stream ++ z) (take-append-drop n piece)

-- the session that listens after the handshake, by the reader that there is
begun : (expected : ExpectedScreen) (old mid : Exchange) (r : Reader) (n : ℕ) (stream piece : List ℕ) (messages : List Host) (sent due later : List ℕ)
    → IsWhole expected old mid n piece due later → mid.reader ≡ Some r
    → IsHandshake expected old.handshake.position old.handshake.kept.items stream messages (sent ++ due)
    → IsListening expected mid.handshake.kept.items r (stream ++ take n piece) messages (sent ++ later)
begun expected old mid r n stream piece messages sent due later w is handshake =
    let whole = w.is in
    let same : w.reader ≡ r = cc in
    subst (λ (z : Reader). IsListening expected mid.handshake.kept.items z (stream ++ take n piece) messages (sent ++ later)) same
    (listening_begins expected old mid n stream piece messages sent due later w handshake)

-- the rest of the piece in which the handshake ends
pub rest_goes : (expected : ExpectedScreen) (position : Position) (old mid : Exchange) (r after : Reader) (n : ℕ) (stream piece following : List ℕ) (messages : List Host) (sent : List ℕ) (out new : List Host) (due then later : List ℕ)
    → IsWhole expected old mid n piece due then → mid.reader ≡ Some r → following ≡ drop n piece
    → SameScreen r after
    → Listens r after following out new then later
    → IsHandshake expected old.handshake.position old.handshake.kept.items stream messages (sent ++ due)
    → Advances expected position mid.handshake.kept.items (Some after) (stream ++ piece) messages (sent ++ later) out new
rest_goes expected position old mid r after n stream piece following messages sent out new due then later w is rest screen goes handshake =
    subst (λ (z : List ℕ). Advances expected position mid.handshake.kept.items (Some after) z messages (sent ++ later) out new) (whole_piece stream piece following n rest)
    (listening_goes expected position mid.handshake.kept.items r after (stream ++ take n piece) following messages sent out new then later screen goes
    (begun expected old mid r n stream piece messages sent due then w is handshake))

pub rest_stops : (expected : ExpectedScreen) (old mid : Exchange) (r after : Reader) (f : HostFault) (n : ℕ) (stream piece following : List ℕ) (messages : List Host) (sent : List ℕ) (out new : List Host) (due then later : List ℕ)
    → IsWhole expected old mid n piece due then → mid.reader ≡ Some r → following ≡ drop n piece
    → SameScreen r after
    → ListensToSome r following out new
    → UnlessMemory f (StopsListening r f following out new then later)
    → IsHandshake expected old.handshake.position old.handshake.kept.items stream messages (sent ++ due)
    → Halts expected mid.handshake.kept.items (Some after) (stream ++ piece) messages (sent ++ later) f out new
rest_stops expected old mid r after f n stream piece following messages sent out new due then later w is rest screen some stops handshake =
    subst (λ (z : List ℕ). Halts expected mid.handshake.kept.items (Some after) z messages (sent ++ later) f out new) (whole_piece stream piece following n rest)
    (listening_stops expected mid.handshake.kept.items r after f (stream ++ take n piece) following messages sent out new then later screen some stops
    (begun expected old mid r n stream piece messages sent due then w is handshake))

-- the handshake goes on
pub handshake_fed : (expected : ExpectedScreen) (old new : Exchange) (stream piece : List ℕ) (messages : List Host) (sent due later : List ℕ) (out : List Host)
    → GoesOn expected old new piece due later → IsHandshake expected old.handshake.position old.handshake.kept.items stream messages (sent ++ due)
    → Advances expected new.handshake.position new.handshake.kept.items new.reader (stream ++ piece) messages (sent ++ later) out out
handshake_fed expected old new stream piece messages sent due later out g is =
    let position : Position = new.handshake.position in
    let kept : List ℕ = new.handshake.kept.items in
    let here : IsHandshake expected position kept (stream ++ piece) (messages ++ []) (sent ++ later) =
    subst (λ (z : List Host). IsHandshake expected position kept (stream ++ piece) z (sent ++ later)) (sym (append-nil messages))
    (handshake_goes expected old new stream piece messages sent due later g is) in
    record {
      more = [];
      out = sym (append-nil out);
      stands = subst (λ (z : Option Reader). Stands expected position kept z (stream ++ piece) (messages ++ []) (sent ++ later)) (sym g.handshake) here;
    }

-- the start of a stream
at_start : (expected : ExpectedScreen) → IsHandshake expected start [] [] [] []
at_start expected =
    let leads : Leads expected start [] [] [] start [] = record { link = λ more. refl } in
    record { leads = leads; reads = leads_waits expected [] [] start [] leads (omega arith); none = refl }

pub new_stands : (expected : ExpectedScreen) (position : Position) (kept : List ℕ) → position ≡ start → kept ≡ [] → IsHandshake expected position kept [] [] []
new_stands expected position kept a b =
    subst (λ (z : Position). IsHandshake expected z kept [] [] []) (sym a)
    (subst (λ (z : List ℕ). IsHandshake expected start z [] [] []) (sym b) (at_start expected))

-- what holds unless memory ran out, if it is known of each part unless memory ran out
unless_by : (f : HostFault) (Q : Type 0) → (((P : Type 0) → UnlessMemory f P → P) → Q) → UnlessMemory f Q
unless_by (faults.Wire f) Q by = unless_memory_by f Q by
unless_by faults.Version Q by = by (λ P p. p)
unless_by faults.NoneNotOffered Q by = by (λ P p. p)
unless_by faults.Failed Q by = by (λ P p. p)
unless_by faults.SizeDiffers Q by = by (λ P p. p)
unless_by faults.TooLarge Q by = by (λ P p. p)

-- what was said in a piece is due after what was due
pub fed : (s : Session) (stream : List ℕ) (messages : List Host) (sent due said : List ℕ) (old new : List Host)
    → s.due ≡ due ++ said → Advances (expected_of s) s.position s.kept s.reader stream messages ((sent ++ due) ++ said) old new
    → Fed s stream messages sent old new
fed s stream messages sent due said old new is a =
    let all : (sent ++ due) ++ said ≡ sent ++ s.due = append_assoc sent due said ∙ ap (λ z. sent ++ z) (sym is) in
    record {
      more = a.more;
      out = a.out;
      after = subst (λ (z : List ℕ). Stands (expected_of s) s.position s.kept s.reader stream (messages ++ a.more) z) all a.stands;
    }

-- of a session that goes on, the messages are given
are_given : (expected : ExpectedScreen) (position : Position) (kept : List ℕ) (reader : Option Reader) (stream : List ℕ) (messages : List Host) (said : List ℕ)
    → Stands expected position kept reader stream messages said → AreGiven expected kept reader stream messages
are_given expected position kept None stream messages said is = is.none
are_given expected position kept (Some r) stream messages said is = record { tail = is.tail; gets = is.follows.gets }

pub stopped : {U : Type 0} (s : Session) (stream : List ℕ) (messages : List Host) (sent due said : List ℕ) (old new : List Host) (heard : Result U HostFault) (f : HostFault)
    → UnlessMemory f ((heard ≡ Err f) × (s.due ≡ due ++ said))
    → OnOk heard (Advances (expected_of s) s.position s.kept s.reader stream messages ((sent ++ due) ++ said) old new)
    → IfErr heard (λ g. Halts (expected_of s) s.kept s.reader stream messages ((sent ++ due) ++ said) g old new)
    → Stopped s stream messages sent f old new
stopped {U} s stream messages sent due said old new (Ok u) f fault goes stops =
    let heard : Result U HostFault = Ok u in
    record {
      more = goes.more;
      out = goes.out;
      given = are_given (expected_of s) s.position s.kept s.reader stream (messages ++ goes.more) ((sent ++ due) ++ said) goes.stands;
      ends = unless_memory_map f _ _ (λ (p : (heard ≡ Err f) × (s.due ≡ due ++ said)). let no = p.0 in absurd (cc)) fault;
    }
stopped {U} s stream messages sent due said old new (Err g) f fault goes stops =
    let heard : Result U HostFault = Err g in
    record {
      more = stops.more;
      out = stops.out;
      given = stops.given;
      ends = unless_by f _ (λ so.
          let p = so ((heard ≡ Err f) × (s.due ≡ due ++ said)) fault in
          let is = p.0 in
          let same : g ≡ f = cc in
          let all : (sent ++ due) ++ said ≡ sent ++ s.due = append_assoc sent due said ∙ ap (λ z. sent ++ z) (sym p.1) in
          let ends : UnlessMemory f (EndsAfter (expected_of s) s.kept s.reader stream (messages ++ stops.more) ((sent ++ due) ++ said) f) =
          subst (λ (z : HostFault). UnlessMemory z (EndsAfter (expected_of s) s.kept s.reader stream (messages ++ stops.more) ((sent ++ due) ++ said) z)) same stops.ends in
          subst (λ (z : List ℕ). EndsAfter (expected_of s) s.kept s.reader stream (messages ++ stops.more) z f) all
          (so (EndsAfter (expected_of s) s.kept s.reader stream (messages ++ stops.more) ((sent ++ due) ++ said) f) ends));
    }

-- nothing is said before a piece comes
pub nothing_said : (expected : ExpectedScreen) (position : Position) (kept : List ℕ) (reader : Option Reader) (stream : List ℕ) (messages : List Host) (sent due none : List ℕ)
    → none ≡ [] → Stands expected position kept reader stream messages (sent ++ due)
    → Stands expected position kept reader stream messages ((sent ++ due) ++ none)
nothing_said expected position kept reader stream messages sent due none is x =
    subst (λ (z : List ℕ). Stands expected position kept reader stream messages z) (sym (append-nil (sent ++ due)) ∙ ap (λ z. (sent ++ due) ++ z) (sym is)) x
