-- A viewer's stream that gets a piece more.
use Rattle.std.proofs.Common.{◌≡◌, ℕ, ◌≤◌, List, [], ◌++◌, length, take, drop, refl, sym, ap, ◌∙◌, subst, append_assoc, arith}
use Rattle.std.specs.Prelude.{false, Result, Ok, Err, OnOk, IfErr, Option, Some, None}
use Rattle.std.proofs.lemmas.List.{append-nil, take-append-drop, take_all, drop-append-le}
use Rattle.terms.specs.Reading.{Reading, Got, More, Bad, field}
use Rattle.terms.specs.Talk.{Talk}
use Rattle.client_wire.specs.declared.message.ClientMessage.{ClientMessage}
use Rattle.client_wire.specs.Grammar.{message_at}
use Rattle.client_wire.specs.Reader.{Reader}
use Rattle.client_wire.specs.Stream.{Gives, itself}
use Rattle.client_wire.proofs.Streams.{gives_then, gives_none, stands_whole}
use Rattle.viewer_session.specs.declared.fault.SessionFault.{SessionFault}
use Rattle.viewer_session.specs.declared.fault.SessionFault.TheVariants as faults
use Rattle.viewer_session.specs.declared.greeting.Greeting.{Greeting}
use Rattle.viewer_session.specs.Greeting.{IsSoundGreeting, HearsSo, Refuses, talk_by, said_by}
use Rattle.viewer_session.specs.Handshake.{handshake_at}
use Rattle.viewer_session.specs.Stream.{IsGreeting, Gets, IsListening, Stands, EndsInHandshake, Ends}
use Rattle.viewer_session.specs.Listener.{GoesIn, StopsIn, due_by}
use Rattle.viewer_session.proofs.Handshakes.{few, said_more, whole_more, bad_more}

pub on_ok : {U E : Type 0} (r : Result U E) (P Q : Type 0) → (P → Q) → OnOk r P → OnOk r Q
on_ok (Ok u) P Q f p = f p
on_ok (Err e) P Q f p = tt

pub if_err : {U E : Type 0} (r : Result U E) (P Q : E → Type 0) → ((e : E) → P e → Q e) → IfErr r P → IfErr r Q
if_err (Ok u) P Q f p = tt
if_err (Err e) P Q f p = f e p

-- ---- after the handshake

gets_more : (w h : ℕ) (name stream piece : List ℕ) (messages more : List ClientMessage) (said tail rest : List ℕ)
    → Gets w h name stream messages said tail → Gives message_at itself [] more (tail ++ piece) rest
    → Gets w h name (stream ++ piece) (messages ++ more) said rest
gets_more w h name stream piece messages more said tail rest f g = record {
  rest = f.rest ++ piece;
  handshake = whole_more w h name stream piece said f.rest f.handshake;
  gives = gives_then message_at itself [] messages (messages ++ more) f.rest tail piece rest f.gives
      (record { parts = g.parts; given = ap (λ z. messages ++ z) g.given; reads = g.reads });
}

pub listening_goes : (w h : ℕ) (name : List ℕ) (r after : Reader) (stream piece : List ℕ) (messages more : List ClientMessage) (said : List ℕ)
    → GoesIn r after piece more → IsListening w h name r stream messages said → IsListening w h name after (stream ++ piece) (messages ++ more) said
listening_goes w h name r after stream piece messages more said goes is =
    let g = goes is.tail is.stands in
    record {
      tail = g.rest;
      gets = gets_more w h name stream piece messages more said is.tail g.rest is.gets g.gives;
      stands = g.stands;
      waits = g.waits;
    }

pub listening_stops : (w h : ℕ) (name : List ℕ) (r after : Reader) (stream piece : List ℕ) (messages more : List ClientMessage) (said : List ℕ) (f : SessionFault)
    → StopsIn r piece more f → IsListening w h name r stream messages said → Ends w h name (Some after) (stream ++ piece) (messages ++ more) said f
listening_stops w h name r after stream piece messages more said (faults.Wire f) stops is =
    let g = stops is.tail is.stands in
    record {
      tail = g.rest;
      gets = gets_more w h name stream piece messages more said is.tail g.rest is.gets g.gives;
      fault = g.fault;
    }
listening_stops w h name r after stream piece messages more said faults.Version stops is = absurd stops
listening_stops w h name r after stream piece messages more said faults.Security stops is = absurd stops
listening_stops w h name r after stream piece messages more said faults.Closed stops is = absurd stops

-- ---- in the handshake

same_talk : (t : Talk (Unit {0}) SessionFault) (said : List ℕ) (heard : Reading (Unit {0}) SessionFault) → t.said ≡ said → t.heard ≡ heard → t ≡ record { said = said; heard = heard }
same_talk t said heard a b =
    let first : t ≡ record { said = said; heard = t.heard } = ap (λ (z : List ℕ). record t { said = z }) a in
    first ∙ ap (λ (z : Reading (Unit {0}) SessionFault). record t { said = said; heard = z }) b

-- what was told and what is due are all that is said, also once more is said
due_more : (told old new later : List ℕ) (sent : ℕ) → told ++ drop sent old ≡ old → sent ≤ length old → new ≡ old ++ later → told ++ drop sent new ≡ new
due_more told old new later sent all le is =
    ap (λ (z : List ℕ). told ++ drop sent z) is ∙ ap (λ (z : List ℕ). told ++ z) (drop-append-le sent old later le) ∙ sym (append_assoc told (drop sent old) later)
    ∙ ap (λ (z : List ℕ). z ++ later) all ∙ sym is

-- bytes that are heard in the handshake
pub hears : (w h : ℕ) (name old new stream front told : List ℕ) (messages : List ClientMessage) (sent : ℕ) (heard : Reading (Unit {0}) SessionFault)
    → IsGreeting w h name old stream messages (told ++ drop sent (handshake_at w h name old).said)
    → sent ≤ length (handshake_at w h name old).said → new ≡ old ++ front → (handshake_at w h name new).heard ≡ heard
    → handshake_at w h name (stream ++ front) ≡ record { said = told ++ drop sent (handshake_at w h name new).said; heard = heard }
hears w h name old new stream front told messages sent heard is le new_is reads =
    let so : stream ++ front ≡ new = ap (λ (z : List ℕ). z ++ front) is.heard_is ∙ sym new_is in
    let all : told ++ drop sent (handshake_at w h name old).said ≡ (handshake_at w h name old).said =
    sym (ap (λ (z : List ℕ). (handshake_at w h name z).said) (sym is.heard_is) ∙ ap (λ (t : Talk (Unit {0}) SessionFault). t.said) is.reads) in
    let later = said_more w h name old front in
    let said : (handshake_at w h name new).said ≡ (handshake_at w h name old).said ++ later.0 = ap (λ (z : List ℕ). (handshake_at w h name z).said) new_is ∙ later.1 in
    ap (handshake_at w h name) so
    ∙ same_talk (handshake_at w h name new) (told ++ drop sent (handshake_at w h name new).said) heard
    (sym (due_more told (handshake_at w h name old).said (handshake_at w h name new).said later.0 sent all le said)) reads

pub greeting_waits : (w h : ℕ) (name old new stream piece told : List ℕ) (messages : List ClientMessage) (sent : ℕ)
    → IsGreeting w h name old stream messages (told ++ drop sent (handshake_at w h name old).said)
    → sent ≤ length (handshake_at w h name old).said → new ≡ old ++ take (length piece) piece → (handshake_at w h name new).heard ≡ More
    → IsGreeting w h name new (stream ++ piece) (messages ++ []) (told ++ drop sent (handshake_at w h name new).said)
greeting_waits w h name old new stream piece told messages sent is le new_is reads =
    let all : new ≡ old ++ piece = new_is ∙ ap (λ (z : List ℕ). old ++ z) (take_all (length piece) piece (omega arith)) in
    record {
      heard_is = ap (λ (z : List ℕ). z ++ piece) is.heard_is ∙ sym all;
      reads = hears w h name old new stream piece told messages sent More is le all reads;
      none = append-nil messages ∙ is.none;
    }

pub greeting_ends : (w h : ℕ) (name old new stream piece told : List ℕ) (messages : List ClientMessage) (sent n : ℕ) (f : SessionFault)
    → IsGreeting w h name old stream messages (told ++ drop sent (handshake_at w h name old).said)
    → sent ≤ length (handshake_at w h name old).said → new ≡ old ++ take n piece → (handshake_at w h name new).heard ≡ Bad f
    → EndsInHandshake w h name (stream ++ piece) (messages ++ []) (told ++ drop sent (handshake_at w h name new).said) f
greeting_ends w h name old new stream piece told messages sent n f is le new_is reads =
    let split : (stream ++ take n piece) ++ drop n piece ≡ stream ++ piece = append_assoc stream (take n piece) (drop n piece) ∙ ap (λ (z : List ℕ). stream ++ z) (take-append-drop n piece) in
    let said : List ℕ = told ++ drop sent (handshake_at w h name new).said in
    record {
      reads = subst (λ (z : List ℕ). handshake_at w h name z ≡ record { said = said; heard = Bad f }) split
          (bad_more w h name (stream ++ take n piece) (drop n piece) said f (hears w h name old new stream (take n piece) told messages sent (Bad f) is le new_is reads));
      none = append-nil messages ∙ is.none;
    }

-- no bytes are an unfinished message
none_waits : message_at [] ≡ More
unfolding message_at field
none_waits = refl

pub greeting_whole : (w h : ℕ) (name old new stream piece told : List ℕ) (messages : List ClientMessage) (sent n : ℕ)
    → IsGreeting w h name old stream messages (told ++ drop sent (handshake_at w h name old).said)
    → sent ≤ length (handshake_at w h name old).said → new ≡ old ++ take n piece → (handshake_at w h name new).heard ≡ Got tt []
    → IsListening w h name (record { kept = []; passed = 0; room = 0; fault = None }) (stream ++ take n piece) messages (told ++ drop sent (handshake_at w h name new).said)
greeting_whole w h name old new stream piece told messages sent n is le new_is reads = record {
  tail = [];
  gets = record {
    rest = [];
    handshake = hears w h name old new stream (take n piece) told messages sent (Got tt []) is le new_is reads;
    gives = gives_none message_at itself [] messages [] [] is.none refl;
  };
  stands = stands_whole [];
  waits = none_waits;
}

pub split_piece : (stream piece : List ℕ) (n : ℕ) → (stream ++ take n piece) ++ drop n piece ≡ stream ++ piece
split_piece stream piece n = append_assoc stream (take n piece) (drop n piece) ∙ ap (λ (z : List ℕ). stream ++ z) (take-append-drop n piece)

-- ---- over the code's values

-- the greeting that has heard more, and is else as it was
abbrev pub heard_more : Greeting → Greeting → Greeting
heard_more old new = record old { heard = new.heard; settled = false }

in_greeting : (g : Greeting) (before : Option Reader) (stream told : List ℕ) (messages : List ClientMessage) → before ≡ None
    → Stands g.size.width g.size.height g.name.items g.heard.items before stream messages (told ++ due_by g)
    → IsGreeting g.size.width g.size.height g.name.items g.heard.items stream messages (told ++ due_by g)
in_greeting g before stream told messages none is =
    subst (λ (r : Option Reader). Stands g.size.width g.size.height g.name.items g.heard.items r stream messages (told ++ due_by g)) none is

reads_so : (old new : Greeting) (heard : Reading (Unit {0}) SessionFault) → new ≡ heard_more old new → (talk_by new).heard ≡ heard
    → (handshake_at old.size.width old.size.height old.name.items new.heard.items).heard ≡ heard
reads_so old new heard kept is = sym (ap (λ (g : Greeting). (talk_by g).heard) kept) ∙ is

pub fed_waits : (old new : Greeting) (before after : Option Reader) (stream piece told : List ℕ) (messages out : List ClientMessage)
    → before ≡ None → after ≡ None → out ≡ [] → new ≡ heard_more old new → IsSoundGreeting old → HearsSo old new piece (length piece) More
    → Stands old.size.width old.size.height old.name.items old.heard.items before stream messages (told ++ due_by old)
    → Stands new.size.width new.size.height new.name.items new.heard.items after (stream ++ piece) (messages ++ out) (told ++ due_by new)
fed_waits old new before after stream piece told messages out none still empty kept sound hears is =
    subst (λ (r : Option Reader). Stands new.size.width new.size.height new.name.items new.heard.items r (stream ++ piece) (messages ++ out) (told ++ due_by new)) (sym still)
    (subst (λ (ms : List ClientMessage). IsGreeting new.size.width new.size.height new.name.items new.heard.items (stream ++ piece) (messages ++ ms) (told ++ due_by new)) (sym empty)
    (subst (λ (g : Greeting). IsGreeting g.size.width g.size.height g.name.items g.heard.items (stream ++ piece) (messages ++ []) (told ++ due_by g)) (sym kept)
    (greeting_waits old.size.width old.size.height old.name.items old.heard.items new.heard.items stream piece told messages old.sent
    (in_greeting old before stream told messages none is) sound.sent hears.heard (reads_so old new More kept hears.reads))))

pub fed_ends : (old new : Greeting) (before after : Option Reader) (stream piece told : List ℕ) (messages out : List ClientMessage) (f : SessionFault)
    → before ≡ None → after ≡ None → out ≡ [] → new ≡ heard_more old new → IsSoundGreeting old → Refuses old new piece f
    → Stands old.size.width old.size.height old.name.items old.heard.items before stream messages (told ++ due_by old)
    → Ends new.size.width new.size.height new.name.items after (stream ++ piece) (messages ++ out) (told ++ due_by new) f
fed_ends old new before after stream piece told messages out f none still empty kept sound refuses is =
    subst (λ (r : Option Reader). Ends new.size.width new.size.height new.name.items r (stream ++ piece) (messages ++ out) (told ++ due_by new) f) (sym still)
    (subst (λ (ms : List ClientMessage). EndsInHandshake new.size.width new.size.height new.name.items (stream ++ piece) (messages ++ ms) (told ++ due_by new) f) (sym empty)
    (subst (λ (g : Greeting). EndsInHandshake g.size.width g.size.height g.name.items (stream ++ piece) (messages ++ []) (told ++ due_by g) f) (sym kept)
    (greeting_ends old.size.width old.size.height old.name.items old.heard.items new.heard.items stream piece told messages old.sent refuses.n f
    (in_greeting old before stream told messages none is) sound.sent refuses.hears.heard (reads_so old new (Bad f) kept refuses.hears.reads))))

pub fed_whole : (old new : Greeting) (before : Option Reader) (r : Reader) (stream piece told : List ℕ) (messages : List ClientMessage) (n : ℕ)
    → before ≡ None → r ≡ record { kept = []; passed = 0; room = 0; fault = None } → new ≡ heard_more old new → IsSoundGreeting old → HearsSo old new piece n (Got tt [])
    → Stands old.size.width old.size.height old.name.items old.heard.items before stream messages (told ++ due_by old)
    → IsListening new.size.width new.size.height new.name.items r (stream ++ take n piece) messages (told ++ due_by new)
fed_whole old new before r stream piece told messages n none fresh kept sound hears is =
    subst (λ (x : Reader). IsListening new.size.width new.size.height new.name.items x (stream ++ take n piece) messages (told ++ due_by new)) (sym fresh)
    (subst (λ (g : Greeting). IsListening g.size.width g.size.height g.name.items (record { kept = []; passed = 0; room = 0; fault = None }) (stream ++ take n piece) messages (told ++ due_by g)) (sym kept)
    (greeting_whole old.size.width old.size.height old.name.items old.heard.items new.heard.items stream piece told messages old.sent n
    (in_greeting old before stream told messages none is) sound.sent hears.heard (reads_so old new (Got tt []) kept hears.reads)))

-- a session that listens
pub in_messages : (g : Greeting) (before : Option Reader) (r : Reader) (stream told : List ℕ) (messages : List ClientMessage) → before ≡ Some r
    → Stands g.size.width g.size.height g.name.items g.heard.items before stream messages (told ++ due_by g)
    → IsListening g.size.width g.size.height g.name.items r stream messages (told ++ due_by g)
in_messages g before r stream told messages some is =
    subst (λ (x : Option Reader). Stands g.size.width g.size.height g.name.items g.heard.items x stream messages (told ++ due_by g)) some is

-- what is left of a piece is heard after the handshake
pub rest_goes : (g : Greeting) (r after : Reader) (stream piece rest told : List ℕ) (messages more : List ClientMessage) (n : ℕ) → rest ≡ drop n piece
    → GoesIn r after rest more → IsListening g.size.width g.size.height g.name.items r (stream ++ take n piece) messages (told ++ due_by g)
    → IsListening g.size.width g.size.height g.name.items after (stream ++ piece) (messages ++ more) (told ++ due_by g)
rest_goes g r after stream piece rest told messages more n is goes before =
    subst (λ (z : List ℕ). IsListening g.size.width g.size.height g.name.items after z (messages ++ more) (told ++ due_by g))
    (ap (λ (z : List ℕ). (stream ++ take n piece) ++ z) is ∙ split_piece stream piece n)
    (listening_goes g.size.width g.size.height g.name.items r after (stream ++ take n piece) rest messages more (told ++ due_by g) goes before)

pub rest_stops : (g : Greeting) (r after : Reader) (stream piece rest told : List ℕ) (messages more : List ClientMessage) (n : ℕ) (f : SessionFault) → rest ≡ drop n piece
    → StopsIn r rest more f → IsListening g.size.width g.size.height g.name.items r (stream ++ take n piece) messages (told ++ due_by g)
    → Ends g.size.width g.size.height g.name.items (Some after) (stream ++ piece) (messages ++ more) (told ++ due_by g) f
rest_stops g r after stream piece rest told messages more n f is stops before =
    subst (λ (z : List ℕ). Ends g.size.width g.size.height g.name.items (Some after) z (messages ++ more) (told ++ due_by g) f)
    (ap (λ (z : List ℕ). (stream ++ take n piece) ++ z) is ∙ split_piece stream piece n)
    (listening_stops g.size.width g.size.height g.name.items r after (stream ++ take n piece) rest messages more (told ++ due_by g) f stops before)

-- a session at its start
pub starts : (g : Greeting) → g.heard.items ≡ [] → g.sent ≡ 0 → IsGreeting g.size.width g.size.height g.name.items g.heard.items [] [] (due_by g)
starts g none unsent =
    let t = handshake_at g.size.width g.size.height g.name.items [] in
    let said : t.said ≡ due_by g =
    ap (λ (z : List ℕ). (handshake_at g.size.width g.size.height g.name.items z).said) (sym none) ∙ ap (λ (n : ℕ). drop n (said_by g)) (sym unsent) in
    record {
      heard_is = sym none;
      reads = same_talk t (due_by g) More said (ap (λ (x : Talk (Unit {0}) SessionFault). x.heard) (few g.size.width g.size.height g.name.items [] (omega arith)));
      none = refl;
    }
