-- What the reader of a stream stands for, from piece to piece and from block to block.
use Rattle.std.proofs.Common.{◌≡◌, ◌<◌, ◌≤◌, ◌+◌, ◌-◌, ◌⊎◌, inl, inr, None, Some, ℕ, List, [], ◌∷◌, ◌++◌, length, drop, replicate, refl, sym, ap, ◌∙◌, subst, arith, append_assoc, append-nil, length-append}
use Rattle.std.specs.List.{flat_map, AllByRecursion}
use Rattle.std.proofs.lemmas.List.{length-replicate}
use Rattle.terms.specs.Reading.{Got, More, Bad}
use Rattle.terms.proofs.Readings.{field-short}
use Rattle.terms.proofs.Lacks.{unless_other}
use Rattle.client_wire.specs.Stream.{Part, bytes_of, IsPart, Reads, FaultOf, Goes, Stops, StandsFor, given_of}
use Rattle.client_wire.proofs.Streams.{flat_append, all_append, gives_none, waits_begins_none, empty_list}
use Rattle.terms.specs.declared.format.Format.TheVariants.{Two}
use Rattle.rfb_wire.specs.Grammar.{message_at, message_limit, Message}
use Rattle.rfb_wire.specs.Host.{Host}
use Rattle.rfb_wire.specs.Reader.{Reader}
use Rattle.rfb_wire.specs.Stream.{given}
use Rattle.keyed_entries.specs.declared.entry.Stamped.{Stamped}
use Rattle.rfb_wire.proofs.Local.{message_local}
use Rattle.rfb_wire.proofs.Whole.{message-empty}
use Rattle.fbs_export.specs.declared.fault.FbsFault.{FbsFault}
use Rattle.fbs_export.specs.declared.fault.FbsFault.TheVariants as faults
use Rattle.fbs_export.specs.declared.opening.Name.{Name}
use Rattle.fbs_export.specs.declared.stream.Stream.{Stream}
use Rattle.fbs_export.specs.declared.stream.Told.{Told}
use Rattle.std.specs.Prelude.{Option, MatchOption}
use Rattle.fbs_export.specs.Opening.{Opening, opening_at, named}
use Rattle.fbs_export.specs.Reader.{IsDataFault, OfMessage, IsInHead, IsInName, IsInOpening, IsOpened, name_in, Opens, Hears, Stands}
use Rattle.fbs_export.specs.Summary.{Waits, stamped, at_time}
use Rattle.fbs_export.specs.Told.{IsTold}
use Rattle.fbs_export.proofs.Pieces.{goes_on, stops_in}
use Rattle.fbs_export.proofs.Stamping.{block_stamped}

-- more messages in front
reads_after : (w h : ℕ) (parts new : List (Part Message)) (body x rest : List ℕ) → AllByRecursion (IsPart (message_at (message_limit Two) w h)) parts → body ≡ flat_map bytes_of parts ++ x
    → Reads (message_at (message_limit Two) w h) x new rest → Reads (message_at (message_limit Two) w h) body (parts ++ new) rest
reads_after w h parts new body x rest each is r = record {
  each = all_append (IsPart (message_at (message_limit Two) w h)) parts new each r.each;
  stream_is = is ∙ ap (λ z. flat_map bytes_of parts ++ z) r.stream_is ∙ sym (append_assoc (flat_map bytes_of parts) (flat_map bytes_of new) rest)
      ∙ ap (λ z. z ++ rest) (sym (flat_append bytes_of parts new));
}

-- the opening ends in a piece, and messages follow
pub begins_to_hear : {T : Type 0} (keeps : T → List Stamped → List Host → Type 0) (c : Stream T) (r : Reader) (waiting : List Host) (times s front piece : List ℕ) → IsOpened r.width r.height (name_in c.opening.name) front → length times ≤ length front
    → r.format ≡ Two → keeps c.tally [] waiting → r.fault ≡ None → s ≡ front ++ piece → Goes (message_at (message_limit Two) r.width r.height) (given Two r.width r.height) r.kept r.passed [] waiting piece
    → Hears keeps c r times s
begins_to_hear keeps c r waiting times s front piece opened before format heard going is goes = record {
  format_is = format;
  at = length front;
  body = piece;
  opened = λ more. ap (λ z. opening_at (z ++ more)) is ∙ ap opening_at (append_assoc front piece more) ∙ opened (piece ++ more);
  length_is = ap (λ z. length z) is ∙ length-append front piece;
  parts = [];
  lead = [];
  since = piece;
  each = tt;
  lead_waits = message-empty (message_limit Two) r.width r.height;
  body_is = refl;
  timed = omega (arith, before);
  waiting = waiting;
  messages_are = heard;
  no_fault = going;
  goes = goes;
}

-- a piece more
pub hears_on : {T : Type 0} (keeps : T → List Stamped → List Host → Type 0) (c new : Stream T) (r after : Reader) (fresh : List Host) (times s piece : List ℕ) → (a : Hears keeps c r times s) → after.format ≡ r.format → after.width ≡ r.width → after.height ≡ r.height
    → new.opening ≡ c.opening → ((told : List Stamped) → (waiting : List Host) → keeps c.tally told waiting → keeps new.tally told (waiting ++ fresh)) → after.fault ≡ None
    → ((rest : List ℕ) → StandsFor r.kept r.passed rest → Goes (message_at (message_limit r.format) r.width r.height) (given r.format r.width r.height) after.kept after.passed [] fresh (rest ++ piece))
    → Hears keeps new after times (s ++ piece)
hears_on keeps c new r after fresh times s piece a format wide high opening told going goes =
    let goes_in_two = rw a.format_is at goes in
    let all : List Host = a.waiting ++ fresh in
    let on : Goes (message_at (message_limit Two) r.width r.height) (given Two r.width r.height) after.kept after.passed [] all ((a.lead ++ a.since) ++ piece) =
    goes_on (message_at (message_limit Two) r.width r.height) (given Two r.width r.height) r.kept r.passed after.kept after.passed a.waiting fresh (a.lead ++ a.since) piece a.goes (goes_in_two a.goes.rest a.goes.stands) in
    rw (wide, high, opening) (record {
      format_is = format ∙ a.format_is;
      at = a.at;
      body = a.body ++ piece;
      opened = λ more. ap opening_at (append_assoc s piece more) ∙ a.opened (piece ++ more) ∙ ap (Got (record { width = r.width; height = r.height; name = name_in c.opening.name })) (sym (append_assoc a.body piece more));
      length_is = omega (arith, a.length_is, length-append s piece, length-append a.body piece);
      parts = a.parts;
      lead = a.lead;
      since = a.since ++ piece;
      each = a.each;
      lead_waits = a.lead_waits;
      body_is = ap (λ z. z ++ piece) a.body_is ∙ append_assoc (flat_map bytes_of a.parts) (a.lead ++ a.since) piece ∙ ap (λ z. flat_map bytes_of a.parts ++ z) (append_assoc a.lead a.since piece);
      timed = a.timed;
      waiting = all;
      messages_are = told (stamped r.width r.height (drop a.at times) a.parts) a.waiting a.messages_are;
      no_fault = going;
      goes = subst (λ z. Goes (message_at (message_limit Two) r.width r.height) (given Two r.width r.height) after.kept after.passed [] all z) (append_assoc a.lead a.since piece) on;
    })

-- a fault in a piece
pub hears_fault : {T : Type 0} (keeps : T → List Stamped → List Host → Type 0) (c : Stream T) (fresh : List Host) (r : Reader) (times s piece : List ℕ) (f : FbsFault) → (a : Hears keeps c r times s)
    → OfMessage f (λ w. (rest : List ℕ) → StandsFor r.kept r.passed rest → Stops (message_at (message_limit r.format) r.width r.height) (given r.format r.width r.height) w [] fresh (rest ++ piece))
    → IsDataFault (s ++ piece) f
hears_fault keeps c fresh r times s piece faults.NotFbs a p = p
hears_fault keeps c fresh r times s piece faults.Truncated a p = p
hears_fault keeps c fresh r times s piece faults.Version a p = absurd p
hears_fault keeps c fresh r times s piece faults.Security a p = absurd p
hears_fault keeps c fresh r times s piece faults.Format a p = absurd p
hears_fault keeps c fresh r times s piece faults.Size a p = absurd p
hears_fault keeps c fresh r times s piece (faults.Message w) a p =
    let stops = rw a.format_is at p.1 in
    let read = message_at (message_limit Two) r.width r.height in
    let b : Stops (message_at (message_limit Two) r.width r.height) (given Two r.width r.height) w [] fresh (a.goes.rest ++ piece) = stops a.goes.rest a.goes.stands in
    let bad : message_at (message_limit Two) r.width r.height b.rest ≡ Bad w = unless_other w (message_at (message_limit Two) r.width r.height b.rest ≡ Bad w) p.0 b.fault in
    let x : FaultOf (message_at (message_limit Two) r.width r.height) ((a.lead ++ a.since) ++ piece) w =
    stops_in (message_at (message_limit Two) r.width r.height) (given Two r.width r.height) r.kept r.passed a.waiting fresh (a.lead ++ a.since) piece w a.goes b bad in
    let is : a.body ++ piece ≡ flat_map bytes_of a.parts ++ ((a.lead ++ a.since) ++ piece) = ap (λ z. z ++ piece) a.body_is ∙ append_assoc (flat_map bytes_of a.parts) (a.lead ++ a.since) piece in
    record {
      opening = record { width = r.width; height = r.height; name = name_in c.opening.name };
      body = a.body ++ piece;
      opens = a.opened piece;
      fault = record {
        parts = a.parts ++ x.parts;
        rest = x.rest;
        reads = reads_after r.width r.height a.parts x.parts (a.body ++ piece) ((a.lead ++ a.since) ++ piece) x.rest a.each is x.reads;
        fault = x.fault;
      };
    }
hears_fault keeps c fresh r times s piece faults.NoMemory a p = tt
hears_fault keeps c fresh r times s piece faults.Read a p = p

-- a fault in the piece in which the opening ends
pub begins_with_fault : (f : FbsFault) (w h : ℕ) (name front piece s : List ℕ) (old hosts : List Host) → IsOpened w h name front → s ≡ front ++ piece
    → OfMessage f (λ g. (rest : List ℕ) → StandsFor [] 0 rest → Stops (message_at (message_limit Two) w h) (given Two w h) g old hosts (rest ++ piece)) → IsDataFault s f
begins_with_fault faults.NotFbs w h name front piece s old hosts opened is p = p
begins_with_fault faults.Truncated w h name front piece s old hosts opened is p = p
begins_with_fault faults.Version w h name front piece s old hosts opened is p = absurd p
begins_with_fault faults.Security w h name front piece s old hosts opened is p = absurd p
begins_with_fault faults.Format w h name front piece s old hosts opened is p = absurd p
begins_with_fault faults.Size w h name front piece s old hosts opened is p = absurd p
begins_with_fault (faults.Message g) w h name front piece s old hosts opened is p =
    let b : Stops (message_at (message_limit Two) w h) (given Two w h) g old hosts piece = p.1 [] (record { skipped = []; count = refl; is = refl }) in
    let bad : message_at (message_limit Two) w h b.rest ≡ Bad g = unless_other g (message_at (message_limit Two) w h b.rest ≡ Bad g) p.0 b.fault in
    record {
      opening = record { width = w; height = h; name = name };
      body = piece;
      opens = ap opening_at is ∙ opened piece;
      fault = record { parts = b.gives.parts; rest = b.rest; reads = b.gives.reads; fault = bad };
    }
begins_with_fault faults.NoMemory w h name front piece s old hosts opened is p = tt
begins_with_fault faults.Read w h name front piece s old hosts opened is p = p

-- a block ends: what became whole in it has its time
pub block_ends : {T : Type 0} (keeps : T → List Stamped → List Host → Type 0) (c new : Stream T) (r : Reader) (times s : List ℕ) (n t : ℕ) → (a : Hears keeps c r times s) → length s ≡ length times + n → new.opening ≡ c.opening
    → ((told : List Stamped) → (waiting : List Host) → keeps c.tally told waiting → keeps new.tally (told ++ at_time t waiting) []) → Hears keeps new r (times ++ replicate n t) s
block_ends keeps c new r times s n t a long opening stamps_all =
    let w : ℕ = r.width in
    let h : ℕ = r.height in
    let g = a.goes in
    let new_parts : List (Part Message) = g.gives.parts in
    let size = ap (λ z. length z) a.body_is in
    let sizes : length a.body ≡ length (flat_map bytes_of a.parts) + (length a.lead + length a.since) =
    omega (arith, size, length-append (flat_map bytes_of a.parts) (a.lead ++ a.since), length-append a.lead a.since) in
    let all_of_them : Reads (message_at (message_limit Two) w h) a.body (a.parts ++ new_parts) g.rest = reads_after w h a.parts new_parts a.body (a.lead ++ a.since) g.rest a.each a.body_is g.gives.reads in
    let size' = ap (λ z. length z) all_of_them.stream_is in
    let stamps : stamped w h (drop a.at (times ++ replicate n t)) (a.parts ++ new_parts) ≡ stamped w h (drop a.at times) a.parts ++ at_time t (flat_map (λ p. given Two w h p.message p.bytes) new_parts) =
    block_stamped w h times a.at n t a.parts new_parts a.lead a.since g.rest a.timed (omega (arith, sizes, a.timed, a.length_is, long)) a.lead_waits a.each g.gives.reads.each g.gives.reads.stream_is in
    let told : List Stamped = stamped w h (drop a.at times) a.parts in
    let all_told : told ++ at_time t a.waiting ≡ stamped w h (drop a.at (times ++ replicate n t)) (a.parts ++ new_parts) = ap (λ z. told ++ at_time t z) g.gives.given ∙ sym stamps in
    rw opening (record {
      format_is = a.format_is;
      at = a.at;
      body = a.body;
      opened = a.opened;
      length_is = a.length_is;
      parts = a.parts ++ new_parts;
      lead = g.rest;
      since = [];
      each = all_of_them.each;
      lead_waits = g.waits;
      body_is = all_of_them.stream_is ∙ ap (λ z. flat_map bytes_of (a.parts ++ new_parts) ++ z) (sym (append-nil g.rest));
      timed = omega (arith, size', length-append (flat_map bytes_of (a.parts ++ new_parts)) g.rest, length-append times (replicate n t), length-replicate n t, long, a.length_is);
      waiting = [];
      messages_are = subst (λ z. keeps new.tally z []) all_told (stamps_all told a.waiting a.messages_are);
      no_fault = a.no_fault;
      goes = record {
        rest = g.rest;
        gives = gives_none (message_at (message_limit Two) w h) (given Two w h) [] [] (g.rest ++ []) g.rest refl (append-nil g.rest);
        stands = g.stands;
        waits = g.waits;
      };
    })

waits_in : (name : Option Name) (head s : List ℕ) → MatchOption name (IsInHead head s) (λ n. IsInName n s × (0 < n.left)) → opening_at s ≡ More
unfolding named
waits_in None head s p = ap opening_at p.is ∙ p.waits
waits_in (Some n) head s p =
    let short : length (p.0.came ++ []) < n.announced.count = omega (arith, p.1, p.0.counted, length-append p.0.came []) in
    ap opening_at (sym (append-nil s)) ∙ p.0.link [] ∙ rw (field-short {E = FbsFault} n.announced.count (p.0.came ++ []) short) refl

pub opening_waits : {T : Type 0} (keeps : T → List Stamped → List Host → Type 0) (c : Stream T) (times s : List ℕ) → Opens keeps c times s → opening_at s ≡ More
opening_waits keeps c times s o = waits_in c.opening.name c.opening.head.items s o.opening

-- an unfinished message begins with no whole one
no_more : (w h : ℕ) (lead rest : List ℕ) (new : List (Part Message)) → message_at (message_limit Two) w h lead ≡ More → AllByRecursion (IsPart (message_at (message_limit Two) w h)) new
    → lead ≡ flat_map bytes_of new ++ rest → lead ≡ rest
no_more w h lead rest [] waits all e = e
no_more w h lead rest (p ∷ new) waits all e =
    absurd (waits_begins_none (message_at (message_limit Two) w h) (message_local (message_limit Two) w h) lead waits p (flat_map bytes_of new ++ rest) all.0 (e ∙ append_assoc p.bytes (flat_map bytes_of new) rest))

-- and nothing is given of it
none_given : (w h : ℕ) (lead rest : List ℕ) (new : List (Part Message)) → message_at (message_limit Two) w h lead ≡ More → AllByRecursion (IsPart (message_at (message_limit Two) w h)) new
    → lead ≡ flat_map bytes_of new ++ rest → given_of (given Two w h) new ≡ []
none_given w h lead rest [] waits all e = refl
none_given w h lead rest (p ∷ new) waits all e =
    absurd (waits_begins_none (message_at (message_limit Two) w h) (message_local (message_limit Two) w h) lead waits p (flat_map bytes_of new ++ rest) all.0 (e ∙ append_assoc p.bytes (flat_map bytes_of new) rest))

-- whole blocks end in a message that isn't whole
pub told_by : {T : Type 0} (keeps : T → List Stamped → List Host → Type 0) (c : Stream T) (r : Reader) (told : Told T) (times s : List ℕ) → (a : Hears keeps c r times s) → length times ≡ length s → told.size.width ≡ r.width → told.size.height ≡ r.height
    → told.name.items ≡ name_in c.opening.name → told.tally ≡ c.tally → told.rest ≡ length r.kept + r.passed → IsTold keeps s times told
told_by keeps c r told times s a whole wide high name_is tally_is rest_is =
    let size = ap (λ z. length z) a.body_is in
    let sizes : length a.body ≡ length (flat_map bytes_of a.parts) + (length a.lead + length a.since) =
    omega (arith, size, length-append (flat_map bytes_of a.parts) (a.lead ++ a.since), length-append a.lead a.since) in
    let none : a.since ≡ [] = empty_list a.since (omega (arith, sizes, a.timed, a.length_is, whole)) in
    let lead_is : a.lead ++ a.since ≡ a.lead = ap (λ z. a.lead ++ z) none ∙ append-nil a.lead in
    let rest : a.lead ≡ a.goes.rest = no_more r.width r.height a.lead a.goes.rest a.goes.gives.parts a.lead_waits a.goes.gives.reads.each (sym lead_is ∙ a.goes.gives.reads.stream_is) in
    let given_none : a.waiting ≡ [] = a.goes.gives.given ∙ none_given r.width r.height a.lead a.goes.rest a.goes.gives.parts a.lead_waits a.goes.gives.reads.each (sym lead_is ∙ a.goes.gives.reads.stream_is) in
    let kept = ap (λ z. length z) a.goes.stands.is in
    let at : a.at ≡ length s - length a.body = omega (arith, a.length_is) in
    let messages : List Stamped = stamped r.width r.height (drop a.at times) a.parts in
    let opening : Opening = record { width = r.width; height = r.height; name = name_in c.opening.name } in
    record {
      messages = messages;
      tally = rw tally_is (subst (keeps c.tally messages) given_none a.messages_are);
      tells = rw (wide, high, name_is, rest_is) (record {
        body = a.body;
        opens = ap opening_at (sym (append-nil s)) ∙ a.opened [] ∙ ap (Got opening) (append-nil a.body);
        parts = a.parts;
        rest = a.lead;
        reads = record { each = a.each; stream_is = a.body_is ∙ ap (λ z. flat_map bytes_of a.parts ++ z) lead_is };
        waits = a.lead_waits;
        messages_are = ap (λ z. stamped r.width r.height (drop z times) a.parts) at;
        rest_is = omega (arith, kept, length-append r.kept a.goes.stands.skipped, a.goes.stands.count, ap (λ z. length z) rest);
      });
    }

pub waits_within : {T : Type 0} (keeps : T → List Stamped → List Host → Type 0) (c : Stream T) (r : Reader) (times s : List ℕ) → Hears keeps c r times s → Waits s
waits_within keeps c r times s a = record {
  opening = record { width = r.width; height = r.height; name = name_in c.opening.name };
  body = a.body;
  opens = ap opening_at (sym (append-nil s)) ∙ a.opened [] ∙ ap (Got (record { width = r.width; height = r.height; name = name_in c.opening.name })) (append-nil a.body);
  parts = a.parts ++ a.goes.gives.parts;
  rest = a.goes.rest;
  reads = reads_after r.width r.height a.parts a.goes.gives.parts a.body (a.lead ++ a.since) a.goes.rest a.each a.body_is a.goes.gives.reads;
  waits = a.goes.waits;
}

pub stands_open : {T : Type 0} (keeps : T → List Stamped → List Host → Type 0) (c : Stream T) (times s : List ℕ) → c.reader ≡ None → Stands keeps c times s → Opens keeps c times s
stands_open keeps c times s e stands = subst (λ z. MatchOption z (Opens keeps c times s) (λ r. Hears keeps c r times s)) e stands

pub stands_heard : {T : Type 0} (keeps : T → List Stamped → List Host → Type 0) (c : Stream T) (r : Reader) (times s : List ℕ) → c.reader ≡ Some r → Stands keeps c times s → Hears keeps c r times s
stands_heard keeps c r times s e stands = subst (λ z. MatchOption z (Opens keeps c times s) (λ q. Hears keeps c q times s)) e stands

heard_or_not : (o : Option Reader) → (o ≡ None) ⊎ ((r : Reader) × (o ≡ Some r))
heard_or_not None = inl refl
heard_or_not (Some r) = inr (r, refl)

-- a block ends, in the opening or after it
pub block_over : {T : Type 0} (keeps : T → List Stamped → List Host → Type 0) (c new : Stream T) (times s : List ℕ) (n t : ℕ) → length s ≡ length times + n → new.opening ≡ c.opening → new.reader ≡ c.reader
    → ((told : List Stamped) → (waiting : List Host) → keeps c.tally told waiting → keeps new.tally (told ++ at_time t waiting) []) → Stands keeps c times s → Stands keeps new (times ++ replicate n t) s
block_over keeps c new times s n t long opening reader stamps_all stands = elim (heard_or_not c.reader) [
  | inl closed ↦
      (let o : Opens keeps c times s = stands_open keeps c times s closed stands in
      let same : Opens keeps new (times ++ replicate n t) s = record {
        opening = subst (λ z. IsInOpening z s) (sym opening) o.opening;
        nothing = stamps_all [] [] o.nothing;
        before = omega (arith, long, length-append times (replicate n t), length-replicate n t);
      } in
      subst (λ z. MatchOption z (Opens keeps new (times ++ replicate n t) s) (λ r. Hears keeps new r (times ++ replicate n t) s)) (sym (reader ∙ closed)) same)
  | inr heard ↦
      (let a : Hears keeps c heard.0 times s = stands_heard keeps c heard.0 times s heard.1 stands in
      subst (λ z. MatchOption z (Opens keeps new (times ++ replicate n t) s) (λ r. Hears keeps new r (times ++ replicate n t) s)) (sym (reader ∙ heard.1))
      (block_ends keeps c new heard.0 times s n t a long opening stamps_all))
]

-- there is no fault so far
pub no_fault_yet : {T : Type 0} (keeps : T → List Stamped → List Host → Type 0) (c : Stream T) (times s : List ℕ) → Stands keeps c times s → (opening_at s ≡ More) ⊎ Waits s
no_fault_yet keeps c times s stands = elim (heard_or_not c.reader) [
  | inl closed ↦ inl (opening_waits keeps c times s (stands_open keeps c times s closed stands))
  | inr heard ↦ inr (waits_within keeps c heard.0 times s (stands_heard keeps c heard.0 times s heard.1 stands))
]
