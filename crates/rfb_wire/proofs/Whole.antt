-- Bytes that are exactly one message, and bytes that aren't.
use Rattle.std.proofs.Common.{◌≡◌, ℕ, ◌+◌, List, [], ◌∷◌, ◌++◌, length, refl, sym, ap, subst, ◌∙◌, arith, append_assoc, length-append}
use Rattle.std.specs.List.{flat_map, AllByRecursion}
use Rattle.std.proofs.lemmas.List.{append-nil}
use Rattle.terms.specs.declared.format.Format.{Format}
use Rattle.terms.specs.Reading.{Got, More, Bad}
use Rattle.terms.proofs.Readings.{field-short}
use Rattle.terms.specs.declared.wire_fault.WireFault.{WireFault}
use Rattle.terms.specs.Fault.{UnlessMemory}
use Rattle.client_wire.specs.Stream.{Part, IsPart, bytes_of, given_of, Goes, FaultOf, Stops}
use Rattle.rfb_wire.specs.Grammar.{message_at, message_limit, Message, Recorded, ReadOver}
use Rattle.rfb_wire.specs.Host.{Host, host_of}
use Rattle.rfb_wire.specs.Stream.{IsFor, given}
use Rattle.terms.specs.declared.wire_fault.WireFault.TheVariants as faults
use Rattle.client_wire.proofs.Streams.{waits_begins_none, one_reading, empty_list, no_fault}
use Rattle.rfb_wire.proofs.Local.{message_local}
use Rattle.rfb_wire.proofs.Streams.{part_of, reads_one, message_again, same_host}
use Rattle.client_wire.proofs.Fronts.{unless_memory_map}

-- no bytes are an unfinished message
pub message-empty : (limit width height : ℕ) → message_at limit width height [] ≡ More
unfolding message_at
message-empty limit width height = rw (field-short {E = WireFault} 1 [] (omega arith)) refl

-- the parts around the last of the recorded messages
record Around (format : Format) (width height : ℕ) (parts : List (Part Message)) (m : Host) : Type 0 where
  is : IsFor format width height m
  front : List ℕ
  back : List ℕ
  bytes_are : flat_map bytes_of parts ≡ front ++ (m.bytes ++ back)

around_later : (format : Format) (width height : ℕ) (p : Part Message) (parts : List (Part Message)) (m : Host) → Around format width height parts m → Around format width height (p ∷ parts) m
around_later format width height p parts m a = record {
  is = a.is;
  front = p.bytes ++ a.front;
  back = a.back;
  bytes_are = ap (λ z. p.bytes ++ z) a.bytes_are ∙ sym (append_assoc p.bytes a.front (m.bytes ++ a.back));
}

around_first : (format : Format) (width height : ℕ) (message : Message) (p : Part Message) (parts : List (Part Message)) (before : List Host) (m : Host)
    → p.message ≡ message → IsPart (message_at (message_limit format) width height) p
    → ((others : List Host) → given_of (given format width height) parts ≡ others ++ m ∷ [] → Around format width height parts m)
    → given format width height message p.bytes ++ given_of (given format width height) parts ≡ before ++ m ∷ [] → Around format width height (p ∷ parts) m
around_first format width height (Recorded rs) p parts [] m says is later e =
    let same : host_of format width height p.bytes rs ≡ m = cc in
    let read : message_at (message_limit format) width height p.bytes ≡ Got (Recorded rs) [] = is ∙ ap (λ z. Got z []) says in
    subst (λ (k : Host). Around format width height (p ∷ parts) k) same
    (record { is = record { format_is = refl; width_is = refl; height_is = refl; recorded = read }; front = []; back = flat_map bytes_of parts; bytes_are = refl })
around_first format width height (Recorded rs) p parts (k ∷ before) m says is later e =
    let others : given_of (given format width height) parts ≡ before ++ m ∷ [] = cc in
    around_later format width height p parts m (later before others)
around_first format width height ReadOver p parts before m says is later e = around_later format width height p parts m (later before e)

around_last : (format : Format) (width height : ℕ) (parts : List (Part Message)) (before : List Host) (m : Host) → AllByRecursion (IsPart (message_at (message_limit format) width height)) parts
    → given_of (given format width height) parts ≡ before ++ m ∷ [] → Around format width height parts m
around_last format width height [] [] m all e = absurd (cc)
around_last format width height [] (n ∷ before) m all e = absurd (cc)
around_last format width height (p ∷ parts) before m all e =
    around_first format width height p.message p parts before m refl all.0 (λ others. around_last format width height parts others m all.1) e

-- a message as long as the stream is the stream
stream_one : (front bytes back rest stream : List ℕ) → stream ≡ (front ++ (bytes ++ back)) ++ rest → length bytes ≡ length stream → bytes ≡ stream
stream_one front bytes back rest stream is same =
    let lengths = ap length is in
    let all : length ((front ++ (bytes ++ back)) ++ rest) ≡ length front + (length bytes + length back) + length rest =
    rw (length-append, length-append, length-append) refl in
    let no_front : front ≡ [] = empty_list front (omega arith) in
    let no_back : back ≡ [] = empty_list back (omega arith) in
    let no_rest : rest ≡ [] = empty_list rest (omega arith) in
    let whole : stream ≡ ([] ++ (bytes ++ [])) ++ [] = is ∙ rw (no_front, no_back, no_rest) refl in
    sym (whole ∙ append-nil (bytes ++ []) ∙ append-nil bytes)

pub whole_is : (format : Format) (width height passed : ℕ) (kept stream : List ℕ) (all before : List Host) (m : Host)
    → Goes (message_at (message_limit format) width height) (given format width height) kept passed [] all stream
    → all ≡ before ++ m ∷ [] → length m.bytes ≡ length stream → IsFor format width height m × (m.bytes ≡ stream)
whole_is format width height passed kept stream all before m goes last same =
    let r = goes.gives.reads in
    let messages : given_of (given format width height) goes.gives.parts ≡ before ++ m ∷ [] = sym goes.gives.given ∙ last in
    let a = around_last format width height goes.gives.parts before m r.each messages in
    let is : stream ≡ (a.front ++ (m.bytes ++ a.back)) ++ goes.rest = r.stream_is ∙ ap (λ z. z ++ goes.rest) a.bytes_are in
    (a.is, stream_one a.front m.bytes a.back goes.rest stream is same)

-- the messages that were given, if the stream is one message
given_one : (format : Format) (width height passed : ℕ) (kept stream : List ℕ) (all : List Host) (m : Host)
    → Goes (message_at (message_limit format) width height) (given format width height) kept passed [] all stream
    → IsFor format width height m → m.bytes ≡ stream → all ≡ m ∷ []
given_one format width height passed kept stream all m goes is same =
    let read = message_at (message_limit format) width height in
    let local = message_local (message_limit format) width height in
    let one = one_reading read local stream stream goes.gives.parts (part_of m stream ∷ []) goes.rest [] refl
    goes.gives.reads (waits_begins_none read local goes.rest goes.waits)
    (reads_one format width height m stream is same) (waits_begins_none read local [] (message-empty (message_limit format) width height)) in
    let host : host_of format width height stream m.rectangles ≡ m =
    same_host (host_of format width height stream m.rectangles) m (sym is.format_is) (sym is.width_is) (sym is.height_is) (sym same) refl in
    goes.gives.given ∙ ap (given_of (given format width height)) one.0 ∙ ap (λ (k : Host). k ∷ []) host

pub none_given : (format : Format) (width height passed : ℕ) (kept stream : List ℕ) (all : List Host) (m : Host) → Goes (message_at (message_limit format) width height) (given format width height) kept passed [] all stream
    → all ≡ [] → IsFor format width height m → m.bytes ≡ stream → ⊥
none_given format width height passed kept stream all m goes none is same =
    let both = sym none ∙ given_one format width height passed kept stream all m goes is same in
    absurd (cc)

last_of_one : (before : List Host) (last m : Host) → before ++ last ∷ [] ≡ m ∷ [] → last ≡ m
last_of_one [] last m e = cc
last_of_one (n ∷ []) last m e = absurd (cc)
last_of_one (n ∷ k ∷ before) last m e = absurd (cc)

pub other_given : (format : Format) (width height passed : ℕ) (kept stream : List ℕ) (all before : List Host) (last m : Host) → Goes (message_at (message_limit format) width height) (given format width height) kept passed [] all stream
    → all ≡ before ++ last ∷ [] → (length last.bytes ≡ length stream → ⊥) → IsFor format width height m → m.bytes ≡ stream → ⊥
other_given format width height passed kept stream all before last m goes is differ for same =
    let one = last_of_one before last m (sym is ∙ given_one format width height passed kept stream all m goes for same) in
    differ (ap (λ (n : Host). length n.bytes) one ∙ ap length same)

-- One message of these bytes.
pub same_by_bytes : (format : Format) (width height : ℕ) (m n : Host) (bytes : List ℕ) → IsFor format width height m → m.bytes ≡ bytes → IsFor format width height n → n.bytes ≡ bytes → m ≡ n
same_by_bytes format width height m n bytes is same other others =
    let both : m.bytes ≡ n.bytes = same ∙ sym others in
    let read = sym (message_again format width height m [] is) ∙ ap (λ b. message_at (message_limit format) width height (b ++ [])) both ∙ message_again format width height n [] other in
    let rectangles : m.rectangles ≡ n.rectangles = cc in
    same_host m n (is.format_is ∙ sym other.format_is) (is.width_is ∙ sym other.width_is) (is.height_is ∙ sym other.height_is) both rectangles

-- One message has no fault.
pub faultless : (format : Format) (width height : ℕ) (m : Host) (bytes : List ℕ) (f : WireFault) → IsFor format width height m → m.bytes ≡ bytes
    → FaultOf (message_at (message_limit format) width height) bytes f → ⊥
faultless format width height m bytes f is same fault =
    no_fault (message_at (message_limit format) width height) (message_local (message_limit format) width height) bytes (part_of m bytes ∷ []) [] f
    (reads_one format width height m bytes is same) (message-empty (message_limit format) width height) fault

-- a reader that stops in one message stops when memory runs out
pub memory_alone : (format : Format) (width height : ℕ) (m : Host) (bytes : List ℕ) (all : List Host) (f : WireFault) → IsFor format width height m → m.bytes ≡ bytes
    → Stops (message_at (message_limit format) width height) (given format width height) f [] all bytes → f ≡ faults.NoMemory
memory_alone format width height m bytes all f is same stops = alone f (fault_of f refl)
  where
    alone : (e : WireFault) → UnlessMemory e ⊥ → e ≡ faults.NoMemory
    alone faults.UnknownType none = absurd none
    alone faults.OutsideScreen none = absurd none
    alone (faults.Encoding n) none = absurd none
    alone faults.TooLong none = absurd none
    alone faults.BadRre none = absurd none
    alone faults.BadHextile none = absurd none
    alone faults.SourceOutside none = absurd none
    alone (faults.BadFormat e) none = absurd none
    alone faults.NoMemory none = refl

    fault_of : (e : WireFault) → e ≡ f → UnlessMemory e ⊥
    fault_of e is_f = unless_memory_map e (message_at (message_limit format) width height stops.rest ≡ Bad e) ⊥
        (λ here. faultless format width height m bytes e is same (record { parts = stops.gives.parts; rest = stops.rest; reads = stops.gives.reads; fault = here }))
        (subst (λ z. UnlessMemory z (message_at (message_limit format) width height stops.rest ≡ Bad z)) (sym is_f) stops.fault)
