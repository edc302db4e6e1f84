-- Each message that a session gives is of its format, and of the size that the host has told.
use Rattle.std.proofs.Common.{◌≡◌, ℕ, List, [], ◌∷◌, ◌++◌, Option, None, Some, refl, sym, subst}
use Rattle.std.specs.List.{AllByRecursion}
use Rattle.terms.specs.declared.format.Format.{Format}
use Rattle.client_wire.specs.Stream.{Part, given_of}
use Rattle.rfb_wire.specs.Grammar.{Message, Recorded, ReadOver}
use Rattle.rfb_wire.specs.Host.{Host}
use Rattle.rfb_wire.specs.Reader.{Reader}
use Rattle.rfb_wire.specs.Stream.{given}
use Rattle.host_session.specs.declared.expected.ExpectedScreen.{ExpectedScreen}
use Rattle.host_session.specs.declared.fault.HostFault.{HostFault}
use Rattle.host_session.specs.declared.stage.Position.{Position}
use Rattle.host_session.specs.Session.{Session, Stands, AreGiven, Gets, expected_of, size_of, told_by}
use Rattle.host_stream.specs.Streams.{Holds, HasGiven, IsOfHost, Stream}

abbrev IsOf : Format → ℕ → ℕ → Host → Type 0
IsOf format width height m = (m.format ≡ format) × (m.width ≡ width) × (m.height ≡ height)

abbrev AreOf : Format → ℕ → ℕ → List Host → Type 0
AreOf format width height ms = AllByRecursion (IsOf format width height) ms

one_given : (format : Format) (width height : ℕ) (message : Message) (bytes : List ℕ) (ms : List Host) → AreOf format width height ms → AreOf format width height (given format width height message bytes ++ ms)
one_given format width height (Recorded rectangles) bytes ms rest = ((refl, refl, refl), rest)
one_given format width height ReadOver bytes ms rest = rest

all_given : (format : Format) (width height : ℕ) (parts : List (Part Message)) → AreOf format width height (given_of (given format width height) parts)
all_given format width height [] = tt
all_given format width height (p ∷ parts) =
    one_given format width height p.message p.bytes (given_of (given format width height) parts) (all_given format width height parts)

one_of : (format : Format) (width height : ℕ) (before after : List Host) (m : Host) → AreOf format width height (before ++ m ∷ [] ++ after) → IsOf format width height m
one_of format width height [] after m all = all.0
one_of format width height (x ∷ before) after m all = one_of format width height before after m all.1

is_some : (before after : List Host) (m : Host) → before ++ m ∷ [] ++ after ≡ [] → ⊥
is_some [] after m e = let contrary : m ∷ after ≡ [] = e in cc
is_some (x ∷ before) after m e = let contrary : x ∷ (before ++ m ∷ [] ++ after) ≡ [] = e in cc

abbrev IsTold : Format → Option Reader → List ℕ → Host → Type 0
IsTold format reader kept m = (m.format ≡ format) × (size_of (told_by reader kept) ≡ Some (record { width = m.width; height = m.height }))

told_of : (expected : ExpectedScreen) (r : Reader) (name stream : List ℕ) (before after : List Host) (m : Host) (tail : List ℕ)
    → Gets expected r.width r.height name stream (before ++ m ∷ [] ++ after) tail → IsTold expected.format (Some r) name m
told_of expected r name stream before after m tail g =
    let all = subst (AreOf expected.format r.width r.height) (sym g.gives.given) (all_given expected.format r.width r.height g.gives.parts) in
    let is = one_of expected.format r.width r.height before after m all in
    (is.0, rw (is.1, is.2) refl)

told_after : (expected : ExpectedScreen) (position : Position) (kept : List ℕ) (reader : Option Reader) (stream : List ℕ) (before after : List Host) (m : Host) (said : List ℕ)
    → Stands expected position kept reader stream (before ++ m ∷ [] ++ after) said → IsTold expected.format reader kept m
told_after expected position kept None stream before after m said h = absurd (is_some before after m h.none)
told_after expected position kept (Some r) stream before after m said h = told_of expected r kept stream before after m h.tail h.follows.gets

told_before : (expected : ExpectedScreen) (kept : List ℕ) (reader : Option Reader) (stream : List ℕ) (before after : List Host) (m : Host)
    → AreGiven expected kept reader stream (before ++ m ∷ [] ++ after) → IsTold expected.format reader kept m
told_before expected kept None stream before after m h = absurd (is_some before after m h)
told_before expected kept (Some r) stream before after m h = told_of expected r kept stream before after m h.tail h.gets

told_held : (fault : Option HostFault) (s : Session) (bytes : List ℕ) (before after : List Host) (m : Host) (sent : List ℕ) → Holds fault s bytes (before ++ m ∷ [] ++ after) sent → IsOfHost s m
told_held None s bytes before after m sent h = told_after (expected_of s) s.position s.kept s.reader bytes before after m (sent ++ s.due) h
told_held (Some f) s bytes before after m sent h = told_before (expected_of s) s.kept s.reader bytes before after m h.given

pub given_of_host : (s : Stream) (bytes : List ℕ) (before : List Host) (m : Host) → HasGiven s bytes (before ++ m ∷ []) → IsOfHost s.session m
given_of_host s bytes before m h = told_held s.session.fault s.session bytes before s.waiting m h.sent h.holds
