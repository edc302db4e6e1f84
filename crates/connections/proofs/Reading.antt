-- What a host's stream has given, over several reads.
use Rattle.std.proofs.Common.{◌≡◌, List, [], ◌∷◌, ◌++◌, ℕ, Bool, true, false, true≢false, Option, None, Some, refl, sym, ap, ◌∙◌, subst, append-nil, append_assoc}
use Rattle.rfb_wire.specs.Host.{Host}
use Rattle.host_session.specs.Session.{Session}
use Rattle.host_stream.specs.declared.end.HostEnd.{HostEnd}
use Rattle.host_stream.specs.declared.stream.Next.{Next}
use Rattle.host_stream.specs.declared.stream.Next.TheVariants.{Message, Read, Ended}
use Rattle.host_stream.specs.Streams.{Stream, HasGiven, HasRead, GivesNext, GivesAll, next_of, after_next}

pub reads_none : (s : Stream) → HasRead s s
reads_none s bytes given h = ([], subst (λ (b : List ℕ). HasGiven s b given) (sym (append-nil bytes)) h)

pub reads_on : (a b c : Stream) → HasRead a b → HasRead b c → HasRead a c
reads_on a b c first second bytes given h =
    let p = first bytes given h in
    let q = second (bytes ++ p.0) given p.1 in
    (p.0 ++ q.0, subst (λ (l : List ℕ). HasGiven c l given) (append_assoc bytes p.0 q.0) q.1)

pub gives_then : (a b c : Stream) (m : Host) → HasRead a b → ((bytes : List ℕ) (given : List Host) → HasGiven b bytes given → HasGiven c bytes (given ++ m ∷ [])) → GivesNext a c m
gives_then a b c m read gives bytes given h = let p = read bytes given h in (p.0, gives (bytes ++ p.0) given p.1)

abbrev is_message : Next → Bool
is_message (Message m) = true
is_message Read = false
is_message Ended = false

abbrev is_read : Next → Bool
is_read (Message m) = false
is_read Read = true
is_read Ended = false

-- nothing waits if the host is read from, or the end is told
pub none_at_end : (s : Session) (w : List Host) (e : Option HostEnd) (b : Bool) → next_of (record { session = s; waiting = w; end = e }) b ≡ Ended → w ≡ []
none_at_end s [] e b h = refl
none_at_end s (m ∷ ms) e b h = absurd (true≢false (ap is_message h))

pub none_at_read : (s : Session) (w : List Host) (e : Option HostEnd) (b : Bool) → next_of (record { session = s; waiting = w; end = e }) b ≡ Read → (w ≡ []) × (e ≡ None)
none_at_read s [] None false h = (refl, refl)
none_at_read s [] (Some e) false h = absurd (true≢false (sym (ap is_read h)))
none_at_read s [] e true h = absurd (true≢false (sym (ap is_read h)))
none_at_read s (m ∷ ms) e b h = absurd (true≢false (ap is_message h))

-- and nothing changes there
pub same_after : (s : Session) (w : List Host) (e : Option HostEnd) → w ≡ [] → after_next (record { session = s; waiting = w; end = e }) ≡ record { session = s; waiting = w; end = e }
same_after s w e none = subst (λ (v : List Host). after_next (record { session = s; waiting = v; end = e }) ≡ record { session = s; waiting = v; end = e }) (sym none) refl
