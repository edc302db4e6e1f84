-- What a session stands for, in the words of its stream alone.
use Rattle.std.proofs.Common.{ℕ, ◌+◌, List, [], ◌++◌, length, refl, sym, ap, ◌∙◌}
use Rattle.std.specs.Prelude.{Option, None, Some}
use Rattle.std.proofs.lemmas.List.{append-nil, length-append}
use Rattle.terms.specs.Reading.{Got, Bad}
use Rattle.rfb_wire.specs.Host.{Host}
use Rattle.rfb_wire.specs.Reader.{Reader}
use Rattle.host_session.specs.declared.fault.HostFault.{HostFault}
use Rattle.host_session.specs.declared.fault.HostFault.TheVariants as faults
use Rattle.host_session.specs.declared.stage.Position.{Position}
use Rattle.host_session.specs.Stage.{reason_of}
use Rattle.host_session.specs.Handshake.{Told, handshake_at}
use Rattle.host_session.specs.Take.{told_at}
use Rattle.host_session.specs.Session.{Gets, IsListening, Stands, EndsAfter, AreGiven, told_by, unfinished_in}
use Rattle.host_session.specs.Conversation.{IsInMessages, WaitsForMore, Unfinished, IsConversation, IsRefusal, AreOfStream}
use Rattle.host_session.proofs.Sessions.{handshake_is, say_last}
use Rattle.host_session.specs.declared.expected.ExpectedScreen.{ExpectedScreen}

-- the messages of a stream after its handshake
in_messages : (expected : ExpectedScreen) (w h : ℕ) (name stream : List ℕ) (messages : List Host) (tail : List ℕ)
    → (g : Gets expected w h name stream messages tail) → IsInMessages expected stream messages (told_at w h name) g.answers tail
in_messages expected w h name stream messages tail g =
    let told : Told = told_at w h name in
    record {
      rest = g.rest;
      handshake = ap (handshake_at expected) g.stream_is ∙ sym (handshake_is expected (g.front ++ g.rest)) ∙ g.ends.link g.rest ∙ say_last g.answers (Got told g.rest);
      parts = g.gives.parts;
      reads = g.gives.reads;
      messages_are = g.gives.given;
    }

waits : (expected : ExpectedScreen) (kept : List ℕ) (r : Reader) (stream : List ℕ) (messages : List Host) (said : List ℕ)
    → IsListening expected kept r stream messages said → WaitsForMore expected stream messages said (told_at r.width r.height kept)
waits expected kept r stream messages said is = record {
  answers = is.follows.gets.answers;
  tail = is.tail;
  following = in_messages expected r.width r.height kept stream messages is.tail is.follows.gets;
  waits = is.waits;
  said_is = is.follows.said_is;
}

pub means : (expected : ExpectedScreen) (position : Position) (kept : List ℕ) (reader : Option Reader) (stream : List ℕ) (messages : List Host) (said : List ℕ)
    → Stands expected position kept reader stream messages said → IsConversation expected stream (told_by reader kept) messages said
means expected position kept None stream messages said is = record { reads = is.reads; none = is.none }
means expected position kept (Some r) stream messages said is = waits expected kept r stream messages said is

pub unfinished_means : (expected : ExpectedScreen) (position : Position) (kept : List ℕ) (reader : Option Reader) (stream : List ℕ) (messages : List Host) (said : List ℕ)
    → Stands expected position kept reader stream messages said → Unfinished expected stream (told_by reader kept) messages (unfinished_in reader)
unfinished_means expected position kept None stream messages said is = refl
unfinished_means expected position kept (Some r) stream messages said is = record {
  answers = is.follows.gets.answers;
  tail = is.tail;
  following = in_messages expected r.width r.height kept stream messages is.tail is.follows.gets;
  waits = is.waits;
  count_is = sym (ap length is.stands.is ∙ length-append r.kept is.stands.skipped ∙ ap (λ n. length r.kept + n) is.stands.count);
}

pub ends_means : (expected : ExpectedScreen) (kept : List ℕ) (reader : Option Reader) (stream : List ℕ) (messages : List Host) (said : List ℕ) (f : HostFault)
    → EndsAfter expected kept reader stream messages said f → IsRefusal expected stream (told_by reader kept) messages said f (reason_of f kept)
ends_means expected kept None stream messages said f is = record {
  reads = ap (handshake_at expected) (sym (append-nil stream)) ∙ sym (handshake_is expected (stream ++ [])) ∙ is.fails.link []
      ∙ say_last said (Bad (record { fault = f; reason = reason_of f kept }));
  none = is.none;
}
ends_means expected kept (Some r) stream messages said (faults.Wire w) is = record {
  answers = is.follows.gets.answers;
  tail = is.tail;
  following = in_messages expected r.width r.height kept stream messages is.tail is.follows.gets;
  wire = w;
  is = refl;
  fault = is.fault;
  said_is = is.follows.said_is;
  no_reason = refl;
}
ends_means expected kept (Some r) stream messages said faults.Version is = absurd is
ends_means expected kept (Some r) stream messages said faults.NoneNotOffered is = absurd is
ends_means expected kept (Some r) stream messages said faults.Failed is = absurd is
ends_means expected kept (Some r) stream messages said faults.SizeDiffers is = absurd is
ends_means expected kept (Some r) stream messages said faults.TooLarge is = absurd is

pub given_means : (expected : ExpectedScreen) (kept : List ℕ) (reader : Option Reader) (stream : List ℕ) (messages : List Host)
    → AreGiven expected kept reader stream messages → AreOfStream expected stream (told_by reader kept) messages
given_means expected kept None stream messages is = is
given_means expected kept (Some r) stream messages is = record {
  answers = is.gets.answers;
  tail = is.tail;
  following = in_messages expected r.width r.height kept stream messages is.tail is.gets;
}
