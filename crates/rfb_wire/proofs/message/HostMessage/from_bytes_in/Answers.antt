use Rattle.std.proofs.Common.{◌≡◌, ℕ, List, [], None, ◌∙◌, sym, ap, subst, refl, length}
use Rattle.std.proofs.lemmas.List.{append-nil}
use Rattle.terms.specs.Reading.{Bad}
use Rattle.terms.specs.Fault.{UnlessMemory}
use Rattle.terms.specs.declared.wire_fault.WireFault.{WireFault}
use Rattle.terms.specs.declared.format.Format.{Format}
use Rattle.client_wire.specs.Stream.{StandsFor, FaultOf}
use Rattle.client_wire.proofs.Fronts.{unless_memory_map}
use Rattle.client_wire.proofs.Streams.{stands_whole}
use Rattle.rfb_wire.specs.Grammar.{message_at, message_limit}
use Rattle.rfb_wire.specs.Reader.{Reader, at_start}
use Rattle.rfb_wire.specs.declared.fault.BytesFault.TheVariants as bytes_faults
use Rattle.rfb_wire.proofs.Whole.{whole_is, none_given, other_given, same_by_bytes, memory_alone}
use Rattle.rfb_wire.proofs.message.HostMessage.from_bytes_in.Goals as goal

-- a reader at the start of a stream that has taken room
reserved : (format : Format) (width height : ℕ) (r fresh : Reader) → r ≡ record fresh { room = r.room } → fresh ≡ at_start format width height
    → r ≡ record (at_start format width height) { room = r.room }
reserved format width height r fresh takes starts = takes ∙ ap (λ (old : Reader). record old { room = r.room }) starts

pub returns-in_default-pop : goal.returns-in_default-pop
returns-in_default-pop c =
    let s = c.args.screen in
    let r = reserved s.format s.size.width s.size.height c.reserve.new.self c.in_format-reader.result c.reserve.ensures c.in_format-reader.ensures in
    let stands : StandsFor c.reserve.new.self.kept c.reserve.new.self.passed [] = rw r (stands_whole []) in
    let goes = rw (r, c.new-messages.ensures.items) at (c.in_default.ensures.goes [] stands) in
    let p = c.in_default-pop.ensures in
    let none = none_given s.format s.size.width s.size.height _ _ c.args.bytes.now c.feed.new.out.items in
    let empty = p.items ∙ append-nil c.pop.new.self.items ∙ p.rest ∙ rw p.cases.0 refl in
    record {
      ok = tt;
      whole = λ m for same. absurd (none m goes empty for same);
      not_one = λ _ m for same. none m goes empty for same;
      no_fault = λ _ f fault. c.in_default.ensures.none [] f stands (rw r fault);
      wire = λ f is. absurd (cc);
    }

pub returns-then-bytes : goal.returns-then-bytes
returns-then-bytes c =
    let s = c.args.screen in
    let r = reserved s.format s.size.width s.size.height c.reserve.new.self c.in_format-reader.result c.reserve.ensures c.in_format-reader.ensures in
    let stands : StandsFor c.reserve.new.self.kept c.reserve.new.self.passed [] = rw r (stands_whole []) in
    let goes = rw (r, c.new-messages.ensures.items) at (c.in_default.ensures.goes [] stands) in
    let other = other_given s.format s.size.width s.size.height _ _ c.args.bytes.now c.feed.new.out.items c.pop.new.self.items c.in-Some.message in
    let longer = λ (e : length c.in-Some.message.bytes ≡ length c.args.bytes.now). c.if-bytes.true (ap length c.bytes.ensures.value ∙ e) in
    record {
      ok = tt;
      whole = λ m for same. absurd (other m goes c.in-Some.ensures.items longer for same);
      not_one = λ _ m for same. other m goes c.in-Some.ensures.items longer for same;
      no_fault = λ _ f fault. c.in_default.ensures.none [] f stands (rw r fault);
      wire = λ f is. absurd (cc);
    }

pub returns : goal.returns
returns c =
    let s = c.args.screen in
    let r = reserved s.format s.size.width s.size.height c.reserve.new.self c.in_format-reader.result c.reserve.ensures c.in_format-reader.ensures in
    let stands : StandsFor c.reserve.new.self.kept c.reserve.new.self.passed [] = rw r (stands_whole []) in
    let goes = rw (r, c.new-messages.ensures.items) at (c.in_default.ensures.goes [] stands) in
    let same : length c.in-Some.message.bytes ≡ length c.args.bytes.now = ap length (sym c.bytes.ensures.value) ∙ c.if-bytes.false in
    let one = whole_is s.format s.size.width s.size.height _ _ c.args.bytes.now c.feed.new.out.items c.pop.new.self.items c.in-Some.message goes c.in-Some.ensures.items same in
    record {
      ok = one;
      whole = λ m for also. same_by_bytes s.format s.size.width s.size.height c.in-Some.message m c.args.bytes.now one.0 one.1 for also;
      not_one = λ is. absurd (cc);
      no_fault = λ is. absurd (cc);
      wire = λ f is. absurd (cc);
    }

pub returns-in-Err : goal.returns-in-Err
returns-in-Err c =
    let s = c.args.screen in
    let e = c.in-Err.fault in
    let r = reserved s.format s.size.width s.size.height c.reserve.new.self c.in_format-reader.result c.reserve.ensures c.in_format-reader.ensures in
    let stands : StandsFor c.reserve.new.self.kept c.reserve.new.self.passed [] = rw r (stands_whole []) in
    let stops = rw (r, c.new-messages.ensures.items) at (c.in-Err.ensures.faults (rw r refl) [] stands) in
    let read = message_at (message_limit s.format) s.size.width s.size.height in
    let here : UnlessMemory e (FaultOf read c.args.bytes.now e) = unless_memory_map e (read stops.rest ≡ Bad e) (FaultOf read c.args.bytes.now e)
    (λ bad. record { parts = stops.gives.parts; rest = stops.rest; reads = stops.gives.reads; fault = bad }) stops.fault in
    record {
      ok = tt;
      whole = λ m for same. ap bytes_faults.Wire (memory_alone s.format s.size.width s.size.height m c.args.bytes.now c.feed.new.out.items e for same stops);
      not_one = λ is. absurd (cc);
      no_fault = λ is. absurd (cc);
      wire = λ f is. (let same : e ≡ f = cc in subst (λ (z : WireFault). UnlessMemory z (FaultOf read c.args.bytes.now z)) same here);
    }
