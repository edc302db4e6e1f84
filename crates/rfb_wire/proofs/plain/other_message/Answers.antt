use Rattle.std.proofs.Common.{rules, ◌≡◌, [], ◌∷◌, drop, slice_index, refl, sym, ap, ◌∙◌, arith}
use Rattle.terms.specs.Reading.{Got}
use Rattle.rfb_wire.specs.Grammar.{message_limit, other_at, Recorded, ReadOver}
use Rattle.rfb_wire.specs.Plain.{kind_of}
use Rattle.rfb_wire.proofs.FrontMessage.{kind_other}
use Rattle.rfb_wire.proofs.FrontOthers.{front_passed, front_other, after_within, other_taken, type_front}
use Rattle.rfb_wire.proofs.plain.other_message.Goals as goal

pub returns-in_default : goal.returns-in_default
returns-in_default c =
    let bytes = c.args.bytes.now in
    let type = slice_index bytes 0 ∷ [] in
    let more = rw c.in_default.is at c.requires.is in
    kind_other (message_limit c.args.screen.format) c.args.screen.size.width c.args.screen.size.height bytes type (drop 1 bytes) (type_front bytes c.requires.some) c.requires.kind ∙ more

pub overflow_sub-length : goal.overflow_sub-length
overflow_sub-length c =
    let bytes = c.args.bytes.now in
    let type = slice_index bytes 0 ∷ [] in
    let said = rw c.in-Some.is at c.requires.is in
    after_within c.in-Some.recorded bytes type (drop 1 bytes) c.in-Some.following.now (type_front bytes c.requires.some) said

pub returns-then-not-recorded : goal.returns-then-not-recorded
returns-then-not-recorded c =
    let bytes = c.args.bytes.now in
    let type = slice_index bytes 0 ∷ [] in
    let following = c.in-Some.following.now in
    let reads = type_front bytes c.requires.some in
    let is = kind_other (message_limit c.args.screen.format) c.args.screen.size.width c.args.screen.size.height bytes type (drop 1 bytes) reads c.requires.kind in
    let said = rw c.in-Some.is at c.requires.is in
    let over : other_at (slice_index bytes 0) (drop 1 bytes) ≡ Got ReadOver following = said ∙ ap (λ r. Got (kind_of r) following) c.if-not-recorded.true in
    let front = front_passed (slice_index bytes 0) bytes type (drop 1 bytes) following reads over in
    record {
      within = omega arith;
      reads = is ∙ over ∙ ap (λ z. Got ReadOver z) (sym front.1);
    }

pub from_parts-requires : goal.from_parts-requires
from_parts-requires c =
    let bytes = c.args.bytes.now in
    let following = c.in-Some.following.now in
    let said = rw c.in-Some.is at c.requires.is in
    let given : other_at (slice_index bytes 0) (drop 1 bytes) ≡ Got (Recorded []) following = said ∙ ap (λ r. Got (kind_of r) following) c.if-not-recorded.false in
    let f = front_other (message_limit c.args.screen.format) c.args.screen.size.width c.args.screen.size.height bytes (slice_index bytes 0 ∷ []) (drop 1 bytes) following (type_front bytes c.requires.some) given in
    let same : c.in_ok-whole.whole.items ≡ f.whole = c.in_ok-whole.ensures.items ∙ other_taken bytes f.whole following f.bytes_are in
    let none : c.new.result.items ≡ [] = search rules in
    rw (same, none) f.recorded

pub returns : goal.returns
returns c =
    let bytes = c.args.bytes.now in
    let type = slice_index bytes 0 ∷ [] in
    let following = c.in-Some.following.now in
    let reads = type_front bytes c.requires.some in
    let is = kind_other (message_limit c.args.screen.format) c.args.screen.size.width c.args.screen.size.height bytes type (drop 1 bytes) reads c.requires.kind in
    let said = rw c.in-Some.is at c.requires.is in
    let given : other_at (slice_index bytes 0) (drop 1 bytes) ≡ Got (Recorded []) following = said ∙ ap (λ r. Got (kind_of r) following) c.if-not-recorded.false in
    let f = front_other (message_limit c.args.screen.format) c.args.screen.size.width c.args.screen.size.height bytes type (drop 1 bytes) following reads given in
    let same : c.in_ok-whole.whole.items ≡ f.whole = c.in_ok-whole.ensures.items ∙ other_taken bytes f.whole following f.bytes_are in
    let none : c.new.result.items ≡ [] = search rules in
    rw (c.in_ok-message.ensures, same, none) (record {
      is = record { format_is = refl; width_is = refl; height_is = refl; recorded = f.recorded };
      following = following;
      bytes_are = f.bytes_are;
      reads = is ∙ given;
    })
