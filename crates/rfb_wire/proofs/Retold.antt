-- A message that is recorded in a format can be recorded in format 2.
use Rattle.std.proofs.Common.{ℕ, inl, inr, refl, arith}
use Rattle.terms.specs.declared.format.Format.{Format}
use Rattle.terms.specs.declared.format.Format.TheVariants.{Two}
use Rattle.terms.proofs.Sizes.{message_in_two}
use Rattle.rfb_wire.specs.Grammar.{message_limit}
use Rattle.rfb_wire.specs.Host.{Host, IsRecorded}
use Rattle.rfb_wire.specs.Stream.{IsFor}
use Rattle.rfb_wire.proofs.Messages.{read_is_message, message_is_read}

-- the same message in another format
abbrev pub retold : Format → Host → Host
retold format m = record m { format = format }

pub recorded_in_two : (m : Host) → IsRecorded m → IsRecorded (retold Two m)
recorded_in_two m recorded =
    let is = read_is_message (message_limit m.format) m.width m.height m.bytes m.rectangles recorded in
    let more = message_in_two m.format in
    message_is_read (message_limit Two) m.width m.height m.bytes m.rectangles (record {
      kind = elim is.kind [ inl update ↦ inl (update.0, omega (arith, update.1, more)) | inr other ↦ inr other ];
      short = omega (arith, is.short, more);
    })

pub for_two : (format : Format) (width height : ℕ) (m : Host) → IsFor format width height m → IsFor Two width height (retold Two m)
for_two format width height m is = record { format_is = refl; width_is = is.width_is; height_is = is.height_is; recorded = recorded_in_two m is.recorded }
