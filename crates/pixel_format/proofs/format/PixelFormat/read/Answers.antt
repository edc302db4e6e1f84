use Rattle.std.proofs.Common.{◌≡◌, ◌∙◌, true, false, refl, sym}
use Rattle.std.specs.Prelude.{slice_index}
use Rattle.std.proofs.lemmas.Bool.{ne_eqb}
use Rattle.pixel_format.specs.Format.{IsValid}
use Rattle.pixel_format.specs.Written.{format_of, has_bits, has_maxima, has_fields_inside, has_fields_apart, is_flag}
use Rattle.pixel_format.proofs.Valid.{bad_bits, no_true_color, bad_max, field_outside, fields_overlap, accepted, passes_valid}
use Rattle.pixel_format.proofs.format.PixelFormat.read.Goals as goal

pub returns-then-not-is_pixel_width : goal.returns-then-not-is_pixel_width
returns-then-not-is_pixel_width c =
    let bits : has_bits (format_of c.args.bytes.now) ≡ false = sym c.is_pixel_width.ensures ∙ c.if-not-is_pixel_width.true in
    sym (bad_bits c.args.bytes.now bits)

pub returns-then-bytes-eq0 : goal.returns-then-bytes-eq0
returns-then-bytes-eq0 c =
    let bits : has_bits (format_of c.args.bytes.now) ≡ true = sym c.is_pixel_width.ensures ∙ c.if-not-is_pixel_width.false in
    sym (no_true_color c.args.bytes.now bits c.if-bytes-eq0.true)

pub returns-then-not-are_full : goal.returns-then-not-are_full
returns-then-not-are_full c =
    let bits : has_bits (format_of c.args.bytes.now) ≡ true = sym c.is_pixel_width.ensures ∙ c.if-not-is_pixel_width.false in
    let color : is_flag (slice_index c.args.bytes.now 3) ≡ true = rw (ne_eqb (slice_index c.args.bytes.now 3) 0 c.if-bytes-eq0.false) refl in
    let maxima : has_maxima (format_of c.args.bytes.now) ≡ false = rw (← c.at-channels.ensures.red.0, ← c.at-channels.ensures.green.0, ← c.at-channels.ensures.blue.0) (sym c.are_full.ensures ∙ c.if-not-are_full.true) in
    sym (bad_max c.args.bytes.now bits color maxima)

pub returns-then-not-are_inside : goal.returns-then-not-are_inside
returns-then-not-are_inside c =
    let bits : has_bits (format_of c.args.bytes.now) ≡ true = sym c.is_pixel_width.ensures ∙ c.if-not-is_pixel_width.false in
    let color : is_flag (slice_index c.args.bytes.now 3) ≡ true = rw (ne_eqb (slice_index c.args.bytes.now 3) 0 c.if-bytes-eq0.false) refl in
    let maxima : has_maxima (format_of c.args.bytes.now) ≡ true = rw (← c.at-channels.ensures.red.0, ← c.at-channels.ensures.green.0, ← c.at-channels.ensures.blue.0) (sym c.are_full.ensures ∙ c.if-not-are_full.false) in
    let inside : has_fields_inside (format_of c.args.bytes.now) ≡ false = rw (← c.at-channels.ensures.red.0, ← c.at-channels.ensures.green.0, ← c.at-channels.ensures.blue.0, ← c.at-channels.ensures.red.1, ← c.at-channels.ensures.green.1, ← c.at-channels.ensures.blue.1) (sym c.are_inside.ensures ∙ c.if-not-are_inside.true) in
    sym (field_outside c.args.bytes.now bits color maxima inside)

pub returns-then-not-are_apart : goal.returns-then-not-are_apart
returns-then-not-are_apart c =
    let bits : has_bits (format_of c.args.bytes.now) ≡ true = sym c.is_pixel_width.ensures ∙ c.if-not-is_pixel_width.false in
    let color : is_flag (slice_index c.args.bytes.now 3) ≡ true = rw (ne_eqb (slice_index c.args.bytes.now 3) 0 c.if-bytes-eq0.false) refl in
    let maxima : has_maxima (format_of c.args.bytes.now) ≡ true = rw (← c.at-channels.ensures.red.0, ← c.at-channels.ensures.green.0, ← c.at-channels.ensures.blue.0) (sym c.are_full.ensures ∙ c.if-not-are_full.false) in
    let inside : has_fields_inside (format_of c.args.bytes.now) ≡ true = rw (← c.at-channels.ensures.red.0, ← c.at-channels.ensures.green.0, ← c.at-channels.ensures.blue.0, ← c.at-channels.ensures.red.1, ← c.at-channels.ensures.green.1, ← c.at-channels.ensures.blue.1) (sym c.are_inside.ensures ∙ c.if-not-are_inside.false) in
    let apart : has_fields_apart (format_of c.args.bytes.now) ≡ false = rw (← c.at-channels.ensures.red.0, ← c.at-channels.ensures.green.0, ← c.at-channels.ensures.blue.0, ← c.at-channels.ensures.red.1, ← c.at-channels.ensures.green.1, ← c.at-channels.ensures.blue.1) (sym c.are_apart.ensures ∙ c.if-not-are_apart.true) in
    sym (fields_overlap c.args.bytes.now bits color maxima inside apart)

pub invariant_of-result : goal.invariant_of-result
invariant_of-result c =
    let bits : has_bits (format_of c.args.bytes.now) ≡ true = sym c.is_pixel_width.ensures ∙ c.if-not-is_pixel_width.false in
    let maxima : has_maxima (format_of c.args.bytes.now) ≡ true = rw (← c.at-channels.ensures.red.0, ← c.at-channels.ensures.green.0, ← c.at-channels.ensures.blue.0) (sym c.are_full.ensures ∙ c.if-not-are_full.false) in
    let inside : has_fields_inside (format_of c.args.bytes.now) ≡ true = rw (← c.at-channels.ensures.red.0, ← c.at-channels.ensures.green.0, ← c.at-channels.ensures.blue.0, ← c.at-channels.ensures.red.1, ← c.at-channels.ensures.green.1, ← c.at-channels.ensures.blue.1) (sym c.are_inside.ensures ∙ c.if-not-are_inside.false) in
    let apart : has_fields_apart (format_of c.args.bytes.now) ≡ true = rw (← c.at-channels.ensures.red.0, ← c.at-channels.ensures.green.0, ← c.at-channels.ensures.blue.0, ← c.at-channels.ensures.red.1, ← c.at-channels.ensures.green.1, ← c.at-channels.ensures.blue.1) (sym c.are_apart.ensures ∙ c.if-not-are_apart.false) in
    let valid : IsValid (format_of c.args.bytes.now) = passes_valid (format_of c.args.bytes.now) bits maxima inside apart in
    rw (c.at-channels.ensures.red.0, c.at-channels.ensures.green.0, c.at-channels.ensures.blue.0, c.at-channels.ensures.red.1, c.at-channels.ensures.green.1, c.at-channels.ensures.blue.1) valid

pub returns : goal.returns
returns c =
    let bits : has_bits (format_of c.args.bytes.now) ≡ true = sym c.is_pixel_width.ensures ∙ c.if-not-is_pixel_width.false in
    let color : is_flag (slice_index c.args.bytes.now 3) ≡ true = rw (ne_eqb (slice_index c.args.bytes.now 3) 0 c.if-bytes-eq0.false) refl in
    let maxima : has_maxima (format_of c.args.bytes.now) ≡ true = rw (← c.at-channels.ensures.red.0, ← c.at-channels.ensures.green.0, ← c.at-channels.ensures.blue.0) (sym c.are_full.ensures ∙ c.if-not-are_full.false) in
    let inside : has_fields_inside (format_of c.args.bytes.now) ≡ true = rw (← c.at-channels.ensures.red.0, ← c.at-channels.ensures.green.0, ← c.at-channels.ensures.blue.0, ← c.at-channels.ensures.red.1, ← c.at-channels.ensures.green.1, ← c.at-channels.ensures.blue.1) (sym c.are_inside.ensures ∙ c.if-not-are_inside.false) in
    let apart : has_fields_apart (format_of c.args.bytes.now) ≡ true = rw (← c.at-channels.ensures.red.0, ← c.at-channels.ensures.green.0, ← c.at-channels.ensures.blue.0, ← c.at-channels.ensures.red.1, ← c.at-channels.ensures.green.1, ← c.at-channels.ensures.blue.1) (sym c.are_apart.ensures ∙ c.if-not-are_apart.false) in
    let is = accepted c.args.bytes.now bits color maxima inside apart in
    rw (c.at-channels.ensures.red.0, c.at-channels.ensures.green.0, c.at-channels.ensures.blue.0, c.at-channels.ensures.red.1, c.at-channels.ensures.green.1, c.at-channels.ensures.blue.1) (sym is)
