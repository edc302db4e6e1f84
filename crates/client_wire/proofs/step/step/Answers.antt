use Rattle.std.proofs.Common.{◌≡◌, ℕ, List, ◌*◌, ◌++◌, length, ◌∙◌, sym, ap}
use Rattle.std.proofs.lemmas.Result.{err_from_is_err_and}
use Rattle.terms.specs.Reading.{Got, Bad}
use Rattle.client_wire.specs.declared.message.ClientMessage.TheVariants as messages
use Rattle.client_wire.specs.PartialMessage.{wants_of, resume}
use Rattle.client_wire.proofs.Fronts.{unless_memory}
use Rattle.client_wire.proofs.Resume.{type_goes, format_goes, encodings_go, request_goes}
use Rattle.client_wire.proofs.step.step.Goals as goal

pub returns-in_err-after_type-in-Type-clause-faults : goal.returns-in_err-after_type-in-Type-clause-faults
returns-in_err-after_type-in-Type-clause-faults c =
    let p = err_from_is_err_and c.from_residual.result c.from_residual.ensures.1 in
    let f = c.args.field.now in
    let whole : length f ≡ 1 = c.requires ∙ ap wants_of c.in-Type.is in
    let bad : (more : List ℕ) → resume c.args.stage (f ++ more) ≡ Bad c.in_err-after_type-in-Type.field-0.0 = λ more.
    ap (λ s. resume s (f ++ more)) c.in-Type.is ∙ type_goes f more whole ∙ c.in_err-after_type-in-Type.ensures.faults more in
    rw (p.1, p.2) (unless_memory _ _ bad)

pub returns-in_err-pixel_format_in-in-PixelFormat-clause-faults : goal.returns-in_err-pixel_format_in-in-PixelFormat-clause-faults
returns-in_err-pixel_format_in-in-PixelFormat-clause-faults c =
    let p = err_from_is_err_and c.from_residual-in_err-pixel_format_in-in-PixelFormat.result c.from_residual-in_err-pixel_format_in-in-PixelFormat.ensures.1 in
    let f = c.args.field.now in
    let whole : length f ≡ 19 = c.requires ∙ ap wants_of c.in-PixelFormat.is in
    let bad : (more : List ℕ) → resume c.args.stage (f ++ more) ≡ Bad c.in_err-pixel_format_in-in-PixelFormat.field-0.0 = λ more.
    ap (λ s. resume s (f ++ more)) c.in-PixelFormat.is ∙ format_goes f more whole ∙ c.in_err-pixel_format_in-in-PixelFormat.ensures more in
    rw (p.1, p.2) (unless_memory _ _ bad)

pub returns-in_ok-after_type-in-Type-clause-goes : goal.returns-in_ok-after_type-in-Type-clause-goes
returns-in_ok-after_type-in-Type-clause-goes c = λ more.
    let f = c.args.field.now in
    let whole : length f ≡ 1 = c.requires ∙ ap wants_of c.in-Type.is in
    ap (λ s. resume s (f ++ more)) c.in-Type.is ∙ type_goes f more whole ∙ c.in_ok-after_type-in-Type.ensures.goes more

pub returns-in_ok-pixel_format_in-in-PixelFormat-clause-goes : goal.returns-in_ok-pixel_format_in-in-PixelFormat-clause-goes
returns-in_ok-pixel_format_in-in-PixelFormat-clause-goes c = λ more.
    let f = c.args.field.now in
    let whole : length f ≡ 19 = c.requires ∙ ap wants_of c.in-PixelFormat.is in
    ap (λ s. resume s (f ++ more)) c.in-PixelFormat.is ∙ format_goes f more whole ∙ c.in_ok-pixel_format_in-in-PixelFormat.ensures more

pub returns-in_ok-encodings-in-Encodings-clause-goes : goal.returns-in_ok-encodings-in-Encodings-clause-goes
returns-in_ok-encodings-in-Encodings-clause-goes c = λ more.
    let f = c.args.field.now in
    let whole : length f ≡ 4 * c.in-Encodings.count = c.requires ∙ ap wants_of c.in-Encodings.is in
    ap (λ s. resume s (f ++ more)) c.in-Encodings.is ∙ encodings_go f more c.in-Encodings.count whole
    ∙ ap (λ n. Got (messages.SetEncodings n) more) (sym c.in_ok-encodings-in-Encodings.ensures)

pub returns-in-Request-clause-goes : goal.returns-in-Request-clause-goes
returns-in-Request-clause-goes c = λ more.
    let f = c.args.field.now in
    let whole : length f ≡ 9 = c.requires ∙ ap wants_of c.in-Request.is in
    ap (λ s. resume s (f ++ more)) c.in-Request.is ∙ request_goes f more whole ∙ ap (λ m. Got m more) (sym c.request_in.ensures)
