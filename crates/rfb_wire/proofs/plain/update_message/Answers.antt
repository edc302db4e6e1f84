use Rattle.std.proofs.Common.{◌≡◌, ◌++◌, take, drop, sym, ap, ◌∙◌, refl, arith, length-append, append_assoc}
use Rattle.std.proofs.lemmas.List.{take-append-drop}
use Rattle.std.proofs.lemmas.Result.{err_from_is_err_and}
use Rattle.terms.specs.Reading.{Bad}
use Rattle.rfb_wire.specs.Grammar.{update_at, message_at, message_limit}
use Rattle.client_wire.proofs.Fronts.{unless_memory_map}
use Rattle.rfb_wire.proofs.FrontMessage.{front_long, front_short, front_bad, front_whole, front_taken, whole_taken}
use Rattle.rfb_wire.proofs.plain.update_message.Goals as goal

pub returns-in_err-rectangles : goal.returns-in_err-rectangles
returns-in_err-rectangles c =
    let p = err_from_is_err_and c.from_residual.result c.from_residual.ensures.1 in
    let w = c.args.screen.size.width in
    let h = c.args.screen.size.height in
    let bytes = c.args.bytes.now in
    let front : take c.min.result bytes ≡ take (message_limit c.args.screen.format) bytes = front_taken c.args.screen.format c.min.result bytes (rw c.message_limit-limit.ensures.value at c.min.ensures) in
    let g = c.in_err-rectangles.field-0.0 in
    rw (p.1, p.2) (unless_memory_map g (update_at w h (take c.min.result bytes) ≡ Bad g) (message_at (message_limit c.args.screen.format) w h bytes ≡ Bad g)
    (λ e. front_bad (message_limit c.args.screen.format) w h bytes g c.requires.some c.requires.kind (ap (update_at w h) (sym front) ∙ e))
    c.in_err-rectangles.ensures)

pub returns-then-bytes-limit : goal.returns-then-bytes-limit
returns-then-bytes-limit c =
    let w = c.args.screen.size.width in
    let h = c.args.screen.size.height in
    let bytes = c.args.bytes.now in
    let front : take c.min.result bytes ≡ take (message_limit c.args.screen.format) bytes = front_taken c.args.screen.format c.min.result bytes (rw c.message_limit-limit.ensures.value at c.min.ensures) in
    let more = rw c.in_default.is at c.in_ok-rectangles.ensures in
    front_long (message_limit c.args.screen.format) w h bytes c.requires.some c.requires.kind (ap (update_at w h) (sym front) ∙ more) (rw c.message_limit-limit.ensures.value at c.if-bytes-limit.true)

pub returns-in_default : goal.returns-in_default
returns-in_default c =
    let w = c.args.screen.size.width in
    let h = c.args.screen.size.height in
    let bytes = c.args.bytes.now in
    let front : take c.min.result bytes ≡ take (message_limit c.args.screen.format) bytes = front_taken c.args.screen.format c.min.result bytes (rw c.message_limit-limit.ensures.value at c.min.ensures) in
    let more = rw c.in_default.is at c.in_ok-rectangles.ensures in
    front_short (message_limit c.args.screen.format) w h bytes c.requires.some c.requires.kind (ap (update_at w h) (sym front) ∙ more) (rw c.message_limit-limit.ensures.value at c.if-bytes-limit.false)

pub slice_bounds-from_slice-count : goal.slice_bounds-from_slice-count
slice_bounds-from_slice-count c =
    let w = c.args.screen.size.width in
    let h = c.args.screen.size.height in
    let bytes = c.args.bytes.now in
    let front : take c.min.result bytes ≡ take (message_limit c.args.screen.format) bytes = front_taken c.args.screen.format c.min.result bytes (rw c.message_limit-limit.ensures.value at c.min.ensures) in
    let got = rw c.in-Some.is at c.in_ok-rectangles.ensures in
    let f = front_whole c.args.screen.format w h bytes c.in-Some.rest.now c.in-Some.rectangles.items c.requires.some c.requires.kind (ap (update_at w h) (sym front) ∙ got) in
    rw (front, f.front_is, length-append) (omega arith)

pub from_parts-requires : goal.from_parts-requires
from_parts-requires c =
    let w = c.args.screen.size.width in
    let h = c.args.screen.size.height in
    let bytes = c.args.bytes.now in
    let front : take c.min.result bytes ≡ take (message_limit c.args.screen.format) bytes = front_taken c.args.screen.format c.min.result bytes (rw c.message_limit-limit.ensures.value at c.min.ensures) in
    let got = rw c.in-Some.is at c.in_ok-rectangles.ensures in
    let f = front_whole c.args.screen.format w h bytes c.in-Some.rest.now c.in-Some.rectangles.items c.requires.some c.requires.kind (ap (update_at w h) (sym front) ∙ got) in
    let same : c.in_ok-whole.whole.items ≡ f.whole = c.in_ok-whole.ensures.items ∙ whole_taken (take c.min.result bytes) f.whole c.in-Some.rest.now (front ∙ f.front_is) in
    rw same f.recorded

pub returns : goal.returns
returns c =
    let w = c.args.screen.size.width in
    let h = c.args.screen.size.height in
    let bytes = c.args.bytes.now in
    let front : take c.min.result bytes ≡ take (message_limit c.args.screen.format) bytes = front_taken c.args.screen.format c.min.result bytes (rw c.message_limit-limit.ensures.value at c.min.ensures) in
    let got = rw c.in-Some.is at c.in_ok-rectangles.ensures in
    let f = front_whole c.args.screen.format w h bytes c.in-Some.rest.now c.in-Some.rectangles.items c.requires.some c.requires.kind (ap (update_at w h) (sym front) ∙ got) in
    let same : c.in_ok-whole.whole.items ≡ f.whole = c.in_ok-whole.ensures.items ∙ whole_taken (take c.min.result bytes) f.whole c.in-Some.rest.now (front ∙ f.front_is) in
    let all : bytes ≡ f.whole ++ (c.in-Some.rest.now ++ drop (message_limit c.args.screen.format) bytes) =
    sym (take-append-drop (message_limit c.args.screen.format) bytes) ∙ ap (λ z. z ++ drop (message_limit c.args.screen.format) bytes) f.front_is ∙ append_assoc f.whole c.in-Some.rest.now (drop (message_limit c.args.screen.format) bytes) in
    rw (c.in_ok-message.ensures, same) (record {
      is = record { format_is = refl; width_is = refl; height_is = refl; recorded = f.recorded };
      following = c.in-Some.rest.now ++ drop (message_limit c.args.screen.format) bytes;
      bytes_are = all;
      reads = f.reads;
    })
