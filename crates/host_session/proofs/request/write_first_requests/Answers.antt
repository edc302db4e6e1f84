use Rattle.std.proofs.Common.{◌≡◌, ℕ, List, ◌++◌, ap, ◌∙◌, append_assoc, false}
use Rattle.pixel_format.specs.Format.{host_format}
use Rattle.client_wire.specs.Written.{set_pixel_format_bytes, request_bytes}
use Rattle.terms.specs.Area.{whole_area}
use Rattle.host_session.specs.Handshake.{set_encodings}
use Rattle.host_session.proofs.request.write_first_requests.Goals as goal

joined : (old one two three a b d : List ℕ) → one ≡ old ++ a → two ≡ one ++ b → three ≡ two ++ d → three ≡ old ++ (a ++ (b ++ d))
joined old one two three a b d p q r =
    r ∙ ap (λ z. z ++ d) (q ∙ ap (λ z. z ++ b) p) ∙ append_assoc (old ++ a) b d ∙ append_assoc old a (b ++ d)

pub returns : goal.returns
returns c =
    let old = c.args.out.now.items in
    let one = c.write_set_pixel_format.new.out.items in
    let first : one ≡ old ++ set_pixel_format_bytes host_format = c.in_ok-write_set_pixel_format.ensures.ok ∙ ap (λ f. old ++ set_pixel_format_bytes f) c.host.ensures in
    let two = c.write_set_encodings.new.out.items in
    let second : two ≡ one ++ set_encodings = c.in_ok-write_set_encodings.ensures.ok in
    let three = c.write_request.new.out.items in
    let third : three ≡ two ++ request_bytes false (whole_area c.args.size.width c.args.size.height) = c.in_ok-write_request.ensures.ok ∙ ap (λ a. two ++ request_bytes false a) c.whole.ensures in
    joined old one two three (set_pixel_format_bytes host_format) set_encodings (request_bytes false (whole_area c.args.size.width c.args.size.height)) first second third
