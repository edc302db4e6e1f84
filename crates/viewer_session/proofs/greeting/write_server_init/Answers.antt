use Rattle.std.proofs.Common.{◌≡◌, ◌++◌, ◌∷◌, [], ◌/◌, ◌%◌, List, ℕ, ◌∙◌, ap, length, append_assoc}
use Rattle.pixel_format.specs.Written.{format_bytes}
use Rattle.terms.specs.Number.{u32_bytes}
use Rattle.viewer_session.specs.Handshake.{host_format_bytes}
use Rattle.viewer_session.proofs.greeting.write_server_init.Goals as goal

-- the parts, one after another
parts : (old one two three all size format count name : List ℕ) → one ≡ old ++ size → two ≡ one ++ format → three ≡ two ++ count → all ≡ three ++ name
    → all ≡ old ++ (size ++ (format ++ (count ++ name)))
parts old one two three all size format count name a b c d =
    d ∙ ap (λ z. z ++ name) (c ∙ ap (λ z. z ++ count) (b ∙ ap (λ z. z ++ format) a))
    ∙ append_assoc ((old ++ size) ++ format) count name ∙ append_assoc (old ++ size) format (count ++ name) ∙ append_assoc old size (format ++ (count ++ name))

pub returns : goal.returns
returns c =
    let w = c.args.size.width in
    let h = c.args.size.height in
    let format : c.write.result ≡ host_format_bytes = c.write.ensures.bytes ∙ ap format_bytes c.host.ensures in
    parts c.args.out.now.items _ _ _ c.extend_from_slice-2.new.self.items (w / 256 ∷ w % 256 ∷ h / 256 ∷ h % 256 ∷ []) host_format_bytes (u32_bytes (length c.args.name.now)) c.args.name.now
    c.in_ok-write_size.ensures (c.in_ok-extend_from_slice.ensures.items ∙ ap (λ z. c.write_size.new.out.items ++ z) format) c.in_ok-write_length.ensures c.in_ok-extend_from_slice-2.ensures.items
