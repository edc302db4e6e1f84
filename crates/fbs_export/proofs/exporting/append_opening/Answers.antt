use Rattle.std.proofs.Common.{◌≡◌, ap, ◌∙◌, length}
use Rattle.pixel_format.specs.Format.{host_format}
use Rattle.pixel_format.specs.Written.{format_bytes}
use Rattle.terms.specs.Number.{u16_bytes, u32_bytes}
use Rattle.fbs_export.specs.Opening.{version}
use Rattle.fbs_export.specs.Export.{opening_text}
use Rattle.fbs_export.proofs.Texts.{seven_parts}
use Rattle.terms.specs.declared.screen_size.ScreenSize.{ScreenSize}
use Rattle.fbs_export.proofs.exporting.append_opening.Goals as goal

pub returns : goal.returns
unfolding opening_text
returns g c =
    let h = c.args.index.now.head in
    let wide = ap (λ (s : ScreenSize). s.width) c.size-size.ensures.value in
    let high = ap (λ (s : ScreenSize). s.height) c.size-size.ensures.value in
    let name : c.name-name.result.now ≡ h.name = c.name-name.ensures ∙ ap (λ x. x.name) c.header-2.ensures in
    rw (
      c.in_ok-extend_from_slice-7.ensures.items,
      c.in_ok-extend_from_slice-6.ensures.items,
      c.in_ok-extend_from_slice-5.ensures.items,
      c.in_ok-extend_from_slice-4.ensures.items,
      c.in_ok-extend_from_slice-3.ensures.items,
      c.in_ok-extend_from_slice-2.ensures.items,
      c.in_ok-extend_from_slice.ensures.items,
      c.four_bytes.ensures.value,
      c.two_bytes.ensures.value,
      c.two_bytes-2.ensures.value,
      c.write.ensures.bytes,
      c.host.ensures,
      c.four_bytes-2.ensures.value,
      wide,
      high,
      name,
      c.header.ensures,
    )
    (seven_parts c.args.out.now.items version (u32_bytes 1) (u16_bytes h.width) (u16_bytes h.height) (format_bytes host_format) (u32_bytes (length h.name)) h.name)
