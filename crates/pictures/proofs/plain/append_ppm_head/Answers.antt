use Rattle.std.proofs.Common.{◌≡◌, ◌∙◌}
use Rattle.std.specs.Prelude.{decimal}
use Rattle.pictures.specs.Plain.{ppm_head}
use Rattle.pictures.proofs.Texts.{five_parts}
use Rattle.pictures.proofs.plain.append_ppm_head.Goals as goal

pub returns : goal.returns
unfolding ppm_head
returns c =
    let across : c.as_bytes.result.now ≡ decimal c.args.size.width = c.as_bytes.ensures.value ∙ c.in_ok-across.ensures.ok in
    let down : c.as_bytes-2.result.now ≡ decimal c.args.size.height = c.as_bytes-2.ensures.value ∙ c.in_ok-down.ensures.ok in
    rw (
      c.in_ok-extend_from_slice-5.ensures.items,
      c.in_ok-extend_from_slice-4.ensures.items,
      c.in_ok-extend_from_slice-3.ensures.items,
      c.in_ok-extend_from_slice-2.ensures.items,
      c.in_ok-extend_from_slice.ensures.items,
      across,
      down,
    ) (five_parts c.args.out.now.items _ _ _ _ _)
