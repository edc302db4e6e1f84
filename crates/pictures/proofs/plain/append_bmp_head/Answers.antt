use Rattle.std.proofs.Common.{◌≡◌, ◌+◌, ◌*◌, refl, arith}
use Rattle.pictures.specs.Plain.{bmp_head}
use Rattle.pictures.proofs.Texts.{twelve_parts}
use Rattle.pictures.proofs.plain.append_bmp_head.Goals as goal

pub returns-clause-head : goal.returns-clause-head
unfolding bmp_head
returns-clause-head c =
    let product : 4 * c.from.result * c.from-2.result ≡ 4 * c.args.size.width * c.args.size.height = rw (c.from.ensures, c.from-2.ensures) refl in
    let len : c.in-Ok.length ≡ 54 + 4 * c.args.size.width * c.args.size.height = omega (arith, c.in-Ok.ensures, product) in
    rw (
      c.in_ok-extend_from_slice-12.ensures.items,
      c.in_ok-extend_from_slice-11.ensures.items,
      c.in_ok-extend_from_slice-10.ensures.items,
      c.in_ok-extend_from_slice-9.ensures.items,
      c.in_ok-extend_from_slice-8.ensures.items,
      c.in_ok-extend_from_slice-7.ensures.items,
      c.in_ok-extend_from_slice-6.ensures.items,
      c.in_ok-extend_from_slice-5.ensures.items,
      c.in_ok-extend_from_slice-4.ensures.items,
      c.in_ok-extend_from_slice-3.ensures.items,
      c.in_ok-extend_from_slice-2.ensures.items,
      c.in_ok-extend_from_slice.ensures.items,
    ) (rw (
      c.four_bytes.ensures,
      c.four_bytes-2.ensures,
      c.four_bytes-3.ensures,
      c.four_bytes-4.ensures,
      c.four_bytes-5.ensures,
      c.four_bytes-6.ensures,
      c.four_bytes-7.ensures,
      c.four_bytes-8.ensures,
      c.two_bytes.ensures,
      c.two_bytes-2.ensures,
      len,
      c.from.ensures,
      c.from-2.ensures,
      c.from-3.ensures,
      c.from-4.ensures,
    ) (twelve_parts c.args.out.now.items _ _ _ _ _ _ _ _ _ _ _ _))

pub returns-clause-fits : goal.returns-clause-fits
returns-clause-fits c =
    let product : 4 * c.from.result * c.from-2.result ≡ 4 * c.args.size.width * c.args.size.height = rw (c.from.ensures, c.from-2.ensures) refl in
    omega (arith, c.in-Ok.ensures, product)
