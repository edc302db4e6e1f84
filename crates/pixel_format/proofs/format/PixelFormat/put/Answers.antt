use Rattle.std.proofs.Common.{◌≡◌, ◌+◌, ◌∙◌, ◌<◌, ◌^◌, refl, ap, arith}
use Rattle.pixel_format.specs.Format.{IsValid}
use Rattle.pixel_format.specs.Pixel.{color_number, number_bytes, pixel_of}
use Rattle.pixel_format.proofs.Lanes.{shifted_apart, color_found, below_32}
use Rattle.pixel_format.proofs.format.PixelFormat.put.Goals as goal

pub put_number-requires-clause-fits : goal.put_number-requires-clause-fits
put_number-requires-clause-fits c =
    let p = shifted_apart c.args.self.now c.args.color.r c.args.color.g c.args.color.b (rw (← c.self.view_is) c.self.invariant) c.requires.within.red c.requires.within.green c.requires.within.blue in
    let number : c.shifted-red.result + c.shifted-green.result + c.shifted-blue.result ≡ color_number c.args.self.now c.args.color =
    rw (c.shifted-red.ensures, c.shifted-green.ensures, c.shifted-blue.ensures, ← c.self.view_is) refl in
    rw number p.below

pub overflow_add-red-2 : goal.overflow_add-red-2
overflow_add-red-2 c =
    let valid : IsValid c.args.self.now = rw (← c.self.view_is) c.self.invariant in
    let p = shifted_apart c.args.self.now c.args.color.r c.args.color.g c.args.color.b valid c.requires.within.red c.requires.within.green c.requires.within.blue in
    let number : c.shifted-red.result + c.shifted-green.result + c.shifted-blue.result ≡ color_number c.args.self.now c.args.color =
    rw (c.shifted-red.ensures, c.shifted-green.ensures, c.shifted-blue.ensures, ← c.self.view_is) refl in
    let all : color_number c.args.self.now c.args.color < 2 ^ 32 = below_32 c.args.self.now.bits (color_number c.args.self.now c.args.color) valid.whole p.below in
    let both : c.shifted-red.result + c.shifted-green.result + c.shifted-blue.result < 2 ^ 32 = rw number all in
    omega arith

pub overflow_add-red : goal.overflow_add-red
overflow_add-red c =
    let valid : IsValid c.args.self.now = rw (← c.self.view_is) c.self.invariant in
    let p = shifted_apart c.args.self.now c.args.color.r c.args.color.g c.args.color.b valid c.requires.within.red c.requires.within.green c.requires.within.blue in
    let number : c.shifted-red.result + c.shifted-green.result + c.shifted-blue.result ≡ color_number c.args.self.now c.args.color =
    rw (c.shifted-red.ensures, c.shifted-green.ensures, c.shifted-blue.ensures, ← c.self.view_is) refl in
    let all : color_number c.args.self.now c.args.color < 2 ^ 32 = below_32 c.args.self.now.bits (color_number c.args.self.now c.args.color) valid.whole p.below in
    let both : c.shifted-red.result + c.shifted-green.result + c.shifted-blue.result < 2 ^ 32 = rw number all in
    omega arith

pub returns-clause-color : goal.returns-clause-color
returns-clause-color c =
    let p = shifted_apart c.args.self.now c.args.color.r c.args.color.g c.args.color.b (rw (← c.self.view_is) c.self.invariant) c.requires.within.red c.requires.within.green c.requires.within.blue in
    let number : c.shifted-red.result + c.shifted-green.result + c.shifted-blue.result ≡ color_number c.args.self.now c.args.color =
    rw (c.shifted-red.ensures, c.shifted-green.ensures, c.shifted-blue.ensures, ← c.self.view_is) refl in
    color_found c.args.self.now c.args.color c.put_number.new.bytes p (c.put_number.ensures.number ∙ number)

pub returns-clause-bytes : goal.returns-clause-bytes
unfolding pixel_of
returns-clause-bytes c =
    let number : c.shifted-red.result + c.shifted-green.result + c.shifted-blue.result ≡ color_number c.args.self.now c.args.color =
    rw (c.shifted-red.ensures, c.shifted-green.ensures, c.shifted-blue.ensures, ← c.self.view_is) refl in
    c.put_number.ensures.bytes ∙ ap (number_bytes c.args.self.now) number
