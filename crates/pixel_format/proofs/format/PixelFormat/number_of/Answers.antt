use Rattle.std.proofs.Common.{◌≡◌, ◌+◌, ◌<◌, ◌^◌, refl, sym, subst, ap, arith}
use Rattle.pixel_format.specs.Format.{IsValid}
use Rattle.pixel_format.specs.Pixel.{color_number, IsWithin}
use Rattle.pixel_format.specs.Number.{number_color, IsNumber}
use Rattle.pixel_format.proofs.Lanes.{shifted_apart, below_32}
use Rattle.pixel_format.proofs.format.PixelFormat.number_of.Goals as goal

pub overflow_add-result-2 : goal.overflow_add-result-2
overflow_add-result-2 c =
    let valid : IsValid c.args.self.now = rw (← c.self.view_is) c.self.invariant in
    let p = shifted_apart c.args.self.now c.args.color.r c.args.color.g c.args.color.b valid c.requires.red c.requires.green c.requires.blue in
    let number : c.shifted-red.result + c.shifted-green.result + c.shifted-blue.result ≡ color_number c.args.self.now c.args.color =
    rw (c.shifted-red.ensures, c.shifted-green.ensures, c.shifted-blue.ensures, ← c.self.view_is) refl in
    let all : color_number c.args.self.now c.args.color < 2 ^ 32 = below_32 c.args.self.now.bits (color_number c.args.self.now c.args.color) valid.whole p.below in
    let both : c.shifted-red.result + c.shifted-green.result + c.shifted-blue.result < 2 ^ 32 = rw number all in
    omega arith

pub overflow_add-result : goal.overflow_add-result
overflow_add-result c =
    let valid : IsValid c.args.self.now = rw (← c.self.view_is) c.self.invariant in
    let p = shifted_apart c.args.self.now c.args.color.r c.args.color.g c.args.color.b valid c.requires.red c.requires.green c.requires.blue in
    let number : c.shifted-red.result + c.shifted-green.result + c.shifted-blue.result ≡ color_number c.args.self.now c.args.color =
    rw (c.shifted-red.ensures, c.shifted-green.ensures, c.shifted-blue.ensures, ← c.self.view_is) refl in
    let all : color_number c.args.self.now c.args.color < 2 ^ 32 = below_32 c.args.self.now.bits (color_number c.args.self.now c.args.color) valid.whole p.below in
    let both : c.shifted-red.result + c.shifted-green.result + c.shifted-blue.result < 2 ^ 32 = rw number all in
    omega arith

pub returns-clause-color : goal.returns-clause-color
returns-clause-color c =
    let p = shifted_apart c.args.self.now c.args.color.r c.args.color.g c.args.color.b (rw (← c.self.view_is) c.self.invariant) c.requires.red c.requires.green c.requires.blue in
    let number : c.shifted-red.result + c.shifted-green.result + c.shifted-blue.result ≡ color_number c.args.self.now c.args.color =
    rw (c.shifted-red.ensures, c.shifted-green.ensures, c.shifted-blue.ensures, ← c.self.view_is) refl in
    rw (number, p.red, p.green, p.blue) refl

pub returns-clause-number : goal.returns-clause-number
returns-clause-number c =
    let f = c.args.self.now in
    let color = c.args.color in
    let p = shifted_apart f color.r color.g color.b (rw (← c.self.view_is) c.self.invariant) c.requires.red c.requires.green c.requires.blue in
    let number : c.shifted-red.result + c.shifted-green.result + c.shifted-blue.result ≡ color_number f color =
    rw (c.shifted-red.ensures, c.shifted-green.ensures, c.shifted-blue.ensures, ← c.self.view_is) refl in
    let back : number_color f (color_number f color) ≡ color = rw (p.red, p.green, p.blue) refl in
    subst (IsNumber f) (sym number) (record {
      fits = p.below;
      within = subst (IsWithin f) (sym back) c.requires;
      is = ap (color_number f) back;
    })
