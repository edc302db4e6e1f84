use Rattle.std.proofs.Common.{◌≡◌, ◌+◌, ◌<◌, ◌^◌, refl, sym, subst, ap, arith}
use Rattle.pixel_format.specs.Format.{IsValid}
use Rattle.pixel_format.specs.Pixel.{color_number, IsWithin}
use Rattle.pixel_format.specs.Number.{number_color, IsNumber}
use Rattle.pixel_format.proofs.Lanes.{shifted_apart, below_16}
use Rattle.pixel_format.proofs.format.PixelFormat.short_number_of.Goals as goal

pub overflow_add-result-2 : goal.overflow_add-result-2
overflow_add-result-2 c =
    let valid : IsValid c.args.self.now = rw (← c.self.view_is) c.self.invariant in
    let p = shifted_apart c.args.self.now c.args.color.r c.args.color.g c.args.color.b valid c.requires.within.red c.requires.within.green c.requires.within.blue in
    let number : c.short_shifted-red.result + c.short_shifted-green.result + c.short_shifted-blue.result ≡ color_number c.args.self.now c.args.color =
    rw (c.short_shifted-red.ensures, c.short_shifted-green.ensures, c.short_shifted-blue.ensures, ← c.self.view_is) refl in
    let all : color_number c.args.self.now c.args.color < 2 ^ 16 = below_16 c.args.self.now.bits (color_number c.args.self.now c.args.color) valid.whole c.requires.short p.below in
    let both : c.short_shifted-red.result + c.short_shifted-green.result + c.short_shifted-blue.result < 2 ^ 16 = rw number all in
    omega arith

pub overflow_add-result : goal.overflow_add-result
overflow_add-result c =
    let valid : IsValid c.args.self.now = rw (← c.self.view_is) c.self.invariant in
    let p = shifted_apart c.args.self.now c.args.color.r c.args.color.g c.args.color.b valid c.requires.within.red c.requires.within.green c.requires.within.blue in
    let number : c.short_shifted-red.result + c.short_shifted-green.result + c.short_shifted-blue.result ≡ color_number c.args.self.now c.args.color =
    rw (c.short_shifted-red.ensures, c.short_shifted-green.ensures, c.short_shifted-blue.ensures, ← c.self.view_is) refl in
    let all : color_number c.args.self.now c.args.color < 2 ^ 16 = below_16 c.args.self.now.bits (color_number c.args.self.now c.args.color) valid.whole c.requires.short p.below in
    let both : c.short_shifted-red.result + c.short_shifted-green.result + c.short_shifted-blue.result < 2 ^ 16 = rw number all in
    omega arith

pub returns-clause-color : goal.returns-clause-color
returns-clause-color c =
    let p = shifted_apart c.args.self.now c.args.color.r c.args.color.g c.args.color.b (rw (← c.self.view_is) c.self.invariant) c.requires.within.red c.requires.within.green c.requires.within.blue in
    let number : c.short_shifted-red.result + c.short_shifted-green.result + c.short_shifted-blue.result ≡ color_number c.args.self.now c.args.color =
    rw (c.short_shifted-red.ensures, c.short_shifted-green.ensures, c.short_shifted-blue.ensures, ← c.self.view_is) refl in
    rw (number, p.red, p.green, p.blue) refl

pub returns-clause-number : goal.returns-clause-number
returns-clause-number c =
    let f = c.args.self.now in
    let color = c.args.color in
    let p = shifted_apart f color.r color.g color.b (rw (← c.self.view_is) c.self.invariant) c.requires.within.red c.requires.within.green c.requires.within.blue in
    let number : c.short_shifted-red.result + c.short_shifted-green.result + c.short_shifted-blue.result ≡ color_number f color =
    rw (c.short_shifted-red.ensures, c.short_shifted-green.ensures, c.short_shifted-blue.ensures, ← c.self.view_is) refl in
    let back : number_color f (color_number f color) ≡ color = rw (p.red, p.green, p.blue) refl in
    subst (IsNumber f) (sym number) (record {
      fits = p.below;
      within = subst (IsWithin f) (sym back) c.requires.within;
      is = ap (color_number f) back;
    })
