use Rattle.std.proofs.Common.{◌≡◌, ℕ, ◌+◌, ◌*◌, ◌/◌, ◌%◌, ◌^◌, arith, refl}
use Rattle.pixel_format.specs.Pixel.{pixel_color}
use Rattle.pixel_format.proofs.format.host_pixel.Goals as goal

pub returns : goal.returns
unfolding pixel_color
returns c = λ blue green red unused small_blue small_green small_red.
    let n : ℕ = blue + 256 * (green + 256 * (red + 256 * (unused + 256 * 0))) in
    let r : n / 2 ^ 16 % 256 ≡ red = omega arith in
    let g : n / 2 ^ 8 % 256 ≡ green = omega arith in
    let b : n / 2 ^ 0 % 256 ≡ blue = omega arith in
    rw (r, g, b) refl
