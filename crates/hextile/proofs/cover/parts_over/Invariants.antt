use Rattle.std.proofs.Common.{◌≡◌, ℕ, ◌<◌, length, get_or}
use Rattle.std.specs.Prelude.{All}
use Rattle.pixel_format.specs.Number.{number_color, IsNumber, colors_of}
use Rattle.hextile.specs.Encoded.{ShownUpto}
use Rattle.hextile.proofs.cover.parts_over.Given as goal

abbrev pub invariant-loop-k : goal.invariant-loop-k
invariant-loop-k l =
    (background : ℕ) → All (IsNumber l.format) l.numbers
    → ((i : ℕ) → i < length l.numbers → get_or l.fn.shown i 0 ≡ background)
    → ShownUpto l.format l.w l.h (colors_of l.format l.numbers) (number_color l.format background) l.parts.items (colors_of l.format l.shown) l.k
