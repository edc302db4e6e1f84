use Rattle.std.proofs.Common.{◌≡◌, ℕ, ◌+◌, ◌*◌, ◌/◌, ◌%◌, ◌^◌, ◌<◌, List, [], ◌∷◌, ◌++◌, length, refl, ap, ◌∙◌, arith, length-append}
use Rattle.std.specs.List.{flat_map}
use Rattle.terms.specs.Reading.{Got}
use Rattle.pixel_format.specs.declared.Color.{Color}
use Rattle.terms.proofs.Readings.{field-whole}
use Rattle.terms.specs.Number.{u16_at}
use Rattle.terms.specs.declared.wire_fault.WireFault.{WireFault}
use Rattle.rfb_wire.specs.Grammar.{color_map_at, ReadOver}
use Rattle.wire_tests.specs.Written.{color_bytes}
use Rattle.rfb_wire.proofs.Messages.{other_is_read}
use Rattle.rfb_wire.proofs.Others.{other_of_color_map}
use Rattle.rfb_wire.proofs.Over.{read_over_whole}
use Rattle.wire_tests.proofs.writers.written_color_map_is_read.Goals as goal

-- the five bytes after the type
abbrev after_type : ℕ → ℕ → List ℕ
after_type first n = 0 ∷ first / 256 ∷ first % 256 ∷ n / 256 ∷ n % 256 ∷ []

length_of_map : (colors : List Color) → length (flat_map color_bytes colors) ≡ 6 * length colors
length_of_map [] = refl
length_of_map (c ∷ colors) =
    length-append (color_bytes c) (flat_map color_bytes colors) ∙ ap (λ n. 6 + n) (length_of_map colors) ∙ omega arith

map_again : (first count : ℕ) (body : List ℕ) → count < 2 ^ 16 → length body ≡ 6 * count
    → color_map_at (after_type first count ++ body) ≡ Got ReadOver []
unfolding color_map_at
map_again first count body small is =
    let number : u16_at (after_type first count) 3 ≡ count = omega arith in
    rw (field-whole {E = WireFault} 5 (after_type first count) body refl, number) (read_over_whole (6 * count) body is)

pub returns : goal.returns
returns c = λ limit width height first colors small.
    let n : ℕ = length colors in
    let body : List ℕ = flat_map color_bytes colors in
    other_is_read limit width height 1 (after_type first n ++ body) refl ∙ other_of_color_map (after_type first n ++ body)
    ∙ map_again first n body small (length_of_map colors)
