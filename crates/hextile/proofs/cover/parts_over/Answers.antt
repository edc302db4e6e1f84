use Rattle.std.proofs.Common.{◌≡◌, ◌∙◌, ℕ, List, length, ap, sym, subst, arith}
use Rattle.std.proofs.lemmas.List.{length-map}
use Rattle.pixel_format.specs.Number.{number_color, colors_of}
use Rattle.hextile.specs.declared.cover.Part.{Part}
use Rattle.hextile.specs.Encoded.{ShownUpto}
use Rattle.hextile.proofs.Covered.{all_shown, nothing_shown}
use Rattle.pixel_format.proofs.Numbers.{color_nth}
use Rattle.hextile.proofs.cover.parts_over.Goals as goal

pub loop-k-init : goal.loop-k-init
loop-k-init c = λ background within all.
    let f = c.args.format.now in
    let numbers = c.args.numbers.now in
    let shown = c.args.shown.now in
    subst (λ (ps : List Part). ShownUpto f c.args.w c.args.h (colors_of f numbers) (number_color f background) ps (colors_of f shown) 0) (sym c.requires.none)
    (nothing_shown f c.args.w c.args.h (colors_of f numbers) (number_color f background) (colors_of f shown)
    (λ i less. color_nth f shown i ∙ ap (number_color f) (all i (omega (arith, less, length-map numbers (number_color f))))))

pub returns : goal.returns
returns c = λ _ background within all.
    let f = c.args.format.now in
    let numbers = c.args.numbers.now in
    let most = c.loop-k.auto.k-end in
    let least = c.loop-k-test.false in
    let many : length (colors_of f numbers) ≡ length numbers = length-map numbers (number_color f) in
    let done : c.loop-k.k ≡ length (colors_of f numbers) = omega (arith, most, least, many) in
    all_shown f c.args.w c.args.h (colors_of f numbers) (number_color f background) c.loop-k.parts.items (colors_of f c.loop-k.shown) (many ∙ c.requires.numbers)
    (subst (λ (n : ℕ). ShownUpto f c.args.w c.args.h (colors_of f numbers) (number_color f background) c.loop-k.parts.items (colors_of f c.loop-k.shown) n) done
    (c.loop-k.invariant background within all))
