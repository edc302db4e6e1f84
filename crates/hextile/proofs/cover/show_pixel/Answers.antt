use Rattle.std.proofs.Common.{◌≡◌, ℕ, ◌∙◌, sym, ap, subst, arith, ◌+◌, ◌<◌, ◌/◌, ◌%◌, List, cond, get_or, length}
use Rattle.std.proofs.Math.Nat.{mul-le-mul_left}
use Rattle.std.proofs.lemmas.List.{length-map}
use Rattle.pixel_format.specs.declared.Color.{Color}
use Rattle.pixel_format.specs.Pixel.{IsWithin}
use Rattle.pixel_format.specs.Number.{number_color, colors_of}
use Rattle.pixel_format.specs.Canvas.{nth, covers}
use Rattle.hextile.specs.declared.cover.Part.{Part}
use Rattle.hextile.specs.Encoded.{IsPart, ShownUpto}
use Rattle.hextile.proofs.Covered.{part_added, goes_on, index_of}
use Rattle.pixel_format.proofs.Numbers.{color_nth}
use Rattle.hextile.proofs.NumberTiles.{color_if}
use Rattle.hextile.proofs.cover.show_pixel.Goals as goal

pub returns : goal.returns
returns c = λ going background within upto.
    let f = c.args.format.now in
    let numbers = c.args.numbers.now in
    let k = c.args.k in
    let w = c.args.w in
    let shown = c.args.shown.now in
    let new = c.show.new.shown in
    let part = c.grow-part.result in
    let g = c.grow-part.ensures in
    let index = c.requires.index in
    let number = get_or numbers k 0 in
    let many : length (colors_of f numbers) ≡ length numbers = length-map numbers (number_color f) in
    let color_is : part.color ≡ number_color f number = g.color ∙ ap (λ i. number_color f (get_or numbers i 0)) (index_of w k) in
    let is : IsPart f w c.args.h part = record {
      columns = g.columns;
      rows = g.rows;
      across = g.across;
      down = g.down;
      color = subst (λ (z : Color). IsWithin f z) (sym color_is) (within k 0 index).within;
    } in
    let shows : (i : ℕ) → i < length (colors_of f numbers) → nth (colors_of f new) i ≡ cond (covers part.x part.y part.w part.h (i % w) (i / w)) part.color (nth (colors_of f shown) i) =
    λ i less.
    let b = covers part.x part.y part.w part.h (i % w) (i / w) in
    color_nth f new i ∙ ap (number_color f) (c.show.ensures i (omega (arith, less, many, c.requires.shown))) ∙ color_if f b number (get_or shown i 0)
    ∙ ap (λ (z : Color). cond b z (number_color f (get_or shown i 0))) (sym color_is) ∙ ap (λ (z : Color). cond b part.color z) (sym (color_nth f shown i)) in
    subst (λ (ps : List Part). ShownUpto f w c.args.h (colors_of f numbers) background ps (colors_of f new) (k + 1)) (sym c.push.ensures.items)
    (part_added f w c.args.h (colors_of f numbers) background c.args.parts.now.items (colors_of f shown) (colors_of f new) k part c.requires.across (omega (arith, many, index))
    is g.x g.y g.uniform shows upto)

pub returns-then-shown-k : goal.returns-then-shown-k
returns-then-shown-k c = λ going background within upto.
    let f = c.args.format.now in
    let numbers = c.args.numbers.now in
    let k = c.args.k in
    goes_on f c.args.w c.args.h (colors_of f numbers) background c.args.parts.now.items (colors_of f c.args.shown.now) k
    (color_nth f c.args.shown.now k ∙ ap (number_color f) c.if-shown-k.true ∙ sym (color_nth f numbers k)) upto

pub show-requires-clause-rows : goal.show-requires-clause-rows
show-requires-clause-rows c = omega (arith, mul-le-mul_left c.args.w c.grow-part.ensures.rows, c.requires.numbers, c.requires.shown)
