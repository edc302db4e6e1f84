use Rattle.std.proofs.Common.{List, ◌+◌, ◌*◌, ◌<◌, length, ap, sym, subst, ◌∙◌, arith}
use Rattle.std.proofs.lemmas.List.{get_or-replicate}
use Rattle.std.proofs.lemmas.List.Elements.{All-nil}
use Rattle.std.proofs.lemmas.Nat.{mul-add-lt}
use Rattle.pixel_format.specs.Number.{number_color, colors_of}
use Rattle.hextile.specs.declared.cover.Part.{Part}
use Rattle.hextile.specs.Encoded.{IsPart, IsCover}
use Rattle.pixel_format.proofs.Numbers.{color_nth}
use Rattle.hextile.proofs.cover.cover.Goals as goal

pub returns : goal.returns
returns c = λ whole within.
    c.parts_over.ensures whole c.args.background within
    (λ i less. get_or-replicate 256 i c.args.background 0 (omega (arith, less, c.requires.most)))

pub returns-then-is_only : goal.returns-then-is_only
returns-then-is_only c = λ whole within.
    let f = c.args.format.now in
    let w = c.args.w in
    let h = c.args.h in
    let numbers = c.args.numbers.now in
    subst (λ (ps : List Part). IsCover f w h (colors_of f numbers) (number_color f c.args.background) ps) (sym c.clear.ensures) (record {
      parts_are = All-nil (IsPart f w h);
      picture = λ column row across down.
          let less : row * w + column < length numbers = omega (arith, mul-add-lt row w column h down across, c.requires.size) in
          sym (color_nth f numbers (row * w + column) ∙ ap (number_color f) (c.requires.only c.if-is_only.true (row * w + column) less));
    })
