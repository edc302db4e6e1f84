use Rattle.std.proofs.Common.{◌∙◌, arith}
use Rattle.std.proofs.lemmas.Grind.{common_steps}
use Rattle.std.proofs.lemmas.List.{length-map}
use Rattle.pixel_format.specs.Number.{number_color, colors_of}
use Rattle.hextile.proofs.Written.{raw_tile_appended}
use Rattle.hextile.proofs.writing.append_raw_tile.Goals as goal

pub returns-clause-ok : goal.returns-clause-ok
returns-clause-ok c = λ w h pixel_count.
    raw_tile_appended c.args.format.now w h (colors_of c.args.format.now c.args.numbers.now) _ _ _ (length-map c.args.numbers.now (number_color c.args.format.now) ∙ pixel_count)
    c.in_ok-push.ensures.items c.in_ok-append_numbers.ensures.ok

pub returns-in_err-append_numbers-clause-grows : goal.returns-in_err-append_numbers-clause-grows
returns-in_err-append_numbers-clause-grows c = grind (arith, common_steps)

pub returns-clause-written : goal.returns-clause-written
returns-clause-written c = grind (arith, common_steps)

pub returns-clause-grows : goal.returns-clause-grows
returns-clause-grows c = grind (arith, common_steps)
