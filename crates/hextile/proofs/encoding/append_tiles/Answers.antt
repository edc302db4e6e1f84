use Rattle.std.proofs.Common.{◌≡◌, ◌<◌, ◌*◌, length, take, sym, arith}
use Rattle.std.proofs.lemmas.Grind.{common_steps}
use Rattle.std.proofs.lemmas.List.{length-take-le, take-map}
use Rattle.pixel_format.specs.Number.{number_color, colors_of}
use Rattle.hextile.specs.Tiles.{tile_count}
use Rattle.hextile.proofs.EncodedTiles.{few_pixels, none_written, one_written, all_written}
use Rattle.hextile.proofs.NumberTiles.{numbers_taken, tile_is, numbers_within}
use Rattle.hextile.proofs.encoding.append_tiles.Goals as goal

pub slice_bounds-tile-end : goal.slice_bounds-tile-end
slice_bounds-tile-end c =
    few_pixels c.tile_area-area.result.w c.tile_area-area.result.h (length c.tile_numbers-tile.result)
    (omega (arith, c.tile_area-area.ensures.width)) (omega (arith, c.tile_area-area.ensures.height)) c.tile_numbers-tile.ensures.size

pub slice_bounds-append_tile-end : goal.slice_bounds-append_tile-end
slice_bounds-append_tile-end c =
    let fits = few_pixels c.tile_area-area.result.w c.tile_area-area.result.h (length c.tile_numbers-tile.result)
    (omega (arith, c.tile_area-area.ensures.width)) (omega (arith, c.tile_area-area.ensures.height)) c.tile_numbers-tile.ensures.size in
    sym (length-take-le _ c.tile_numbers-tile.result fits)

pub append_tile-requires-clause-size : goal.append_tile-requires-clause-size
append_tile-requires-clause-size c =
    let fits = few_pixels c.tile_area-area.result.w c.tile_area-area.result.h (length c.tile_numbers-tile.result)
    (omega (arith, c.tile_area-area.ensures.width)) (omega (arith, c.tile_area-area.ensures.height)) c.tile_numbers-tile.ensures.size in
    length-take-le _ c.tile_numbers-tile.result fits

pub append_tile-requires-clause-numbers : goal.append_tile-requires-clause-numbers
append_tile-requires-clause-numbers c =
    let fits = few_pixels c.tile_area-area.result.w c.tile_area-area.result.h (length c.tile_numbers-tile.result)
    (omega (arith, c.tile_area-area.ensures.width)) (omega (arith, c.tile_area-area.ensures.height)) c.tile_numbers-tile.ensures.size in
    numbers_taken c.args.format.now c.tile_numbers-tile.result (c.tile_area-area.result.w * c.tile_area-area.result.h) fits
    (numbers_within c.args.format.now c.args.w c.args.h c.args.numbers.now c.tile_numbers-tile.result c.loop-number.number c.tile_area-area.result.w c.tile_area-area.result.h
    (omega (arith, c.loop-number-test.true, c.count_tiles-number-end.ensures)) c.tile_area-area.ensures.width c.tile_area-area.ensures.height c.requires.size
    (rw (c.tile_area-area.ensures.left, c.tile_area-area.ensures.top) at c.tile_numbers-tile.ensures.numbers) c.requires.numbers)

pub loop-number-preserved : goal.loop-number-preserved
loop-number-preserved c =
    let w = c.args.w in
    let h = c.args.h in
    let number = c.loop-number.number in
    let less : number < tile_count w h = omega (arith, c.loop-number-test.true, c.count_tiles-number-end.ensures) in
    let area = c.tile_area-area.ensures in
    one_written c.args.format.now w h (colors_of c.args.format.now c.args.numbers.now) (colors_of c.args.format.now c.tile_numbers-tile.result) (colors_of c.args.format.now (take (c.tile_area-area.result.w * c.tile_area-area.result.h) c.tile_numbers-tile.result)) number
    c.loop-number.known c.in_ok-known.known c.tile_area-area.result.w c.tile_area-area.result.h c.args.bytes.now.items c.loop-number.bytes.items c.append_tile.new.bytes.items less
    area.width area.height (tile_is c.args.format.now c.args.numbers.now w _ _ _ c.tile_numbers-tile.result _ (rw (area.left, area.top) at c.tile_numbers-tile.ensures.numbers)) (sym (take-map (number_color c.args.format.now) (c.tile_area-area.result.w * c.tile_area-area.result.h) c.tile_numbers-tile.result)) c.loop-number.invariant c.in_ok-known.ensures.ok

pub loop-number-init : goal.loop-number-init
loop-number-init c = none_written c.args.format.now c.args.w c.args.h (colors_of c.args.format.now c.args.numbers.now) c.args.bytes.now.items

pub returns-clause-ok : goal.returns-clause-ok
returns-clause-ok c =
    let most = c.loop-number.auto.number-end in
    let least = c.loop-number-test.false in
    let all : c.loop-number.number ≡ tile_count c.args.w c.args.h = omega (arith, most, least, c.count_tiles-number-end.ensures) in
    all_written c.args.format.now c.args.w c.args.h (colors_of c.args.format.now c.args.numbers.now) c.loop-number.number c.loop-number.known c.args.bytes.now.items c.loop-number.bytes.items all c.loop-number.invariant

pub tile_numbers-tile-requires-clause-rows : goal.tile_numbers-tile-requires-clause-rows
tile_numbers-tile-requires-clause-rows c = grind (arith, common_steps)

pub returns-in_err-known-clause-grows : goal.returns-in_err-known-clause-grows
returns-in_err-known-clause-grows c = grind (arith, common_steps)
