use Rattle.std.proofs.Common.{refl, sym, ap, subst, length}
use Rattle.pixel_format.specs.declared.Color.{Color}
use Rattle.pixel_format.specs.Pixel.{IsWithin}
use Rattle.hextile.specs.Encoded.{IsCover}
use Rattle.pixel_format.specs.Number.{colors_of}
use Rattle.hextile.proofs.EncodedTile.{ink_within, parts_tile_shown, raw_tile_shown}
use Rattle.hextile.proofs.encoding.append_tile.Goals as goal

pub append_parts_tile-requires-clause-background : goal.append_parts_tile-requires-clause-background
append_parts_tile-requires-clause-background c =
    subst (λ (z : Color). IsWithin c.args.format.now z) (sym c.color_of-background.ensures) (c.requires.numbers c.choose_background-chosen.result.index 0 c.choose_background-chosen.ensures.index).within

pub append_parts_tile-requires-clause-foreground : goal.append_parts_tile-requires-clause-foreground
append_parts_tile-requires-clause-foreground c =
    let cover = c.if-cover.ensures refl c.requires.numbers in
    ink_within c.args.format.now c.args.w c.args.h c.color_of-background.result c.unwrap_or-foreground.result c.shared_color-ink.result
    c.as_slice-parts.result.now c.cover.new.parts.items c.as_slice-parts.ensures.value c.unwrap_or-foreground.ensures c.shared_color-ink.ensures.all c.shared_color-ink.ensures.some cover.parts_are
    (subst (λ (z : Color). IsWithin c.args.format.now z) (sym c.color_of-background.ensures) (c.requires.numbers c.choose_background-chosen.result.index 0 c.choose_background-chosen.ensures.index).within)

pub returns-then-parts_size-numbers-clause-ok : goal.returns-then-parts_size-numbers-clause-ok
returns-then-parts_size-numbers-clause-ok c = λ before is.
    let f = c.args.format.now in
    let colors = colors_of f c.args.numbers.now in
    let cover : IsCover f c.args.w c.args.h colors c.color_of-background.result c.cover.new.parts.items =
    subst (λ (z : Color). IsCover f c.args.w c.args.h colors z c.cover.new.parts.items) (sym c.color_of-background.ensures) (c.if-cover.ensures refl c.requires.numbers) in
    parts_tile_shown f c.args.w c.args.h colors c.args.known c.known_after.result before c.mask_for-mask.result
    c.color_of-background.result c.unwrap_or-foreground.result c.shared_color-ink.result
    c.as_slice-parts.result.now c.as_slice-parts.result.now c.cover.new.parts.items (length c.as_slice-parts.result.now) c.args.bytes.now.items c.append_parts_tile.new.bytes.items
    c.as_slice-parts.ensures.value c.as_slice-parts.ensures.value (ap length c.as_slice-parts.ensures.value) c.unwrap_or-foreground.ensures
    is c.mask_for-mask.ensures c.shared_color-ink.ensures.all cover (c.in_ok-append_parts_tile.ensures.ok c.args.w c.args.h) c.in_ok-append_parts_tile.ensures.written c.known_after.ensures

pub returns-clause-ok : goal.returns-clause-ok
returns-clause-ok c = λ before is.
    raw_tile_shown c.args.format.now c.args.w c.args.h (colors_of c.args.format.now c.args.numbers.now) before c.args.bytes.now.items c.append_raw_tile.new.bytes.items
    (c.in_ok-append_raw_tile.ensures.ok c.args.w c.args.h c.requires.size) c.in_ok-append_raw_tile.ensures.written
