use Rattle.std.proofs.Common.{◌≡◌, ◌∙◌, ◌*◌, ◌-◌, length, take, drop, sym, ap, subst, arith}
use Rattle.pixel_format.specs.Format.{pixel_bytes}
use Rattle.terms.specs.Reading.{Got}
use Rattle.hextile.specs.declared.painting.TileColors.{TileColors}
use Rattle.hextile.specs.Grammar.{pixel_if, background_in, foreground_in, head_bytes, count_in, subrectangles_at}
use Rattle.hextile.proofs.Held.{held_or}
use Rattle.hextile.specs.Painting.{named_in_head}
use Rattle.hextile.proofs.PaintedTile.{tile_taken, code_body, raw_taken, parts_taken, raw_painted, parts_painted, raw_carried, parts_carried}
use Rattle.hextile.proofs.painting.paint_tile.Goals as goal

pub bounds-bytes-0 : goal.bounds-bytes-0
bounds-bytes-0 g c =
    let t = tile_taken c.args.format.now c.requires.begin.named c.args.area.w c.args.area.h c.args.bytes.now c.requires.begin.tile c.requires.begin.rest c.requires.begin.is in
    omega (arith, t.some)

pub slice_bounds-body-count : goal.slice_bounds-body-count
slice_bounds-body-count g c =
    let t = tile_taken c.args.format.now c.requires.begin.named c.args.area.w c.args.area.h c.args.bytes.now c.requires.begin.tile c.requires.begin.rest c.requires.begin.is in
    omega (arith, t.some)

pub slice_bounds-body-start : goal.slice_bounds-body-start
slice_bounds-body-start g c =
    let t = tile_taken c.args.format.now c.requires.begin.named c.args.area.w c.args.area.h c.args.bytes.now c.requires.begin.tile c.requires.begin.rest c.requires.begin.is in
    omega (arith, t.some)

pub split_at-requires : goal.split_at-requires
split_at-requires g c =
    let f = c.args.format.now in
    let area = c.args.area in
    let m = c.read_mask-mask.result in
    let body = take (length c.args.bytes.now - 1) (drop 1 c.args.bytes.now) in
    let here = code_body f c.requires.begin.named area.w area.h c.args.bytes.now m c.requires.begin.tile c.requires.begin.rest c.read_mask-mask.ensures c.requires.begin.is in
    let t = raw_taken f m area.w area.h body c.requires.begin.tile c.requires.begin.rest c.if-mask.true here in
    rw c.bytes.ensures.value t.enough

pub returns-then-mask-clause-rest : goal.returns-then-mask-clause-rest
returns-then-mask-clause-rest g c = λ named tile rest e.
    let f = c.args.format.now in
    let area = c.args.area in
    let m = c.read_mask-mask.result in
    let body = take (length c.args.bytes.now - 1) (drop 1 c.args.bytes.now) in
    let here = code_body f named area.w area.h c.args.bytes.now m tile rest c.read_mask-mask.ensures e in
    let t = raw_taken f m area.w area.h body tile rest c.if-mask.true here in
    c.split_at.ensures.back ∙ ap (λ n. drop (area.w * area.h * n) body) c.bytes.ensures.value ∙ sym t.rest_is

pub returns-then-mask-clause-colors : goal.returns-then-mask-clause-colors
returns-then-mask-clause-colors g c = λ named tile rest e.
    let f = c.args.format.now in
    let area = c.args.area in
    let m = c.read_mask-mask.result in
    let body = take (length c.args.bytes.now - 1) (drop 1 c.args.bytes.now) in
    let here = code_body f named area.w area.h c.args.bytes.now m tile rest c.read_mask-mask.ensures e in
    let t = raw_taken f m area.w area.h body tile rest c.if-mask.true here in
    raw_carried c.args.colors.now tile _ t.tile_is

pub returns-then-mask-clause-painted : goal.returns-then-mask-clause-painted
returns-then-mask-clause-painted g c = λ named tile rest e.
    let f = c.args.format.now in
    let area = c.args.area in
    let m = c.read_mask-mask.result in
    let body = take (length c.args.bytes.now - 1) (drop 1 c.args.bytes.now) in
    let here = code_body f named area.w area.h c.args.bytes.now m tile rest c.read_mask-mask.ensures e in
    let t = raw_taken f m area.w area.h body tile rest c.if-mask.true here in
    let pixels : c.split_at.result.0.now ≡ take (area.w * area.h * pixel_bytes f) body = c.split_at.ensures.front ∙ ap (λ n. take (area.w * area.h * n) body) c.bytes.ensures.value in
    raw_painted f area.x area.y area.w area.h body tile rest c.args.colors.now (g.C.Canvas.width c.args.canvas.now) (g.C.Canvas.height c.args.canvas.now)
    (g.C.Canvas.picture c.args.canvas.now) (g.C.Canvas.picture c.paint_pixels.new.canvas) t (rw pixels at c.paint_pixels.ensures.painted)

pub split_at-requires-2 : goal.split_at-requires-2
split_at-requires-2 g c =
    let f = c.args.format.now in
    let area = c.args.area in
    let m = c.read_mask-mask.result in
    let body = take (length c.args.bytes.now - 1) (drop 1 c.args.bytes.now) in
    let here = code_body f c.requires.begin.named area.w area.h c.args.bytes.now m c.requires.begin.tile c.requires.begin.rest c.read_mask-mask.ensures c.requires.begin.is in
    let t = parts_taken f m area.w area.h body c.requires.begin.tile c.requires.begin.rest c.if-mask.false here in
    rw c.head_size.ensures t.enough

pub paint_parts-requires-clause-begin : goal.paint_parts-requires-clause-begin
paint_parts-requires-clause-begin g c =
    let f = c.args.format.now in
    let area = c.args.area in
    let m = c.read_mask-mask.result in
    let body = take (length c.args.bytes.now - 1) (drop 1 c.args.bytes.now) in
    let here = code_body f c.requires.begin.named area.w area.h c.args.bytes.now m c.requires.begin.tile c.requires.begin.rest c.read_mask-mask.ensures c.requires.begin.is in
    let t = parts_taken f m area.w area.h body c.requires.begin.tile c.requires.begin.rest c.if-mask.false here in
    let head : c.split_at-2.result.0.now ≡ take (head_bytes f m) body = c.split_at-2.ensures.front ∙ ap (λ n. take n body) c.head_size.ensures in
    let following : c.split_at-2.result.1.now ≡ drop (head_bytes f m) body = c.split_at-2.ensures.back ∙ ap (λ n. drop n body) c.head_size.ensures in
    let count : c.read_count-count.result ≡ count_in f m (take (head_bytes f m) body) = c.read_count-count.ensures ∙ ap (count_in f m) head in
    let are : subrectangles_at f m.colored area.w area.h c.read_count-count.result c.split_at-2.result.1.now ≡ Got t.parts c.requires.begin.rest =
    ap (λ n. subrectangles_at f m.colored area.w area.h n c.split_at-2.result.1.now) count
    ∙ ap (subrectangles_at f m.colored area.w area.h (count_in f m (take (head_bytes f m) body))) following ∙ t.are in
    record { parts = t.parts; rest = c.requires.begin.rest; is = are }

pub returns-clause-rest : goal.returns-clause-rest
returns-clause-rest g c = λ named tile rest e.
    let f = c.args.format.now in
    let area = c.args.area in
    let m = c.read_mask-mask.result in
    let body = take (length c.args.bytes.now - 1) (drop 1 c.args.bytes.now) in
    let here = code_body f named area.w area.h c.args.bytes.now m tile rest c.read_mask-mask.ensures e in
    let t = parts_taken f m area.w area.h body tile rest c.if-mask.false here in
    let head : c.split_at-2.result.0.now ≡ take (head_bytes f m) body = c.split_at-2.ensures.front ∙ ap (λ n. take n body) c.head_size.ensures in
    let following : c.split_at-2.result.1.now ≡ drop (head_bytes f m) body = c.split_at-2.ensures.back ∙ ap (λ n. drop n body) c.head_size.ensures in
    let count : c.read_count-count.result ≡ count_in f m (take (head_bytes f m) body) = c.read_count-count.ensures ∙ ap (count_in f m) head in
    let are : subrectangles_at f m.colored area.w area.h c.read_count-count.result c.split_at-2.result.1.now ≡ Got t.parts rest =
    ap (λ n. subrectangles_at f m.colored area.w area.h n c.split_at-2.result.1.now) count
    ∙ ap (subrectangles_at f m.colored area.w area.h (count_in f m (take (head_bytes f m) body))) following ∙ t.are in
    c.paint_parts.ensures.rest t.parts rest are

pub returns-clause-colors : goal.returns-clause-colors
returns-clause-colors g c = λ named tile rest e.
    let f = c.args.format.now in
    let area = c.args.area in
    let m = c.read_mask-mask.result in
    let body = take (length c.args.bytes.now - 1) (drop 1 c.args.bytes.now) in
    let here = code_body f named area.w area.h c.args.bytes.now m tile rest c.read_mask-mask.ensures e in
    let t = parts_taken f m area.w area.h body tile rest c.if-mask.false here in
    let head : c.split_at-2.result.0.now ≡ take (head_bytes f m) body = c.split_at-2.ensures.front ∙ ap (λ n. take n body) c.head_size.ensures in
    parts_carried c.args.colors.now c.name_colors.result tile _ _ t.parts t.tile_is (c.name_colors.ensures ∙ ap (λ z. named_in_head f m z c.args.colors.now) head)

pub returns-clause-painted : goal.returns-clause-painted
returns-clause-painted g c = λ named tile rest e.
    let f = c.args.format.now in
    let area = c.args.area in
    let m = c.read_mask-mask.result in
    let body = take (length c.args.bytes.now - 1) (drop 1 c.args.bytes.now) in
    let here = code_body f named area.w area.h c.args.bytes.now m tile rest c.read_mask-mask.ensures e in
    let t = parts_taken f m area.w area.h body tile rest c.if-mask.false here in
    let head : c.split_at-2.result.0.now ≡ take (head_bytes f m) body = c.split_at-2.ensures.front ∙ ap (λ n. take n body) c.head_size.ensures in
    let following : c.split_at-2.result.1.now ≡ drop (head_bytes f m) body = c.split_at-2.ensures.back ∙ ap (λ n. drop n body) c.head_size.ensures in
    let count : c.read_count-count.result ≡ count_in f m (take (head_bytes f m) body) = c.read_count-count.ensures ∙ ap (count_in f m) head in
    let are : subrectangles_at f m.colored area.w area.h c.read_count-count.result c.split_at-2.result.1.now ≡ Got t.parts rest =
    ap (λ n. subrectangles_at f m.colored area.w area.h n c.split_at-2.result.1.now) count
    ∙ ap (subrectangles_at f m.colored area.w area.h (count_in f m (take (head_bytes f m) body))) following ∙ t.are in
    let painted = c.paint_parts.ensures.painted t.parts rest are in
    parts_painted area.x area.y area.w area.h c.name_colors.result.background c.name_colors.result.foreground tile _ _ t.parts
    (g.C.Canvas.width c.args.canvas.now) (g.C.Canvas.height c.args.canvas.now) (g.C.Canvas.picture c.args.canvas.now) (g.C.Canvas.picture c.fill.new.self) (g.C.Canvas.picture c.paint_parts.new.canvas)
    t.tile_is c.fill.ensures.painted (rw (c.fill.ensures.width, c.fill.ensures.height) at painted)

pub fill-requires-clause-held : goal.fill-requires-clause-held
unfolding background_in
fill-requires-clause-held g c =
    let f = c.args.format.now in
    let m = c.read_mask-mask.result in
    let head = c.split_at-2.result.0.now in
    subst (λ (z : TileColors). g.C.Canvas.holds z.background) (sym c.name_colors.ensures)
    (held_or g.C.Canvas.holds f m.background head c.args.colors.now.background c.requires.held c.requires.background)

pub paint_parts-requires-clause-foreground : goal.paint_parts-requires-clause-foreground
unfolding foreground_in
paint_parts-requires-clause-foreground g c =
    let f = c.args.format.now in
    let m = c.read_mask-mask.result in
    let head = c.split_at-2.result.0.now in
    subst (λ (z : TileColors). g.C.Canvas.holds z.foreground) (sym c.name_colors.ensures)
    (held_or g.C.Canvas.holds f m.foreground (drop (pixel_if f m.background) head) c.args.colors.now.foreground c.requires.held c.requires.foreground)

pub returns-clause-background : goal.returns-clause-background
unfolding background_in
returns-clause-background g c =
    let f = c.args.format.now in
    let m = c.read_mask-mask.result in
    let head = c.split_at-2.result.0.now in
    subst (λ (z : TileColors). g.C.Canvas.holds z.background) (sym c.name_colors.ensures)
    (held_or g.C.Canvas.holds f m.background head c.args.colors.now.background c.requires.held c.requires.background)

pub returns-clause-foreground : goal.returns-clause-foreground
unfolding foreground_in
returns-clause-foreground g c =
    let f = c.args.format.now in
    let m = c.read_mask-mask.result in
    let head = c.split_at-2.result.0.now in
    subst (λ (z : TileColors). g.C.Canvas.holds z.foreground) (sym c.name_colors.ensures)
    (held_or g.C.Canvas.holds f m.foreground (drop (pixel_if f m.background) head) c.args.colors.now.foreground c.requires.held c.requires.foreground)
