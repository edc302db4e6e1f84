use Rattle.std.proofs.Common.{◌≡◌, ◌≤◌, ◌*◌, ◌++◌, length, ap, ◌∙◌, arith}
use Rattle.std.specs.Io.KnownBytes.{Appends}
use Rattle.gated_journal.specs.Recording.{IsHead}
use Rattle.terms.specs.Limits.{limits}
use Rattle.terms.proofs.Sizes.{are_limits}
use Rattle.painter.specs.Framebuffer.{color_at}
use Rattle.fbs_export.specs.Export.{start, front_text, block_text, opening_text, screen_text, rows_text}
use Rattle.fbs_export.specs.Written.{WroteFront}
use Rattle.fbs_export.proofs.Parts.{wrote_all, in_second, in_third, three_parts}
use Rattle.fbs_export.proofs.Said.{pixels_from, opening_short}
use Rattle.fbs_export.proofs.Writes.{front_of_first}
use Rattle.fbs_export.proofs.exporting.write_front.Goals as goal

pub returns-in_err-write_bytes-clause-front : goal.returns-in_err-write_bytes-clause-front
unfolding front_text
returns-in_err-write_bytes-clause-front g c =
    let h = c.args.index.now.head in
    front_of_first _ _ start (block_text 0 (opening_text h) ++ block_text 0 (screen_text h.width h.height (color_at c.args.screen.now))) c.write_bytes.ensures.front

pub write_block-requires : goal.write_block-requires
write_block-requires g c =
    let h = c.args.index.now.head in
    let text : c.deref.result.now ≡ opening_text h = c.deref.ensures.value ∙ c.in_ok-append_opening.ensures ∙ ap (λ z. z ++ opening_text h) c.new-content.ensures.items in
    rw text (opening_short h (rw (← c.header.ensures) c.size.ensures.limits))

pub returns-in_err-write_block-clause-front : goal.returns-in_err-write_block-clause-front
unfolding front_text
returns-in_err-write_block-clause-front g c =
    let h = c.args.index.now.head in
    let text : c.deref.result.now ≡ opening_text h = c.deref.ensures.value ∙ c.in_ok-append_opening.ensures ∙ ap (λ z. z ++ opening_text h) c.new-content.ensures.items in
    let w : WroteFront (g.W.Write.contents c.write_bytes.new.out) (g.W.Write.contents c.write_block.new.out) (block_text 0 (opening_text h)) = rw (← text) c.write_block.ensures.front in
    in_second _ _ _ start (block_text 0 (opening_text h)) (block_text 0 (screen_text h.width h.height (color_at c.args.screen.now))) c.in_ok-write_bytes.ensures.all w

pub returns-in_err-append_screen-clause-front : goal.returns-in_err-append_screen-clause-front
unfolding front_text
returns-in_err-append_screen-clause-front g c =
    let h = c.args.index.now.head in
    let text : c.deref.result.now ≡ opening_text h = c.deref.ensures.value ∙ c.in_ok-append_opening.ensures ∙ ap (λ z. z ++ opening_text h) c.new-content.ensures.items in
    let w : Appends (g.W.Write.contents c.write_bytes.new.out) (g.W.Write.contents c.write_block.new.out) (block_text 0 (opening_text h)) = rw (← text) c.in_ok-write_block.ensures.all in
    in_second _ _ _ start (block_text 0 (opening_text h)) (block_text 0 (screen_text h.width h.height (color_at c.args.screen.now))) c.in_ok-write_bytes.ensures.all (wrote_all _ _ _ w)

pub write_block-requires-2 : goal.write_block-requires-2
unfolding screen_text
write_block-requires-2 g c =
    let s = c.args.screen.now in
    let text : c.deref-2.result.now ≡ screen_text s.width s.height (color_at s) = c.deref-2.ensures.value ∙ c.in_ok-append_screen.ensures ∙ ap (λ z. z ++ screen_text s.width s.height (color_at s)) c.clear.ensures.items in
    let pixels : length (rows_text (color_at s) s.width 0 s.height) ≡ 4 * (s.width * s.height) = pixels_from (color_at s) s.width 0 s.height in
    let is : IsHead c.args.index.now.head = rw (← c.header.ensures) c.size.ensures.limits in
    let area : s.width * s.height ≤ (limits c.args.index.now.head.format).area = rw (c.requires.width, c.requires.height) is.size.area in
    let most = are_limits c.args.index.now.head.format in
    rw text (omega (arith, pixels, area, most.key, most.body, most.longest))

pub returns-in_err-write_block-2-clause-front : goal.returns-in_err-write_block-2-clause-front
unfolding front_text
returns-in_err-write_block-2-clause-front g c =
    let h = c.args.index.now.head in
    let s = c.args.screen.now in
    let text : c.deref.result.now ≡ opening_text h = c.deref.ensures.value ∙ c.in_ok-append_opening.ensures ∙ ap (λ z. z ++ opening_text h) c.new-content.ensures.items in
    let w : Appends (g.W.Write.contents c.write_bytes.new.out) (g.W.Write.contents c.write_block.new.out) (block_text 0 (opening_text h)) = rw (← text) c.in_ok-write_block.ensures.all in
    let shown : c.deref-2.result.now ≡ screen_text h.width h.height (color_at s) = rw (← c.requires.width, ← c.requires.height) (c.deref-2.ensures.value ∙ c.in_ok-append_screen.ensures ∙ ap (λ z. z ++ screen_text s.width s.height (color_at s)) c.clear.ensures.items) in
    let v : WroteFront (g.W.Write.contents c.write_block.new.out) (g.W.Write.contents c.write_block-2.new.out) (block_text 0 (screen_text h.width h.height (color_at s))) = rw (← shown) c.write_block-2.ensures.front in
    in_third _ _ _ _ start (block_text 0 (opening_text h)) (block_text 0 (screen_text h.width h.height (color_at s))) c.in_ok-write_bytes.ensures.all w v

pub returns-clause-all : goal.returns-clause-all
unfolding front_text
returns-clause-all g c =
    let h = c.args.index.now.head in
    let s = c.args.screen.now in
    let text : c.deref.result.now ≡ opening_text h = c.deref.ensures.value ∙ c.in_ok-append_opening.ensures ∙ ap (λ z. z ++ opening_text h) c.new-content.ensures.items in
    let w : Appends (g.W.Write.contents c.write_bytes.new.out) (g.W.Write.contents c.write_block.new.out) (block_text 0 (opening_text h)) = rw (← text) c.in_ok-write_block.ensures.all in
    let shown : c.deref-2.result.now ≡ screen_text h.width h.height (color_at s) = rw (← c.requires.width, ← c.requires.height) (c.deref-2.ensures.value ∙ c.in_ok-append_screen.ensures ∙ ap (λ z. z ++ screen_text s.width s.height (color_at s)) c.clear.ensures.items) in
    let v : Appends (g.W.Write.contents c.write_block.new.out) (g.W.Write.contents c.write_block-2.new.out) (block_text 0 (screen_text h.width h.height (color_at s))) = rw (← shown) c.in_ok-write_block-2.ensures.all in
    three_parts _ _ _ _ start (block_text 0 (opening_text h)) (block_text 0 (screen_text h.width h.height (color_at s))) c.in_ok-write_bytes.ensures.all w v

pub returns-clause-front : goal.returns-clause-front
returns-clause-front g c = wrote_all _ _ _ (returns-clause-all g c)
