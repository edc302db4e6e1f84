use Rattle.std.proofs.Common.{◌≡◌, ◌+◌, ◌*◌, ℕ, length, vec_len, take, sym, ap, ◌∙◌, arith}
use Rattle.std.proofs.lemmas.List.{take_all, length-replicate}
use Rattle.painter.proofs.RowsRead.{colors_appended}
use Rattle.painter.proofs.colors.append_colors.Goals as goal

pub returns-clause-ok : goal.returns-clause-ok
returns-clause-ok g c =
    let area = c.args.area in
    let out = c.args.out.now in
    let count : c.from.result * c.from-2.result ≡ area.h * area.w = rw (c.from.ensures, c.from-2.ensures) in
    let before : c.len-start.result ≡ length out.items = c.len-start.ensures ∙ out.ok.0 in
    let all : take (c.len-start.result + c.from.result * c.from-2.result) out.items ≡ out.items =
    take_all (c.len-start.result + c.from.result * c.from-2.result) out.items (omega (arith, before)) in
    let room = rw all at c.in_ok-resize.ensures.items in
    let held : vec_len out ≡ c.len-start.result = sym c.len-start.ensures in
    colors_appended (g.R.Rows.shown c.args.rows.now) area out.items c.resize.new.self.items _ c.deref_mut.result.now c.read_area.new.colors c.len-start.result c.resize.new.self.len
    before (c.in_ok-resize.ensures.len ∙ ap (λ (n : ℕ). c.len-start.result + n) count)
    room (length-replicate _ _ ∙ omega (arith, count, held)) c.deref_mut.ensures.value c.read_area.auto.colors
    c.read_area.ensures.value
    c.read_area.ensures.screen
