use Rattle.std.proofs.Common.{List, ℕ, sym, subst}
use Rattle.rect_codec.specs.Written.{ArePixels}
use Rattle.terms.specs.Appending.{Appends}
use Rattle.painter.specs.Sent.{sent_colors}
use Rattle.painter.proofs.SentRows.{both_ok}
use Rattle.painter.proofs.sending.append_area.Goals as goal

pub returns-clause-ok : goal.returns-clause-ok
returns-clause-ok g c =
    let f = c.args.format.now in
    both_ok c.whole_or_none.result c.append_rows-appended.result _ _ _ c.whole_or_none.ensures.outcome c.append_rows-appended.ensures.ok c.whole_or_none.ensures.ok
    (λ first kept. subst (λ (z : List ℕ). Appends (ArePixels f (sent_colors f (g.R.Rows.shown c.args.rows.now) c.args.area)) c.args.out.now.items z) (sym kept) first)
