use Rattle.std.proofs.Common.{◌∙◌, subst}
use Rattle.terms.specs.declared.area.Area.{Area}
use Rattle.painter.specs.WholeRows.{AreMoved}
use Rattle.painter.specs.Framebuffer.{color_at}
use Rattle.painter.proofs.Kept.{copy_kept, still_kept}
use Rattle.painter.proofs.Order.{unpainted}
use Rattle.painter.proofs.shared_rows.follow.Goals as goal

pub returns-in-CopyRect : goal.returns-in-CopyRect
returns-in-CopyRect c = λ old new wide before now size painted are.
    let content = rw c.in-CopyRect.is at c.requires.content in
    let copied = rw c.in-CopyRect.is at painted in
    let moved = subst (λ (s : Area). AreMoved s.y c.args.area.y c.args.area.h c.args.kept.now c.move_rows.new.kept) c.source_at.ensures c.move_rows.ensures in
    copy_kept old new c.args.size.width c.args.size.height c.args.area c.args.data.now c.args.kept.now c.move_rows.new.kept c.requires.within content
    c.if-area-size.true wide before now size c.move_rows.auto.kept copied moved are

pub returns-in_default : goal.returns-in_default
returns-in_default c = λ old new wide before now size painted are.
    still_kept old new c.args.area c.args.kept.now c.forget.new.kept before now size c.forget.auto.kept
    (λ x y across down outside. painted x y across down ∙ unpainted c.args.encoding c.args.area c.args.data.now (color_at old) x y outside)
    c.forget.ensures are
