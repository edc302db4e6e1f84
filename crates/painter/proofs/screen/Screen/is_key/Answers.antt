use Rattle.painter.proofs.Whole.{is_key_painted, only_head, sized}
use Rattle.painter.proofs.screen.Screen.is_key.Goals as goal

pub returns-clause-is_key : goal.returns-clause-is_key
returns-clause-is_key c =
    let screen = c.args.self.now in
    let only = only_head c.args.message.now.rectangles c.rectangles-rectangles.result.now _ c.rectangles-rectangles.ensures.value c.if-rectangles-ne1.false in
    let whole = sized screen.width screen.height c.size-size.result _ c.size-size.ensures (c.is_whole.ensures.0 c.if-not-is_whole.false) in
    let both = is_key_painted screen c.args.other.now c.paint.new.self c.args.message.now _ c.requires.width c.requires.height c.requires.size c.paint.ensures.size only whole c.paint.ensures.painted in
    (λ t. both.0 (c.same.ensures.0 t), λ key. c.same.ensures.1 (both.1 key))
