use Rattle.std.proofs.Common.{sym, refl}
use Rattle.std.proofs.lemmas.Bool.{lt-ltb, le-ltb}
use Rattle.rfb_wire.specs.Grammar.{text_limit}
use Rattle.rfb_wire.specs.PartialMessage.{go_on, resume}
use Rattle.rfb_wire.proofs.Others.{no_text}
use Rattle.rfb_wire.proofs.step.next_text.Goals as goal

pub returns-then-count-gt-TEXT_LIMIT-clause-goes : goal.returns-then-count-gt-TEXT_LIMIT-clause-goes
unfolding go_on
returns-then-count-gt-TEXT_LIMIT-clause-goes c = λ width height more.
    rw (lt-ltb text_limit c.args.count c.if-count-gt-TEXT_LIMIT.true) refl

pub returns-then-count-eq0-clause-goes : goal.returns-then-count-eq0-clause-goes
unfolding go_on
returns-then-count-eq0-clause-goes c = λ width height more.
    rw c.if-count-eq0.true (sym (no_text more))

pub returns-else-count-eq0-clause-goes : goal.returns-else-count-eq0-clause-goes
unfolding go_on resume
returns-else-count-eq0-clause-goes c = λ width height more.
    rw (le-ltb text_limit c.args.count c.if-count-gt-TEXT_LIMIT.false) refl
