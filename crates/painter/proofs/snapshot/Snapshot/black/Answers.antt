use Rattle.std.proofs.Common.{sym, subst}
use Rattle.std.proofs.lemmas.Result.{IfOk-weaker}
use Rattle.painter.specs.Framebuffer.{Framebuffer, Has}
use Rattle.painter.specs.Picture.{black}
use Rattle.painter.proofs.Screens.{shows_none}
use Rattle.painter.proofs.snapshot.Snapshot.black.Goals as goal

pub returns-clause-black : goal.returns-clause-black
returns-clause-black c = IfOk-weaker c.new.result _ _ (λ x e. subst (λ (s : Framebuffer). Has s black) (sym e) c.in_ok-rows.ensures.black) c.new.ensures

pub returns-clause-shows : goal.returns-clause-shows
returns-clause-shows c = IfOk-weaker c.new.result _ _ (λ x e. shows_none x (subst (λ (s : Framebuffer). Has s black) (sym e) c.in_ok-rows.ensures.black)) c.new.ensures
