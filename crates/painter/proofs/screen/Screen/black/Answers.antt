use Rattle.painter.proofs.Screens.{shows_none}
use Rattle.painter.proofs.screen.Screen.black.Goals as goal

pub returns-clause-shows : goal.returns-clause-shows
returns-clause-shows c = shows_none c.in_ok-sheet.sheet c.in_ok-sheet.ensures.black
