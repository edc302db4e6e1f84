use Rattle.viewer_session.proofs.Conversations.{started, heard, stopped, advanced, answered, closed}
use Rattle.viewer_session.proofs.laws.a_viewer_is_served.Goals as goal

pub returns-clause-starts : goal.returns-clause-starts
returns-clause-starts c = started

pub returns-clause-feeds : goal.returns-clause-feeds
returns-clause-feeds c = λ head s t stream piece told put messages updates shown list.
    heard head s t stream piece messages told updates put shown list

pub returns-clause-stops : goal.returns-clause-stops
returns-clause-stops c = λ head s t stream piece told put messages updates shown list f.
    stopped head s t stream piece messages told updates put shown list f

pub returns-clause-advances : goal.returns-clause-advances
returns-clause-advances c = λ head s t stream told put messages updates shown list.
    advanced head s t stream messages told updates put shown list

pub returns-clause-answers : goal.returns-clause-answers
returns-clause-answers c = λ head s t stream told put before after messages updates shown list.
    answered head s t stream messages told updates put shown list before after

pub returns-clause-closes : goal.returns-clause-closes
returns-clause-closes c = λ head s stream told put messages updates shown list.
    closed head s stream messages told updates put shown list
