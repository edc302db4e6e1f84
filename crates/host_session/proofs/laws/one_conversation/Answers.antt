use Rattle.host_session.proofs.Same.{one_conversation, not_refused, one_refusal}
use Rattle.host_session.proofs.laws.one_conversation.Goals as goal

pub returns-clause-one_end : goal.returns-clause-one_end
returns-clause-one_end c = λ expected stream said answered told known messages others.
    one_conversation expected stream said answered told known messages others

pub returns-clause-not_refused : goal.returns-clause-not_refused
returns-clause-not_refused c = λ expected stream said answered reason told known messages others f.
    not_refused expected stream said answered reason told known messages others f

pub returns-clause-one_refusal : goal.returns-clause-one_refusal
returns-clause-one_refusal c = λ expected stream said answered reason text told known messages others f g.
    one_refusal expected stream said answered reason text told known messages others f g
