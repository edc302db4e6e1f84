use Rattle.std.proofs.Common.{ap, ◌∙◌}
use Rattle.recording_name.specs.FolderHistory.{History, present}
use Rattle.recording_name.proofs.Calls.{after_same}
use Rattle.recording_name.proofs.settling.settle.Goals as goal

pub returns-in_err-sync_both-clause-keeps : goal.returns-in_err-sync_both-clause-keeps
returns-in_err-sync_both-clause-keeps g c m name = after_same _ _ _ name (c.is_at.ensures.history m) (c.sync_both.ensures.keeps m name)

pub returns-else-is_by_name-clause-keeps : goal.returns-else-is_by_name-clause-keeps
returns-else-is_by_name-clause-keeps g c m name = after_same _ _ _ name (c.is_at.ensures.history m) (c.sync_both.ensures.keeps m name)

pub returns-then-is_by_name-clause-keeps : goal.returns-then-is_by_name-clause-keeps
returns-then-is_by_name-clause-keeps g c m name = after_same _ _ _ name (c.is_at.ensures.history m) (c.sync_both.ensures.keeps m name)

pub returns-then-is_by_name-clause-settled : goal.returns-then-is_by_name-clause-settled
returns-then-is_by_name-clause-settled g c m is =
    c.in_ok-sync_both.ensures.settled m c.args.path.now
    (ap (λ (h : History). (present h).names c.args.path.now) (c.is_at.ensures.history m) ∙ c.in_ok-is_by_name.ensures.named m c.if-is_by_name.true)
