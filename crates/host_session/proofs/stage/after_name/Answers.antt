use Rattle.std.proofs.Common.{◌≡◌, ◌-◌, rules}
use Rattle.std.specs.Prelude.{min}
use Rattle.host_session.specs.Handshake.{text_limit}
use Rattle.host_session.proofs.Goes.{name_goes}
use Rattle.host_session.proofs.stage.after_name.Goals as goal

pub returns-clause-goes : goal.returns-clause-goes
returns-clause-goes c = λ expected more.
    let is : c.args.count - min c.args.count text_limit ≡ c.args.count - c.min.result = search rules in
    name_goes expected c.args.field.now more c.args.size c.args.count (c.args.count - c.min.result) c.requires is
