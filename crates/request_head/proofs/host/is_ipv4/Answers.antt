use Rattle.std.specs.Net.Grammar.{IsIpv4Text}
use Rattle.request_head.proofs.Names.{is_parsed}
use Rattle.request_head.proofs.host.is_ipv4.Goals as goal

pub returns : goal.returns
returns c = is_parsed (λ address. IsIpv4Text c.args.name.now address) c.parse_ascii.result c.is_ok.result c.parse_ascii.ensures c.is_ok.ensures.value
