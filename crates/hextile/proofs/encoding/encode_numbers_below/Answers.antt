use Rattle.std.proofs.Common.{◌∙◌}
use Rattle.terms.proofs.Appends.{kept_or_not}
use Rattle.hextile.proofs.encoding.encode_numbers_below.Goals as goal

pub returns-clause-appended : goal.returns-clause-appended
returns-clause-appended c =
    kept_or_not _ c.args.bytes.now.items c.encode_numbers.new.bytes.items c.keep_below.new.bytes.items c.len-before.result c.keep_below.result (c.len-before.ensures ∙ c.args.bytes.now.ok.0)
    c.in_ok-encode_numbers.ensures.ok c.keep_below.ensures.kept c.keep_below.ensures.taken_back
