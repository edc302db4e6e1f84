use Rattle.std.proofs.Common.{subst}
use Rattle.request_head.specs.declared.head.Reading.{Reading}
use Rattle.request_head.specs.Judgement.{IsReading}
use Rattle.request_head.proofs.Cuts.{still_refused}
use Rattle.request_head.proofs.Only.{only_unfinished, only_taken, only_refused}
use Rattle.request_head.proofs.head.read_head.Goals as goal

pub returns : goal.returns
returns c = record {
  is = c.read.ensures;
  unfinished = only_unfinished c.args.names.now c.args.bytes.now c.read.new.fields c.read.result c.read.ensures;
  taken = only_taken c.args.names.now c.args.bytes.now c.read.new.fields c.read.result c.read.ensures;
  refused = only_refused c.args.names.now c.args.bytes.now c.read.new.fields c.read.result c.read.ensures;
  stays = λ fault more is other.
      still_refused c.args.names.now c.args.bytes.now more fault other
      (subst (λ (reading : Reading). IsReading c.args.names.now c.args.bytes.now c.read.new.fields reading) is c.read.ensures);
}
