use Rattle.host_stream.proofs.Sized.{given_of_host}
use Rattle.host_stream.proofs.laws.each_message_is_of_its_host.Goals as goal

pub returns : goal.returns
returns c = given_of_host
