-- With which code a viewer's connection ends (RFC 6455, section 7.4).
use Rattle.reception.specs.declared.term.Reason.TheVariants.{Full, Enough, Closing}
use Rattle.websocket.specs.declared.protocol.frame.coding.CloseCode.{CloseCode}
use Rattle.websocket.specs.declared.protocol.frame.coding.CloseCode.TheVariants as code
use Rattle.web_frames.specs.Frames.{code_of}
use Rattle.carriage.specs.declared.ending.Ending.{Ending}
use Rattle.carriage.specs.declared.ending.Ending.TheVariants.{Ended, TurnedAway, TooFar, Unreadable, Unknown, Faulty}

-- one of the protocol's, or one from 4000 on, which are for applications (section 7.4.2)
abbrev pub code_of_ending : Ending → CloseCode
code_of_ending Ended = code.Normal
code_of_ending (TurnedAway Full) = code.Library 4001
code_of_ending (TurnedAway Enough) = code.Library 4002
code_of_ending (TurnedAway Closing) = code.Library 4003
code_of_ending TooFar = code.Library 4004
code_of_ending Unreadable = code.Library 4005
code_of_ending Unknown = code.Policy
code_of_ending (Faulty fault) = code_of fault
