use Rattle.std.proofs.Common.{take}
use Rattle.std.specs.Prelude.{All}
use Rattle.rect_codec.specs.Encoding.{IsOther}
use Rattle.rect_codec.proofs.encoding.pick.Given as goal

-- none so far is one of theirs
abbrev pub invariant-loop-number : goal.invariant-loop-number
invariant-loop-number l = All IsOther (take l.number-index l.numbers)
