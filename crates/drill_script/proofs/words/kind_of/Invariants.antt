use Rattle.std.proofs.Common.{◌≡◌, drop}
use Rattle.drill_script.specs.Reading.{kind_among, kind_by, kinds}
use Rattle.drill_script.proofs.words.kind_of.Given as goal

abbrev pub invariant-loop-kind : goal.invariant-loop-kind
invariant-loop-kind l = kind_among (drop l.kind-index kinds) l.word ≡ kind_by l.word
