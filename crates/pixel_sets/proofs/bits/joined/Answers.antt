use Rattle.pixel_sets.proofs.BitSets.{ends_joined, ends_of_others}
use Rattle.pixel_sets.proofs.bits.joined.Goals as goal

pub returns-in-Some : goal.returns-in-Some
returns-in-Some c = λ p q are others before. ends_joined p q c.in-Some.ends c.args.following (rw c.in-Some.is at are) others before

pub returns-in-None : goal.returns-in-None
returns-in-None c = λ p q none others before. ends_of_others p q c.args.following (rw c.in-None.is at none) others
