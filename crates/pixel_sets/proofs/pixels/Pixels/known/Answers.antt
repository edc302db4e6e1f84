use Rattle.std.proofs.lemmas.List.FromFn.{length-map-range_with_len}
use Rattle.pixel_sets.proofs.pixels.Pixels.known.Goals as goal

pub returns : goal.returns
returns c = rw (← c.self.view_is) (length-map-range_with_len _ 0 _)
