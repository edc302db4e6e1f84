use Rattle.std.specs.Prelude.{slice_index}
use Rattle.pixel_format.proofs.Valid.{accepted_is, is_accepted, flag_some}
use Rattle.pixel_format.proofs.laws.valid_formats.Goals as goal

pub returns : goal.returns
returns c = λ bytes f. (
  λ e. let a = accepted_is bytes f e in (a.is, flag_some (slice_index bytes 3) a.color, a.valid),
  λ a. is_accepted bytes f a.0 a.1 a.2,
)
