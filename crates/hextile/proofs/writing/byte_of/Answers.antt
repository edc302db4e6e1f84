use Rattle.std.proofs.Common.{refl}
use Rattle.pixel_format.proofs.Valid.{flag-byte}
use Rattle.hextile.proofs.Written.{mask_again}
use Rattle.hextile.proofs.writing.byte_of.Goals as goal

pub returns-clause-mask : goal.returns-clause-mask
returns-clause-mask c =
    mask_again c.args.mask.raw c.args.mask.background c.args.mask.foreground c.args.mask.subrectangles c.args.mask.colored

pub returns-clause-number : goal.returns-clause-number
returns-clause-number c =
    rw (flag-byte c.args.mask.raw, flag-byte c.args.mask.background, flag-byte c.args.mask.foreground, flag-byte c.args.mask.subrectangles, flag-byte c.args.mask.colored) refl
