use Rattle.std.proofs.Common.{◌∙◌, refl, ap}
use Rattle.pixel_format.specs.Written.{format_at}
use Rattle.pixel_format.proofs.Valid.{read_written, flag-byte}
use Rattle.pixel_format.proofs.format.PixelFormat.write.Goals as goal

pub returns-clause-bytes : goal.returns-clause-bytes
returns-clause-bytes c =
    rw (c.two_bytes.ensures.value, c.two_bytes-2.ensures.value, c.two_bytes-3.ensures.value, ← c.self.view_is, flag-byte c.self.inside.big_endian) refl

pub returns-clause-read : goal.returns-clause-read
returns-clause-read c =
    ap format_at (returns-clause-bytes c) ∙ read_written c.args.self.now (rw (← c.self.view_is) c.self.invariant)
