-- The limits of what a format records, and the sizes of a screen that lie within them.
use Rattle.std.specs.Prelude.{ℕ, ◌≤◌, ◌+◌, ◌*◌, ◌^◌, nat_le, Bool, ◌&&◌}
use Rattle.terms.specs.declared.format.Format.{Format}
use Rattle.terms.specs.declared.format.Format.TheVariants.{One, Two}
use Rattle.terms.specs.declared.format.Limits.{Limits}

-- Format 1: sides of 8,192 pixels, areas of 2^23, messages of 2^26 bytes, bodies of 2^27, 64 seats.
-- Format 2: sides of 16,384 pixels, areas of 2^25, messages of 2^28 bytes, bodies of 2^29, 256
-- seats.
abbrev pub limits : Format → Limits
limits One = record { side = 8192; area = 8388608; message = 67108864; body = 134217728; seats = 64 }
limits Two = record { side = 16384; area = 33554432; message = 268435456; body = 536870912; seats = 256 }

-- What limits have in common: a cut text that is recorded is within them, and so is a key screen of
-- 16 bytes and 4 for each pixel; a body has room for a key screen and a message, each with its
-- entry; and they are numbers of so many bits.
pub record AreLimits (most : Limits) : Type 0 where
  pub text : 65544 ≤ most.message
  pub key : 16 + 4 * most.area ≤ most.message
  pub body : (25 + 4 * most.area) + (9 + most.message) ≤ most.body
  pub longest : most.body ≤ 2 ^ 29
  pub most_seats : most.seats ≤ 256

-- at least one pixel, and no more than the limits allow
pub record IsSize (most : Limits) (width height : ℕ) : Type 0 where
  pub wide : 1 ≤ width
  pub not_wider : width ≤ most.side
  pub high : 1 ≤ height
  pub not_higher : height ≤ most.side
  pub area : width * height ≤ most.area

-- the same as a test, for those who read a size
abbrev pub is_size : Limits → ℕ → ℕ → Bool
is_size most width height = (nat_le 1 width && nat_le width most.side) && ((nat_le 1 height && nat_le height most.side) && nat_le (width * height) most.area)
