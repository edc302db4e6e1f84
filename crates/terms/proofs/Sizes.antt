-- What holds of the limits of each format, and of a size within them.
use Rattle.std.proofs.Common.{◌≡◌, ℕ, ◌≤◌, ◌*◌, true, refl, arith}
use Rattle.std.proofs.lemmas.Bool.{le-leb}
use Rattle.terms.specs.declared.format.Format.{Format}
use Rattle.terms.specs.declared.format.Format.TheVariants.{One, Two}
use Rattle.terms.specs.declared.format.Limits.{Limits}
use Rattle.terms.specs.Limits.{limits, AreLimits, IsSize, is_size}

pub are_limits : (format : Format) → AreLimits (limits format)
are_limits One = record { text = omega arith; key = omega arith; body = omega arith; longest = omega arith; most_seats = omega arith }
are_limits Two = record { text = omega arith; key = omega arith; body = omega arith; longest = omega arith; most_seats = omega arith }

pub size_is : (most : Limits) (w h : ℕ) → IsSize most w h → is_size most w h ≡ true
size_is most w h s =
    rw (
      le-leb 1 w (omega (arith, s.wide)),
      le-leb w most.side (omega (arith, s.not_wider)),
      le-leb 1 h (omega (arith, s.high)),
      le-leb h most.side (omega (arith, s.not_higher)),
      le-leb (w * h) most.area (omega (arith, s.area)),
    ) refl

-- What is within the limits of a format is within those of format 2.
pub message_in_two : (format : Format) → (limits format).message ≤ (limits Two).message
message_in_two One = omega arith
message_in_two Two = omega arith

pub body_in_two : (format : Format) → (limits format).body ≤ (limits Two).body
body_in_two One = omega arith
body_in_two Two = omega arith

pub size_in_two : (format : Format) (w h : ℕ) → IsSize (limits format) w h → IsSize (limits Two) w h
size_in_two One w h s = record {
  wide = s.wide;
  not_wider = omega (arith, s.not_wider);
  high = s.high;
  not_higher = omega (arith, s.not_higher);
  area = omega (arith, s.area);
}
size_in_two Two w h s = s
