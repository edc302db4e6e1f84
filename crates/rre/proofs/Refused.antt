-- What is refused has a subrectangle outside, and what is measured is data.
use Rattle.std.proofs.Common.{◌≡◌, ℕ, zero, suc, inl, inr, List, ◌∷◌, ◌++◌, length, drop, refl, ap, ◌∙◌, Err}
use Rattle.pixel_format.specs.Format.{Format}
use Rattle.pixel_format.specs.Pixel.{pixel_color}
use Rattle.terms.specs.Reading.{Got, Bad, ◌>>=◌, field, guard}
use Rattle.terms.proofs.Readings.{field_got, field_front}
use Rattle.terms.proofs.Refusals.{bind_bad, field_never_bad, got_never_bad, guard_got_bad}
use Rattle.terms.proofs.Measured.{measured_bad}
use Rattle.terms.proofs.Listed.{StopsIn, stops_here, stops_after}
use Rattle.terms.specs.Number.{u32_at}
use Rattle.rre.specs.declared.data.Subrectangle.{Subrectangle}
use Rattle.terms.specs.declared.measuring.NoLength.TheVariants as answers
use Rattle.rre.specs.Grammar.{Fault, Outside, head_bytes, subrectangle_bytes, subrectangle_of, is_inside, subrectangle_at, subrectangles_at, data_at}
use Rattle.rre.specs.Data.{LiesWithin, AreBytesOf, AreSubrectangles, IsRefused}
use Rattle.terms.specs.Measuring.{measured}
use Rattle.rre.proofs.Content.{bytes_of_field, inside_is, subrectangle_read, head_is}

-- ---- subrectangles

record Leaves (f : Format) (w h : ℕ) (bytes : List ℕ) : Type 0 where
  pub field : List ℕ
  pub more : List ℕ
  pub outside : Subrectangle
  pub bytes_are : bytes ≡ field ++ more
  pub is : AreBytesOf f outside field
  pub leaves : LiesWithin w h outside → ⊥

subrectangle_bad : (f : Format) (w h : ℕ) (bytes : List ℕ) → subrectangle_at f w h bytes ≡ Bad Outside → Leaves f w h bytes
unfolding subrectangle_at
subrectangle_bad f w h bytes e =
    elim (bind_bad (field (subrectangle_bytes f) bytes) (λ whole after. guard (is_inside w h (subrectangle_of f whole)) Outside (Got (subrectangle_of f whole) after)) Outside e) [
      | inl bad ↦ absurd (field_never_bad (subrectangle_bytes f) bytes Outside bad)
      | inr b ↦
          let k = field_front (subrectangle_bytes f) bytes b.value b.rest (field_got (subrectangle_bytes f) bytes b.value b.rest b.first) in
          let out = guard_got_bad (is_inside w h (subrectangle_of f b.value)) Outside (subrectangle_of f b.value) b.rest b.then in
          record {
            field = b.value;
            more = b.rest;
            outside = subrectangle_of f b.value;
            bytes_are = k.0;
            is = bytes_of_field f b.value k.1;
            leaves = λ within. let clash = inside_is w h (subrectangle_of f b.value) within in absurd (cc);
          }
    ]

subrectangles_bad : (f : Format) (w h count : ℕ) (bytes : List ℕ) → subrectangles_at f w h count bytes ≡ Bad Outside → StopsIn (AreSubrectangles f w h) (Leaves f w h) count bytes
unfolding subrectangles_at
subrectangles_bad f w h zero bytes e = absurd (got_never_bad _ _ _ e)
subrectangles_bad f w h (suc count) bytes e =
    elim (bind_bad (subrectangle_at f w h bytes) (λ first after. subrectangles_at f w h count after >>= λ others end. Got (first ∷ others) end) Outside e) [
      | inl bad ↦ stops_here (AreSubrectangles f w h) (Leaves f w h) count bytes refl (subrectangle_bad f w h bytes bad)
      | inr b ↦
          let r = subrectangle_read f w h bytes b.value b.rest b.first in
          elim (bind_bad (subrectangles_at f w h count b.rest) (λ others end. Got (b.value ∷ others) end) Outside b.then) [
            | inl bad ↦ stops_after (AreSubrectangles f w h) (Leaves f w h) b.value count bytes r.first b.rest r.bytes_are
                (subrectangles_bad f w h count b.rest bad) (λ others body are. (r.first, body, refl, r.is, r.within, are))
            | inr d ↦ absurd (got_never_bad _ _ _ d.then)
          ]
    ]

pub refused_read : (f : Format) (w h : ℕ) (bytes : List ℕ) → data_at f w h bytes ≡ Bad Outside → IsRefused f w h bytes
unfolding data_at
refused_read f w h bytes e =
    elim (bind_bad (field (head_bytes f) bytes) (λ head after. subrectangles_at f w h (u32_at head 0) after >>= λ ss end. Got (record { background = pixel_color f (drop 4 head); subrectangles = ss }) end) Outside e) [
      | inl bad ↦ absurd (field_never_bad (head_bytes f) bytes Outside bad)
      | inr b ↦
          let k = field_front (head_bytes f) bytes b.value b.rest (field_got (head_bytes f) bytes b.value b.rest b.first) in
          elim (bind_bad (subrectangles_at f w h (u32_at b.value 0) b.rest) (λ ss end. Got (record { background = pixel_color f (drop 4 b.value); subrectangles = ss }) end) Outside b.then) [
            | inl bad ↦
                let one = subrectangles_bad f w h (u32_at b.value 0) b.rest bad in
                record {
                  head = b.value;
                  pixel = drop 4 b.value;
                  count = u32_at b.value 0;
                  earlier = one.earlier;
                  body = one.body;
                  outside = one.stops.outside;
                  field = one.stops.field;
                  more = one.stops.more;
                  bytes_are = k.0 ∙ ap (λ z. b.value ++ z) (one.bytes_are ∙ ap (λ z. one.body ++ z) one.stops.bytes_are);
                  head_is = head_is f b.value k.1;
                  body_is = one.body_is;
                  one_of_them = one.one_of_them;
                  field_is = one.stops.is;
                  leaves = one.stops.leaves;
                }
            | inr d ↦ absurd (got_never_bad _ _ _ d.then)
          ]
    ]

-- ---- measuring

one_fault : (fault : Fault) → fault ≡ Outside
one_fault Outside = refl

pub measured_is_refused : (f : Format) (w h : ℕ) (bytes : List ℕ) → measured (length bytes) (data_at f w h bytes) ≡ Err answers.Bad → IsRefused f w h bytes
measured_is_refused f w h bytes e =
    let bad = measured_bad (length bytes) (data_at f w h bytes) e in
    refused_read f w h bytes (bad.1 ∙ ap (λ z. Bad z) (one_fault bad.0))
