-- What follows from a whole field.
use Rattle.std.proofs.Common.{◌≡◌, ℕ, suc, ◌+◌, ◌-◌, ◌<◌, true, false, List, [], ◌∷◌, ◌++◌, ◌∙◌, length, take, drop, Option, Some, refl, sym, ap, arith, append_assoc}
use Rattle.std.proofs.Math.Seq.{take-append-add}
use Rattle.std.proofs.lemmas.List.{take-append-drop, length-drop, append-nil}
use Rattle.pixel_format.specs.Format.{Format}
use Rattle.pixel_format.specs.Pixel.{pixel_color}
use Rattle.terms.specs.Reading.{Reading, Got, More, Bad, ◌>>=◌, guard}
use Rattle.terms.proofs.Readings.{field-whole, field-short}
use Rattle.terms.specs.Number.{u32_at}
use Rattle.rre.specs.declared.data.Subrectangle.{Subrectangle}
use Rattle.rre.specs.declared.measuring.Measuring.{Measuring}
use Rattle.rre.specs.declared.measuring.Measuring.TheVariants as stages
use Rattle.rre.specs.Grammar.{Fault, Outside, head_bytes, subrectangle_bytes, subrectangle_of, is_inside, subrectangle_at, subrectangles_at, data_at}
use Rattle.rre.specs.Measuring.{wants_of, resume, go_on}
use Rattle.terms.specs.Measuring.{judged}

-- what is made of a value plays no part in how its bytes are judged
judged_of : {A B : Type 0} (g : A → B) (r : Reading A Fault) → judged (r >>= λ x after. Got (g x) after) ≡ judged r
judged_of g (Got x rest) = refl
judged_of g More = refl
judged_of g (Bad fault) = refl

pub none_left : (f : Format) (w h : ℕ) (more : List ℕ) → judged (subrectangles_at f w h 0 more) ≡ Got tt more
unfolding subrectangles_at
none_left f w h more = refl

pub head_whole : (f : Format) (w h : ℕ) (head more : List ℕ) → length head ≡ head_bytes f
    → resume f w h stages.Head (head ++ more) ≡ judged (subrectangles_at f w h (u32_at head 0) more)
unfolding resume data_at
head_whole f w h head more whole =
    rw (field-whole {E = Fault} (head_bytes f) head more whole)
    (judged_of (λ (ss : List Subrectangle). record { background = pixel_color f (drop 4 head); subrectangles = ss }) (subrectangles_at f w h (u32_at head 0) more))

-- a whole field of a subrectangle
pub subrectangle_whole : (f : Format) (w h : ℕ) (bytes more : List ℕ) → length bytes ≡ subrectangle_bytes f
    → subrectangle_at f w h (bytes ++ more) ≡ guard (is_inside w h (subrectangle_of f bytes)) Outside (Got (subrectangle_of f bytes) more)
unfolding subrectangle_at
subrectangle_whole f w h bytes more whole = rw (field-whole {E = Fault} (subrectangle_bytes f) bytes more whole) refl

pub part_inside : (f : Format) (w h others : ℕ) (bytes more : List ℕ) → length bytes ≡ subrectangle_bytes f → is_inside w h (subrectangle_of f bytes) ≡ true
    → resume f w h (stages.Subrectangle others) (bytes ++ more) ≡ judged (subrectangles_at f w h others more)
unfolding resume subrectangles_at
part_inside f w h others bytes more whole inside =
    rw (subrectangle_whole f w h bytes more whole, inside)
    (judged_of (λ (ss : List Subrectangle). subrectangle_of f bytes ∷ ss) (subrectangles_at f w h others more))

pub part_outside : (f : Format) (w h others : ℕ) (bytes more : List ℕ) → length bytes ≡ subrectangle_bytes f → is_inside w h (subrectangle_of f bytes) ≡ false
    → resume f w h (stages.Subrectangle others) (bytes ++ more) ≡ Bad Outside
unfolding resume subrectangles_at
part_outside f w h others bytes more whole outside = rw (subrectangle_whole f w h bytes more whole, outside) refl

-- a field that isn't whole
pub field_waits : (f : Format) (w h : ℕ) (stage : Measuring) (bytes : List ℕ) → length bytes < wants_of f stage → resume f w h stage bytes ≡ More
unfolding resume data_at subrectangles_at subrectangle_at
field_waits f w h stages.Head bytes short = rw (field-short {E = Fault} (head_bytes f) bytes short) refl
field_waits f w h (stages.Subrectangle others) bytes short = rw (field-short {E = Fault} (subrectangle_bytes f) bytes short) refl

-- the first of the subrectangles that are left, and bytes in front of it that are judged
pub parts_inside : (f : Format) (w h count left : ℕ) (front part : List ℕ)
    → ((more : List ℕ) → judged (subrectangles_at f w h count (front ++ more)) ≡ judged (subrectangles_at f w h left more))
    → 0 < left → length part ≡ subrectangle_bytes f → is_inside w h (subrectangle_of f part) ≡ true
    → (more : List ℕ) → judged (subrectangles_at f w h count ((front ++ part) ++ more)) ≡ judged (subrectangles_at f w h (left - 1) more)
unfolding resume
parts_inside f w h count left front part same some whole inside more =
    let is : left ≡ suc (left - 1) = omega arith in
    ap (λ z. judged (subrectangles_at f w h count z)) (append_assoc front part more)
    ∙ same (part ++ more)
    ∙ ap (λ n. judged (subrectangles_at f w h n (part ++ more))) is
    ∙ part_inside f w h (left - 1) part more whole inside

pub parts_outside : (f : Format) (w h count left : ℕ) (front part following bytes : List ℕ)
    → ((more : List ℕ) → judged (subrectangles_at f w h count (front ++ more)) ≡ judged (subrectangles_at f w h left more))
    → bytes ≡ front ++ (part ++ following)
    → 0 < left → length part ≡ subrectangle_bytes f → is_inside w h (subrectangle_of f part) ≡ false
    → (more : List ℕ) → judged (subrectangles_at f w h count (bytes ++ more)) ≡ Bad Outside
unfolding resume
parts_outside f w h count left front part following bytes same is some whole outside more =
    let next : left ≡ suc (left - 1) = omega arith in
    ap (λ z. judged (subrectangles_at f w h count (z ++ more))) is
    ∙ ap (λ z. judged (subrectangles_at f w h count z)) (append_assoc front (part ++ following) more)
    ∙ same ((part ++ following) ++ more)
    ∙ ap (λ z. judged (subrectangles_at f w h left z)) (append_assoc part following more)
    ∙ ap (λ n. judged (subrectangles_at f w h n (part ++ (following ++ more)))) next
    ∙ part_outside f w h (left - 1) part (following ++ more) whole outside

-- bytes that are split in two
pub parts_of : (n : ℕ) (bytes front following : List ℕ) → front ≡ take n bytes → following ≡ drop n bytes → bytes ≡ front ++ following
parts_of n bytes front following e d = rw (e, d) (sym (take-append-drop n bytes))

pub taken_after : (bytes front following : List ℕ) (size taken : ℕ) → bytes ≡ front ++ following → length front ≡ size → take (size + taken) bytes ≡ front ++ take taken following
taken_after bytes front following size taken is whole = rw (is, ← whole) (take-append-add front following taken)

-- ---- all the fields of bytes

wants_some : (f : Format) (stage : Measuring) → 0 < wants_of f stage
wants_some f stages.Head = omega arith
wants_some f (stages.Subrectangle more) = omega arith

-- what is judged of the bytes' front is judged of the bytes
pub all_is : (f : Format) (w h n : ℕ) (bytes : List ℕ) (next : Option Measuring)
    → ((more : List ℕ) → resume f w h stages.Head (take n bytes ++ more) ≡ go_on f w h next more)
    → judged (data_at f w h bytes) ≡ go_on f w h next (drop n bytes)
unfolding resume
all_is f w h n bytes next goes = ap (λ z. judged (data_at f w h z)) (sym (take-append-drop n bytes)) ∙ goes (drop n bytes)

pub all_waits : (f : Format) (w h n : ℕ) (bytes : List ℕ) (next : Measuring) → length bytes < n + wants_of f next
    → ((more : List ℕ) → resume f w h stages.Head (take n bytes ++ more) ≡ go_on f w h (Some next) more)
    → judged (data_at f w h bytes) ≡ More
unfolding go_on
all_waits f w h n bytes next few goes =
    let short : length (drop n bytes) < wants_of f next = rw (length-drop n bytes) (omega (arith, few, wants_some f next)) in
    all_is f w h n bytes (Some next) goes ∙ field_waits f w h next (drop n bytes) short

pub all_refused : (f : Format) (w h : ℕ) (bytes : List ℕ) → ((more : List ℕ) → resume f w h stages.Head (bytes ++ more) ≡ Bad Outside)
    → judged (data_at f w h bytes) ≡ Bad Outside
unfolding resume
all_refused f w h bytes refused = ap (λ z. judged (data_at f w h z)) (sym (append-nil bytes)) ∙ refused []
