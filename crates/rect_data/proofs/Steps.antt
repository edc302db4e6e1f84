-- What follows from a whole field of a rectangle's data.
use Rattle.std.proofs.Common.{◌≡◌, ℕ, ◌+◌, ◌*◌, ◌<◌, ◌≤◌, Bool, true, false, List, ◌++◌, length, take, drop, refl, sym, ap, ◌∙◌, arith}
use Rattle.std.specs.Prelude.{◌||◌, if◌then◌else◌}
use Rattle.std.proofs.Math.Nat.{mul-le-mul}
use Rattle.std.proofs.lemmas.List.{length-take, take-append-drop}
use Rattle.hextile.specs.Tiles.{tile_count}
use Rattle.hextile.proofs.Tiling.{some_tiles, some_width, some_height}
use Rattle.hextile.specs.declared.measuring.Measuring.TheVariants as hextile_stages
use Rattle.rre.specs.declared.measuring.Measuring.TheVariants as rre_stages
use Rattle.rre.specs.declared.measuring.Measuring.{Measuring as RreMeasuring}
use Rattle.hextile.specs.declared.measuring.Measuring.{Measuring as HextileMeasuring}
use Rattle.pixel_format.specs.Format.{Format, pixel_bytes}
use Rattle.terms.specs.Reading.{Reading, Got, More, Bad}
use Rattle.terms.specs.Measuring as measuring
use Rattle.terms.specs.Measuring.{judged}
use Rattle.terms.proofs.Readings.{field-whole, field-short}
use Rattle.terms.specs.declared.area.Area.{Area}
use Rattle.terms.specs.declared.wire_fault.WireFault.{WireFault}
use Rattle.terms.specs.declared.wire_fault.WireFault.TheVariants as faults
use Rattle.rre.specs.Measuring as rre_measuring
use Rattle.rre.proofs.Steps as rre_steps
use Rattle.hextile.specs.Measuring as hextile_measuring
use Rattle.hextile.proofs.Steps as hextile_steps
use Rattle.rect_data.specs.declared.judging.Judging.{Judging}
use Rattle.rect_data.specs.declared.judging.Judging.TheVariants as stages
use Rattle.rect_data.specs.Grammar.{is_inside, source_of, raw_at, copy_at, judged_as, measured, length_as}
use Rattle.rect_data.specs.Judging.{wants_of, resume}

pub pixels_whole : (f : Format) (area : Area) (pixels more : List ℕ) → length pixels ≡ pixel_bytes f * (area.w * area.h) → raw_at f area (pixels ++ more) ≡ Got tt more
unfolding raw_at
pixels_whole f area pixels more whole = rw (field-whole {E = WireFault} (pixel_bytes f * (area.w * area.h)) pixels more whole) refl

pub source_inside : (width height : ℕ) (area : Area) (source more : List ℕ) → length source ≡ 4 → is_inside width height (source_of area source) ≡ true
    → copy_at width height area (source ++ more) ≡ Got tt more
unfolding copy_at
source_inside width height area source more whole inside = rw (field-whole {E = WireFault} 4 source more whole, inside) refl

pub source_outside : (width height : ℕ) (area : Area) (source more : List ℕ) → length source ≡ 4 → is_inside width height (source_of area source) ≡ false
    → copy_at width height area (source ++ more) ≡ Bad faults.SourceOutside
unfolding copy_at
source_outside width height area source more whole outside = rw (field-whole {E = WireFault} 4 source more whole, outside) refl

-- whether data are whole is the same whatever they say
pub judged_again : {A E : Type 0} (fault : WireFault) (r : Reading A E) → judged_as fault (judged r) ≡ judged_as fault r
judged_again fault (Got content rest) = refl
judged_again fault More = refl
judged_again fault (Bad e) = refl

-- and so is the length of what is whole
pub length_judged : {A E : Type 0} (fault : WireFault) (size : ℕ) (r : Reading A E) → length_as fault (measuring.measured size r) ≡ measured size (judged_as fault r)
length_judged fault size (Got content rest) = refl
length_judged fault size More = refl
length_judged fault size (Bad e) = refl

-- a field that isn't whole
pub field_waits : (f : Format) (width height : ℕ) (stage : Judging) (bytes : List ℕ) → length bytes < wants_of f stage → resume f width height stage bytes ≡ More
unfolding resume raw_at copy_at
field_waits f width height (stages.Pixels area) bytes short = rw (field-short {E = WireFault} (pixel_bytes f * (area.w * area.h)) bytes short) refl
field_waits f width height (stages.Source area) bytes short = rw (field-short {E = WireFault} 4 bytes short) refl
field_waits f width height (stages.Rre w h next) bytes short = ap (judged_as faults.BadRre) (rre_steps.field_waits f w h next bytes short)
field_waits f width height (stages.Hextile next) bytes short = ap (judged_as faults.BadHextile) (hextile_steps.field_waits f next bytes short)

-- ---- fields have bytes

product : (a b : ℕ) → 0 < a → 0 < b → 0 < a * b
product a b x y =
    let one : 1 ≤ a = omega (arith, x) in
    let other : 1 ≤ b = omega (arith, y) in
    let both : 1 * 1 ≤ a * b = mul-le-mul one other in
    omega (arith, both)

pub some_pixels : (f : Format) (area : Area) → (area.w ≡ 0 → ⊥) → (area.h ≡ 0 → ⊥) → 0 < pixel_bytes f → 0 < pixel_bytes f * (area.w * area.h)
some_pixels f area wide high some = product (pixel_bytes f) (area.w * area.h) some (product area.w area.h (omega (arith, wide)) (omega (arith, high)))

pub rre_some : (f : Format) (stage : RreMeasuring) → 0 < rre_measuring.wants_of f stage
rre_some f rre_stages.Head = omega arith
rre_some f (rre_stages.Subrectangle more) = omega arith

one_of_three : (n : ℕ) (a b c : Bool) → 0 < n → (a || b || c) ≡ true → 0 < (if a then n else 0) + (if b then n else 0) + (if c then 1 else 0)
one_of_three n true b c some is = omega (arith, some)
one_of_three n false true c some is = omega (arith, some)
one_of_three n false false true some is = omega arith
one_of_three n false false false some is = absurd (cc)

pub hextile_some : (f : Format) (stage : HextileMeasuring) → 0 < pixel_bytes f → 0 < hextile_measuring.wants_of f stage
hextile_some f (hextile_stages.Mask tile) some = omega arith
hextile_some f (hextile_stages.Pixels tile) some =
    let number = hextile_measuring.number_of tile in
    let tiles = some_tiles tile.w tile.h tile.across tile.down in
    let within : number < tile_count tile.w tile.h = omega (arith, tiles) in
    product (hextile_measuring.width_of tile * hextile_measuring.height_of tile) (pixel_bytes f)
    (product (hextile_measuring.width_of tile) (hextile_measuring.height_of tile) (some_width tile.w number tile.across) (some_height tile.w tile.h number tile.across within)) some
hextile_some f (hextile_stages.Head head) some =
    one_of_three (pixel_bytes f) head.mask.background head.mask.foreground head.mask.subrectangles some head.some
hextile_some f (hextile_stages.Subrectangle tile colored others) some = omega arith

-- ---- the front of all the bytes

pub raw_front : (f : Format) (area : Area) (bytes : List ℕ) → pixel_bytes f * (area.w * area.h) ≤ length bytes
    → raw_at f area bytes ≡ Got tt (drop (pixel_bytes f * (area.w * area.h)) bytes)
raw_front f area bytes whole =
    let n : ℕ = pixel_bytes f * (area.w * area.h) in
    let size : length (take n bytes) ≡ n = rw (length-take n bytes) (omega (arith, whole)) in
    ap (raw_at f area) (sym (take-append-drop n bytes)) ∙ pixels_whole f area (take n bytes) (drop n bytes) size

pub raw_short : (f : Format) (area : Area) (bytes : List ℕ) → length bytes < pixel_bytes f * (area.w * area.h) → raw_at f area bytes ≡ More
unfolding raw_at
raw_short f area bytes short = rw (field-short {E = WireFault} (pixel_bytes f * (area.w * area.h)) bytes short) refl

pub copy_short : (width height : ℕ) (area : Area) (bytes : List ℕ) → length bytes < 4 → copy_at width height area bytes ≡ More
unfolding copy_at
copy_short width height area bytes short = rw (field-short {E = WireFault} 4 bytes short) refl

source_size : (bytes : List ℕ) → 4 ≤ length bytes → length (take 4 bytes) ≡ 4
source_size bytes whole = rw (length-take 4 bytes) (omega (arith, whole))

pub copy_inside : (width height : ℕ) (area : Area) (bytes : List ℕ) → 4 ≤ length bytes → is_inside width height (source_of area (take 4 bytes)) ≡ true
    → copy_at width height area bytes ≡ Got tt (drop 4 bytes)
copy_inside width height area bytes whole inside =
    ap (copy_at width height area) (sym (take-append-drop 4 bytes)) ∙ source_inside width height area (take 4 bytes) (drop 4 bytes) (source_size bytes whole) inside

pub copy_outside : (width height : ℕ) (area : Area) (bytes : List ℕ) → 4 ≤ length bytes → is_inside width height (source_of area (take 4 bytes)) ≡ false
    → copy_at width height area bytes ≡ Bad faults.SourceOutside
copy_outside width height area bytes whole outside =
    ap (copy_at width height area) (sym (take-append-drop 4 bytes)) ∙ source_outside width height area (take 4 bytes) (drop 4 bytes) (source_size bytes whole) outside

-- bytes that are split in two
pub parts_of : (n : ℕ) (bytes front following : List ℕ) → front ≡ take n bytes → following ≡ drop n bytes → bytes ≡ front ++ following
parts_of n bytes front following e d = rw (e, d) (sym (take-append-drop n bytes))
