-- What follows from a whole field.
use Rattle.std.proofs.Common.{◌≡◌, ℕ, suc, ◌+◌, ◌-◌, ◌*◌, ◌<◌, ◌≤◌, ◌⊎◌, inl, inr, mul-zero, zero-mul, Bool, true, false, List, [], ◌∷◌, ◌++◌, length, take, drop, Option, Some, refl, sym, ap, ◌∙◌, arith, append_assoc}
use Rattle.std.specs.Prelude.{slice_index, is_some}
use Rattle.std.proofs.lemmas.Bool.{le-ltb}
use Rattle.std.proofs.lemmas.List.{take-append-drop, take_at, take_rest, length-drop, length-append, append-nil}
use Rattle.pixel_format.specs.Format.{Format, pixel_bytes}
use Rattle.terms.specs.Reading.{Reading, Got, More, Bad, ◌>>=◌, field, guard}
use Rattle.terms.proofs.Readings.{field-whole, field-short}
use Rattle.hextile.specs.declared.fields.Mask.{Mask}
use Rattle.hextile.specs.declared.fields.Named.{Named}
use Rattle.hextile.specs.declared.fields.Subrectangle.{Subrectangle}
use Rattle.hextile.specs.declared.position.Position.{Position}
use Rattle.hextile.specs.declared.position.TileHead.{TileHead}
use Rattle.hextile.specs.declared.measuring.Measuring.{Measuring}
use Rattle.hextile.specs.declared.measuring.Measuring.TheVariants as stages
use Rattle.hextile.specs.Tiles.{tiles_across, tile_count}
use Rattle.hextile.specs.Grammar.{Tile, Raw, Parts, Fault, Refused, mask_of, is_allowed, pixel_if, color_if, head_bytes, subrectangle_bytes, background_in, foreground_in, count_in, subrectangle_of, is_inside, subrectangle_at, subrectangles_at, raw_at, parts_at, body_at, tile_at, named_with, tiles_at, colors_of, data_at}
use Rattle.hextile.specs.Measuring.{named_by, width_of, height_of, wants_of, following, body_left, parts_left, resume, go_on}
use Rattle.terms.specs.Measuring.{judged}

-- ---- readings

-- what is made of values plays no part in how their bytes are judged
judged_of : {A B : Type 0} (g : A → B) (r : Reading A Fault) → judged (r >>= λ x after. Got (g x) after) ≡ judged r
judged_of g (Got x rest) = refl
judged_of g More = refl
judged_of g (Bad fault) = refl

judged_both : {A B C : Type 0} (g : A → B → C) (r : Reading A Fault) (s : A → List ℕ → Reading B Fault)
    → judged (r >>= λ x rest. s x rest >>= λ y after. Got (g x y) after) ≡ (r >>= λ x rest. judged (s x rest))
judged_both g (Got x rest) s = judged_of (g x) (s x rest)
judged_both g More s = refl
judged_both g (Bad fault) s = refl

-- what is read next, of what was made of a value
made : {A B C : Type 0} (g : A → B) (r : Reading A Fault) (k : B → List ℕ → Reading C Fault)
    → ((r >>= λ x rest. Got (g x) rest) >>= k) ≡ (r >>= λ x rest. k (g x) rest)
made g (Got x rest) k = refl
made g More k = refl
made g (Bad fault) k = refl

made_both : {A B C D : Type 0} (g : A → B → C) (r : Reading A Fault) (s : A → List ℕ → Reading B Fault) (k : C → List ℕ → Reading D Fault)
    → ((r >>= λ x rest. s x rest >>= λ y after. Got (g x y) after) >>= k) ≡ (r >>= λ x rest. s x rest >>= λ y after. k (g x y) after)
made_both g (Got x rest) s k = made (g x) (s x rest) k
made_both g More s k = refl
made_both g (Bad fault) s k = refl

same_next : {A B : Type 0} (r : Reading A Fault) (k j : A → List ℕ → Reading B Fault) → ((x : A) (rest : List ℕ) → k x rest ≡ j x rest)
    → (r >>= k) ≡ (r >>= j)
same_next (Got x rest) k j same = same x rest
same_next More k j same = refl
same_next (Bad fault) k j same = refl

-- ---- masks

is_there : (f : Format) (there : Bool) (bytes : List ℕ) → is_some (color_if f there bytes) ≡ there
is_there f true bytes = refl
is_there f false bytes = refl

pub named_in : (f : Format) (named : Named) (m : Mask) (head : List ℕ) (parts : List Subrectangle)
    → named_with named (Parts (background_in f m head) (foreground_in f m head) parts) ≡ named_by named m
unfolding background_in foreground_in
named_in f named m head parts =
    let first = is_there f m.background head in
    let second = is_there f m.foreground (drop (pixel_if f m.background) head) in
    rw (first, second) refl

pub mask_whole : (f : Format) (tile : Position) (byte : List ℕ) (more : List ℕ) → length byte ≡ 1
    → is_allowed tile.named (slice_index byte 0) (mask_of (slice_index byte 0)) ≡ true
    → resume f (stages.Mask tile) (byte ++ more) ≡ body_left f tile (mask_of (slice_index byte 0)) more
unfolding resume tiles_at tile_at body_left
mask_whole f tile byte more whole allowed =
    rw (field-whole {E = Fault} 1 byte more whole, allowed)
    (judged_both (λ (t : Tile) (others : List Tile). t ∷ others)
    (body_at f (mask_of (slice_index byte 0)) (width_of tile) (height_of tile) more)
    (λ t rest. tiles_at f tile.w tile.h (named_with tile.named t) tile.more rest))

pub mask_refused : (f : Format) (tile : Position) (byte : List ℕ) (more : List ℕ) → length byte ≡ 1
    → is_allowed tile.named (slice_index byte 0) (mask_of (slice_index byte 0)) ≡ false
    → resume f (stages.Mask tile) (byte ++ more) ≡ Bad Refused
unfolding resume tiles_at tile_at
mask_refused f tile byte more whole forbidden = rw (field-whole {E = Fault} 1 byte more whole, forbidden) refl

-- ---- after a mask

pub raw_left : (f : Format) (tile : Position) (m : Mask) (more : List ℕ) → m.raw ≡ true → body_left f tile m more ≡ resume f (stages.Pixels tile) more
unfolding body_left body_at raw_at resume following
raw_left f tile m more raw =
    rw raw (made (λ pixels. Raw (colors_of f (width_of tile * height_of tile) pixels)) (field (width_of tile * height_of tile * pixel_bytes f) more)
    (λ t rest. judged (tiles_at f tile.w tile.h (named_with tile.named t) tile.more rest)))

pub head_left : (f : Format) (tile after_it : Position) (m : Mask) (more : List ℕ) → m.raw ≡ false → after_it ≡ record tile { named = named_by tile.named m }
    → body_left f tile m more ≡ (field (head_bytes f m) more >>= λ head rest. parts_left f after_it m.colored (count_in f m head) rest)
unfolding body_left body_at parts_at parts_left following count_in background_in foreground_in
head_left f tile after_it m more raw is =
    rw (raw, is)
    (made_both (λ head parts. Parts (background_in f m head) (foreground_in f m head) parts) (field (head_bytes f m) more)
    (λ head rest. subrectangles_at f m.colored (width_of tile) (height_of tile) (count_in f m head) rest)
    (λ t rest. judged (tiles_at f tile.w tile.h (named_with tile.named t) tile.more rest))
    ∙ same_next (field (head_bytes f m) more) _ _ (λ head rest.
    same_next (subrectangles_at f m.colored (width_of tile) (height_of tile) (count_in f m head) rest) _ _ (λ parts after.
    ap (λ (n : Named). judged (tiles_at f tile.w tile.h n tile.more after)) (named_in f tile.named m head parts))))

-- no fields after the mask
pub none_left : (f : Format) (tile : Position) (more : List ℕ) (colored : Bool) → parts_left f tile colored 0 more ≡ following f tile more
unfolding parts_left subrectangles_at
none_left f tile more colored = refl

pub nothing_left : (f : Format) (tile after_it : Position) (m : Mask) (more : List ℕ) → m.raw ≡ false → after_it ≡ record tile { named = named_by tile.named m }
    → m.background ≡ false → m.foreground ≡ false → m.subrectangles ≡ false → body_left f tile m more ≡ following f after_it more
unfolding count_in field
nothing_left f tile after_it m more raw is background foreground subrectangles =
    head_left f tile after_it m more raw is
    ∙ rw (background, foreground, subrectangles, le-ltb (length more) 0 (omega arith)) (none_left f after_it more m.colored)

-- ---- whole fields

pub pixels_whole : (f : Format) (tile : Position) (pixels more : List ℕ) → length pixels ≡ width_of tile * height_of tile * pixel_bytes f
    → resume f (stages.Pixels tile) (pixels ++ more) ≡ following f tile more
unfolding resume
pixels_whole f tile pixels more whole = rw (field-whole {E = Fault} (width_of tile * height_of tile * pixel_bytes f) pixels more whole) refl

-- a whole field of a subrectangle
pub subrectangle_whole : (f : Format) (colored : Bool) (w h : ℕ) (bytes more : List ℕ) → length bytes ≡ subrectangle_bytes f colored
    → subrectangle_at f colored w h (bytes ++ more) ≡ guard (is_inside w h (subrectangle_of f colored bytes)) Refused (Got (subrectangle_of f colored bytes) more)
unfolding subrectangle_at
subrectangle_whole f colored w h bytes more whole = rw (field-whole {E = Fault} (subrectangle_bytes f colored) bytes more whole) refl

pub part_inside : (f : Format) (tile : Position) (colored : Bool) (others : ℕ) (bytes more : List ℕ) → length bytes ≡ subrectangle_bytes f colored
    → is_inside (width_of tile) (height_of tile) (subrectangle_of f colored bytes) ≡ true
    → parts_left f tile colored (suc others) (bytes ++ more) ≡ parts_left f tile colored others more
unfolding parts_left subrectangles_at
part_inside f tile colored others bytes more whole inside =
    rw (subrectangle_whole f colored (width_of tile) (height_of tile) bytes more whole, inside)
    (made (λ (ss : List Subrectangle). subrectangle_of f colored bytes ∷ ss) (subrectangles_at f colored (width_of tile) (height_of tile) others more)
    (λ parts rest. following f tile rest))

pub part_outside : (f : Format) (tile : Position) (colored : Bool) (others : ℕ) (bytes more : List ℕ) → length bytes ≡ subrectangle_bytes f colored
    → is_inside (width_of tile) (height_of tile) (subrectangle_of f colored bytes) ≡ false
    → parts_left f tile colored (suc others) (bytes ++ more) ≡ Bad Refused
unfolding parts_left subrectangles_at
part_outside f tile colored others bytes more whole outside =
    rw (subrectangle_whole f colored (width_of tile) (height_of tile) bytes more whole, outside) refl

-- ---- fields that aren't whole

pub field_waits : (f : Format) (stage : Measuring) (bytes : List ℕ) → length bytes < wants_of f stage → resume f stage bytes ≡ More
unfolding resume tiles_at tile_at parts_left subrectangles_at subrectangle_at
field_waits f (stages.Mask tile) bytes short = rw (field-short {E = Fault} 1 bytes short) refl
field_waits f (stages.Pixels tile) bytes short = rw (field-short {E = Fault} (width_of tile * height_of tile * pixel_bytes f) bytes short) refl
field_waits f (stages.Head head) bytes short = rw (field-short {E = Fault} (head_bytes f head.mask) bytes short) refl
field_waits f (stages.Subrectangle tile colored others) bytes short = rw (field-short {E = Fault} (subrectangle_bytes f colored) bytes short) refl

-- ---- beginning and end

-- a rectangle of no area has no data
pub no_data : (f : Format) (w h : ℕ) (more : List ℕ) → tile_count w h ≡ 0 → judged (data_at f w h more) ≡ Got tt more
unfolding data_at tiles_at
no_data f w h more none = rw none refl

pub no_pixels : (w h : ℕ) → (w ≡ 0) ⊎ (h ≡ 0) → tile_count w h ≡ 0
unfolding tiles_across
no_pixels w h (inl none) = rw none (mul-zero _)
no_pixels w h (inr none) = rw none (zero-mul _)

pub head_whole : (f : Format) (head : TileHead) (first more : List ℕ) → length first ≡ head_bytes f head.mask
    → resume f (stages.Head head) (first ++ more) ≡ parts_left f head.tile head.mask.colored (count_in f head.mask first) more
unfolding resume
head_whole f head first more whole = rw (field-whole {E = Fault} (head_bytes f head.mask) first more whole) refl

-- ---- fields one after the other

-- bytes that are split in two
pub parts_of : (n : ℕ) (bytes front following : List ℕ) → front ≡ take n bytes → following ≡ drop n bytes → bytes ≡ front ++ following
parts_of n bytes front following e d = rw (e, d) (sym (take-append-drop n bytes))

pub front_of : (bytes front rest : List ℕ) → bytes ≡ front ++ rest → take (length bytes - length rest) bytes ≡ front
front_of bytes front rest is =
    let size : length front ≡ length bytes - length rest = omega (arith, ap length is, length-append front rest) in
    ap (take (length bytes - length rest)) is ∙ take_at front rest (length bytes - length rest) size

-- the first of the subrectangles that are left, and bytes in front of it that are judged
pub parts_inside : (f : Format) (tile : Position) (colored : Bool) (count left : ℕ) (front part : List ℕ)
    → ((more : List ℕ) → parts_left f tile colored count (front ++ more) ≡ parts_left f tile colored left more)
    → 0 < left → length part ≡ subrectangle_bytes f colored → is_inside (width_of tile) (height_of tile) (subrectangle_of f colored part) ≡ true
    → (more : List ℕ) → parts_left f tile colored count ((front ++ part) ++ more) ≡ parts_left f tile colored (left - 1) more
parts_inside f tile colored count left front part same some whole inside more =
    let is : left ≡ suc (left - 1) = omega arith in
    ap (parts_left f tile colored count) (append_assoc front part more)
    ∙ same (part ++ more)
    ∙ ap (λ n. parts_left f tile colored n (part ++ more)) is
    ∙ part_inside f tile colored (left - 1) part more whole inside

pub parts_outside : (f : Format) (tile : Position) (colored : Bool) (count left : ℕ) (front part following bytes : List ℕ)
    → ((more : List ℕ) → parts_left f tile colored count (front ++ more) ≡ parts_left f tile colored left more)
    → bytes ≡ front ++ (part ++ following)
    → 0 < left → length part ≡ subrectangle_bytes f colored → is_inside (width_of tile) (height_of tile) (subrectangle_of f colored part) ≡ false
    → (more : List ℕ) → parts_left f tile colored count (bytes ++ more) ≡ Bad Refused
parts_outside f tile colored count left front part following bytes same is some whole outside more =
    let next : left ≡ suc (left - 1) = omega arith in
    ap (λ z. parts_left f tile colored count (z ++ more)) is
    ∙ ap (parts_left f tile colored count) (append_assoc front (part ++ following) more)
    ∙ same ((part ++ following) ++ more)
    ∙ ap (parts_left f tile colored left) (append_assoc part following more)
    ∙ ap (λ n. parts_left f tile colored n (part ++ (following ++ more))) next
    ∙ part_outside f tile colored (left - 1) part (following ++ more) whole outside

-- the fields after those that are judged
pub run_more : (f : Format) (first stage : Measuring) (next following : Option Measuring) (front rest : List ℕ) (n : ℕ) → next ≡ Some stage
    → ((more : List ℕ) → resume f first (front ++ more) ≡ go_on f next more)
    → ((more : List ℕ) → resume f stage (take n rest ++ more) ≡ go_on f following more)
    → (more : List ℕ) → resume f first ((front ++ take n rest) ++ more) ≡ go_on f following more
unfolding go_on
run_more f first stage next following front rest n is same goes more =
    ap (resume f first) (append_assoc front (take n rest) more)
    ∙ same (take n rest ++ more) ∙ ap (λ s. go_on f s (take n rest ++ more)) is ∙ goes more

-- one field, named twice
pub same_wants : (f : Format) (first stage : Measuring) (next : Option Measuring) → next ≡ Some stage → next ≡ Some first → wants_of f stage ≡ wants_of f first
same_wants f first stage next a b =
    let is : stage ≡ first = cc in
    ap (wants_of f) is

pub run_refused : (f : Format) (first stage : Measuring) (next : Option Measuring) (front rest bytes : List ℕ) → next ≡ Some stage → bytes ≡ front ++ rest
    → ((more : List ℕ) → resume f first (front ++ more) ≡ go_on f next more)
    → ((more : List ℕ) → resume f stage (rest ++ more) ≡ Bad Refused)
    → (more : List ℕ) → resume f first (bytes ++ more) ≡ Bad Refused
unfolding go_on
run_refused f first stage next front rest bytes is all same refused more =
    ap (λ z. resume f first (z ++ more)) all ∙ ap (resume f first) (append_assoc front rest more)
    ∙ same (rest ++ more) ∙ ap (λ s. go_on f s (rest ++ more)) is ∙ refused more

-- the bytes that are left, and those in front of them
pub run_parts : (n : ℕ) (bytes front rest : List ℕ) → bytes ≡ front ++ rest → bytes ≡ (front ++ take n rest) ++ take (length rest - n) (drop n rest)
run_parts n bytes front rest is =
    is ∙ ap (λ z. front ++ z) (sym (take-append-drop n rest)) ∙ sym (append_assoc front (take n rest) (drop n rest))
    ∙ ap (λ z. (front ++ take n rest) ++ z) (sym (take_rest rest n))

-- ---- all the fields of bytes

-- what is judged of the bytes' front is judged of the bytes
pub all_is : (f : Format) (w h n : ℕ) (bytes : List ℕ) (first : Measuring) (next : Option Measuring)
    → ((more : List ℕ) → resume f first more ≡ judged (data_at f w h more))
    → ((more : List ℕ) → resume f first (take n bytes ++ more) ≡ go_on f next more)
    → judged (data_at f w h bytes) ≡ go_on f next (drop n bytes)
all_is f w h n bytes first next starts goes =
    sym (starts bytes) ∙ ap (resume f first) (sym (take-append-drop n bytes)) ∙ goes (drop n bytes)

pub all_waits : (f : Format) (w h n : ℕ) (bytes : List ℕ) (first next : Measuring) → n ≤ length bytes → length bytes < n + wants_of f next
    → ((more : List ℕ) → resume f first more ≡ judged (data_at f w h more))
    → ((more : List ℕ) → resume f first (take n bytes ++ more) ≡ go_on f (Some next) more)
    → judged (data_at f w h bytes) ≡ More
unfolding go_on
all_waits f w h n bytes first next within few starts goes =
    let short : length (drop n bytes) < wants_of f next = rw (length-drop n bytes) (omega (arith, few, within)) in
    all_is f w h n bytes first (Some next) starts goes ∙ field_waits f next (drop n bytes) short

pub all_refused : (f : Format) (w h : ℕ) (bytes : List ℕ) (first : Measuring)
    → ((more : List ℕ) → resume f first more ≡ judged (data_at f w h more))
    → ((more : List ℕ) → resume f first (bytes ++ more) ≡ Bad Refused)
    → judged (data_at f w h bytes) ≡ Bad Refused
all_refused f w h bytes first starts refused = sym (starts bytes) ∙ ap (resume f first) (sym (append-nil bytes)) ∙ refused []
