-- What is refused has a mask that may not stand there or a subrectangle outside its tile, and what
-- is measured is data.
use Rattle.std.proofs.Common.{◌≡◌, ℕ, zero, suc, ◌+◌, ◌-◌, ◌*◌, ◌<◌, ◌⊎◌, inl, inr, Bool, true, false, List, [], ◌∷◌, ◌++◌, length, refl, sym, ap, ◌∙◌, subst, arith, append_assoc, cond, Err}
use Rattle.std.specs.Prelude.{slice_index}
use Rattle.pixel_format.specs.Format.{Format, pixel_bytes}
use Rattle.terms.specs.Reading.{Got, Bad, ◌>>=◌, field, guard}
use Rattle.terms.proofs.Readings.{field_got, field-whole, true_or_false, field_front, one_number}
use Rattle.terms.proofs.Refusals.{bind_bad, field_never_bad, got_never_bad, guard_bad}
use Rattle.terms.proofs.Measured.{measured_bad}
use Rattle.terms.proofs.Listed.{StopsIn, stops_here, stops_after}
use Rattle.hextile.specs.declared.fields.Subrectangle.{Subrectangle}
use Rattle.hextile.specs.declared.fields.Named.{Named}
use Rattle.terms.specs.declared.measuring.NoLength.TheVariants as answers
use Rattle.hextile.specs.Tiles.{tile_count, tile_width, tile_height}
use Rattle.hextile.specs.Grammar.{Tile, Raw, Parts, Fault, Refused, mask_of, is_allowed, colors_of, head_bytes, background_in, foreground_in, count_in, subrectangle_bytes, subrectangle_of, is_inside, subrectangle_at, subrectangles_at, raw_at, parts_at, body_at, tile_at, named_with, tiles_at, data_at}
use Rattle.hextile.specs.Data.{IsAllowed, LiesWithin, AreBytesOf, AreSubrectangles, AreTiles, onto, HasForbidden, HasOutside, IsRefused}
use Rattle.terms.specs.Measuring.{measured}
use Rattle.hextile.proofs.FieldsRead.{head_is, head_again, bytes_of_field, inside_is, names_of, names_more, allowed_is, allowed_again, forbidden_again, refused_is_not_raw}
use Rattle.hextile.proofs.TilesRead.{subrectangle_read, subrectangles_refused, mask_first, tile_read, tile_again}

-- ---- subrectangles

record Leaves (f : Format) (colored : Bool) (w h : ℕ) (bytes : List ℕ) : Type 0 where
  pub field : List ℕ
  pub more : List ℕ
  pub outside : Subrectangle
  pub bytes_are : bytes ≡ field ++ more
  pub is : AreBytesOf f colored outside field
  pub leaves : LiesWithin w h outside → ⊥

subrectangle_bad : (f : Format) (colored : Bool) (w h : ℕ) (bytes : List ℕ) → subrectangle_at f colored w h bytes ≡ Bad Refused → Leaves f colored w h bytes
unfolding subrectangle_at
subrectangle_bad f colored w h bytes e =
    elim (bind_bad (field (subrectangle_bytes f colored) bytes) (λ whole after. guard (is_inside w h (subrectangle_of f colored whole)) Refused (Got (subrectangle_of f colored whole) after)) Refused e) [
      | inl bad ↦ absurd (field_never_bad (subrectangle_bytes f colored) bytes Refused bad)
      | inr b ↦
          let k = field_front (subrectangle_bytes f colored) bytes b.value b.rest (field_got (subrectangle_bytes f colored) bytes b.value b.rest b.first) in
          let s = subrectangle_of f colored b.value in
          elim (guard_bad (is_inside w h s) Refused (Got s b.rest) b.then) [
            | inl out ↦ record {
              field = b.value;
              more = b.rest;
              outside = s;
              bytes_are = k.0;
              is = bytes_of_field f colored b.value k.1;
              leaves = λ within. let clash = inside_is w h s within in absurd (cc);
            }
            | inr got ↦ absurd (got_never_bad _ _ _ got.1)
          ]
    ]

subrectangles_bad : (f : Format) (colored : Bool) (w h count : ℕ) (bytes : List ℕ) → subrectangles_at f colored w h count bytes ≡ Bad Refused
    → StopsIn (AreSubrectangles f colored w h) (Leaves f colored w h) count bytes
unfolding subrectangles_at
subrectangles_bad f colored w h zero bytes e = absurd (got_never_bad _ _ _ e)
subrectangles_bad f colored w h (suc count) bytes e =
    elim (bind_bad (subrectangle_at f colored w h bytes) (λ first after. subrectangles_at f colored w h count after >>= λ others end. Got (first ∷ others) end) Refused e) [
      | inl bad ↦ stops_here (AreSubrectangles f colored w h) (Leaves f colored w h) count bytes refl (subrectangle_bad f colored w h bytes bad)
      | inr b ↦
          let r = subrectangle_read f colored w h bytes b.value b.rest b.first in
          elim (bind_bad (subrectangles_at f colored w h count b.rest) (λ others end. Got (b.value ∷ others) end) Refused b.then) [
            | inl bad ↦ stops_after (AreSubrectangles f colored w h) (Leaves f colored w h) b.value count bytes r.first b.rest r.bytes_are
                (subrectangles_bad f colored w h count b.rest bad) (λ others body are. (r.first, body, refl, r.is, r.within, are))
            | inr d ↦ absurd (got_never_bad _ _ _ d.then)
          ]
    ]

-- ---- a tile

raw_never_bad : (f : Format) (w h : ℕ) (bytes : List ℕ) → raw_at f w h bytes ≡ Bad Refused → ⊥
unfolding raw_at
raw_never_bad f w h bytes e =
    let n = w * h * pixel_bytes f in
    elim (bind_bad (field n bytes) (λ pixels after. Got (Raw (colors_of f (w * h) pixels)) after) Refused e) [
      | inl bad ↦ field_never_bad n bytes Refused bad
      | inr b ↦ got_never_bad _ _ _ b.then
    ]

parts_bad : (f : Format) (w h byte : ℕ) (before : List Tile) (bytes : List ℕ) → (mask_of byte).raw ≡ false → IsAllowed before byte (mask_of byte)
    → parts_at f (mask_of byte) w h bytes ≡ Bad Refused → HasOutside f w h before (byte ∷ bytes)
unfolding parts_at
parts_bad f w h byte before bytes raw allowed e =
    let m = mask_of byte in
    elim (bind_bad (field (head_bytes f m) bytes) (λ head rest. subrectangles_at f m.colored w h (count_in f m head) rest >>= λ parts after. Got (Parts (background_in f m head) (foreground_in f m head) parts) after) Refused e) [
      | inl bad ↦ absurd (field_never_bad (head_bytes f m) bytes Refused bad)
      | inr b ↦
          let k = field_front (head_bytes f m) bytes b.value b.rest (field_got (head_bytes f m) bytes b.value b.rest b.first) in
          elim (bind_bad (subrectangles_at f m.colored w h (count_in f m b.value) b.rest) (λ parts after. Got (Parts (background_in f m b.value) (foreground_in f m b.value) parts) after) Refused b.then) [
            | inl bad ↦
                let one = subrectangles_bad f m.colored w h (count_in f m b.value) b.rest bad in
                record {
                  byte = byte;
                  head = b.value;
                  background = background_in f m b.value;
                  foreground = foreground_in f m b.value;
                  count = count_in f m b.value;
                  earlier = one.earlier;
                  body = one.body;
                  outside = one.stops.outside;
                  field = one.stops.field;
                  more = one.stops.more;
                  bytes_are = ap (λ z. byte ∷ z) (k.0 ∙ ap (λ z. b.value ++ z) (one.bytes_are ∙ ap (λ z. one.body ++ z) one.stops.bytes_are));
                  not_raw = raw;
                  allowed = allowed;
                  head_is = head_is f m b.value k.1;
                  body_is = one.body_is;
                  one_of_them = one.one_of_them;
                  field_is = one.stops.is;
                  leaves = one.stops.leaves;
                }
            | inr d ↦ absurd (got_never_bad _ _ _ d.then)
          ]
    ]

body_bad : (f : Format) (w h byte : ℕ) (before : List Tile) (bytes : List ℕ) → is_allowed (names_of before) byte (mask_of byte) ≡ true
    → body_at f (mask_of byte) w h bytes ≡ Bad Refused → HasOutside f w h before (byte ∷ bytes)
unfolding body_at
body_bad f w h byte before bytes allowed e = elim (true_or_false (mask_of byte).raw) [
  | inl raw ↦ absurd (raw_never_bad f w h bytes (sym (ap (λ b. cond b (raw_at f w h bytes) (parts_at f (mask_of byte) w h bytes)) raw) ∙ e))
  | inr raw ↦
      parts_bad f w h byte before bytes raw (allowed_is before byte (mask_of byte) raw allowed)
      (sym (ap (λ b. cond b (raw_at f w h bytes) (parts_at f (mask_of byte) w h bytes)) raw) ∙ e)
]

tile_bad : (f : Format) (w h : ℕ) (before : List Tile) (bytes : List ℕ) → tile_at f (names_of before) w h bytes ≡ Bad Refused
    → HasForbidden before bytes ⊎ HasOutside f w h before bytes
unfolding tile_at
tile_bad f w h before bytes e =
    let named = names_of before in
    elim (bind_bad (field 1 bytes) (λ mask after. guard (is_allowed named (slice_index mask 0) (mask_of (slice_index mask 0))) Refused (body_at f (mask_of (slice_index mask 0)) w h after)) Refused e) [
      | inl bad ↦ absurd (field_never_bad 1 bytes Refused bad)
      | inr b ↦
          let byte = slice_index b.value 0 in
          let k = field_front 1 bytes b.value b.rest (field_got 1 bytes b.value b.rest b.first) in
          let all : bytes ≡ byte ∷ b.rest = k.0 ∙ ap (λ z. z ++ b.rest) (one_number b.value k.1) in
          elim (guard_bad (is_allowed named byte (mask_of byte)) Refused (body_at f (mask_of byte) w h b.rest) b.then) [
            | inl forbidden ↦
                let raw = refused_is_not_raw named byte (mask_of byte) forbidden in
                inl (record {
                  byte = byte;
                  more = b.rest;
                  bytes_are = all;
                  not_raw = raw;
                  forbidden = λ allowed. let clash = allowed_again before byte (mask_of byte) raw allowed in absurd (cc);
                })
            | inr g ↦ inr (subst (λ z. HasOutside f w h before z) (sym all) (body_bad f w h byte before b.rest g.0 g.1))
          ]
    ]

tile_refused : (f : Format) (w h : ℕ) (before : List Tile) (bytes : List ℕ) → HasForbidden before bytes ⊎ HasOutside f w h before bytes
    → tile_at f (names_of before) w h bytes ≡ Bad Refused
unfolding body_at parts_at
tile_refused f w h before bytes (inl is) =
    ap (tile_at f (names_of before) w h) is.bytes_are
    ∙ mask_first f (names_of before) w h is.byte is.more
    ∙ rw (forbidden_again before is.byte (mask_of is.byte) is.not_raw is.forbidden) refl
tile_refused f w h before bytes (inr is) =
    let m = mask_of is.byte in
    let head = head_again f m is.background is.foreground is.count is.head is.head_is in
    let rest = is.head ++ (is.body ++ (is.field ++ is.more)) in
    ap (tile_at f (names_of before) w h) is.bytes_are
    ∙ mask_first f (names_of before) w h is.byte rest
    ∙ ap (λ b. guard b Refused (body_at f m w h rest)) (allowed_again before is.byte m is.not_raw is.allowed)
    ∙ ap (λ b. cond b (raw_at f w h rest) (parts_at f m w h rest)) is.not_raw
    ∙ rw (
      field-whole {E = Fault} (head_bytes f m) is.head (is.body ++ (is.field ++ is.more)) head.whole,
      head.count_is,
      subrectangles_refused f m.colored w h is.earlier is.count is.body is.outside is.field is.more is.body_is is.one_of_them is.field_is is.leaves,
    ) refl

-- ---- a rectangle

record OneRefused (f : Format) (w h more : ℕ) (before : List Tile) (bytes : List ℕ) : Type 0 where
  pub tiles : List Tile
  pub body : List ℕ
  pub rest : List ℕ
  pub bytes_are : bytes ≡ body ++ rest
  pub one_of_them : length tiles < more
  pub body_is : AreTiles f w h before tiles body
  pub next : HasForbidden (onto tiles before) rest
      ⊎ HasOutside f (tile_width w (length before + length tiles)) (tile_height w h (length before + length tiles)) (onto tiles before) rest

tiles_bad : (f : Format) (w h more : ℕ) (before : List Tile) (bytes : List ℕ) → length before + more ≡ tile_count w h
    → tiles_at f w h (names_of before) more bytes ≡ Bad Refused → OneRefused f w h more before bytes
unfolding tiles_at
tiles_bad f w h zero before bytes number e = absurd (got_never_bad _ _ _ e)
tiles_bad f w h (suc more) before bytes number e =
    let named = names_of before in
    let n = tile_count w h - suc more in
    let n_is : n ≡ length before = omega (arith, number) in
    elim (bind_bad (tile_at f named (tile_width w n) (tile_height w h n) bytes) (λ t after. tiles_at f w h (named_with named t) more after >>= λ others end. Got (t ∷ others) end) Refused e) [
      | inl bad ↦
          let here : n ≡ length before + 0 = omega (arith, number) in
          record {
            tiles = [];
            body = [];
            rest = bytes;
            bytes_are = refl;
            one_of_them = omega arith;
            body_is = refl;
            next = subst (λ (k : ℕ). HasForbidden before bytes ⊎ HasOutside f (tile_width w k) (tile_height w h k) before bytes) here
                (tile_bad f (tile_width w n) (tile_height w h n) before bytes bad);
          }
      | inr b ↦
          let first = ap (λ (k : ℕ). tile_at f named (tile_width w k) (tile_height w h k) bytes) (sym n_is) ∙ b.first in
          let r = tile_read f (tile_width w (length before)) (tile_height w h (length before)) before bytes b.value b.rest first in
          elim (bind_bad (tiles_at f w h (named_with named b.value) more b.rest) (λ others end. Got (b.value ∷ others) end) Refused b.then) [
            | inl bad ↦
                let second = ap (λ (k : Named). tiles_at f w h k more b.rest) (sym (names_more before b.value)) ∙ bad in
                let others = tiles_bad f w h more (b.value ∷ before) b.rest (omega (arith, number)) second in
                let less = others.one_of_them in
                let here : suc (length before) + length others.tiles ≡ length before + suc (length others.tiles) = omega arith in
                record {
                  tiles = b.value ∷ others.tiles;
                  body = r.first ++ others.body;
                  rest = others.rest;
                  bytes_are = r.bytes_are ∙ ap (λ z. r.first ++ z) others.bytes_are ∙ sym (append_assoc r.first others.body others.rest);
                  one_of_them = omega arith;
                  body_is = (r.first, others.body, refl, r.is, others.body_is);
                  next = subst (λ (k : ℕ). HasForbidden (onto others.tiles (b.value ∷ before)) others.rest
                      ⊎ HasOutside f (tile_width w k) (tile_height w h k) (onto others.tiles (b.value ∷ before)) others.rest) here others.next;
                }
            | inr d ↦ absurd (got_never_bad _ _ _ d.then)
          ]
    ]

tiles_refused : (f : Format) (w h more : ℕ) (before tiles : List Tile) (body rest : List ℕ) → length before + more ≡ tile_count w h → length tiles < more
    → AreTiles f w h before tiles body
    → HasForbidden (onto tiles before) rest ⊎ HasOutside f (tile_width w (length before + length tiles)) (tile_height w h (length before + length tiles)) (onto tiles before) rest
    → tiles_at f w h (names_of before) more (body ++ rest) ≡ Bad Refused
unfolding tiles_at
tiles_refused f w h zero before tiles body rest number less are next = absurd (omega arith)
tiles_refused f w h (suc more) before [] body rest number less none next =
    let here : length before + 0 ≡ tile_count w h - suc more = omega (arith, number) in
    rw (
      none,
      tile_refused f (tile_width w (tile_count w h - suc more)) (tile_height w h (tile_count w h - suc more)) before rest
          (subst (λ (k : ℕ). HasForbidden before rest ⊎ HasOutside f (tile_width w k) (tile_height w h k) before rest) here next),
    ) refl
tiles_refused f w h (suc more) before (t ∷ tiles) body rest number less are next =
    let n_is : tile_count w h - suc more ≡ length before = omega (arith, number) in
    let all : body ++ rest ≡ are.0 ++ (are.1 ++ rest) = ap (λ z. z ++ rest) are.2 ∙ append_assoc are.0 are.1 rest in
    let here : length before + suc (length tiles) ≡ suc (length before) + length tiles = omega arith in
    rw (
      all,
      n_is,
      tile_again f (tile_width w (length before)) (tile_height w h (length before)) before t are.0 (are.1 ++ rest) are.3,
      names_more before t,
      tiles_refused f w h more (t ∷ before) tiles are.1 rest (omega (arith, number)) (omega arith) are.4
          (subst (λ (k : ℕ). HasForbidden (onto tiles (t ∷ before)) rest
          ⊎ HasOutside f (tile_width w k) (tile_height w h k) (onto tiles (t ∷ before)) rest) here next),
    ) refl

pub refused_read : (f : Format) (w h : ℕ) (bytes : List ℕ) → data_at f w h bytes ≡ Bad Refused → IsRefused f w h bytes
unfolding data_at
refused_read f w h bytes e =
    let one = tiles_bad f w h (tile_count w h) [] bytes (omega arith) e in
    let here : 0 + length one.tiles ≡ length one.tiles = omega arith in
    record {
      tiles = one.tiles;
      body = one.body;
      rest = one.rest;
      bytes_are = one.bytes_are;
      one_of_them = one.one_of_them;
      body_is = one.body_is;
      next = subst (λ (k : ℕ). HasForbidden (onto one.tiles []) one.rest ⊎ HasOutside f (tile_width w k) (tile_height w h k) (onto one.tiles []) one.rest) here one.next;
    }

one_fault : (fault : Fault) → fault ≡ Refused
one_fault Refused = refl

pub refused_again : (f : Format) (w h : ℕ) (bytes : List ℕ) → IsRefused f w h bytes → data_at f w h bytes ≡ Bad Refused
unfolding data_at
refused_again f w h bytes is =
    let here : length is.tiles ≡ 0 + length is.tiles = omega arith in
    ap (λ z. tiles_at f w h (names_of []) (tile_count w h) z) is.bytes_are
    ∙ tiles_refused f w h (tile_count w h) [] is.tiles is.body is.rest (omega arith) is.one_of_them is.body_is
    (subst (λ (k : ℕ). HasForbidden (onto is.tiles []) is.rest ⊎ HasOutside f (tile_width w k) (tile_height w h k) (onto is.tiles []) is.rest) here is.next)

-- ---- measuring

pub measured_is_refused : (f : Format) (w h : ℕ) (bytes : List ℕ) → measured (length bytes) (data_at f w h bytes) ≡ Err answers.Bad → IsRefused f w h bytes
measured_is_refused f w h bytes e =
    let bad = measured_bad (length bytes) (data_at f w h bytes) e in
    refused_read f w h bytes (bad.1 ∙ ap (λ z. Bad z) (one_fault bad.0))
