-- What the grammar reads are data, and data are what it reads.
use Rattle.std.proofs.Common.{◌≡◌, ℕ, ◌+◌, ◌-◌, ◌*◌, ◌≤◌, ◌&&◌, Bool, true, false, List, [], ◌++◌, length, take, nat_le, nat_eq, inl, inr, eqb-true, refl, sym, ap, ◌∙◌, subst, arith, length-append}
use Rattle.std.proofs.Common.{Option, Some, None, Result, Ok, Err, IfOk}
use Rattle.std.specs.Prelude.{IfSome}
use Rattle.std.proofs.lemmas.Bool.{leb-true, le-leb}
use Rattle.std.proofs.lemmas.List.{take_at, append-nil}
use Rattle.pixel_format.specs.Format.{Format, pixel_bytes}
use Rattle.terms.specs.Reading.{Reading, Got, More, Bad, field, guard}
use Rattle.terms.proofs.Readings.{bind_got, guard_got, field_got, field-whole, true_or_false, field_front}
use Rattle.terms.specs.declared.area.Area.{Area}
use Rattle.terms.specs.declared.wire_fault.WireFault.{WireFault}
use Rattle.terms.specs.declared.wire_fault.WireFault.TheVariants as faults
use Rattle.rre.specs.Grammar as rre
use Rattle.rre.proofs.Content as rre_content
use Rattle.hextile.specs.Grammar as hextile
use Rattle.hextile.proofs.TilesRead as hextile_content
use Rattle.rect_data.specs.declared.encoding.Encoding.{Encoding}
use Rattle.rect_data.specs.declared.encoding.Encoding.TheVariants as encodings
use Rattle.rect_data.specs.Grammar.{is_inside, source_of, raw_at, copy_at, judged_as, data_at, measured, encoding_of}
use Rattle.rect_data.specs.Data.{IsSource, AreData, number_of}
use Rattle.terms.specs.Area.{LiesWithin}

-- ---- areas

both : (a b : Bool) → (a && b) ≡ true → (a ≡ true) × (b ≡ true)
both true b e = (refl, e)
both false b e = absurd (cc)

pub inside_within : (width height : ℕ) (a : Area) → is_inside width height a ≡ true → LiesWithin width height a
unfolding is_inside
inside_within width height a e =
    let parts = both (nat_le (a.x + a.w) width) (nat_le (a.y + a.h) height) e in
    record { columns = leb-true (a.x + a.w) width parts.0; rows = leb-true (a.y + a.h) height parts.1 }

pub within_inside : (width height : ℕ) (a : Area) → LiesWithin width height a → is_inside width height a ≡ true
unfolding is_inside
within_inside width height a is = rw (le-leb (a.x + a.w) width is.columns, le-leb (a.y + a.h) height is.rows) refl

-- ---- numbers

pub number_again : (e : Encoding) → encoding_of (number_of e) ≡ Some e
number_again encodings.Raw = refl
number_again encodings.CopyRect = refl
number_again encodings.Rre = refl
number_again encodings.Hextile = refl

pub encoding_number_is : (number : ℕ) (e : Encoding) → encoding_of number ≡ Some e → number_of e ≡ number
encoding_number_is number e is = elim (true_or_false (nat_eq number 0)) [
  | inl a ↦ named number 0 encodings.Raw e (eqb-true number 0 a) refl (rw a at is)
  | inr a ↦ elim (true_or_false (nat_eq number 1)) [
    | inl b ↦ named number 1 encodings.CopyRect e (eqb-true number 1 b) refl (rw (a, b) at is)
    | inr b ↦ elim (true_or_false (nat_eq number 2)) [
      | inl c ↦ named number 2 encodings.Rre e (eqb-true number 2 c) refl (rw (a, b, c) at is)
      | inr c ↦ elim (true_or_false (nat_eq number 5)) [
        | inl d ↦ named number 5 encodings.Hextile e (eqb-true number 5 d) refl (rw (a, b, c, d) at is)
        | inr d ↦ (let none = rw (a, b, c, d) at is in absurd (cc))
      ]
    ]
  ]
]
  where
    named : (number n : ℕ) (known e : Encoding) → number ≡ n → number_of known ≡ n → Some known ≡ Some e → number_of e ≡ number
    named number n known e is known_is same =
        (let one : known ≡ e = cc in
        ap number_of (sym one) ∙ known_is ∙ sym is)

-- ---- data

pub record DataRead (f : Format) (width height : ℕ) (e : Encoding) (area : Area) (bytes rest : List ℕ) : Type 0 where
  pub front : List ℕ
  pub bytes_are : bytes ≡ front ++ rest
  pub is : AreData f width height e area front

raw_read : (f : Format) (width height : ℕ) (area : Area) (bytes rest : List ℕ) (x : Unit {0}) → raw_at f area bytes ≡ Got x rest
    → DataRead f width height encodings.Raw area bytes rest
unfolding raw_at
raw_read f width height area bytes rest x e =
    let n : ℕ = pixel_bytes f * (area.w * area.h) in
    let b = bind_got (field n bytes) (λ pixels after. Got tt after) x rest e in
    let p = field_front n bytes b.value b.rest (field_got n bytes b.value b.rest b.first) in
    let last = b.then in
    let rest_is : b.rest ≡ rest = cc in
    record { front = b.value; bytes_are = p.0 ∙ ap (λ z. b.value ++ z) rest_is; is = p.1 }

copy_read : (f : Format) (width height : ℕ) (area : Area) (bytes rest : List ℕ) (x : Unit {0}) → copy_at width height area bytes ≡ Got x rest
    → DataRead f width height encodings.CopyRect area bytes rest
unfolding copy_at
copy_read f width height area bytes rest x e =
    let b = bind_got (field 4 bytes) (λ source after. guard (is_inside width height (source_of area source)) faults.SourceOutside (Got tt after)) x rest e in
    let p = field_front 4 bytes b.value b.rest (field_got 4 bytes b.value b.rest b.first) in
    let g = guard_got (is_inside width height (source_of area b.value)) faults.SourceOutside (Got tt b.rest) x rest b.then in
    let last = g.1 in
    let rest_is : b.rest ≡ rest = cc in
    record {
      front = b.value;
      bytes_are = p.0 ∙ ap (λ z. b.value ++ z) rest_is;
      is = record { size = p.1; within = inside_within width height (source_of area b.value) g.0 };
    }

-- what a codec reads is the same
record Judged {A E : Type 0} (r : Reading A E) (rest : List ℕ) : Type 0 where
  content : A
  is : r ≡ Got content rest

judged_got : {A E : Type 0} (fault : WireFault) (r : Reading A E) (x : Unit {0}) (rest : List ℕ) → judged_as fault r ≡ Got x rest → Judged r rest
judged_got fault (Got content after) x rest e =
    let same : after ≡ rest = cc in
    record { content = content; is = ap (λ z. Got content z) same }
judged_got fault More x rest e = absurd (cc)
judged_got fault (Bad g) x rest e = absurd (cc)

pub data_read : (f : Format) (width height : ℕ) (encoding : Encoding) (area : Area) (bytes rest : List ℕ) (x : Unit {0})
    → data_at f width height encoding area bytes ≡ Got x rest → DataRead f width height encoding area bytes rest
unfolding data_at
data_read f width height encodings.Raw area bytes rest x e = raw_read f width height area bytes rest x e
data_read f width height encodings.CopyRect area bytes rest x e = copy_read f width height area bytes rest x e
data_read f width height encodings.Rre area bytes rest x e =
    let j = judged_got faults.BadRre (rre.data_at f area.w area.h bytes) x rest e in
    let d = rre_content.data_read f area.w area.h bytes j.content rest j.is in
    record { front = d.front; bytes_are = d.bytes_are; is = (j.content, d.is) }
data_read f width height encodings.Hextile area bytes rest x e =
    let j = judged_got faults.BadHextile (hextile.data_at f area.w area.h bytes) x rest e in
    let d = hextile_content.data_read f area.w area.h bytes j.content rest j.is in
    record { front = d.front; bytes_are = d.bytes_are; is = (j.content, d.is) }

raw_again : (f : Format) (area : Area) (front more : List ℕ) → length front ≡ pixel_bytes f * (area.w * area.h) → raw_at f area (front ++ more) ≡ Got tt more
unfolding raw_at
raw_again f area front more whole = rw (field-whole {E = WireFault} (pixel_bytes f * (area.w * area.h)) front more whole) refl

copy_again : (width height : ℕ) (area : Area) (front more : List ℕ) → IsSource width height area front → copy_at width height area (front ++ more) ≡ Got tt more
unfolding copy_at
copy_again width height area front more is =
    rw (field-whole {E = WireFault} 4 front more is.size, within_inside width height (source_of area front) is.within) refl

pub data_again : (f : Format) (width height : ℕ) (encoding : Encoding) (area : Area) (front more : List ℕ) → AreData f width height encoding area front
    → data_at f width height encoding area (front ++ more) ≡ Got tt more
unfolding data_at
data_again f width height encodings.Raw area front more is = raw_again f area front more is
data_again f width height encodings.CopyRect area front more is = copy_again width height area front more is
data_again f width height encodings.Rre area front more (content, is) =
    ap (judged_as faults.BadRre) (rre_content.data_again f area.w area.h front more content is)
data_again f width height encodings.Hextile area front more (tiles, is) =
    ap (judged_as faults.BadHextile) (hextile_content.data_again f area.w area.h front more tiles is)

pub data_whole : (f : Format) (width height : ℕ) (encoding : Encoding) (area : Area) (bytes : List ℕ) → AreData f width height encoding area bytes
    → data_at f width height encoding area bytes ≡ Got tt []
data_whole f width height encoding area bytes is =
    ap (data_at f width height encoding area) (sym (append-nil bytes)) ∙ data_again f width height encoding area bytes [] is

pub data_are : (f : Format) (width height : ℕ) (encoding : Encoding) (area : Area) (bytes : List ℕ) → data_at f width height encoding area bytes ≡ Got tt []
    → AreData f width height encoding area bytes
data_are f width height encoding area bytes e =
    let d = data_read f width height encoding area bytes [] tt e in
    subst (AreData f width height encoding area) (sym (d.bytes_are ∙ append-nil d.front)) d.is

pub none_after : (f : Format) (width height : ℕ) (encoding : Encoding) (area : Area) (bytes more : List ℕ) → AreData f width height encoding area bytes
    → AreData f width height encoding area (bytes ++ more) → more ≡ []
none_after f width height encoding area bytes more is longer =
    let first = data_again f width height encoding area bytes more is in
    let second = data_whole f width height encoding area (bytes ++ more) longer in
    cc

-- ---- lengths

record Whole (size n : ℕ) (r : Reading (Unit {0}) WireFault) : Type 0 where
  rest : List ℕ
  is : r ≡ Got tt rest
  length_is : size - length rest ≡ n

whole_of : (size n : ℕ) (r : Reading (Unit {0}) WireFault) → measured size r ≡ Ok (Some n) → Whole size n r
whole_of size n (Got x rest) e =
    let is : size - length rest ≡ n = cc in
    record { rest = rest; is = refl; length_is = is }
whole_of size n More e = absurd (cc)
whole_of size n (Bad f) e = absurd (cc)

pub if_measured : (f : Format) (width height : ℕ) (encoding : Encoding) (area : Area) (bytes : List ℕ) (r : Result (Option ℕ) WireFault)
    → r ≡ measured (length bytes) (data_at f width height encoding area bytes)
    → IfOk r (λ o. IfSome o (λ n. (n ≤ length bytes) × AreData f width height encoding area (take n bytes)))
if_measured f width height encoding area bytes (Err fault) e = tt
if_measured f width height encoding area bytes (Ok None) e = tt
if_measured f width height encoding area bytes (Ok (Some n)) e =
    let m = whole_of (length bytes) n (data_at f width height encoding area bytes) (sym e) in
    let d = data_read f width height encoding area bytes m.rest tt m.is in
    let size : length bytes ≡ length d.front + length m.rest = ap length d.bytes_are ∙ length-append d.front m.rest in
    let n_is : length d.front ≡ n = omega (arith, size, m.length_is) in
    let front : take n bytes ≡ d.front = ap (take n) d.bytes_are ∙ take_at d.front m.rest n n_is in
    (omega (arith, size, n_is), subst (AreData f width height encoding area) (sym front) d.is)
