-- What bytes say of a rectangle's data they say whatever follows them.
use Rattle.std.proofs.Common.{◌≡◌, ℕ, ◌*◌, List, ◌∷◌, ◌++◌, inl, inr, refl, ap, ◌∙◌, append_assoc}
use Rattle.pixel_format.specs.Format.{Format, pixel_bytes}
use Rattle.terms.specs.Reading.{Reading, Got, More, Bad, field, guard, Extends, IsLocal}
use Rattle.terms.proofs.Measured.{Front}
use Rattle.terms.proofs.Readings.{field_local, bind_local, guard_local}
use Rattle.terms.specs.declared.area.Area.{Area}
use Rattle.terms.specs.declared.wire_fault.WireFault.{WireFault}
use Rattle.terms.specs.declared.wire_fault.WireFault.TheVariants as faults
use Rattle.rre.specs.Grammar as rre
use Rattle.rre.specs.Data as rre_data
use Rattle.rre.proofs.Content as rre_content
use Rattle.rre.proofs.Refused as rre_refused
use Rattle.hextile.specs.Grammar as hextile
use Rattle.hextile.specs.Data as hextile_data
use Rattle.hextile.proofs.TilesRead as hextile_content
use Rattle.hextile.proofs.Refused as hextile_refused
use Rattle.rect_data.specs.declared.encoding.Encoding.{Encoding}
use Rattle.rect_data.specs.declared.encoding.Encoding.TheVariants as encodings
use Rattle.rect_data.specs.Grammar.{is_inside, source_of, raw_at, copy_at, judged_as, data_at}

raw_local : (f : Format) (area : Area) → IsLocal (raw_at f area)
unfolding raw_at
raw_local f area bytes more =
    let n : ℕ = pixel_bytes f * (area.w * area.h) in
    let g : List ℕ → List ℕ → Reading Unit WireFault = λ pixels rest. Got tt rest in
    bind_local (field n bytes) (field n (bytes ++ more)) more g g (field_local WireFault n bytes more) (λ x rest. refl)

copy_local : (width height : ℕ) (area : Area) → IsLocal (copy_at width height area)
unfolding copy_at
copy_local width height area bytes more =
    let g : List ℕ → List ℕ → Reading Unit WireFault = λ source rest. guard (is_inside width height (source_of area source)) faults.SourceOutside (Got tt rest) in
    bind_local (field 4 bytes) (field 4 (bytes ++ more)) more g g (field_local WireFault 4 bytes more)
    (λ source rest. guard_local (is_inside width height (source_of area source)) faults.SourceOutside (Got tt rest) (Got tt (rest ++ more)) more refl)

-- ---- the codecs

-- What a codec reads is data that stand at the front, and these it reads again whatever follows; its
-- faults it finds again too.
codec_local : {A E : Type 0} (read : List ℕ → Reading A E) (Is : List ℕ → A → Type 0)
    → ((bytes : List ℕ) (x : A) (rest : List ℕ) → read bytes ≡ Got x rest → Front Is bytes x rest)
    → ((front more : List ℕ) (x : A) → Is front x → read (front ++ more) ≡ Got x more)
    → ((fault : E) (bytes more : List ℕ) → read bytes ≡ Bad fault → read (bytes ++ more) ≡ Bad fault)
    → IsLocal read
codec_local {A} {E} read Is whole again refused bytes more = extends (read bytes) refl
  where
    extends : (r : Reading A E) → read bytes ≡ r → Extends r more (read (bytes ++ more))
    extends (Got x rest) e =
        (let d = whole bytes x rest e in
        ap read (ap (λ z. z ++ more) d.bytes_are ∙ append_assoc d.front rest more) ∙ again d.front (rest ++ more) x d.is)
    extends More e = tt
    extends (Bad fault) e = refused fault bytes more e

refused_rre : (f : Format) (w h : ℕ) (bytes more : List ℕ) → rre_data.IsRefused f w h bytes → rre_data.IsRefused f w h (bytes ++ more)
refused_rre f w h bytes more is = record {
  head = is.head;
  pixel = is.pixel;
  more = is.more ++ more;
  earlier = is.earlier;
  body = is.body;
  field = is.field;
  count = is.count;
  outside = is.outside;
  bytes_are =
      ap (λ z. z ++ more) is.bytes_are ∙ append_assoc is.head (is.body ++ (is.field ++ is.more)) more
      ∙ ap (λ z. is.head ++ z) (append_assoc is.body (is.field ++ is.more) more)
      ∙ ap (λ z. is.head ++ (is.body ++ z)) (append_assoc is.field is.more more);
  head_is = is.head_is;
  body_is = is.body_is;
  one_of_them = is.one_of_them;
  field_is = is.field_is;
  leaves = is.leaves;
}

refused_rre_more : (f : Format) (w h : ℕ) (fault : rre.Fault) (bytes more : List ℕ) → rre.data_at f w h bytes ≡ Bad fault → rre.data_at f w h (bytes ++ more) ≡ Bad fault
refused_rre_more f w h rre.Outside bytes more e =
    rre_content.refused_again f w h (bytes ++ more) (refused_rre f w h bytes more (rre_refused.refused_read f w h bytes e))

rre_local : (f : Format) (w h : ℕ) → IsLocal (rre.data_at f w h)
rre_local f w h = codec_local (rre.data_at f w h) (rre_data.IsData f w h) (rre_content.data_read f w h) (rre_content.data_again f w h) (refused_rre_more f w h)

forbidden_more : (before : List hextile.Tile) (rest more : List ℕ) → hextile_data.HasForbidden before rest → hextile_data.HasForbidden before (rest ++ more)
forbidden_more before rest more is = record {
  byte = is.byte;
  more = is.more ++ more;
  bytes_are = ap (λ z. z ++ more) is.bytes_are;
  not_raw = is.not_raw;
  forbidden = is.forbidden;
}

outside_more : (f : Format) (w h : ℕ) (before : List hextile.Tile) (rest more : List ℕ) → hextile_data.HasOutside f w h before rest
    → hextile_data.HasOutside f w h before (rest ++ more)
outside_more f w h before rest more is = record {
  byte = is.byte;
  head = is.head;
  background = is.background;
  foreground = is.foreground;
  count = is.count;
  earlier = is.earlier;
  body = is.body;
  outside = is.outside;
  field = is.field;
  more = is.more ++ more;
  bytes_are =
      ap (λ z. z ++ more) is.bytes_are ∙ ap (λ z. is.byte ∷ z) (append_assoc is.head (is.body ++ (is.field ++ is.more)) more)
      ∙ ap (λ z. is.byte ∷ (is.head ++ z)) (append_assoc is.body (is.field ++ is.more) more)
      ∙ ap (λ z. is.byte ∷ (is.head ++ (is.body ++ z))) (append_assoc is.field is.more more);
  not_raw = is.not_raw;
  allowed = is.allowed;
  head_is = is.head_is;
  body_is = is.body_is;
  one_of_them = is.one_of_them;
  field_is = is.field_is;
  leaves = is.leaves;
}

refused_hextile : (f : Format) (w h : ℕ) (bytes more : List ℕ) → hextile_data.IsRefused f w h bytes → hextile_data.IsRefused f w h (bytes ++ more)
refused_hextile f w h bytes more is = record {
  tiles = is.tiles;
  body = is.body;
  rest = is.rest ++ more;
  bytes_are = ap (λ z. z ++ more) is.bytes_are ∙ append_assoc is.body is.rest more;
  one_of_them = is.one_of_them;
  body_is = is.body_is;
  next = elim is.next [
    | inl x ↦ inl (forbidden_more _ is.rest more x)
    | inr x ↦ inr (outside_more f _ _ _ is.rest more x)
  ];
}

refused_hextile_more : (f : Format) (w h : ℕ) (fault : hextile.Fault) (bytes more : List ℕ) → hextile.data_at f w h bytes ≡ Bad fault
    → hextile.data_at f w h (bytes ++ more) ≡ Bad fault
refused_hextile_more f w h hextile.Refused bytes more e =
    hextile_refused.refused_again f w h (bytes ++ more) (refused_hextile f w h bytes more (hextile_refused.refused_read f w h bytes e))

hextile_local : (f : Format) (w h : ℕ) → IsLocal (hextile.data_at f w h)
hextile_local f w h =
    codec_local (hextile.data_at f w h) (hextile_data.IsData f w h) (hextile_content.data_read f w h) (hextile_content.data_again f w h) (refused_hextile_more f w h)

judged_local : {A E : Type 0} (fault : WireFault) (r longer : Reading A E) (more : List ℕ) → Extends r more longer
    → Extends (judged_as fault r) more (judged_as fault longer)
judged_local fault (Got x rest) longer more e = ap (judged_as fault) e
judged_local fault More longer more e = tt
judged_local fault (Bad x) longer more e = ap (judged_as fault) e

pub data_local : (f : Format) (width height : ℕ) (encoding : Encoding) (area : Area) → IsLocal (data_at f width height encoding area)
unfolding data_at
data_local f width height encodings.Raw area bytes more = raw_local f area bytes more
data_local f width height encodings.CopyRect area bytes more = copy_local width height area bytes more
data_local f width height encodings.Rre area bytes more =
    judged_local faults.BadRre (rre.data_at f area.w area.h bytes) (rre.data_at f area.w area.h (bytes ++ more)) more (rre_local f area.w area.h bytes more)
data_local f width height encodings.Hextile area bytes more =
    judged_local faults.BadHextile (hextile.data_at f area.w area.h bytes) (hextile.data_at f area.w area.h (bytes ++ more)) more (hextile_local f area.w area.h bytes more)
