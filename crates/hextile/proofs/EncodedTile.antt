-- A tile of parts shows the colours that its parts cover.
use Rattle.std.proofs.Common.{◌≡◌, ℕ, ◌<◌, inl, inr, Bool, true, false, cond, List, [], ◌∷◌, ◌++◌, length, map, get_or, Option, Some, None, refl, sym, ap, subst, ◌∙◌, arith}
use Rattle.std.specs.Prelude.{reverse, unwrap_or, is_some, All, IfSome}
use Rattle.std.specs.List.{flat_map}
use Rattle.std.proofs.lemmas.Bool.{cases_Bool}
use Rattle.std.proofs.lemmas.List.{reverse-append, length-map, map-append, append_cancel_left}
use Rattle.std.proofs.lemmas.List.Elements.{All-head, All-tail}
use Rattle.pixel_format.specs.declared.Color.{Color}
use Rattle.pixel_format.specs.Format.{Format}
use Rattle.pixel_format.specs.Canvas.{covers, black}
use Rattle.pixel_format.specs.Pixel.{IsWithin, pixel_of}
use Rattle.terms.specs.Appending.{Appends}
use Rattle.hextile.specs.declared.fields.Mask.{Mask}
use Rattle.hextile.specs.declared.fields.Subrectangle.{Subrectangle}
use Rattle.hextile.specs.declared.cover.Part.{Part}
use Rattle.hextile.specs.declared.writing.Known.{Known}
use Rattle.hextile.specs.Grammar.{Tile, Raw, Parts}
use Rattle.hextile.specs.Data.{background_of, foreground_of, IsAllowed, IsHead, AreRaw, AreParts}
use Rattle.hextile.specs.Picture.{first_covering}
use Rattle.hextile.specs.Encoded.{shown_if, drawn, part_picture, has_parts, is_colored, count_if, mask_number, mask_for, tile_bytes, parts_tile_bytes, IsPart, IsCover, IsKnown, ShowsTile, IsMaskFor, known_past, IsWritten}

-- ---- pictures

map_reversed : (g : Part → Subrectangle) (parts : List Part) → reverse (map g parts) ≡ map g (reverse parts)
map_reversed g [] = refl
map_reversed g (s ∷ parts) =
    reverse-append (g s ∷ []) (map g parts) ∙ ap (λ z. z ++ g s ∷ []) (map_reversed g parts)
    ∙ sym (map-append g (reverse parts) (s ∷ [])) ∙ ap (map g) (sym (reverse-append (s ∷ []) parts))

-- subrectangles with colours of their own
colored_picture : (background foreground : Color) (latest : List Part) (column row : ℕ)
    → first_covering background foreground (map (drawn true) latest) column row ≡ part_picture background latest column row
colored_picture background foreground [] column row = refl
colored_picture background foreground (s ∷ latest) column row =
    ap (λ (z : Color). cond (covers s.x s.y s.w s.h column row) s.color z) (colored_picture background foreground latest column row)

-- all parts have the colour
abbrev pub HaveColor : Color → List Part → Type 0
HaveColor color [] = Unit {0}
HaveColor color (s ∷ others) = (s.color ≡ color) × HaveColor color others

have_more : (color : Color) (a b : List Part) → HaveColor color a → HaveColor color b → HaveColor color (a ++ b)
have_more color [] b x y = y
have_more color (s ∷ a) b x y = (x.0, have_more color a b x.1 y)

have_reversed : (color : Color) (parts : List Part) → HaveColor color parts → HaveColor color (reverse parts)
have_reversed color [] have = tt
have_reversed color (s ∷ parts) have =
    subst (λ (z : List Part). HaveColor color z) (sym (reverse-append (s ∷ []) parts)) (have_more color (reverse parts) (s ∷ []) (have_reversed color parts have.1) (have.0, tt))

have_all : (color : Color) (parts : List Part) → All (λ (s : Part). s.color ≡ color) parts → HaveColor color parts
have_all color [] all = tt
have_all color (s ∷ parts) all =
    (All-head (λ (s : Part). s.color ≡ color) s parts all, have_all color parts (All-tail (λ (s : Part). s.color ≡ color) s parts all))

plain_picture : (background foreground : Color) (latest : List Part) (column row : ℕ) → HaveColor foreground latest
    → first_covering background foreground (map (drawn false) latest) column row ≡ part_picture background latest column row
plain_picture background foreground [] column row have = refl
plain_picture background foreground (s ∷ latest) column row have =
    ap (λ (z : Color). cond (covers s.x s.y s.w s.h column row) foreground z) (plain_picture background foreground latest column row have.1)
    ∙ ap (λ (z : Color). cond (covers s.x s.y s.w s.h column row) z (part_picture background latest column row)) (sym have.0)

-- ---- colours that are named

abbrev pub tile_of : Mask → Color → Color → List Part → Tile
tile_of m background foreground parts = Parts (shown_if m.background background) (shown_if m.foreground foreground) (map (drawn m.colored) parts)

named_background : (there : Bool) (color : Color) (front : Option Color) (parts : List Subrectangle) (before : List Tile)
    → (there ≡ false → background_of before ≡ Some color) → background_of (Parts (shown_if there color) front parts ∷ before) ≡ Some color
named_background true color front parts before known = refl
named_background false color front parts before known = known refl

named_foreground : (there : Bool) (color : Color) (back : Option Color) (parts : List Subrectangle) (before : List Tile)
    → (there ≡ false → foreground_of before ≡ Some color) → foreground_of (Parts back (shown_if there color) parts ∷ before) ≡ Some color
named_foreground true color back parts before known = refl
named_foreground false color back parts before known = known refl

kept_foreground : (there : Bool) (color : Color) (back : Option Color) (parts : List Subrectangle) (before : List Tile)
    → there ≡ false → foreground_of (Parts back (shown_if there color) parts ∷ before) ≡ foreground_of before
kept_foreground true color back parts before none = absurd (cc)
kept_foreground false color back parts before none = refl

not_inked : (there : Bool) (ink : Option Color) → (there ≡ true → (color : Color) × (ink ≡ Some color)) → ink ≡ None → there ≡ false
not_inked true ink named none = let is = (named refl).1 in absurd (cc)
not_inked false ink named none = refl

-- what the encoder wrote of a tile
record TileFacts (known : Known) (before : List Tile) (m : Mask) (background : Color) (ink : Option Color) (parts : List Part) : Type 0 where
  pub back : background_of (tile_of m background (unwrap_or ink background) parts ∷ before) ≡ Some background
  pub front : (color : Color) → ink ≡ Some color → foreground_of (tile_of m background (unwrap_or ink background) parts ∷ before) ≡ Some color
  pub kept : ink ≡ None → foreground_of (tile_of m background (unwrap_or ink background) parts ∷ before) ≡ foreground_of before

facts : (known : Known) (before : List Tile) (m : Mask) (background : Color) (ink : Option Color) (parts : List Part) → IsKnown before known
    → IsMaskFor known background ink (length parts) m → TileFacts known before m background ink parts
facts known before m background ink parts is mask =
    let fg = unwrap_or ink background in
    let ss = map (drawn m.colored) parts in
    record {
      back = named_background m.background background (shown_if m.foreground fg) ss before (λ e. is.background background (mask.back e));
      front = λ color inked.
          let fg_is : fg ≡ color = ap (λ (z : Option Color). unwrap_or z background) inked in
          ap (λ (z : Color). foreground_of (Parts (shown_if m.background background) (shown_if m.foreground z) ss ∷ before)) fg_is
          ∙ named_foreground m.foreground color (shown_if m.background background) ss before (λ e. is.foreground color (mask.front color inked e));
      kept = λ none. kept_foreground m.foreground fg (shown_if m.background background) ss before (not_inked m.foreground ink mask.named none);
    }

known_is : (known : Known) (before : List Tile) (m : Mask) (background : Color) (ink : Option Color) (parts : List Part) (colored : Bool) → IsKnown before known
    → TileFacts known before m background ink parts → IsKnown (tile_of m background (unwrap_or ink background) parts ∷ before) (known_past known background ink colored)
known_is known before m background ink parts true is t = record { background = λ color e. absurd (cc); foreground = λ color e. absurd (cc) }
known_is known before m background (Some ink) parts false is t = record {
  background = λ color e. t.back ∙ e;
  foreground = λ color e. t.front ink refl ∙ e;
}
known_is known before m background None parts false is t = record {
  background = λ color e. t.back ∙ e;
  foreground = λ color e. t.kept refl ∙ is.foreground color e;
}

-- ---- the picture

no_parts : (parts : List Part) → length parts ≡ 0 → parts ≡ []
no_parts [] none = refl
no_parts (s ∷ parts) none = absurd (omega arith)

shows_parts : (known : Known) (before : List Tile) (m : Mask) (background foreground : Color) (ink : Option Color) (parts : List Part) (colored : Bool) (column row : ℕ) → m.colored ≡ colored
    → IsMaskFor known background ink (length parts) m
    → ((color : Color) → ink ≡ Some color → foreground ≡ color) → ((color : Color) → ink ≡ Some color → All (λ (s : Part). s.color ≡ color) parts)
    → first_covering background foreground (reverse (map (drawn colored) parts)) column row ≡ part_picture background (reverse parts) column row
shows_parts known before m background foreground ink parts true column row is mask front have =
    ap (λ (z : List Subrectangle). first_covering background foreground z column row) (map_reversed (drawn true) parts)
    ∙ colored_picture background foreground (reverse parts) column row
shows_parts known before m background foreground ink parts false column row is mask front have = elim (cases_Bool m.subrectangles) [
  | inl some ↦
      let one = mask.plain is some in
      let fg = front one.0 one.1 in
      ap (λ (z : List Subrectangle). first_covering background foreground z column row) (map_reversed (drawn false) parts)
      ∙ plain_picture background foreground (reverse parts) column row
      (subst (λ (z : Color). HaveColor z (reverse parts)) (sym fg) (have_reversed one.0 parts (have_all one.0 parts (have one.0 one.1))))
  | inr none ↦
      let nothing = no_parts parts (mask.some none) in
      rw nothing refl
]

option_known : (o : Option Color) → ((color : Color) → o ≡ Some color → (d : Color) → unwrap_or o d ≡ color)
option_known o = λ color e d. ap (λ (z : Option Color). unwrap_or z d) e

allowed_mask : (known : Known) (before : List Tile) (m : Mask) (background : Color) (ink : Option Color) (count byte : ℕ) → IsKnown before known
    → IsMaskFor known background ink count m → byte < 32 → IsAllowed before byte m
allowed_mask known before m background ink count byte is mask small = record {
  known = small;
  apart = λ there colored. let one = (mask.named there).1 in let none = mask.colored colored in absurd (cc);
  background = elim (cases_Bool m.background) [
    | inl a ↦ inl a
    | inr a ↦ inr (background, is.background background (mask.back a))
  ];
  foreground = λ some plain.
      let one = mask.plain plain some in
      elim (cases_Bool m.foreground) [
        | inl a ↦ inl a
        | inr a ↦ inr (one.0, is.foreground one.0 (mask.front one.0 one.1 a))
      ];
}

count_as : (there : Bool) (count : ℕ) → (there ≡ false → count ≡ 0) → cond there count 0 ≡ count
count_as true count none = refl
count_as false count none = sym (none refl)

-- ---- the bytes

shown_there : (there : Bool) (color : Color) → is_some (shown_if there color) ≡ there
shown_there true color = refl
shown_there false color = refl

parts_there : (colored some : Bool) (parts : List Part) → (some ≡ false → length parts ≡ 0) → (some ≡ true → 0 < length parts) → has_parts (map (drawn colored) parts) ≡ some
parts_there colored true [] none full = absurd (omega (arith, full refl))
parts_there colored false [] none full = refl
parts_there colored true (s ∷ parts) none full = refl
parts_there colored false (s ∷ parts) none full = absurd (omega (arith, none refl))

colors_there : (colored : Bool) (parts : List Part) → (colored ≡ true → 0 < length parts) → is_colored (map (drawn colored) parts) ≡ colored
colors_there true [] full = absurd (omega (arith, full refl))
colors_there false [] full = refl
colors_there colored (s ∷ parts) full = shown_there colored s.color

counted : (colored some : Bool) (parts : List Part) → (some ≡ false → length parts ≡ 0) → (some ≡ true → 0 < length parts)
    → count_if (map (drawn colored) parts) ≡ cond some (length parts ∷ []) []
counted colored true [] none full = absurd (omega (arith, full refl))
counted colored false [] none full = refl
counted colored true (s ∷ parts) none full = ap (λ n. n ∷ []) (length-map (s ∷ parts) (drawn colored))
counted colored false (s ∷ parts) none full = absurd (omega (arith, none refl))

tile_bytes_are : (f : Format) (known : Known) (background foreground : Color) (ink : Option Color) (parts : List Part) (m : Mask) → IsMaskFor known background ink (length parts) m
    → parts_tile_bytes f m background foreground parts ≡ tile_bytes f (tile_of m background foreground parts)
tile_bytes_are f known background foreground ink parts m mask =
    let raw = mask.raw in
    let back = shown_there m.background background in
    let front = shown_there m.foreground foreground in
    let some = parts_there m.colored m.subrectangles parts mask.some mask.full in
    let colored = colors_there m.colored parts (λ e. mask.full (mask.only e)) in
    let count = counted m.colored m.subrectangles parts mask.some mask.full in
    let number : mask_number m ≡ mask_number (mask_for (shown_if m.background background) (shown_if m.foreground foreground) (map (drawn m.colored) parts)) =
    rw (back, front, some, colored, raw) refl in
    rw (count, ← number) refl

pub parts_shown : (f : Format) (w h : ℕ) (colors : List Color) (known : Known) (before : List Tile) (m : Mask) (background : Color) (ink : Option Color) (parts : List Part) (bytes : List ℕ)
    → IsKnown before known → IsMaskFor known background ink (length parts) m → ((color : Color) → ink ≡ Some color → All (λ (s : Part). s.color ≡ color) parts)
    → IsCover f w h colors background parts → IsWritten f w h m background (unwrap_or ink background) parts bytes
    → bytes ≡ parts_tile_bytes f m background (unwrap_or ink background) parts
    → ShowsTile f w h colors before (known_past known background ink m.colored) bytes
parts_shown f w h colors known before m background ink parts bytes is mask have cover written bytes_are =
    let fg = unwrap_or ink background in
    let t = facts known before m background ink parts is mask in
    let tile = tile_of m background fg parts in
    let same = written.mask_is in
    let count : cond m.subrectangles (length parts) 0 ≡ length (map (drawn m.colored) parts) = count_as m.subrectangles (length parts) mask.some ∙ sym (length-map parts (drawn m.colored)) in
    let shown_foreground = unwrap_or (foreground_of (tile ∷ before)) black in
    let are : AreParts f w h before (shown_if m.background background) (shown_if m.foreground fg) (map (drawn m.colored) parts) bytes = record {
      byte = written.byte;
      head = written.head;
      body = written.body;
      bytes_are = written.bytes_are;
      not_raw = rw same mask.raw;
      allowed = rw same (allowed_mask known before m background ink (length parts) written.byte is mask written.known);
      head_is = rw same (subst (λ (n : ℕ). IsHead f m (shown_if m.background background) (shown_if m.foreground fg) n written.head) count written.head_is);
      body_is = rw same written.body_is;
    } in
    record {
      tile = tile;
      is = are;
      bytes_are = bytes_are ∙ tile_bytes_are f known background fg ink parts m mask;
      known_is = known_is known before m background ink parts m.colored is t;
      picture = λ column row across down.
          ap (λ (z : Option Color). first_covering (unwrap_or z black) shown_foreground (reverse (map (drawn m.colored) parts)) column row) t.back
          ∙ shows_parts known before m background shown_foreground ink parts m.colored column row refl mask
          (λ color inked. ap (λ (z : Option Color). unwrap_or z black) (t.front color inked)) have
          ∙ cover.picture column row across down;
    }

pub raw_shown : (f : Format) (w h : ℕ) (colors : List Color) (before : List Tile) (bytes : List ℕ) → AreRaw f w h colors bytes
    → bytes ≡ 1 ∷ flat_map (pixel_of f) colors
    → ShowsTile f w h colors before (record { background = None; foreground = None }) bytes
raw_shown f w h colors before bytes are bytes_are = record {
  tile = Raw colors;
  is = are;
  bytes_are = bytes_are;
  known_is = record { background = λ color e. absurd (cc); foreground = λ color e. absurd (cc) };
  picture = λ column row across down. refl;
}

-- ---- as the code has it

pub ink_within : (f : Format) (w h : ℕ) (background foreground : Color) (ink : Option Color) (parts items : List Part) → parts ≡ items → foreground ≡ unwrap_or ink background
    → IfSome ink (λ color. All (λ (s : Part). s.color ≡ color) parts) → IfSome ink (λ _. 0 < length parts) → All (IsPart f w h) items → IsWithin f background
    → IsWithin f foreground
ink_within f w h background foreground None parts items same is all some are within = subst (λ (z : Color). IsWithin f z) (sym is) within
ink_within f w h background foreground (Some color) parts items same is all some are within =
    let d : Part = record { x = 0; y = 0; w = 0; h = 0; color = color } in
    let here : IsPart f w h (get_or parts 0 d) = subst (λ (z : List Part). All (IsPart f w h) z) (sym same) are 0 d some in
    subst (λ (z : Color). IsWithin f z) (all 0 d some ∙ sym is) here.color

if_some_at : (P : Color → Type 0) (ink : Option Color) → IfSome ink P → (color : Color) → ink ≡ Some color → P color
if_some_at P None known color e = absurd (cc)
if_some_at P (Some one) known color e = let same : one ≡ color = cc in subst P same known

pub parts_tile_shown : (f : Format) (w h : ℕ) (colors : List Color) (known after : Known) (before : List Tile) (m : Mask) (background foreground : Color) (ink : Option Color)
    (parts again items : List Part) (count : ℕ) (old new : List ℕ) → parts ≡ items → again ≡ items → count ≡ length items → foreground ≡ unwrap_or ink background
    → IsKnown before known → IsMaskFor known background ink count m → IfSome ink (λ color. All (λ (s : Part). s.color ≡ color) parts)
    → IsCover f w h colors background items → (All (IsPart f w h) again → Appends (IsWritten f w h m background foreground again) old new)
    → new ≡ old ++ parts_tile_bytes f m background foreground again
    → after ≡ known_past known background ink m.colored → Appends (ShowsTile f w h colors before after) old new
parts_tile_shown f w h colors known after before m background foreground ink parts again items count old new same same_again count_is foreground_is is mask all cover written bytes_are after_is =
    let have : IfSome ink (λ color. All (λ (s : Part). s.color ≡ color) items) = subst (λ (z : List Part). IfSome ink (λ color. All (λ (s : Part). s.color ≡ color) z)) same all in
    let appended = written (subst (λ (z : List Part). All (IsPart f w h) z) (sym same_again) cover.parts_are) in
    let are : IsWritten f w h m background (unwrap_or ink background) items appended.bytes =
    subst (λ (z : Color). IsWritten f w h m background z items appended.bytes) foreground_is
    (subst (λ (z : List Part). IsWritten f w h m background foreground z appended.bytes) same_again appended.are) in
    let exact : appended.bytes ≡ parts_tile_bytes f m background (unwrap_or ink background) items =
    append_cancel_left old appended.bytes (parts_tile_bytes f m background foreground again) (sym appended.is ∙ bytes_are)
    ∙ ap (λ (z : List Part). parts_tile_bytes f m background foreground z) same_again ∙ ap (λ (z : Color). parts_tile_bytes f m background z items) foreground_is in
    record {
      bytes = appended.bytes;
      is = appended.is;
      are = subst (λ (z : Known). ShowsTile f w h colors before z appended.bytes) (sym after_is)
          (parts_shown f w h colors known before m background ink items appended.bytes is (subst (λ (n : ℕ). IsMaskFor known background ink n m) count_is mask)
          (if_some_at (λ (color : Color). All (λ (s : Part). s.color ≡ color) items) ink have) cover are exact);
    }

pub raw_tile_shown : (f : Format) (w h : ℕ) (colors : List Color) (before : List Tile) (old new : List ℕ) → Appends (AreRaw f w h colors) old new
    → new ≡ old ++ 1 ∷ flat_map (pixel_of f) colors
    → Appends (ShowsTile f w h colors before (record { background = None; foreground = None })) old new
raw_tile_shown f w h colors before old new raw bytes_are = record {
  bytes = raw.bytes;
  is = raw.is;
  are = raw_shown f w h colors before raw.bytes raw.are (append_cancel_left old raw.bytes (1 ∷ flat_map (pixel_of f) colors) (sym raw.is ∙ bytes_are));
}
