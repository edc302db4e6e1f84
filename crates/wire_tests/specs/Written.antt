-- Messages that the recorder doesn't send, as they are written. Padding is 0.
use Rattle.std.specs.Prelude.{ℕ, ◌/◌, ◌%◌, List, [], ◌∷◌, ◌++◌, length, Bool}
use Rattle.std.specs.List.{flat_map}
use Rattle.pixel_format.specs.declared.Color.{Color}
use Rattle.pixel_format.specs.Written.{flag}
use Rattle.terms.specs.Number.{u16_bytes, u32_bytes}

-- SetColorMapEntries: type 1, a byte of padding, the number of the first colour, how many there
-- are, and red, green and blue of each (RFC 6143, section 7.6.2)
abbrev pub color_map_head : ℕ → ℕ → List ℕ
color_map_head first count = 1 ∷ 0 ∷ u16_bytes first ++ u16_bytes count

abbrev pub color_bytes : Color → List ℕ
color_bytes c = u16_bytes c.r ++ u16_bytes c.g ++ u16_bytes c.b

abbrev pub color_map_bytes : ℕ → List Color → List ℕ
color_map_bytes first colors = color_map_head first (length colors) ++ flat_map color_bytes colors

-- Bell: type 2 alone (section 7.6.3)
abbrev pub bell_bytes : List ℕ
bell_bytes = 2 ∷ []

-- a cut text of either side: its type, three bytes of padding, the text's length, and the text
-- (sections 7.5.6 and 7.6.4)
abbrev pub text_head : ℕ → ℕ → List ℕ
text_head kind n = kind ∷ 0 ∷ 0 ∷ 0 ∷ u32_bytes n

abbrev pub text_bytes : ℕ → List ℕ → List ℕ
text_bytes kind text = text_head kind (length text) ++ text

-- ServerCutText: type 3 (section 7.6.4)
abbrev pub server_cut_text_bytes : List ℕ → List ℕ
server_cut_text_bytes = text_bytes 3

-- KeyEvent: type 4, the down-flag, two bytes of padding, and the key (section 7.5.4)
abbrev pub key_event_bytes : Bool → ℕ → List ℕ
key_event_bytes down key = 4 ∷ flag down ∷ 0 ∷ 0 ∷ u32_bytes key

-- PointerEvent: type 5, the button-mask, x and y (section 7.5.5)
abbrev pub pointer_event_bytes : ℕ → ℕ → ℕ → List ℕ
pointer_event_bytes mask x y = 5 ∷ mask ∷ x / 256 ∷ x % 256 ∷ y / 256 ∷ y % 256 ∷ []

-- ClientCutText: type 6
abbrev pub client_cut_text_bytes : List ℕ → List ℕ
client_cut_text_bytes = text_bytes 6
