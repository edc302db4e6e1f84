-- What a viewer's message is (RFC 6143, section 7.5): a relation between its bytes and the message.
use Rattle.std.specs.Prelude.{◌≡◌, ℕ, ℤ, ◌+◌, ◌*◌, ◌<◌, ◌⊎◌, Bool, List, [], ◌∷◌, ◌++◌, length, slice_index}
use Rattle.pixel_format.specs.Format.{Format, IsValid}
use Rattle.pixel_format.specs.Written.{format_of, is_flag}
use Rattle.terms.specs.declared.area.Area.{Area}
use Rattle.terms.specs.Area.{area_at}
use Rattle.terms.specs.Number.{u32_at}
use Rattle.terms.specs.Number.{signed}
use Rattle.client_wire.specs.declared.message_type.ClientMessageType.{ClientMessageType}
use Rattle.client_wire.specs.declared.message_type.ClientMessageType.TheVariants as types
use Rattle.client_wire.specs.declared.message.ClientMessage.{ClientMessage}
use Rattle.client_wire.specs.declared.message.ClientMessage.TheVariants as messages

-- SetPixelFormat: type 0, three bytes of padding, and the 16 bytes of a true-color format that is
-- valid (sections 7.5.1 and 7.4)
pub record IsSetPixelFormat (bytes : List ℕ) (f : Format) : Type 0 where
  pub padding : List ℕ
  pub format : List ℕ
  pub bytes_are : bytes ≡ 0 ∷ (padding ++ format)
  pub padding_length : length padding ≡ 3
  pub format_length : length format ≡ 16
  pub is : f ≡ format_of format
  pub true_color : 0 < slice_index format 3
  pub valid : IsValid f

-- signed numbers one after the other, of four bytes each
abbrev pub AreNumbers : List ℤ → List ℕ → Type 0
AreNumbers [] bytes = bytes ≡ []
AreNumbers (n ∷ ns) bytes = (four : List ℕ) × (rest : List ℕ) × (bytes ≡ four ++ rest) × (length four ≡ 4)
    × (n ≡ signed (u32_at four 0)) × AreNumbers ns rest

-- SetEncodings: type 2, a byte of padding, the number of encodings, and the number of each (section
-- 7.5.2)
pub record IsSetEncodings (bytes : List ℕ) (ns : List ℤ) : Type 0 where
  pub padding : ℕ
  pub high : ℕ
  pub low : ℕ
  pub list : List ℕ
  pub bytes_are : bytes ≡ 2 ∷ padding ∷ high ∷ low ∷ list
  pub count_is : length ns ≡ 256 * high + low
  pub list_is : AreNumbers ns list

-- FramebufferUpdateRequest: type 3, the incremental flag, x, y, width and height (section 7.5.3)
pub record IsRequest (bytes : List ℕ) (incremental : Bool) (area : Area) : Type 0 where
  pub flag : ℕ
  pub numbers : List ℕ
  pub bytes_are : bytes ≡ 3 ∷ flag ∷ numbers
  pub numbers_length : length numbers ≡ 8
  pub incremental_is : incremental ≡ is_flag flag
  pub area_is : area ≡ area_at numbers 0

-- KeyEvent: type 4, the down-flag, two bytes of padding, and four of the key (section 7.5.4)
abbrev pub IsKeyEvent : List ℕ → Type 0
IsKeyEvent bytes = (rest : List ℕ) × (bytes ≡ 4 ∷ rest) × (length rest ≡ 7)

-- PointerEvent: type 5, the button-mask, x and y (section 7.5.5)
abbrev pub IsPointerEvent : List ℕ → Type 0
IsPointerEvent bytes = (rest : List ℕ) × (bytes ≡ 5 ∷ rest) × (length rest ≡ 5)

-- ClientCutText: type 6, three bytes of padding, the text's length, and the text (section 7.5.6)
abbrev pub IsCutText : List ℕ → Type 0
IsCutText bytes = (head : List ℕ) × (text : List ℕ) × (bytes ≡ 6 ∷ (head ++ text)) × (length head ≡ 7) × (length text ≡ u32_at head 3)

-- an input message of this type
abbrev pub IsInput : List ℕ → ClientMessageType → Type 0
IsInput bytes type =
    ((type ≡ types.KeyEvent) × IsKeyEvent bytes)
    ⊎ (((type ≡ types.PointerEvent) × IsPointerEvent bytes) ⊎ ((type ≡ types.ClientCutText) × IsCutText bytes))

abbrev pub IsMessage : List ℕ → ClientMessage → Type 0
IsMessage bytes (messages.SetPixelFormat f) = IsSetPixelFormat bytes f
IsMessage bytes (messages.SetEncodings ns) = IsSetEncodings bytes ns
IsMessage bytes (messages.Request incremental area) = IsRequest bytes incremental area
IsMessage bytes (messages.Input type) = IsInput bytes type
