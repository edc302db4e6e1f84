-- What a recorded message of a host is (RFC 6143, sections 7.6 and 7.7): a relation between the
-- size of a screen, the message's bytes, and the offsets of its rectangles in them.
use Rattle.std.specs.Prelude.{◌≡◌, ℕ, ◌+◌, ◌*◌, ◌≤◌, List, [], ◌∷◌, ◌++◌, length, max, ◌⊎◌}
use Rattle.pixel_format.specs.Format.{host_format}
use Rattle.terms.specs.Area.{LiesWithin}
use Rattle.terms.specs.Number.{u32_at}
use Rattle.rfb_wire.specs.declared.message.Rectangle.{Rectangle}
use Rattle.rect_data.specs.Data.{number_of, AreData}
use Rattle.rfb_wire.specs.Grammar.{area_of, encoding_number, text_limit}

-- A rectangle that begins at an offset of its message: a header of 12 bytes, which names an area
-- within the screen and an encoding, and the data (section 7.6.1).
pub record IsRectangle (width height at : ℕ) (r : Rectangle) (bytes : List ℕ) : Type 0 where
  pub header : List ℕ
  pub content : List ℕ
  pub bytes_are : bytes ≡ header ++ content
  pub header_length : length header ≡ 12
  pub area_is : r.area ≡ area_of header
  pub encoding_is : number_of r.encoding ≡ encoding_number header
  pub within : LiesWithin width height r.area
  pub content_is : AreData host_format width height r.encoding r.area content
  pub start_is : r.start ≡ at + 12
  pub end_is : r.end ≡ r.start + length content

-- rectangles one after the other
abbrev pub AreRectangles : ℕ → ℕ → ℕ → List Rectangle → List ℕ → Type 0
AreRectangles width height at [] bytes = bytes ≡ []
AreRectangles width height at (r ∷ rs) bytes =
    (first : List ℕ) × (rest : List ℕ) × (bytes ≡ first ++ rest)
    × IsRectangle width height at r first × AreRectangles width height r.end rs rest

-- FramebufferUpdate: type 0, a byte of padding, the number of rectangles, and the rectangles
-- (section 7.6.1)
pub record IsUpdate (width height : ℕ) (bytes : List ℕ) (rs : List Rectangle) : Type 0 where
  pub padding : ℕ
  pub high : ℕ
  pub low : ℕ
  pub body : List ℕ
  pub count_is : length rs ≡ 256 * high + low
  pub bytes_are : bytes ≡ 0 ∷ padding ∷ high ∷ low ∷ body
  pub body_is : AreRectangles width height 4 rs body

-- Bell: type 2 alone (section 7.6.3)
abbrev pub IsBell : List ℕ → Type 0
IsBell bytes = bytes ≡ 2 ∷ []

-- ServerCutText: type 3, three bytes of padding, the text's length in four bytes, and the text
-- (section 7.6.4). Longer ones are not recorded.
pub record IsCutText (bytes : List ℕ) : Type 0 where
  pub head : List ℕ
  pub text : List ℕ
  pub bytes_are : bytes ≡ 3 ∷ (head ++ text)
  pub head_length : length head ≡ 7
  pub text_length : length text ≡ u32_at head 3
  pub text_short : length text ≤ text_limit

-- an update of at most so many bytes, a bell, or a short text; what is no update has no rectangles
abbrev pub IsKind : ℕ → ℕ → ℕ → List ℕ → List Rectangle → Type 0
IsKind limit width height bytes rs =
    (IsUpdate width height bytes rs × (length bytes ≤ limit)) ⊎ ((rs ≡ []) × (IsBell bytes ⊎ IsCutText bytes))

-- a recorded message, with at most so many bytes if it is an update
pub record IsMessage (limit width height : ℕ) (bytes : List ℕ) (rs : List Rectangle) : Type 0 where
  pub kind : IsKind limit width height bytes rs
  pub short : length bytes ≤ max limit 65544
