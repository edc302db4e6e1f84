-- Which encodings updates are written in, and how a viewer's list asks for one.
use Rattle.std.specs.Prelude.{◌≡◌, ℤ, pos, All, List, ◌∷◌, ◌++◌}
use Rattle.rect_data.specs.declared.encoding.Encoding.{Encoding}
use Rattle.rect_data.specs.declared.encoding.Encoding.TheVariants as encodings
use Rattle.rect_data.specs.Data.{number_of}

-- one whose data say by themselves what each pixel is: any but CopyRect (RFC 6143, section 7.7.2)
abbrev pub IsWritten : Encoding → Type 0
IsWritten encoding = encoding ≡ encodings.CopyRect → ⊥

-- the number is that of none of them
abbrev pub IsOther : ℤ → Type 0
IsOther number = (encoding : Encoding) → IsWritten encoding → number ≡ pos (number_of encoding) → ⊥

-- the encoding's number stands in the list, and none of theirs before it
pub record StandsFirst (numbers : List ℤ) (encoding : Encoding) : Type 0 where
  pub written : IsWritten encoding
  pub before : List ℤ
  pub following : List ℤ
  pub numbers_are : numbers ≡ before ++ pos (number_of encoding) ∷ following
  pub others : All IsOther before
