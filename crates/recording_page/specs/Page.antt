-- What a page holds that is being written.
use Rattle.std.specs.Prelude.{ℕ, List, ◌∷◌, ◌++◌, length, drop, Option, None, Some}
use Rattle.std.specs.Option.{option_map}
use Rattle.std.specs.Result.{result_ok}
use Rattle.std.specs.Io.KnownBytes.{Keeps, append_known}
use Rattle.base64.specs.Engines.{standard}
use Rattle.base64.specs.GeneralPurpose.{IsBytes, decode_of, encode_of}

-- A page as one list, of which writing appends to the end: how many bytes stand before those that
-- are in base64, these, and those that are. No two pages have the same.
abbrev pub page_of : List ℕ → List ℕ → List ℕ
page_of before bytes = length before ∷ (before ++ bytes)

-- the page that a writer will hold, which held these bytes before
abbrev pub page_in : List ℕ → Option (List ℕ) → Option (List ℕ)
page_in before None = None
page_in before (Some text) = option_map (page_of before) (result_ok (decode_of standard (drop (length before) text)))

-- the same, if they are known
abbrev pub page_after : Option (List ℕ) → Option (List ℕ) → Option (List ℕ)
page_after None text = None
page_after (Some before) text = page_in before text

-- These bytes were written into a page: its writer, which held others before, has them at the end,
-- and what follows them.
pub record Has (before : Option (List ℕ)) (finished : List ℕ → Option (List ℕ)) (bytes : List ℕ) : Type 0 where
  pub all : IsBytes bytes
  pub ends : (rest : List ℕ) → Keeps (append_known before (encode_of standard (bytes ++ rest))) (finished rest)

abbrev pub IsPage : Option (List ℕ) → (List ℕ → Option (List ℕ)) → Type 0
IsPage before finished = (bytes : List ℕ) × Has before finished bytes
