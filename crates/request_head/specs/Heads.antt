-- Which heads of a request are sound (RFC 9112, sections 2.1, 3 and 5), and what begins one.
use Rattle.std.specs.Prelude.{ℕ, List, [], ◌++◌, take, IsAscii}
use Rattle.httparse.specs.Grammar.{ReadsRequest, RequestHead}

-- no head is longer, in bytes
abbrev pub longest_head : ℕ
longest_head = 8192

-- as many of the bytes as a head may have
abbrev pub front_of : List ℕ → List ℕ
front_of bytes = take longest_head bytes

-- no head has more fields: each has a name of a byte at least, a colon, and the end of a line
abbrev pub most_fields : ℕ
most_fields = 2731

-- The bytes are a sound head and then a rest: a request line of a method, a target and a version of
-- HTTP/1, fields, and an empty line, as the grammar of `httparse` has them. A target has only
-- characters of a URI, which are of ASCII (RFC 3986, section 2).
abbrev pub ReadsHead : List ℕ → RequestHead → List ℕ → Type 0
ReadsHead bytes head rest = ReadsRequest bytes head rest × IsAscii head.target

-- no sound head is at their front
abbrev pub HasNoHead : List ℕ → Type 0
HasNoHead bytes = (head : RequestHead) (rest : List ℕ) → ReadsHead bytes head rest → ⊥

-- no sound head is at their front, whatever follows
abbrev pub NeverHasHead : List ℕ → Type 0
NeverHasHead bytes = (more : List ℕ) → HasNoHead (bytes ++ more)

-- what follows can make them a sound head
abbrev pub BeginsHead : List ℕ → Type 0
BeginsHead bytes = (more : List ℕ) × (head : RequestHead) × ReadsHead (bytes ++ more) head []

-- the beginning of a sound head, which isn't whole
pub record IsBeginning (bytes : List ℕ) : Type 0 where
  pub begins : BeginsHead bytes
  pub is_not_whole : HasNoHead bytes
