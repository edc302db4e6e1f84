-- Reading the words of a line from the first to the last.
use Rattle.std.specs.Prelude.{◌≡◌, ◌⊎◌, ℕ, ◌^◌, ◌==◌, List, [], ◌∷◌, ◌++◌, length, codes, Option, Some, None, option_and_then, Result, Ok, Err, if◌then◌else◌}
use Rattle.std.specs.List.{slice_split, list_any}
use Rattle.std.specs.Str.{bytes_eq}
use Rattle.hex.specs.Hex.{decode_of, decode_sized}
use Rattle.hex.specs.declared.error.FromHexError.{FromHexError}
use Rattle.drill_script.specs.declared.fault.LineFault.{LineFault}
use Rattle.drill_script.specs.declared.fault.LineFault.TheVariants.{Bad, NoMemory}
use Rattle.drill_script.specs.declared.words.Kind.{Kind}
use Rattle.drill_script.specs.declared.words.Kind.TheVariants as kind
use Rattle.drill_script.specs.declared.line.Fill.{Fill}
use Rattle.drill_script.specs.declared.line.Fill.TheVariants as fills
use Rattle.drill_script.specs.declared.line.Start.{Start}
use Rattle.drill_script.specs.declared.line.Start.TheVariants as starts
use Rattle.drill_script.specs.declared.line.Line.{Line}
use Rattle.drill_script.specs.Grammar.{Command, command_of, NewCommand, HostCommand, TakeCommand, BodyCommand, GateCommand, OpenCommand, PixelCommand, FailCommand, StopCommand, JoinCommand, NextCommand, SeekCommand, LeaveCommand}
use Rattle.terms.specs.Decimal.{number_of}
use Rattle.terms.specs.declared.format.Format.{Format}
use Rattle.terms.specs.declared.format.Format.TheVariants.{One, Two}

-- What a call that takes no memory answered, seen by view, and the words that it left, are what
-- reading gives.
abbrev pub Reads : {A B : Type 0} → (A → B) → Result A LineFault → List (List ℕ) → Option (B × List (List ℕ)) → Type 0
Reads view (Ok x) after read = read ≡ Some (view x, after)
Reads view (Err Bad) after read = read ≡ None
Reads view (Err NoMemory) after read = ⊥

-- The same of a call that takes memory, and may find none.
abbrev pub ReadsInMemory : {A B : Type 0} → (A → B) → Result A LineFault → List (List ℕ) → Option (B × List (List ℕ)) → Type 0
ReadsInMemory view (Ok x) after read = read ≡ Some (view x, after)
ReadsInMemory view (Err Bad) after read = read ≡ None
ReadsInMemory view (Err NoMemory) after read = Unit {0}

-- What reading a whole line answered is what its words say.
abbrev pub GivesLine : Result Line LineFault → Option Command → Type 0
GivesLine (Ok line) read = read ≡ Some (command_of line)
GivesLine (Err Bad) read = read ≡ None
GivesLine (Err NoMemory) read = Unit {0}

infixl 10 ◌>>=◌
abbrev pub ◌>>=◌ : {A B : Type 0} → Option A → (A → Option B) → Option B
o >>= f = option_and_then f o

-- the parts of a text that spaces part, an empty one when two of them meet
abbrev pub parts : List ℕ → List (List ℕ)
parts text = slice_split (λ byte. byte == 32) text

-- the next word, and the parts after it
abbrev pub word_at : List (List ℕ) → Option (List ℕ × List (List ℕ))
word_at [] = None
word_at ([] ∷ rest) = None
word_at ((byte ∷ bytes) ∷ rest) = Some (byte ∷ bytes, rest)

-- the next word, as what it's read
unfoldable pub read_at : {A : Type 0} → (List ℕ → Option A) → List (List ℕ) → Option (A × List (List ℕ))
read_at reads words = do
  word ← word_at words
  it ← reads word.0
  Some (it, word.1)

-- the next word, a number below the limit
abbrev pub number_at : ℕ → List (List ℕ) → Option (ℕ × List (List ℕ))
number_at limit words = read_at (number_of limit) words

-- the next word, a name
unfoldable pub name_at : List (List ℕ) → Option (List ℕ × List (List ℕ))
name_at words = do
  word ← word_at words
  if list_any (λ byte. byte == 10) word.0 then None else Some word

-- all the words that are left, joined
unfoldable pub joined_at : List (List ℕ) → Option (List ℕ × List (List ℕ))
joined_at [] = Some ([], [])
joined_at ([] ∷ rest) = None
joined_at ((byte ∷ bytes) ∷ rest) = do
  after ← joined_at rest
  Some ((byte ∷ bytes) ++ after.0, after.1)

-- what decoding hexadecimal digits gave, if anything
abbrev pub spelled_by : Result (List ℕ) FromHexError → Option (List ℕ)
spelled_by (Ok bytes) = Some bytes
spelled_by (Err fault) = None

-- the bytes that the words left spell, one word or more
unfoldable pub hex_at : List (List ℕ) → Option (List ℕ × List (List ℕ))
hex_at words = do
  digits ← joined_at words
  bytes ← (if length digits.0 == 0 then None else spelled_by (decode_of digits.0))
  Some (bytes, digits.1)

-- what a line of a kind begins with
abbrev pub keyword : Kind → List ℕ
keyword kind.New = codes "new"
keyword kind.NewChained = codes "new2"
keyword kind.Host = codes "host"
keyword kind.Take = codes "take"
keyword kind.Body = codes "body"
keyword kind.Gate = codes "gate"
keyword kind.Open = codes "open"
keyword kind.Pixel = codes "pixel"
keyword kind.Fail = codes "fail"
keyword kind.Stop = codes "stop"
keyword kind.Join = codes "join"
keyword kind.Next = codes "next"
keyword kind.Seek = codes "seek"
keyword kind.Leave = codes "leave"

-- the first of these kinds that a word begins
abbrev pub kind_among : List Kind → List ℕ → Option Kind
kind_among [] word = None
kind_among (it ∷ others) word = if bytes_eq word (keyword it) then Some it else kind_among others word

-- the kinds of lines
abbrev pub kinds : List Kind
kinds = kind.New ∷ kind.NewChained ∷ kind.Host ∷ kind.Take ∷ kind.Body ∷ kind.Gate ∷ kind.Open ∷ kind.Pixel ∷ kind.Fail ∷ kind.Stop ∷ kind.Join ∷ kind.Next ∷ kind.Seek ∷ kind.Leave ∷ []

-- the kind of line that begins with a word
unfoldable pub kind_by : List ℕ → Option Kind
kind_by word = kind_among kinds word

-- what follows `new`, or `new2`, for a recording of this format
unfoldable pub new_at : Format → List (List ℕ) → Option (Command × List (List ℕ))
new_at format words = do
  width ← number_at (2 ^ 16) words
  height ← number_at (2 ^ 16) width.1
  key_interval ← number_at (2 ^ 16) height.1
  name ← name_at key_interval.1
  Some (NewCommand format width.0 height.0 key_interval.0 name.0, name.1)

-- what follows `host`, all the words that are left
unfoldable pub host_at : List (List ℕ) → Option (Command × List (List ℕ))
host_at words = do
  time ← number_at (2 ^ 32) words
  bytes ← hex_at time.1
  Some (HostCommand time.0 bytes.0, bytes.1)

-- what follows `pixel`
unfoldable pub pixel_at : List (List ℕ) → Option (Command × List (List ℕ))
pixel_at words = do
  count ← number_at (2 ^ 64) words
  x ← number_at (2 ^ 16) count.1
  y ← number_at (2 ^ 16) x.1
  Some (PixelCommand count.0 x.0 y.0, y.1)

-- the byte that decoding into room for one byte gave, if it gave any
abbrev pub byte_told : Result (List ℕ) FromHexError → Option Fill
byte_told (Ok []) = None
byte_told (Ok (byte ∷ [])) = Some (fills.Byte byte)
byte_told (Ok (byte ∷ next ∷ rest)) = None
byte_told (Err fault) = None

-- the fill that a word names
unfoldable pub fill_of : List ℕ → Option Fill
fill_of word =
    if bytes_eq word (codes "held") then Some fills.Held
    else if bytes_eq word (codes "now") then Some fills.Now
    else byte_told (decode_sized word 1)

-- the start that a word names
unfoldable pub start_of : List ℕ → Option Start
start_of word = if bytes_eq word (codes "live") then Some starts.Live else (number_of (2 ^ 64) word >>= λ count. Some (starts.At count))

-- what follows the first word of a line of two words, and of one of three
unfoldable pub one_at : {A : Type 0} → (List ℕ → Option A) → (A → Command) → List (List ℕ) → Option (Command × List (List ℕ))
one_at reads say words = do
  it ← read_at reads words
  Some (say it.0, it.1)

unfoldable pub two_at : {A B : Type 0} → (List ℕ → Option A) → (List ℕ → Option B) → (A → B → Command) → List (List ℕ) → Option (Command × List (List ℕ))
two_at reads others say words = do
  it ← read_at reads words
  other ← read_at others it.1
  Some (say it.0 other.0, other.1)

-- what follows a line's first word, and the words that it leaves
abbrev pub rest_at : Kind → List (List ℕ) → Option (Command × List (List ℕ))
rest_at kind.New words = new_at One words
rest_at kind.NewChained words = new_at Two words
rest_at kind.Host words = host_at words
rest_at kind.Take words = Some (TakeCommand, words)
rest_at kind.Body words = Some (BodyCommand, words)
rest_at kind.Gate words = Some (GateCommand, words)
rest_at kind.Open words = Some (OpenCommand, words)
rest_at kind.Pixel words = pixel_at words
rest_at kind.Fail words = one_at (number_of (2 ^ 64)) (λ calls. FailCommand calls) words
rest_at kind.Stop words = two_at (number_of (2 ^ 64)) fill_of (λ calls fill. StopCommand calls fill) words
rest_at kind.Join words = one_at start_of (λ start. JoinCommand start) words
rest_at kind.Next words = two_at (number_of (2 ^ 32)) (number_of (2 ^ 32)) (λ seat limit. NextCommand seat limit) words
rest_at kind.Seek words = two_at (number_of (2 ^ 32)) (number_of (2 ^ 64)) (λ seat count. SeekCommand seat count) words
rest_at kind.Leave words = one_at (number_of (2 ^ 32)) (λ seat. LeaveCommand seat) words

-- a line of this kind takes memory
abbrev pub KindTakesMemory : Kind → Type 0
KindTakesMemory it = (it ≡ kind.New) ⊎ (it ≡ kind.NewChained) ⊎ (it ≡ kind.Host)

-- a whole line leaves no word
abbrev pub ended : Command × List (List ℕ) → Option Command
ended (command, []) = Some command
ended (command, word ∷ words) = None

-- what a line of these words says
unfoldable pub command_at : List (List ℕ) → Option Command
command_at words = do
  first ← word_at words
  kind ← kind_by first.0
  said ← rest_at kind first.1
  ended said
