-- The lines of a drill script: what a text has to be to say one.
use Rattle.std.specs.Prelude.{◌≡◌, ◌≢◌, ◌⊎◌, ℕ, ◌^◌, ◌<◌, ◌==◌, List, [], ◌∷◌, codes, Ok}
use Rattle.std.specs.List.{AllByRecursion, before_first, concat, join_with_byte}
use Rattle.std.specs.Char.{IsAsciiDigit}
use Rattle.hex.specs.Hex.{decode_of, decode_sized}
use Rattle.terms.specs.Decimal.{decimal}
use Rattle.terms.specs.declared.format.Format.{Format}
use Rattle.terms.specs.declared.format.Format.TheVariants.{One, Two}
use Rattle.drill_script.specs.declared.line.Fill.{Fill}
use Rattle.drill_script.specs.declared.line.Fill.TheVariants as fill
use Rattle.drill_script.specs.declared.line.Start.{Start}
use Rattle.drill_script.specs.declared.line.Start.TheVariants as start
use Rattle.drill_script.specs.declared.line.Line.{Line}
use Rattle.drill_script.specs.declared.line.Line.TheVariants as line
use Rattle.drill_script.specs.declared.line.DeskLine.{DeskLine}
use Rattle.drill_script.specs.declared.line.DeskLine.TheVariants as desk

-- what a line says; its bytes are lists, wherever they lie in memory
pub data Command : Type 0 where
  NewCommand : (format : Format) (width height key_interval : ℕ) (name : List ℕ) → Command
  HostCommand : (time : ℕ) (bytes : List ℕ) → Command
  TakeCommand : Command
  BodyCommand : Command
  GateCommand : Command
  OpenCommand : Command
  PixelCommand : (count x y : ℕ) → Command
  FailCommand : (calls : ℕ) → Command
  StopCommand : (calls : ℕ) (fill : Fill) → Command
  JoinCommand : (start : Start) → Command
  NextCommand : (seat limit : ℕ) → Command
  SeekCommand : (seat count : ℕ) → Command
  LeaveCommand : (seat : ℕ) → Command

-- what a line that was read says
abbrev pub command_on_desk : DeskLine → Command
command_on_desk (desk.Host time bytes) = HostCommand time bytes.items
command_on_desk desk.Take = TakeCommand
command_on_desk desk.Body = BodyCommand
command_on_desk desk.Gate = GateCommand
command_on_desk (desk.Pixel count x y) = PixelCommand count x y
command_on_desk (desk.Fail calls) = FailCommand calls
command_on_desk (desk.Stop calls fill) = StopCommand calls fill
command_on_desk (desk.Join start) = JoinCommand start
command_on_desk (desk.Next seat limit) = NextCommand seat limit
command_on_desk (desk.Seek seat count) = SeekCommand seat count
command_on_desk (desk.Leave seat) = LeaveCommand seat

abbrev pub command_of : Line → Command
command_of (line.New format size key_interval name) = NewCommand format size.width size.height key_interval name.items
command_of line.Open = OpenCommand
command_of (line.OnDesk it) = command_on_desk it

-- a word: one byte or more, and no space
abbrev pub IsWord : List ℕ → Type 0
IsWord word = (word ≢ []) × AllByRecursion (λ byte. byte ≢ 32) word

-- the text is these words, with single spaces between them
pub record IsTextOf (words : List (List ℕ)) (text : List ℕ) : Type 0 where
  pub some : words ≢ []
  pub each : AllByRecursion IsWord words
  pub joined : join_with_byte 32 words ≡ text

-- a number below a limit: decimal digits alone, one or more
pub record IsNumber (limit : ℕ) (word : List ℕ) (n : ℕ) : Type 0 where
  pub some : word ≢ []
  pub digits : AllByRecursion IsAsciiDigit word
  pub value : decimal word ≡ n
  pub fits : n < limit

-- a name is one word, of any bytes but a newline
abbrev pub IsName : List ℕ → Type 0
IsName name = AllByRecursion (λ byte. byte ≢ 10) name

-- one word of hexadecimal digits or more, which spell the bytes once they are joined
pub record IsHex (words : List (List ℕ)) (bytes : List ℕ) : Type 0 where
  pub some : words ≢ []
  pub spelled : decode_of (concat words) ≡ Ok bytes

-- the name of a fill, or two hexadecimal digits, which spell the byte
abbrev pub IsFill : List ℕ → Fill → Type 0
IsFill word fill.Held = word ≡ codes "held"
IsFill word fill.Now = word ≡ codes "now"
IsFill word (fill.Byte byte) = decode_sized word 1 ≡ Ok (byte ∷ [])

-- `live`, or a count of messages
abbrev pub IsStart : List ℕ → Start → Type 0
IsStart word start.Live = word ≡ codes "live"
IsStart word (start.At count) = IsNumber (2 ^ 64) word count

-- the first word of a line for a new recording, by its format
abbrev pub new_word : Format → List ℕ
new_word One = codes "new"
new_word Two = codes "new2"

-- the words say the command
abbrev pub Says : List (List ℕ) → Command → Type 0
Says words (NewCommand format width height key_interval name) =
    (w : List ℕ) × (h : List ℕ) × (k : List ℕ) × (words ≡ new_word format ∷ w ∷ h ∷ k ∷ name ∷ [])
    × IsNumber (2 ^ 16) w width × IsNumber (2 ^ 16) h height × IsNumber (2 ^ 16) k key_interval × IsName name
Says words (HostCommand time bytes) =
    (t : List ℕ) × (hex : List (List ℕ)) × (words ≡ codes "host" ∷ t ∷ hex) × IsNumber (2 ^ 32) t time × IsHex hex bytes
Says words TakeCommand = words ≡ codes "take" ∷ []
Says words BodyCommand = words ≡ codes "body" ∷ []
Says words GateCommand = words ≡ codes "gate" ∷ []
Says words OpenCommand = words ≡ codes "open" ∷ []
Says words (PixelCommand count x y) =
    (n : List ℕ) × (column : List ℕ) × (row : List ℕ) × (words ≡ codes "pixel" ∷ n ∷ column ∷ row ∷ [])
    × IsNumber (2 ^ 64) n count × IsNumber (2 ^ 16) column x × IsNumber (2 ^ 16) row y
Says words (FailCommand calls) = (n : List ℕ) × (words ≡ codes "fail" ∷ n ∷ []) × IsNumber (2 ^ 64) n calls
Says words (StopCommand calls fill) =
    (n : List ℕ) × (f : List ℕ) × (words ≡ codes "stop" ∷ n ∷ f ∷ []) × IsNumber (2 ^ 64) n calls × IsFill f fill
Says words (JoinCommand start) = (w : List ℕ) × (words ≡ codes "join" ∷ w ∷ []) × IsStart w start
Says words (NextCommand seat limit) =
    (s : List ℕ) × (l : List ℕ) × (words ≡ codes "next" ∷ s ∷ l ∷ []) × IsNumber (2 ^ 32) s seat × IsNumber (2 ^ 32) l limit
Says words (SeekCommand seat count) =
    (s : List ℕ) × (n : List ℕ) × (words ≡ codes "seek" ∷ s ∷ n ∷ []) × IsNumber (2 ^ 32) s seat × IsNumber (2 ^ 64) n count
Says words (LeaveCommand seat) = (s : List ℕ) × (words ≡ codes "leave" ∷ s ∷ []) × IsNumber (2 ^ 32) s seat

-- the text spells the command: its words say it
abbrev pub Spells : List ℕ → Command → Type 0
Spells text command = (words : List (List ℕ)) × IsTextOf words text × Says words command

-- the first word: what stands before the first space
abbrev pub first_word : List ℕ → List ℕ
first_word text = before_first (λ byte. byte == 32) text

-- the text begins as a line that holds bytes, for which memory is taken
abbrev pub TakesMemory : List ℕ → Type 0
TakesMemory text = (first_word text ≡ codes "new") ⊎ (first_word text ≡ codes "new2") ⊎ (first_word text ≡ codes "host")
