-- What words say is what they are read as.
use Rattle.std.proofs.Common.{◌≡◌, ◌≢◌, ℕ, ◌^◌, ◌<◌, true, false, eqb, List, [], ◌∷◌, ◌++◌, length, Option, Some, Ok, refl, sym, ap, ◌∙◌, inl, inr, arith}
use Rattle.std.specs.Char.{is_ascii_digit, IsAsciiDigit}
use Rattle.std.specs.List.{AllByRecursion, concat, list_all, list_any}
use Rattle.std.proofs.lemmas.Bool.{lt-ltb, ne_eqb, or_from}
use Rattle.std.proofs.lemmas.Bool.Decides.{nat_tests}
use Rattle.terms.specs.declared.format.Format.{Format}
use Rattle.terms.specs.declared.format.Format.TheVariants.{One, Two}
use Rattle.drill_script.specs.Grammar.{Command, NewCommand, HostCommand, TakeCommand, BodyCommand, GateCommand, OpenCommand, PixelCommand, FailCommand, StopCommand, JoinCommand, NextCommand, SeekCommand, LeaveCommand, IsNumber, IsName, IsHex, IsFill, IsStart, Says}
use Rattle.terms.specs.Decimal.{decimal, number_of}
use Rattle.drill_script.specs.Reading.{number_at, name_at, joined_at, hex_at, kind_by, new_at, host_at, pixel_at, fill_of, start_of, read_at, one_at, two_at, command_at}
use Rattle.std.specs.Prelude.{codes}
use Rattle.std.specs.Str.{bytes_eq}
use Rattle.std.proofs.lemmas.Bool.{cases_Bool}
use Rattle.std.proofs.lemmas.Slice.Eq.{bytes_eq-Decides}
use Rattle.hex.specs.Hex.{decode_sized}
use Rattle.drill_script.specs.declared.line.Fill.{Fill}
use Rattle.drill_script.specs.declared.line.Fill.TheVariants as fills
use Rattle.drill_script.specs.declared.line.Start.{Start}
use Rattle.drill_script.specs.declared.line.Start.TheVariants as starts
use Rattle.drill_script.proofs.Taken.{AreSome}

digits_pass : (word : List ℕ) → AllByRecursion IsAsciiDigit word → list_all is_ascii_digit word ≡ true
digits_pass [] h = refl
digits_pass (c ∷ cs) h =
    let range = h.0 in
    let digit : is_ascii_digit c ≡ true = grind (arith, nat_tests) in
    rw (digit, digits_pass cs h.1) refl

number_written : (limit : ℕ) (word : List ℕ) (n : ℕ) → IsNumber limit word n → number_of limit word ≡ Some n
number_written limit [] n h = absurd (h.some refl)
number_written limit (c ∷ cs) n h =
    let value = h.value in
    let fits : decimal (c ∷ cs) < limit = omega arith in
    rw (digits_pass (c ∷ cs) h.digits, lt-ltb (decimal (c ∷ cs)) limit fits, value) refl

word_again : {A : Type 0} (Is : List ℕ → A → Type 0) (reads : List ℕ → Option A) → ((word : List ℕ) (it : A) → Is word it → reads word ≡ Some it)
    → (word : List ℕ) (it : A) (rest : List (List ℕ)) → word ≢ [] → Is word it → read_at reads (word ∷ rest) ≡ Some (it, rest)
unfolding read_at
word_again Is reads written [] it rest some is = absurd (some refl)
word_again Is reads written (c ∷ cs) it rest some is = rw (written (c ∷ cs) it is) refl

number_again : (limit : ℕ) (word : List ℕ) (n : ℕ) (rest : List (List ℕ)) → IsNumber limit word n → number_at limit (word ∷ rest) ≡ Some (n, rest)
number_again limit word n rest h = word_again (IsNumber limit) (number_of limit) (number_written limit) word n rest h.some h

newline_free : (word : List ℕ) → IsName word → list_any (λ byte. eqb byte 10) word ≡ false
newline_free [] h = refl
newline_free (c ∷ cs) h = or_from _ _ (ne_eqb c 10 h.0) (newline_free cs h.1)

name_again : (name : List ℕ) (rest : List (List ℕ)) → name ≢ [] → IsName name → name_at (name ∷ rest) ≡ Some (name, rest)
unfolding name_at
name_again [] rest some h = absurd (some refl)
name_again (c ∷ cs) rest some h = rw (newline_free (c ∷ cs) h) refl

joined_again : (words : List (List ℕ)) → AreSome words → joined_at words ≡ Some (concat words, [])
unfolding joined_at
joined_again [] h = refl
joined_again ([] ∷ ws) h = absurd (h.0 refl)
joined_again ((b ∷ bs) ∷ ws) h = rw (joined_again ws h.1) refl

long : (words : List (List ℕ)) → words ≢ [] → AreSome words → eqb (length (concat words)) 0 ≡ false
long [] some h = absurd (some refl)
long ([] ∷ ws) some h = absurd (h.0 refl)
long ((b ∷ bs) ∷ ws) some h = ne_eqb (length (b ∷ (bs ++ concat ws))) 0 (λ none. absurd (omega arith))

hex_again : (words : List (List ℕ)) (bytes : List ℕ) → AreSome words → IsHex words bytes → hex_at words ≡ Some (bytes, [])
unfolding hex_at
hex_again words bytes some h = rw (joined_again words some, long words h.some some, h.spelled) refl

new_again : (f : Format) (w h k name : List ℕ) (width height key_interval : ℕ) → IsNumber (2 ^ 16) w width → IsNumber (2 ^ 16) h height → IsNumber (2 ^ 16) k key_interval → name ≢ [] → IsName name
    → new_at f (w ∷ h ∷ k ∷ name ∷ []) ≡ Some (NewCommand f width height key_interval name, [])
unfolding new_at
new_again f w h k name width height key_interval a b d some e =
    rw (number_again (2 ^ 16) w width (h ∷ k ∷ name ∷ []) a, number_again (2 ^ 16) h height (k ∷ name ∷ []) b, number_again (2 ^ 16) k key_interval (name ∷ []) d, name_again name [] some e) refl

host_again : (t : List ℕ) (hex : List (List ℕ)) (time : ℕ) (bytes : List ℕ) → IsNumber (2 ^ 32) t time → AreSome hex → IsHex hex bytes → host_at (t ∷ hex) ≡ Some (HostCommand time bytes, [])
unfolding host_at
host_again t hex time bytes a some b = rw (number_again (2 ^ 32) t time hex a, hex_again hex bytes some b) refl

pixel_again : (n column row : List ℕ) (count x y : ℕ) → IsNumber (2 ^ 64) n count → IsNumber (2 ^ 16) column x → IsNumber (2 ^ 16) row y
    → pixel_at (n ∷ column ∷ row ∷ []) ≡ Some (PixelCommand count x y, [])
unfolding pixel_at
pixel_again n column row count x y a b d =
    rw (number_again (2 ^ 64) n count (column ∷ row ∷ []) a, number_again (2 ^ 16) column x (row ∷ []) b, number_again (2 ^ 16) row y [] d) refl

other_name : (word name : List ℕ) (byte : ℕ) → (decode_sized name 1 ≡ Ok (byte ∷ []) → ⊥) → decode_sized word 1 ≡ Ok (byte ∷ []) → bytes_eq word name ≡ false
other_name word name byte never spelled = elim (cases_Bool (bytes_eq word name)) [
  | inl is ↦ absurd (never (ap (λ w. decode_sized w 1) (sym ((bytes_eq-Decides word name).0 is)) ∙ spelled))
  | inr other ↦ other
]

fill_named : (word : List ℕ) (fill : Fill) → IsFill word fill → fill_of word ≡ Some fill
unfolding fill_of
fill_named word fills.Held is = rw is refl
fill_named word fills.Now is = rw is refl
fill_named word (fills.Byte byte) is =
    rw (other_name word (codes "held") byte (λ e. absurd cc) is, other_name word (codes "now") byte (λ e. absurd cc) is, is) refl

-- `live` is no number
not_live : (word : List ℕ) (count : ℕ) → IsNumber (2 ^ 64) word count → bytes_eq word (codes "live") ≡ false
not_live word count h = elim (cases_Bool (bytes_eq word (codes "live"))) [
  | inl is ↦ let digits = rw ((bytes_eq-Decides word (codes "live")).0 is) at h.digits in absurd (omega (arith, digits.0))
  | inr other ↦ other
]

start_named : (word : List ℕ) (start : Start) → IsStart word start → start_of word ≡ Some start
unfolding start_of
start_named word starts.Live is = rw is refl
start_named word (starts.At count) is = rw (not_live word count is, number_written (2 ^ 64) word count is) refl

one_again : {A : Type 0} (Is : List ℕ → A → Type 0) (reads : List ℕ → Option A) → ((word : List ℕ) (it : A) → Is word it → reads word ≡ Some it)
    → (say : A → Command) (word : List ℕ) (it : A) → word ≢ [] → Is word it → one_at reads say (word ∷ []) ≡ Some (say it, [])
unfolding one_at
one_again Is reads written say word it some is = rw (word_again Is reads written word it [] some is) refl

two_again : {A B : Type 0} (Is : List ℕ → A → Type 0) (reads : List ℕ → Option A) → ((word : List ℕ) (it : A) → Is word it → reads word ≡ Some it)
    → (Also : List ℕ → B → Type 0) (others : List ℕ → Option B) → ((word : List ℕ) (it : B) → Also word it → others word ≡ Some it)
    → (say : A → B → Command) (word other : List ℕ) (it : A) (also : B) → word ≢ [] → Is word it → other ≢ [] → Also other also
    → two_at reads others say (word ∷ other ∷ []) ≡ Some (say it also, [])
unfolding two_at
two_again Is reads written Also others also_written say word other it also some is also_some also_is =
    rw (word_again Is reads written word it (other ∷ []) some is, word_again Also others also_written other also [] also_some also_is) refl

-- the words say one command, as which they are read
pub command_again : (words : List (List ℕ)) (command : Command) → AreSome words → Says words command → command_at words ≡ Some command
unfolding command_at kind_by
command_again words (NewCommand One width height key_interval name) some says =
    let all = rw says.3 at some in
    rw says.3 (rw (new_again One says.0 says.1 says.2 name width height key_interval says.4 says.5 says.6 all.1.1.1.1.0 says.7) refl)
command_again words (NewCommand Two width height key_interval name) some says =
    let all = rw says.3 at some in
    rw says.3 (rw (new_again Two says.0 says.1 says.2 name width height key_interval says.4 says.5 says.6 all.1.1.1.1.0 says.7) refl)
command_again words (HostCommand time bytes) some says =
    let all = rw says.2 at some in
    rw says.2 (rw (host_again says.0 says.1 time bytes says.3 all.1.1 says.4) refl)
command_again words TakeCommand some says = rw says refl
command_again words BodyCommand some says = rw says refl
command_again words GateCommand some says = rw says refl
command_again words OpenCommand some says = rw says refl
command_again words (PixelCommand count x y) some says = rw says.3 (rw (pixel_again says.0 says.1 says.2 count x y says.4 says.5 says.6) refl)
command_again words (FailCommand calls) some says = rw says.1 (rw (one_again (IsNumber (2 ^ 64)) (number_of (2 ^ 64)) (number_written (2 ^ 64)) (λ calls. FailCommand calls) says.0 calls says.2.some says.2) refl)
command_again words (StopCommand calls fill) some says =
    let all = rw says.2 at some in
    rw says.2 (rw (two_again (IsNumber (2 ^ 64)) (number_of (2 ^ 64)) (number_written (2 ^ 64)) IsFill fill_of fill_named (λ calls fill. StopCommand calls fill) says.0 says.1 calls fill says.3.some says.3 all.1.1.0 says.4) refl)
command_again words (JoinCommand start) some says =
    let all = rw says.1 at some in
    rw says.1 (rw (one_again IsStart start_of start_named (λ start. JoinCommand start) says.0 start all.1.0 says.2) refl)
command_again words (NextCommand seat limit) some says = rw says.2 (rw (two_again (IsNumber (2 ^ 32)) (number_of (2 ^ 32)) (number_written (2 ^ 32)) (IsNumber (2 ^ 32)) (number_of (2 ^ 32)) (number_written (2 ^ 32)) (λ seat limit. NextCommand seat limit) says.0 says.1 seat limit says.3.some says.3 says.4.some says.4) refl)
command_again words (SeekCommand seat count) some says = rw says.2 (rw (two_again (IsNumber (2 ^ 32)) (number_of (2 ^ 32)) (number_written (2 ^ 32)) (IsNumber (2 ^ 64)) (number_of (2 ^ 64)) (number_written (2 ^ 64)) (λ seat count. SeekCommand seat count) says.0 says.1 seat count says.3.some says.3 says.4.some says.4) refl)
command_again words (LeaveCommand seat) some says = rw says.1 (rw (one_again (IsNumber (2 ^ 32)) (number_of (2 ^ 32)) (number_written (2 ^ 32)) (λ seat. LeaveCommand seat) says.0 seat says.2.some says.2) refl)
