-- What reading gives is what the words say.
use Rattle.std.proofs.Common.{◌≡◌, ◌≢◌, ℕ, ◌^◌, true, false, cond, eqb, ltb, List, [], ◌∷◌, ◌++◌, length, Option, Some, None, Result, Ok, Err, refl, sym, ap, subst, ◌∙◌, arith}
use Rattle.std.specs.Prelude.{codes}
use Rattle.std.specs.Char.{is_ascii_digit, IsAsciiDigit}
use Rattle.std.specs.List.{AllByRecursion, concat, list_all, list_any}
use Rattle.std.specs.Str.{bytes_eq}
use Rattle.std.proofs.lemmas.Bool.{and_parts, or_parts, ltb-true, eqb-false}
use Rattle.std.proofs.lemmas.Bool.Decides.{nat_tests}
use Rattle.std.proofs.lemmas.Option.{option_and_then_some, some_pair_parts, same_Some}
use Rattle.std.proofs.lemmas.Slice.Eq.{bytes_eq-Decides}
use Rattle.hex.specs.Hex.{decode_of, decode_sized}
use Rattle.drill_script.specs.declared.line.Fill.{Fill}
use Rattle.drill_script.specs.declared.line.Fill.TheVariants as fills
use Rattle.drill_script.specs.declared.line.Start.{Start}
use Rattle.drill_script.specs.declared.line.Start.TheVariants as starts
use Rattle.hex.specs.declared.error.FromHexError.{FromHexError}
use Rattle.drill_script.specs.declared.words.Kind.{Kind}
use Rattle.drill_script.specs.declared.words.Kind.TheVariants as kind
use Rattle.terms.specs.declared.format.Format.{Format}
use Rattle.terms.specs.declared.format.Format.TheVariants.{One, Two}
use Rattle.drill_script.specs.Grammar.{Command, new_word, NewCommand, HostCommand, TakeCommand, BodyCommand, GateCommand, OpenCommand, PixelCommand, FailCommand, StopCommand, JoinCommand, NextCommand, SeekCommand, LeaveCommand, IsNumber, IsName, IsHex, IsFill, IsStart, Says}
use Rattle.terms.specs.Decimal.{decimal, number_of}
use Rattle.drill_script.specs.Reading.{◌>>=◌, word_at, number_at, name_at, joined_at, spelled_by, hex_at, kind_by, kind_among, kinds, keyword, new_at, host_at, pixel_at, byte_told, fill_of, start_of, read_at, one_at, two_at, rest_at, ended, command_at}
use Rattle.drill_script.proofs.Steps.{bind_some, test_some, test_none, chosen}

-- no word is empty
abbrev pub AreSome : List (List ℕ) → Type 0
AreSome words = AllByRecursion (λ word. word ≢ []) words

pub word_takes : (words : List (List ℕ)) (x : List ℕ × List (List ℕ)) → word_at words ≡ Some x → (words ≡ x.0 ∷ x.1) × (x.0 ≢ [])
word_takes [] x e = absurd cc
word_takes ([] ∷ rest) x e = absurd cc
word_takes ((b ∷ bs) ∷ rest) x e =
    let parts = some_pair_parts (b ∷ bs) x.0 rest x.1 e in
    (ap (λ (w : List ℕ). w ∷ rest) parts.0 ∙ ap (λ (r : List (List ℕ)). x.0 ∷ r) parts.1, λ none. let clash : b ∷ bs ≡ [] = parts.0 ∙ none in absurd cc)

-- the first word, and what the words after it are
then_words : (word : List ℕ) {words rest others : List (List ℕ)} → words ≡ word ∷ rest → rest ≡ others → words ≡ word ∷ others
then_words word first next = first ∙ ap (λ (r : List (List ℕ)). word ∷ r) next

-- ---- numbers

digits_are : (word : List ℕ) → list_all is_ascii_digit word ≡ true → AllByRecursion IsAsciiDigit word
digits_are [] p = tt
digits_are (c ∷ cs) p =
    let parts = and_parts (is_ascii_digit c) (list_all is_ascii_digit cs) p in
    let digit : is_ascii_digit c ≡ true = parts.0 in
    (grind (arith, nat_tests), digits_are cs parts.1)

number_is : (limit : ℕ) (word : List ℕ) (n : ℕ) → number_of limit word ≡ Some n → IsNumber limit word n
number_is limit [] n e = absurd cc
number_is limit (c ∷ cs) n e =
    let t = test_some _ (decimal (c ∷ cs)) n e in
    let parts = and_parts (list_all is_ascii_digit (c ∷ cs)) (ltb (decimal (c ∷ cs)) limit) t.0 in
    record { some = λ none. absurd cc; digits = digits_are (c ∷ cs) parts.0; value = t.1; fits = rw (← t.1) (ltb-true _ _ parts.1) }

-- the next word, which is a value in the words of the grammar
pub record TakesWord {A : Type 0} (Is : List ℕ → A → Type 0) (words : List (List ℕ)) (x : A × List (List ℕ)) : Type 0 where
  pub word : List ℕ
  pub first : words ≡ word ∷ x.1
  pub some : word ≢ []
  pub it : Is word x.0

word_read : {A : Type 0} (Is : List ℕ → A → Type 0) (reads : List ℕ → Option A) → ((word : List ℕ) (it : A) → reads word ≡ Some it → Is word it)
    → (words : List (List ℕ)) (x : A × List (List ℕ)) → read_at reads words ≡ Some x → TakesWord Is words x
unfolding read_at
word_read {A} Is reads sound words x e =
    let a = bind_some (word_at words) (λ word. reads word.0 >>= λ it. Some (it, word.1)) x e in
    let b = bind_some (reads a.0.0) (λ it. Some (it, a.0.1)) x a.2 in
    let parts = some_pair_parts b.0 x.0 a.0.1 x.1 b.2 in
    let w = word_takes words a.0 a.1 in
    record {
      word = a.0.0;
      first = w.0 ∙ ap (λ (r : List (List ℕ)). a.0.0 ∷ r) parts.1;
      some = w.1;
      it = subst (λ (it : A). Is a.0.0 it) parts.0 (sound a.0.0 b.0 b.1);
    }

number_takes : (limit : ℕ) (words : List (List ℕ)) (x : ℕ × List (List ℕ)) → number_at limit words ≡ Some x → TakesWord (IsNumber limit) words x
number_takes limit words x e = word_read (IsNumber limit) (number_of limit) (number_is limit) words x e

-- ---- names

no_newline : (word : List ℕ) → list_any (λ byte. eqb byte 10) word ≡ false → IsName word
no_newline [] p = tt
no_newline (c ∷ cs) p =
    let parts = or_parts (eqb c 10) (list_any (λ byte. eqb byte 10) cs) p in
    (eqb-false c 10 parts.0, no_newline cs parts.1)

pub record TakesName (words : List (List ℕ)) (x : List ℕ × List (List ℕ)) : Type 0 where
  pub first : words ≡ x.0 ∷ x.1
  pub some : x.0 ≢ []
  pub name : IsName x.0

pub name_takes : (words : List (List ℕ)) (x : List ℕ × List (List ℕ)) → name_at words ≡ Some x → TakesName words x
unfolding name_at
name_takes words x e =
    let a = bind_some (word_at words) (λ word. cond (list_any (λ byte. eqb byte 10) word.0) None (Some word)) x e in
    let t = test_none (list_any (λ byte. eqb byte 10) a.0.0) (Some a.0) x a.2 in
    let same : a.0 ≡ x = same_Some a.0 x t.1 in
    let w = word_takes words a.0 a.1 in
    subst (λ (y : List ℕ × List (List ℕ)). TakesName words y) same (record { first = w.0; some = w.1; name = no_newline a.0.0 t.0 })

-- ---- bytes

pub record TakesJoined (words : List (List ℕ)) (x : List ℕ × List (List ℕ)) : Type 0 where
  pub joined : concat words ≡ x.0
  pub rest : x.1 ≡ []
  pub some : AreSome words

pub joined_takes : (words : List (List ℕ)) (x : List ℕ × List (List ℕ)) → joined_at words ≡ Some x → TakesJoined words x
unfolding joined_at
joined_takes [] x e =
    let parts = some_pair_parts [] x.0 [] x.1 e in
    record { joined = parts.0; rest = sym parts.1; some = tt }
joined_takes ([] ∷ ws) x e = absurd cc
joined_takes ((b ∷ bs) ∷ ws) x e =
    let a = bind_some (joined_at ws) (λ after. Some ((b ∷ bs) ++ after.0, after.1)) x e in
    let parts = some_pair_parts ((b ∷ bs) ++ a.0.0) x.0 a.0.1 x.1 a.2 in
    let after = joined_takes ws a.0 a.1 in
    record {
      joined = ap (λ (r : List ℕ). (b ∷ bs) ++ r) after.joined ∙ parts.0;
      rest = sym parts.1 ∙ after.rest;
      some = (λ none. absurd cc, after.some);
    }

spelled_is : (r : Result (List ℕ) FromHexError) (bytes : List ℕ) → spelled_by r ≡ Some bytes → r ≡ Ok bytes
spelled_is (Ok found) bytes e = ap (λ (b : List ℕ). Ok b) (same_Some found bytes e)
spelled_is (Err fault) bytes e = absurd cc

pub record TakesHex (words : List (List ℕ)) (x : List ℕ × List (List ℕ)) : Type 0 where
  pub hex : IsHex words x.0
  pub rest : x.1 ≡ []
  pub some : AreSome words

pub hex_takes : (words : List (List ℕ)) (x : List ℕ × List (List ℕ)) → hex_at words ≡ Some x → TakesHex words x
unfolding hex_at
hex_takes words x e =
    let a = bind_some (joined_at words) (λ digits. cond (eqb (length digits.0) 0) None (spelled_by (decode_of digits.0)) >>= λ bytes. Some (bytes, digits.1)) x e in
    let b = bind_some (cond (eqb (length a.0.0) 0) None (spelled_by (decode_of a.0.0))) (λ bytes. Some (bytes, a.0.1)) x a.2 in
    let t = test_none (eqb (length a.0.0) 0) (spelled_by (decode_of a.0.0)) b.0 b.1 in
    let parts = some_pair_parts b.0 x.0 a.0.1 x.1 b.2 in
    let j = joined_takes words a.0 a.1 in
    record {
      hex = record {
        some = λ none. eqb-false (length a.0.0) 0 t.0 (ap length (sym j.joined ∙ ap concat none));
        spelled = rw j.joined (spelled_is (decode_of a.0.0) b.0 t.1 ∙ ap (λ (bs : List ℕ). Ok bs) parts.0);
      };
      rest = sym parts.1 ∙ j.rest;
      some = j.some;
    }

-- ---- fills

byte_is : (word : List ℕ) (r : Result (List ℕ) FromHexError) (fill : Fill) → decode_sized word 1 ≡ r → byte_told r ≡ Some fill → IsFill word fill
byte_is word (Ok []) fill e told = absurd cc
byte_is word (Ok (byte ∷ [])) fill e told = subst (λ f. IsFill word f) (same_Some (fills.Byte byte) fill told) e
byte_is word (Ok (byte ∷ next ∷ rest)) fill e told = absurd cc
byte_is word (Err fault) fill e told = absurd cc

name_is : (word name : List ℕ) (it fill : Fill) → (word ≡ name → IsFill word it) → bytes_eq word name ≡ true → Some it ≡ Some fill → IsFill word fill
name_is word name it fill named test same = subst (λ f. IsFill word f) (same_Some it fill same) (named ((bytes_eq-Decides word name).0 test))

fill_is : (word : List ℕ) (fill : Fill) → fill_of word ≡ Some fill → IsFill word fill
unfolding fill_of
fill_is word fill e =
    chosen (IsFill word fill) (bytes_eq word (codes "held")) (Some fills.Held) _ (Some fill) e (name_is word (codes "held") fills.Held fill (λ is. is))
    (λ _ other. chosen (IsFill word fill) (bytes_eq word (codes "now")) (Some fills.Now) _ (Some fill) other (name_is word (codes "now") fills.Now fill (λ is. is))
    (λ _ last. byte_is word (decode_sized word 1) fill refl last))

-- ---- starts

start_is : (word : List ℕ) (start : Start) → start_of word ≡ Some start → IsStart word start
unfolding start_of
start_is word start e =
    chosen (IsStart word start) (bytes_eq word (codes "live")) (Some starts.Live) _ (Some start) e
    (λ test same. subst (λ (s : Start). IsStart word s) (same_Some starts.Live start same) ((bytes_eq-Decides word (codes "live")).0 test))
    (λ _ other.
    let a = bind_some (number_of (2 ^ 64) word) (λ count. Some (starts.At count)) start other in
    subst (λ (s : Start). IsStart word s) (same_Some (starts.At a.0) start a.2) (number_is (2 ^ 64) word a.0 a.1))

-- ---- the first word

named : (word : List ℕ) (it kind : Kind) → bytes_eq word (keyword it) ≡ true → Some it ≡ Some kind → word ≡ keyword kind
named word it kind test e = (bytes_eq-Decides word (keyword it)).0 test ∙ ap keyword (same_Some it kind e)

one_named : (among : List Kind) (word : List ℕ) (kind : Kind) → kind_among among word ≡ Some kind → word ≡ keyword kind
one_named [] word kind e = absurd cc
one_named (it ∷ others) word kind e =
    chosen (word ≡ keyword kind) (bytes_eq word (keyword it)) (Some it) (kind_among others word) (Some kind) e (λ test same. named word it kind test same) (λ test same. one_named others word kind same)

pub kind_named : (word : List ℕ) (it : Kind) → kind_by word ≡ Some it → word ≡ keyword it
unfolding kind_by
kind_named word it e = one_named kinds word it e

-- ---- the rest of a line

-- a line that ended
pub ended_is : (x : Command × List (List ℕ)) (command : Command) → ended x ≡ Some command → (x.1 ≡ []) × (x.0 ≡ command)
ended_is (said, []) command e = (refl, same_Some said command e)
ended_is (said, word ∷ words) command e = absurd cc

-- the words say the command, and none of them is empty
abbrev pub Told : List (List ℕ) → Command → Type 0
Told words command = Says words command × AreSome words

new_tells : (f : Format) (w h k name : List ℕ) (width height key_interval : ℕ) → IsNumber (2 ^ 16) w width → IsNumber (2 ^ 16) h height → IsNumber (2 ^ 16) k key_interval → name ≢ [] → IsName name
    → Told (new_word f ∷ w ∷ h ∷ k ∷ name ∷ []) (NewCommand f width height key_interval name)
new_tells One w h k name width height key_interval a b c some d = ((w, h, k, refl, a, b, c, d), (λ empty. absurd cc, (a.some, (b.some, (c.some, (some, tt))))))
new_tells Two w h k name width height key_interval a b c some d = ((w, h, k, refl, a, b, c, d), (λ empty. absurd cc, (a.some, (b.some, (c.some, (some, tt))))))

host_tells : (t : List ℕ) (hex : List (List ℕ)) (time : ℕ) (bytes : List ℕ) → IsNumber (2 ^ 32) t time → IsHex hex bytes → AreSome hex → Told (codes "host" ∷ t ∷ hex) (HostCommand time bytes)
host_tells t hex time bytes a b some = ((t, hex, refl, a, b), (λ empty. absurd cc, (a.some, some)))

pixel_tells : (n column row : List ℕ) (count x y : ℕ) → IsNumber (2 ^ 64) n count → IsNumber (2 ^ 16) column x → IsNumber (2 ^ 16) row y
    → Told (codes "pixel" ∷ n ∷ column ∷ row ∷ []) (PixelCommand count x y)
pixel_tells n column row count x y a b c = ((n, column, row, refl, a, b, c), (λ empty. absurd cc, (a.some, (b.some, (c.some, tt)))))

-- words that are others, and a command that is another
told_at : (first : List ℕ) (words others : List (List ℕ)) (said command : Command) → words ≡ others → said ≡ command → Told (first ∷ others) said → Told (first ∷ words) command
told_at first words others said command same is told =
    subst (λ (ws : List (List ℕ)). Told (first ∷ ws) command) (sym same) (subst (λ (c : Command). Told (first ∷ others) c) is told)

new_told : (f : Format) (words : List (List ℕ)) (x : Command × List (List ℕ)) → new_at f words ≡ Some x → x.1 ≡ [] → Told (new_word f ∷ words) x.0
unfolding new_at
new_told f words x e none =
    option_and_then_some (λ width. number_at (2 ^ 16) width.1 >>= λ height. number_at (2 ^ 16) height.1 >>= λ key_interval. name_at key_interval.1 >>= λ name. Some (NewCommand f width.0 height.0 key_interval.0 name.0, name.1)) (number_at (2 ^ 16) words) x e (λ width is_width e_height.
    option_and_then_some (λ height. number_at (2 ^ 16) height.1 >>= λ key_interval. name_at key_interval.1 >>= λ name. Some (NewCommand f width.0 height.0 key_interval.0 name.0, name.1)) (number_at (2 ^ 16) width.1) x e_height (λ height is_height e_key_interval.
    option_and_then_some (λ key_interval. name_at key_interval.1 >>= λ name. Some (NewCommand f width.0 height.0 key_interval.0 name.0, name.1)) (number_at (2 ^ 16) height.1) x e_key_interval (λ key_interval is_key_interval e_name.
    option_and_then_some (λ name. Some (NewCommand f width.0 height.0 key_interval.0 name.0, name.1)) (name_at key_interval.1) x e_name (λ name is_name e_said.
    let w = number_takes (2 ^ 16) words width is_width in
    let h = number_takes (2 ^ 16) width.1 height is_height in
    let k = number_takes (2 ^ 16) height.1 key_interval is_key_interval in
    let n = name_takes key_interval.1 name is_name in
    let said = some_pair_parts (NewCommand f width.0 height.0 key_interval.0 name.0) x.0 name.1 x.1 e_said in
    let all = then_words w.word w.first (then_words h.word h.first (then_words k.word k.first (then_words name.0 n.first (said.1 ∙ none)))) in
    told_at (new_word f) words (w.word ∷ h.word ∷ k.word ∷ name.0 ∷ []) (NewCommand f width.0 height.0 key_interval.0 name.0) x.0 all said.0
    (new_tells f w.word h.word k.word name.0 width.0 height.0 key_interval.0 w.it h.it k.it n.some n.name)))))

host_told : (words : List (List ℕ)) (x : Command × List (List ℕ)) → host_at words ≡ Some x → x.1 ≡ [] → Told (codes "host" ∷ words) x.0
unfolding host_at
host_told words x e none =
    option_and_then_some (λ time. hex_at time.1 >>= λ bytes. Some (HostCommand time.0 bytes.0, bytes.1)) (number_at (2 ^ 32) words) x e (λ time is_time e_bytes.
    option_and_then_some (λ bytes. Some (HostCommand time.0 bytes.0, bytes.1)) (hex_at time.1) x e_bytes (λ bytes is_bytes e_said.
    let t = number_takes (2 ^ 32) words time is_time in
    let hex = hex_takes time.1 bytes is_bytes in
    let said = some_pair_parts (HostCommand time.0 bytes.0) x.0 bytes.1 x.1 e_said in
    told_at (codes "host") words (t.word ∷ time.1) (HostCommand time.0 bytes.0) x.0 t.first said.0 (host_tells t.word time.1 time.0 bytes.0 t.it hex.hex hex.some)))

pixel_told : (words : List (List ℕ)) (x : Command × List (List ℕ)) → pixel_at words ≡ Some x → x.1 ≡ [] → Told (codes "pixel" ∷ words) x.0
unfolding pixel_at
pixel_told words x e none =
    option_and_then_some (λ count. number_at (2 ^ 16) count.1 >>= λ column. number_at (2 ^ 16) column.1 >>= λ row. Some (PixelCommand count.0 column.0 row.0, row.1)) (number_at (2 ^ 64) words) x e (λ count is_count e_column.
    option_and_then_some (λ column. number_at (2 ^ 16) column.1 >>= λ row. Some (PixelCommand count.0 column.0 row.0, row.1)) (number_at (2 ^ 16) count.1) x e_column (λ column is_column e_row.
    option_and_then_some (λ row. Some (PixelCommand count.0 column.0 row.0, row.1)) (number_at (2 ^ 16) column.1) x e_row (λ row is_row e_said.
    let n = number_takes (2 ^ 64) words count is_count in
    let c = number_takes (2 ^ 16) count.1 column is_column in
    let r = number_takes (2 ^ 16) column.1 row is_row in
    let said = some_pair_parts (PixelCommand count.0 column.0 row.0) x.0 row.1 x.1 e_said in
    let all = then_words n.word n.first (then_words c.word c.first (then_words r.word r.first (said.1 ∙ none))) in
    told_at (codes "pixel") words (n.word ∷ c.word ∷ r.word ∷ []) (PixelCommand count.0 column.0 row.0) x.0 all said.0
    (pixel_tells n.word c.word r.word count.0 column.0 row.0 n.it c.it r.it))))

-- a first word, and one word that says a value, or two
one_told : {A : Type 0} (Is : List ℕ → A → Type 0) (reads : List ℕ → Option A) → ((word : List ℕ) (it : A) → reads word ≡ Some it → Is word it)
    → (first : List ℕ) (say : A → Command) (words : List (List ℕ)) (x : Command × List (List ℕ)) → one_at reads say words ≡ Some x → x.1 ≡ [] → first ≢ []
    → ((n : List ℕ) (a : A) → Is n a → Says (first ∷ n ∷ []) (say a)) → Told (first ∷ words) x.0
unfolding one_at
one_told Is reads sound first say words x e none some says =
    option_and_then_some (λ a. Some (say a.0, a.1)) (read_at reads words) x e (λ a is_a e_said.
    let n = word_read Is reads sound words a is_a in
    let said = some_pair_parts (say a.0) x.0 a.1 x.1 e_said in
    told_at first words (n.word ∷ []) (say a.0) x.0 (then_words n.word n.first (said.1 ∙ none)) said.0
    (says n.word a.0 n.it, (some, (n.some, tt))))

two_told : {A B : Type 0} (Is : List ℕ → A → Type 0) (reads : List ℕ → Option A) → ((word : List ℕ) (it : A) → reads word ≡ Some it → Is word it)
    → (Also : List ℕ → B → Type 0) (others : List ℕ → Option B) → ((word : List ℕ) (it : B) → others word ≡ Some it → Also word it)
    → (first : List ℕ) (say : A → B → Command) (words : List (List ℕ)) (x : Command × List (List ℕ)) → two_at reads others say words ≡ Some x → x.1 ≡ [] → first ≢ []
    → ((n m : List ℕ) (a : A) (b : B) → Is n a → Also m b → Says (first ∷ n ∷ m ∷ []) (say a b)) → Told (first ∷ words) x.0
unfolding two_at
two_told Is reads sound Also others also_sound first say words x e none some says =
    option_and_then_some (λ a. read_at others a.1 >>= λ b. Some (say a.0 b.0, b.1)) (read_at reads words) x e (λ a is_a e_b.
    option_and_then_some (λ b. Some (say a.0 b.0, b.1)) (read_at others a.1) x e_b (λ b is_b e_said.
    let n = word_read Is reads sound words a is_a in
    let m = word_read Also others also_sound a.1 b is_b in
    let said = some_pair_parts (say a.0 b.0) x.0 b.1 x.1 e_said in
    told_at first words (n.word ∷ m.word ∷ []) (say a.0 b.0) x.0 (then_words n.word n.first (then_words m.word m.first (said.1 ∙ none))) said.0
    (says n.word m.word a.0 b.0 n.it m.it, (some, (n.some, (m.some, tt))))))

bare_told : (word : List ℕ) (said : Command) (words : List (List ℕ)) (x : Command × List (List ℕ)) → word ≢ [] → Says (word ∷ []) said → Some (said, words) ≡ Some x → x.1 ≡ []
    → Told (word ∷ words) x.0
bare_told word said words x some says e none =
    let parts = some_pair_parts said x.0 words x.1 e in
    subst (λ (ws : List (List ℕ)). Told (word ∷ ws) x.0) (sym (parts.1 ∙ none)) (subst (λ (c : Command). Told (word ∷ []) c) parts.0 (says, (some, tt)))

pub rest_told : (it : Kind) (words : List (List ℕ)) (x : Command × List (List ℕ)) → rest_at it words ≡ Some x → x.1 ≡ [] → Told (keyword it ∷ words) x.0
rest_told kind.New words x e none = new_told One words x e none
rest_told kind.NewChained words x e none = new_told Two words x e none
rest_told kind.Host words x e none = host_told words x e none
rest_told kind.Take words x e none = bare_told (codes "take") TakeCommand words x (λ empty. absurd cc) refl e none
rest_told kind.Body words x e none = bare_told (codes "body") BodyCommand words x (λ empty. absurd cc) refl e none
rest_told kind.Gate words x e none = bare_told (codes "gate") GateCommand words x (λ empty. absurd cc) refl e none
rest_told kind.Open words x e none = bare_told (codes "open") OpenCommand words x (λ empty. absurd cc) refl e none
rest_told kind.Pixel words x e none = pixel_told words x e none
rest_told kind.Fail words x e none =
    one_told (IsNumber (2 ^ 64)) (number_of (2 ^ 64)) (number_is (2 ^ 64)) (codes "fail") (λ calls. FailCommand calls) words x e none (λ empty. absurd cc) (λ n calls a. (n, refl, a))
rest_told kind.Stop words x e none =
    two_told (IsNumber (2 ^ 64)) (number_of (2 ^ 64)) (number_is (2 ^ 64)) IsFill fill_of fill_is (codes "stop") (λ calls fill. StopCommand calls fill) words x e none (λ empty. absurd cc) (λ n f calls fill a b. (n, f, refl, a, b))
rest_told kind.Join words x e none =
    one_told IsStart start_of start_is (codes "join") (λ start. JoinCommand start) words x e none (λ empty. absurd cc) (λ w start a. (w, refl, a))
rest_told kind.Next words x e none =
    two_told (IsNumber (2 ^ 32)) (number_of (2 ^ 32)) (number_is (2 ^ 32)) (IsNumber (2 ^ 32)) (number_of (2 ^ 32)) (number_is (2 ^ 32)) (codes "next") (λ seat limit. NextCommand seat limit) words x e none (λ empty. absurd cc) (λ s l seat limit a b. (s, l, refl, a, b))
rest_told kind.Seek words x e none =
    two_told (IsNumber (2 ^ 32)) (number_of (2 ^ 32)) (number_is (2 ^ 32)) (IsNumber (2 ^ 64)) (number_of (2 ^ 64)) (number_is (2 ^ 64)) (codes "seek") (λ seat count. SeekCommand seat count) words x e none (λ empty. absurd cc) (λ s n seat count a b. (s, n, refl, a, b))
rest_told kind.Leave words x e none =
    one_told (IsNumber (2 ^ 32)) (number_of (2 ^ 32)) (number_is (2 ^ 32)) (codes "leave") (λ seat. LeaveCommand seat) words x e none (λ empty. absurd cc) (λ s seat a. (s, refl, a))

-- what a line is read as is what its words say
pub command_told : (words : List (List ℕ)) (command : Command) → command_at words ≡ Some command → Told words command
unfolding command_at
command_told words command e =
    let a = bind_some (word_at words) (λ first. kind_by first.0 >>= λ it. rest_at it first.1 >>= ended) command e in
    let b = bind_some (kind_by a.0.0) (λ it. rest_at it a.0.1 >>= ended) command a.2 in
    let d = bind_some (rest_at b.0 a.0.1) ended command b.2 in
    let over = ended_is d.0 command d.2 in
    let all : words ≡ keyword b.0 ∷ a.0.1 = (word_takes words a.0 a.1).0 ∙ ap (λ (w : List ℕ). w ∷ a.0.1) (kind_named a.0.0 b.0 b.1) in
    subst (λ (ws : List (List ℕ)). Told ws command) (sym all) (subst (λ (c : Command). Told (keyword b.0 ∷ a.0.1) c) over.1 (rest_told b.0 a.0.1 d.0 d.1 over.0))
