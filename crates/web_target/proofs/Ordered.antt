-- Which order a text gives.
use Rattle.std.proofs.Common.{◌≡◌, ◌≢◌, ℕ, ◌^◌, ◌<◌, true, false, List, ◌++◌, Bor, Option, None, Some, refl, sym, ap, ◌∙◌, lit<, slice_index}
use Rattle.std.specs.Prelude.{codes, MatchOption}
use Rattle.std.proofs.lemmas.List.{append_cancel_left, append_cancel_right}
use Rattle.playing.specs.Playing.{IsPace}
use Rattle.web_target.specs.declared.asked.Order.{Order}
use Rattle.web_target.specs.declared.asked.Order.TheVariants.{At, After, Pace, LongestPause, Pause, Live}
use Rattle.web_target.specs.Orders.{json_number, IsNumbered, IsCounted, IsOrder}
use Rattle.web_target.proofs.Splits.{other_byte}

-- what stands before the brace is the value
pub valued : (text front rest : List ℕ) (r : Option (Bor (List ℕ))) → text ≡ front ++ rest
    → MatchOption r ((value : List ℕ) → rest ≢ value ++ codes "}") (λ value. rest ≡ value.now ++ codes "}")
    → MatchOption r ((value : List ℕ) → text ≡ front ++ (value ++ codes "}") → ⊥) (λ value. text ≡ front ++ (value.now ++ codes "}"))
valued text front rest None is none = λ value e. none value (append_cancel_left front rest (value ++ codes "}") (sym is ∙ e))
valued text front rest (Some value) is some = is ∙ ap (λ (z : List ℕ). front ++ z) some

-- the digits of such a text are its value
digits_are : (text front value digits : List ℕ) → text ≡ front ++ (value ++ codes "}") → text ≡ front ++ (digits ++ codes "}") → value ≡ digits
digits_are text front value digits is of =
    append_cancel_right value digits (codes "}") (append_cancel_left front (value ++ codes "}") (digits ++ codes "}") (sym is ∙ of))

-- it has no such number
no_number : (text front value : List ℕ) (limit number : ℕ) → text ≡ front ++ (value ++ codes "}") → json_number limit value ≡ None → IsNumbered front limit number text → ⊥
no_number text front value limit number is none of =
    let same : value ≡ of.0 = digits_are text front value of.0 is of.1 in
    absurd (cc (sym none ∙ ap (json_number limit) same ∙ of.2))

-- texts with another byte at an index are two
differ : {one other : List ℕ} (i a b : ℕ) → slice_index one i ≡ a → slice_index other i ≡ b → a < b → one ≡ other → ⊥
differ {one} {other} i a b f s less is = other_byte a b less (sym f ∙ ap (λ (z : List ℕ). slice_index z i) is ∙ s)

pub no_time : (text value : List ℕ) → text ≡ codes "{\"at\":" ++ (value ++ codes "}") → json_number (2 ^ 32) value ≡ None → (order : Order) → IsCounted order text → ⊥
no_time text value is none (At time) of = no_number text (codes "{\"at\":") value (2 ^ 32) time is none of
no_time text value is none (After count) of = differ 2 97 109 refl refl (lit< tt) (sym is ∙ of.1)
no_time text value is none (Pace pace) of = differ 2 97 112 refl refl (lit< tt) (sym is ∙ of.0.1)
no_time text value is none (LongestPause None) of = of
no_time text value is none (LongestPause (Some time)) of = differ 2 97 108 refl refl (lit< tt) (sym is ∙ of.1)
no_time text value is none (Pause is_paused) of = of
no_time text value is none Live of = of

pub no_count : (text value : List ℕ) → text ≡ codes "{\"message\":" ++ (value ++ codes "}") → json_number (2 ^ 64) value ≡ None → (order : Order) → IsCounted order text → ⊥
no_count text value is none (At time) of = differ 2 97 109 refl refl (lit< tt) (sym of.1 ∙ is)
no_count text value is none (After count) of = no_number text (codes "{\"message\":") value (2 ^ 64) count is none of
no_count text value is none (Pace pace) of = differ 2 109 112 refl refl (lit< tt) (sym is ∙ of.0.1)
no_count text value is none (LongestPause None) of = of
no_count text value is none (LongestPause (Some time)) of = differ 2 108 109 refl refl (lit< tt) (sym of.1 ∙ is)
no_count text value is none (Pause is_paused) of = of
no_count text value is none Live of = of

pub no_pace : (text value : List ℕ) → text ≡ codes "{\"pace\":" ++ (value ++ codes "}") → ((pace : ℕ) → json_number (2 ^ 32) value ≡ Some pace → IsPace pace → ⊥) → (order : Order) → IsCounted order text → ⊥
no_pace text value is none (At time) of = differ 2 97 112 refl refl (lit< tt) (sym of.1 ∙ is)
no_pace text value is none (After count) of = differ 2 109 112 refl refl (lit< tt) (sym of.1 ∙ is)
no_pace text value is none (Pace pace) of =
    let same : value ≡ of.0.0 = digits_are text (codes "{\"pace\":") value of.0.0 is of.0.1 in
    none pace (ap (json_number (2 ^ 32)) same ∙ of.0.2) of.1
no_pace text value is none (LongestPause None) of = of
no_pace text value is none (LongestPause (Some time)) of = differ 2 108 112 refl refl (lit< tt) (sym of.1 ∙ is)
no_pace text value is none (Pause is_paused) of = of
no_pace text value is none Live of = of

pub no_longest : (text value : List ℕ) → text ≡ codes "{\"longest-pause\":" ++ (value ++ codes "}") → json_number (2 ^ 32) value ≡ None → (order : Order) → IsCounted order text → ⊥
no_longest text value is none (At time) of = differ 2 97 108 refl refl (lit< tt) (sym of.1 ∙ is)
no_longest text value is none (After count) of = differ 2 108 109 refl refl (lit< tt) (sym is ∙ of.1)
no_longest text value is none (Pace pace) of = differ 2 108 112 refl refl (lit< tt) (sym is ∙ of.0.1)
no_longest text value is none (LongestPause None) of = of
no_longest text value is none (LongestPause (Some time)) of = no_number text (codes "{\"longest-pause\":") value (2 ^ 32) time is none of
no_longest text value is none (Pause is_paused) of = of
no_longest text value is none Live of = of

-- none of the members that have a number
pub no_member : (text : List ℕ) → ((value : List ℕ) → text ≡ codes "{\"at\":" ++ (value ++ codes "}") → ⊥) → ((value : List ℕ) → text ≡ codes "{\"message\":" ++ (value ++ codes "}") → ⊥)
    → ((value : List ℕ) → text ≡ codes "{\"pace\":" ++ (value ++ codes "}") → ⊥) → ((value : List ℕ) → text ≡ codes "{\"longest-pause\":" ++ (value ++ codes "}") → ⊥) → (order : Order) → IsCounted order text → ⊥
no_member text time count pace longest (At t) of = time of.0 of.1
no_member text time count pace longest (After n) of = count of.0 of.1
no_member text time count pace longest (Pace p) of = pace of.0.0 of.0.1
no_member text time count pace longest (LongestPause None) of = of
no_member text time count pace longest (LongestPause (Some t)) of = longest of.0 of.1
no_member text time count pace longest (Pause is_paused) of = of
no_member text time count pace longest Live of = of

counted : (order : Order) (text : List ℕ) → IsCounted order text → IsOrder order text
counted (At time) text of = of
counted (After count) text of = of
counted (Pace pace) text of = of
counted (LongestPause None) text of = absurd of
counted (LongestPause (Some time)) text of = of
counted (Pause is_paused) text of = absurd of
counted Live text of = absurd of

not_fixed : (text : List ℕ) → text ≢ codes "{\"live\":true}" → text ≢ codes "{\"pause\":true}" → text ≢ codes "{\"pause\":false}" → text ≢ codes "{\"longest-pause\":null}"
    → ((order : Order) → IsCounted order text → ⊥) → (order : Order) → IsOrder order text → ⊥
not_fixed text live pause play never none (At time) of = none (At time) of
not_fixed text live pause play never none (After count) of = none (After count) of
not_fixed text live pause play never none (Pace pace) of = none (Pace pace) of
not_fixed text live pause play never none (LongestPause None) of = never of
not_fixed text live pause play never none (LongestPause (Some time)) of = none (LongestPause (Some time)) of
not_fixed text live pause play never none (Pause true) of = pause of
not_fixed text live pause play never none (Pause false) of = play of
not_fixed text live pause play never none Live of = live of

-- a text without a fixed order
pub ordered : (text : List ℕ) (r : Option Order) → text ≢ codes "{\"live\":true}" → text ≢ codes "{\"pause\":true}" → text ≢ codes "{\"pause\":false}" → text ≢ codes "{\"longest-pause\":null}"
    → MatchOption r ((order : Order) → IsCounted order text → ⊥) (λ order. IsCounted order text)
    → MatchOption r ((order : Order) → IsOrder order text → ⊥) (λ order. IsOrder order text)
ordered text None live pause play never none = not_fixed text live pause play never none
ordered text (Some order) live pause play never of = counted order text of
