-- Digits at the front of a text, and what follows them.
use Rattle.std.proofs.Common.{◌≡◌, ◌≢◌, ℕ, ◌^◌, Bool, true, false, List, [], ◌∷◌, ◌++◌, Option, None, Some, refl, sym, ap, subst, ◌∙◌, ◌<◌, lit<, slice_index, arith}
use Rattle.std.specs.Prelude.{codes, ◌==◌, length, ◌&&◌, if◌then◌else◌}
use Rattle.std.specs.Char.{is_ascii_digit}
use Rattle.std.specs.List.{list_all}
use Rattle.std.proofs.lemmas.Bool.{and_parts}
use Rattle.terms.specs.Decimal.{number_of}
use Rattle.web_target.specs.declared.asked.Playback.{Playback}
use Rattle.web_target.specs.declared.asked.Survey.{Survey}
use Rattle.web_target.specs.declared.asked.Asked.{Asked}
use Rattle.web_target.specs.declared.asked.Asked.TheVariants.{Page, Painter, Script, Style, Times, Watch}
use Rattle.web_target.specs.declared.asked.Beginning.{Beginning}
use Rattle.web_target.specs.declared.asked.Beginning.TheVariants.{Live, After, Played, Still}
use Rattle.web_target.specs.Targets.{IsDigits, IsBare, IsPauseOf, IsPlayedBy, IsQueryOf, IsSurveyedBy, IsTargetOf, IsWindowOf, Says}

chosen : (b c : Bool) (value number : ℕ) → (if b && c then Some value else None) ≡ Some number → b ≡ true
chosen true c value number is = refl
chosen false c value number is = absurd (cc is)

-- a number is written in digits
pub number_digits : (limit number : ℕ) (text : List ℕ) → number_of limit text ≡ Some number → IsDigits text
number_digits limit number [] is = refl
number_digits limit number (digit ∷ digits) is = chosen _ _ _ _ is

-- there is one position at which digits end
pub one_split : (a b x y : List ℕ) → IsDigits a → IsDigits b → IsBare x → IsBare y → a ++ x ≡ b ++ y → (a ≡ b) × (x ≡ y)
one_split [] [] x y da db bx by is = (refl, is)
one_split [] (d ∷ b) x y da db bx by is =
    let bare : IsBare (d ∷ (b ++ y)) = subst IsBare is bx in
    absurd (bare (and_parts (is_ascii_digit d) (list_all is_ascii_digit b) db).0)
one_split (d ∷ a) [] x y da db bx by is =
    let bare : IsBare (d ∷ (a ++ x)) = subst IsBare (sym is) by in
    absurd (bare (and_parts (is_ascii_digit d) (list_all is_ascii_digit a) da).0)
one_split (d ∷ a) (e ∷ b) x y da db bx by is =
    let tails : a ++ x ≡ b ++ y = cc is in
    let heads : d ≡ e = cc is in
    let rest = one_split a b x y (and_parts (is_ascii_digit d) (list_all is_ascii_digit a) da).1 (and_parts (is_ascii_digit e) (list_all is_ascii_digit b) db).1 bx by tails in
    (cc (heads, rest.0), rest.1)

-- an ampersand is no digit
bare_pause : (longest : Option ℕ) (text : List ℕ) → IsPauseOf longest text → IsBare text
bare_pause None text is = rw is tt
bare_pause (Some seconds) text is = rw is.1 (λ digit. absurd (cc digit))

bare_window : (every : Option ℕ) (text : List ℕ) → IsWindowOf every text → IsBare text
bare_window None text is = rw is tt
bare_window (Some every) text is = rw is.1.1 (λ digit. absurd (cc digit))

-- the first block of a survey is the digits that it begins with
pub after_from : (s : Survey) (query from rest : List ℕ) → query ≡ from ++ rest → IsDigits from → IsBare rest
    → (h : IsSurveyedBy s query) → (from ≡ h.from) × (rest ≡ h.rest)
after_from s query from rest parts digits bare h =
    one_split from h.from rest h.rest digits (number_digits (2 ^ 64) s.from h.from h.is_from) bare (bare_window s.every h.rest h.window) (sym parts ∙ h.whole)

-- the time of a query is the digits after its first word
pub after_time : (p : Playback) (query after time rest : List ℕ) → query ≡ codes "at=" ++ after → after ≡ time ++ rest → IsDigits time → IsBare rest
    → (h : IsPlayedBy p query) → (time ≡ h.time) × (rest ≡ codes "&pace=" ++ (h.pace ++ h.rest))
after_time p query after time rest is parts digits bare h =
    let whole : codes "at=" ++ after ≡ codes "at=" ++ (h.time ++ (codes "&pace=" ++ (h.pace ++ h.rest))) = sym is ∙ h.whole in
    let same : after ≡ h.time ++ (codes "&pace=" ++ (h.pace ++ h.rest)) = cc whole in
    one_split time h.time rest (codes "&pace=" ++ (h.pace ++ h.rest)) digits (number_digits (2 ^ 32) p.time h.time h.is_time) bare (λ digit. absurd (cc digit)) (sym parts ∙ same)

-- its pace the digits after the second
pub after_pace : (p : Playback) (query rest after pace end : List ℕ) → (h : IsPlayedBy p query) → rest ≡ codes "&pace=" ++ (h.pace ++ h.rest)
    → rest ≡ codes "&pace=" ++ after → after ≡ pace ++ end → IsDigits pace → IsBare end → (pace ≡ h.pace) × (end ≡ h.rest)
after_pace p query rest after pace end h whole is parts digits bare =
    let both : codes "&pace=" ++ after ≡ codes "&pace=" ++ (h.pace ++ h.rest) = sym is ∙ whole in
    let same : after ≡ h.pace ++ h.rest = cc both in
    one_split pace h.pace end h.rest digits (number_digits (2 ^ 32) p.pace h.pace h.is_pace) bare (bare_pause p.longest_pause h.rest h.longest) (sym parts ∙ same)

-- a text of some bytes
pub not_empty : (text : List ℕ) (empty : Bool) → empty ≡ (length text == 0) → empty ≡ false → text ≡ [] → ⊥
not_empty [] empty e f is = absurd (cc (e, f))
not_empty (byte ∷ text) empty e f is = absurd (cc is)

-- no longest pause
pub no_pause : (text : List ℕ) → (text ≡ [] → ⊥) → ((rest : List ℕ) → text ≡ codes "&longest-pause=" ++ rest → ⊥) → (longest : Option ℕ) → IsPauseOf longest text → ⊥
no_pause text some other None is = some is
no_pause text some other (Some seconds) is = other is.0 is.1

pub other_byte : (one other : ℕ) → one < other → one ≡ other → ⊥
other_byte one other less same = omega arith

-- a query that asks for nothing there is
pub no_query : (query : List ℕ) → ((rest : List ℕ) → query ≢ codes "message=" ++ rest) → ((time : ℕ) → Says (codes "at=") (2 ^ 32) time query → ⊥)
    → ((playback : Playback) → IsPlayedBy playback query → ⊥) → (beginning : Beginning) → IsQueryOf beginning query → ⊥
no_query query count still played Live of = of
no_query query count still played (After n) of = count of.0 of.1
no_query query count still played (Played playback) of = played playback of
no_query query count still played (Still time) of = still time of

-- a survey that there isn't
pub no_survey : (target query : List ℕ) → target ≡ codes "/times?from=" ++ query → ((survey : Survey) → IsSurveyedBy survey query → ⊥) → (asked : Asked) → IsTargetOf asked target → ⊥
no_survey target query is none Page t = other_byte 0 116 (lit< tt) (ap (λ (z : List ℕ). slice_index z 1) (sym t ∙ is))
no_survey target query is none Painter t = other_byte 112 116 (lit< tt) (ap (λ (z : List ℕ). slice_index z 1) (sym t ∙ is))
no_survey target query is none Script t = other_byte 108 116 (lit< tt) (ap (λ (z : List ℕ). slice_index z 1) (sym t ∙ is))
no_survey target query is none Style t = other_byte 108 116 (lit< tt) (ap (λ (z : List ℕ). slice_index z 1) (sym t ∙ is))
no_survey target query is none (Times survey) t =
    let both : codes "/times?from=" ++ query ≡ codes "/times?from=" ++ t.0 = sym is ∙ t.1 in
    let same : query ≡ t.0 = cc both in
    none survey (rw same t.2)
no_survey target query is none (Watch Live) t = other_byte 116 119 (lit< tt) (ap (λ (z : List ℕ). slice_index z 1) (sym is ∙ t))
no_survey target query is none (Watch (After count)) t = other_byte 116 119 (lit< tt) (ap (λ (z : List ℕ). slice_index z 1) (sym is ∙ t.1))
no_survey target query is none (Watch (Played playback)) t = other_byte 116 119 (lit< tt) (ap (λ (z : List ℕ). slice_index z 1) (sym is ∙ t.1))
no_survey target query is none (Watch (Still time)) t = other_byte 116 119 (lit< tt) (ap (λ (z : List ℕ). slice_index z 1) (sym is ∙ t.1))

-- a query that begins nowhere
pub no_beginning : (target query : List ℕ) → target ≡ codes "/watch?" ++ query → ((beginning : Beginning) → IsQueryOf beginning query → ⊥) → (asked : Asked) → IsTargetOf asked target → ⊥
no_beginning target query is none Page t = other_byte 0 119 (lit< tt) (ap (λ (z : List ℕ). slice_index z 1) (sym t ∙ is))
no_beginning target query is none Painter t = other_byte 112 119 (lit< tt) (ap (λ (z : List ℕ). slice_index z 1) (sym t ∙ is))
no_beginning target query is none Script t = other_byte 108 119 (lit< tt) (ap (λ (z : List ℕ). slice_index z 1) (sym t ∙ is))
no_beginning target query is none Style t = other_byte 108 119 (lit< tt) (ap (λ (z : List ℕ). slice_index z 1) (sym t ∙ is))
no_beginning target query is none (Times survey) t = other_byte 116 119 (lit< tt) (ap (λ (z : List ℕ). slice_index z 1) (sym t.1 ∙ is))
no_beginning target query is none (Watch Live) t = other_byte 0 63 (lit< tt) (ap (λ (z : List ℕ). slice_index z 6) (sym t ∙ is))
no_beginning target query is none (Watch (After count)) t =
    let both : codes "/watch?" ++ query ≡ codes "/watch?" ++ t.0 = sym is ∙ t.1 in
    let same : query ≡ t.0 = cc both in
    none (After count) (rw same t.2)
no_beginning target query is none (Watch (Played playback)) t =
    let both : codes "/watch?" ++ query ≡ codes "/watch?" ++ t.0 = sym is ∙ t.1 in
    let same : query ≡ t.0 = cc both in
    none (Played playback) (rw same t.2)
no_beginning target query is none (Watch (Still time)) t =
    let both : codes "/watch?" ++ query ≡ codes "/watch?" ++ t.0 = sym is ∙ t.1 in
    let same : query ≡ t.0 = cc both in
    none (Still time) (rw same t.2)

-- none of the targets that there are
pub no_target : (target : List ℕ) → target ≢ codes "/" → target ≢ codes "/painter.js" → target ≢ codes "/live.js" → target ≢ codes "/live.css" → target ≢ codes "/watch"
    → ((rest : List ℕ) → target ≢ codes "/times?from=" ++ rest) → ((rest : List ℕ) → target ≢ codes "/watch?" ++ rest) → (asked : Asked) → IsTargetOf asked target → ⊥
no_target target page painter script style watch times seat Page t = page t
no_target target page painter script style watch times seat Painter t = painter t
no_target target page painter script style watch times seat Script t = script t
no_target target page painter script style watch times seat Style t = style t
no_target target page painter script style watch times seat (Times survey) t = times t.0 t.1
no_target target page painter script style watch times seat (Watch Live) t = watch t
no_target target page painter script style watch times seat (Watch (After count)) t = seat t.0 t.1
no_target target page painter script style watch times seat (Watch (Played playback)) t = seat t.0 t.1
no_target target page painter script style watch times seat (Watch (Still time)) t = seat t.0 t.1
