-- What the target of a browser's request asks for.
use Rattle.std.specs.Prelude.{◌≡◌, ◌<◌, ℕ, ◌^◌, true, List, [], ◌∷◌, ◌++◌, codes, Option, None, Some}
use Rattle.std.specs.Char.{is_ascii_digit}
use Rattle.std.specs.List.{list_all}
use Rattle.terms.specs.Decimal.{number_of}
use Rattle.playing.specs.Playing.{IsPace}
use Rattle.web_target.specs.declared.asked.Asked.{Asked}
use Rattle.web_target.specs.declared.asked.Asked.TheVariants.{Page, Painter, Script, Style, Times, Watch}
use Rattle.web_target.specs.declared.asked.Beginning.{Beginning}
use Rattle.web_target.specs.declared.asked.Beginning.TheVariants.{Live, After, Played, Still}
use Rattle.web_target.specs.declared.asked.Playback.{Playback}
use Rattle.web_target.specs.declared.asked.Survey.{Survey}

-- each byte is a digit
abbrev pub IsDigits : List ℕ → Type 0
IsDigits text = list_all is_ascii_digit text ≡ true

-- the text doesn't begin with a digit
abbrev pub IsBare : List ℕ → Type 0
IsBare [] = Unit {0}
IsBare (byte ∷ _) = is_ascii_digit byte ≡ true → ⊥

-- the text is a word and the digits of this number, which is below a limit
abbrev pub Says : List ℕ → ℕ → ℕ → List ℕ → Type 0
Says word limit number text = (digits : List ℕ) × (text ≡ word ++ digits) × (number_of limit digits ≡ Some number)

-- the end of a query has this longest pause, or nothing
abbrev pub IsPauseOf : Option ℕ → List ℕ → Type 0
IsPauseOf None text = text ≡ []
IsPauseOf (Some time) text = Says (codes "&longest-pause=") (2 ^ 32) time text

-- the parts of a query that asks for a playback
pub record IsPlayedBy (playback : Playback) (query : List ℕ) : Type 0 where
  pub time : List ℕ
  pub pace : List ℕ
  pub rest : List ℕ
  pub whole : query ≡ codes "at=" ++ (time ++ (codes "&pace=" ++ (pace ++ rest)))
  pub is_time : number_of (2 ^ 32) time ≡ Some playback.time
  pub is_pace : number_of (2 ^ 32) pace ≡ Some playback.pace
  pub in_range : IsPace playback.pace
  pub longest : IsPauseOf playback.longest_pause rest

-- the end of a query has this window, or nothing
abbrev pub IsWindowOf : Option ℕ → List ℕ → Type 0
IsWindowOf None text = text ≡ []
IsWindowOf (Some every) text = (0 < every) × Says (codes "&every=") (2 ^ 32) every text

-- the parts of what follows on `from=`, if that asks what came when
pub record IsSurveyedBy (survey : Survey) (query : List ℕ) : Type 0 where
  pub from : List ℕ
  pub rest : List ℕ
  pub whole : query ≡ from ++ rest
  pub is_from : number_of (2 ^ 64) from ≡ Some survey.from
  pub window : IsWindowOf survey.every rest

-- the query of a `/watch` asks for this
abbrev pub IsQueryOf : Beginning → List ℕ → Type 0
IsQueryOf Live query = ⊥
IsQueryOf (After count) query = Says (codes "message=") (2 ^ 64) count query
IsQueryOf (Played playback) query = IsPlayedBy playback query
IsQueryOf (Still time) query = Says (codes "at=") (2 ^ 32) time query

-- the target asks for this
abbrev pub IsBeginningOf : Beginning → List ℕ → Type 0
IsBeginningOf Live target = target ≡ codes "/watch"
IsBeginningOf (After count) target = (query : List ℕ) × (target ≡ codes "/watch?" ++ query) × IsQueryOf (After count) query
IsBeginningOf (Played playback) target = (query : List ℕ) × (target ≡ codes "/watch?" ++ query) × IsQueryOf (Played playback) query
IsBeginningOf (Still time) target = (query : List ℕ) × (target ≡ codes "/watch?" ++ query) × IsQueryOf (Still time) query

-- The target of a request asks for this (RFC 9112, section 3.2.1).
abbrev pub IsTargetOf : Asked → List ℕ → Type 0
IsTargetOf Page target = target ≡ codes "/"
IsTargetOf Painter target = target ≡ codes "/painter.js"
IsTargetOf Script target = target ≡ codes "/live.js"
IsTargetOf Style target = target ≡ codes "/live.css"
IsTargetOf (Times survey) target = (query : List ℕ) × (target ≡ codes "/times?from=" ++ query) × IsSurveyedBy survey query
IsTargetOf (Watch beginning) target = IsBeginningOf beginning target
