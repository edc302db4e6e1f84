-- What the bytes of a viewer's handshake say.
use Rattle.std.proofs.Common.{◌≡◌, ℕ, ◌<◌, ◌≤◌, inl, inr, Bool, true, false, List, [], ◌++◌, ◌+◌, length, length-append, take, drop, nat_eq, refl, sym, ap, ◌∙◌, subst, append_assoc, arith}
use Rattle.std.specs.Prelude.{slice_index, if◌then◌else◌}
use Rattle.std.specs.Str.{bytes_eq}
use Rattle.std.proofs.lemmas.Bool.{le-ltb, cases_lt}
use Rattle.std.proofs.lemmas.List.{length-drop, length-take-le, drop_all, get_or-take, get_or-drop, take-append-drop, append-nil}
use Rattle.terms.specs.Reading.{Reading, Got, More, Bad, field}
use Rattle.terms.specs.Talk.{Talk, silent, say, hear}
use Rattle.terms.proofs.Readings.{field-short, field-whole}
use Rattle.viewer_session.specs.declared.fault.SessionFault.{SessionFault}
use Rattle.viewer_session.specs.declared.fault.SessionFault.TheVariants as faults
use Rattle.viewer_session.specs.declared.handshake.Stage.TheVariants as stages
use Rattle.viewer_session.specs.Handshake.{version, none_offered, ok, no_type, server_init, init_at, choice_at, version_at, chosen, versioned, handshake_at}
use Rattle.viewer_session.specs.Stage.{talk_at}

-- a whole field
field_long : {E : Type 0} (n : ℕ) (bytes : List ℕ) → n ≤ length bytes → field {E = E} n bytes ≡ Got (take n bytes) (drop n bytes)
unfolding field
field_long n bytes le = rw (le-ltb (length bytes) n le) refl

-- ---- one field

version_step : (width height : ℕ) (name heard : List ℕ) → 12 ≤ length heard → version_at width height name heard ≡ versioned width height name (bytes_eq (take 12 heard) version) (drop 12 heard)
unfolding version_at
version_step width height name heard le = rw (field_long {E = SessionFault} 12 heard le) refl

version_short : (width height : ℕ) (name heard : List ℕ) → length heard < 12 → version_at width height name heard ≡ silent More
unfolding version_at
version_short width height name heard lt = rw (field-short {E = SessionFault} 12 heard lt) refl

choice_step : (width height : ℕ) (name rest : List ℕ) → 1 ≤ length rest → choice_at width height name rest ≡ chosen width height name (slice_index (take 1 rest) 0) (drop 1 rest)
unfolding choice_at
choice_step width height name rest le = rw (field_long {E = SessionFault} 1 rest le) refl

choice_short : (width height : ℕ) (name rest : List ℕ) → length rest < 1 → choice_at width height name rest ≡ silent More
unfolding choice_at
choice_short width height name rest lt = rw (field-short {E = SessionFault} 1 rest lt) refl

init_step : (width height : ℕ) (name rest : List ℕ) → 1 ≤ length rest → init_at width height name rest ≡ say (server_init width height name) (silent (Got tt (drop 1 rest)))
unfolding init_at
init_step width height name rest le = rw (field_long {E = SessionFault} 1 rest le) refl

init_short : (width height : ℕ) (name rest : List ℕ) → length rest < 1 → init_at width height name rest ≡ silent More
unfolding init_at
init_short width height name rest lt = rw (field-short {E = SessionFault} 1 rest lt) refl

-- the byte that chooses
choice_is : (heard : List ℕ) → 13 ≤ length heard → slice_index (take 1 (drop 12 heard)) 0 ≡ slice_index heard 12
choice_is heard le = get_or-take 1 (drop 12 heard) 0 0 (omega arith) ∙ get_or-drop 12 heard 0 0

-- ---- all of it

pub few : (width height : ℕ) (name heard : List ℕ) → length heard < 12 → handshake_at width height name heard ≡ talk_at width height name stages.Version
few width height name heard lt = ap (say version) (version_short width height name heard lt)

pub other_version : (width height : ℕ) (name heard : List ℕ) → 12 ≤ length heard → bytes_eq (take 12 heard) version ≡ false
    → handshake_at width height name heard ≡ talk_at width height name stages.OtherVersion
other_version width height name heard le e =
    ap (say version) (version_step width height name heard le) ∙ ap (λ (b : Bool). say version (versioned width height name b (drop 12 heard))) e

-- after the version
same_version : (width height : ℕ) (name heard : List ℕ) → 12 ≤ length heard → bytes_eq (take 12 heard) version ≡ true
    → handshake_at width height name heard ≡ say version (say none_offered (choice_at width height name (drop 12 heard)))
same_version width height name heard le e =
    ap (say version) (version_step width height name heard le) ∙ ap (λ (b : Bool). say version (versioned width height name b (drop 12 heard))) e

pub no_choice : (width height : ℕ) (name heard : List ℕ) → length heard ≡ 12 → bytes_eq (take 12 heard) version ≡ true
    → handshake_at width height name heard ≡ talk_at width height name stages.Choice
no_choice width height name heard is e =
    let short : length (drop 12 heard) < 1 = simp length-drop (omega arith) in
    same_version width height name heard (omega arith) e
    ∙ ap (λ (t : Talk (Unit {0}) SessionFault). say version (say none_offered t)) (choice_short width height name (drop 12 heard) short)

-- the choice, by its byte
choosing : (width height : ℕ) (name heard : List ℕ) (b : Bool) → 13 ≤ length heard → bytes_eq (take 12 heard) version ≡ true → nat_eq (slice_index heard 12) 1 ≡ b
    → handshake_at width height name heard ≡ say version (say none_offered (if b then say ok (init_at width height name (drop 1 (drop 12 heard))) else say no_type (silent (Bad faults.Security))))
choosing width height name heard b le e one =
    let long : 1 ≤ length (drop 12 heard) = simp length-drop (omega arith) in
    let so : Talk (Unit {0}) SessionFault → Talk (Unit {0}) SessionFault = λ t. say version (say none_offered t) in
    same_version width height name heard (omega arith) e
    ∙ ap so (choice_step width height name (drop 12 heard) long)
    ∙ ap (λ (n : ℕ). so (chosen width height name n (drop 1 (drop 12 heard)))) (choice_is heard le)
    ∙ ap (λ (t : Bool). so (if t then say ok (init_at width height name (drop 1 (drop 12 heard))) else say no_type (silent (Bad faults.Security)))) one

pub other_type : (width height : ℕ) (name heard : List ℕ) → 13 ≤ length heard → bytes_eq (take 12 heard) version ≡ true → nat_eq (slice_index heard 12) 1 ≡ false
    → handshake_at width height name heard ≡ talk_at width height name stages.OtherType
other_type width height name heard le e other = choosing width height name heard false le e other

pub no_init : (width height : ℕ) (name heard : List ℕ) → length heard ≡ 13 → bytes_eq (take 12 heard) version ≡ true → nat_eq (slice_index heard 12) 1 ≡ true
    → handshake_at width height name heard ≡ talk_at width height name stages.Flag
no_init width height name heard is e one =
    let short : length (drop 1 (drop 12 heard)) < 1 = simp (length-drop, length-drop) (omega arith) in
    choosing width height name heard true (omega arith) e one
    ∙ ap (λ (t : Talk (Unit {0}) SessionFault). say version (say none_offered (say ok t))) (init_short width height name (drop 1 (drop 12 heard)) short)

pub all_heard : (width height : ℕ) (name heard : List ℕ) → length heard ≡ 14 → bytes_eq (take 12 heard) version ≡ true → nat_eq (slice_index heard 12) 1 ≡ true
    → handshake_at width height name heard ≡ talk_at width height name stages.Whole
all_heard width height name heard is e one =
    let last : 1 ≤ length (drop 1 (drop 12 heard)) = simp (length-drop, length-drop) (omega arith) in
    let none : drop 1 (drop 1 (drop 12 heard)) ≡ [] = drop_all 1 (drop 1 (drop 12 heard)) (simp (length-drop, length-drop) (omega arith)) in
    let so : Talk (Unit {0}) SessionFault → Talk (Unit {0}) SessionFault = λ t. say version (say none_offered (say ok t)) in
    choosing width height name heard true (omega arith) e one
    ∙ ap so (init_step width height name (drop 1 (drop 12 heard)) last)
    ∙ ap (λ (r : List ℕ). so (say (server_init width height name) (silent (Got tt r)))) none
    ∙ ap (λ (z : List ℕ). so (record { said = z; heard = Got tt [] })) (append-nil (server_init width height name))

-- ---- more bytes

-- what a conversation is once more bytes have come
abbrev pub ExtendsBy : Reading (Unit {0}) SessionFault → List ℕ → List ℕ → Talk (Unit {0}) SessionFault → Type 0
ExtendsBy (Got x rest) said more longer = longer ≡ record { said = said; heard = Got x (rest ++ more) }
ExtendsBy More said more longer = (later : List ℕ) × (longer.said ≡ said ++ later)
ExtendsBy (Bad f) said more longer = longer ≡ record { said = said; heard = Bad f }

abbrev pub ExtendsTo : Talk (Unit {0}) SessionFault → List ℕ → Talk (Unit {0}) SessionFault → Type 0
ExtendsTo t more longer = ExtendsBy t.heard t.said more longer

say_by : (r : Reading (Unit {0}) SessionFault) (b said more : List ℕ) (longer : Talk (Unit {0}) SessionFault) → ExtendsBy r said more longer → ExtendsBy r (b ++ said) more (say b longer)
say_by (Got x rest) b said more longer e = ap (say b) e
say_by More b said more longer e = (e.0, ap (λ z. b ++ z) e.1 ∙ sym (append_assoc b said e.0))
say_by (Bad f) b said more longer e = ap (say b) e

say_more : (b more : List ℕ) (t longer : Talk (Unit {0}) SessionFault) → ExtendsTo t more longer → ExtendsTo (say b t) more (say b longer)
say_more b more t longer e = say_by t.heard b t.said more longer e

-- a field that may be whole, and what follows it
field_more : (n : ℕ) (bytes more : List ℕ) (next : List ℕ → List ℕ → Talk (Unit {0}) SessionFault) → ((f rest : List ℕ) → ExtendsTo (next f rest) more (next f (rest ++ more)))
    → ExtendsTo (hear (field n bytes) next) more (hear (field n (bytes ++ more)) next)
field_more n bytes more next follows = elim (cases_lt (length bytes) n) [
  | inl short ↦
      subst (λ (r : Reading (List ℕ) SessionFault). ExtendsTo (hear r next) more (hear (field n (bytes ++ more)) next)) (sym (field-short {E = SessionFault} n bytes short))
      ((hear (field {E = SessionFault} n (bytes ++ more)) next).said, refl)
  | inr long ↦
      (let whole : n ≤ length bytes = omega arith in
      let again : field {E = SessionFault} n (bytes ++ more) ≡ Got (take n bytes) (drop n bytes ++ more) =
      ap (λ (z : List ℕ). field {E = SessionFault} n (z ++ more)) (sym (take-append-drop n bytes))
      ∙ ap (field {E = SessionFault} n) (append_assoc (take n bytes) (drop n bytes) more)
      ∙ field-whole {E = SessionFault} n (take n bytes) (drop n bytes ++ more) (length-take-le n bytes whole) in
      subst (λ (r : Reading (List ℕ) SessionFault). ExtendsTo (hear r next) more (hear (field n (bytes ++ more)) next)) (sym (field_long {E = SessionFault} n bytes whole))
      (subst (λ (r : Reading (List ℕ) SessionFault). ExtendsTo (next (take n bytes) (drop n bytes)) more (hear r next)) (sym again) (follows (take n bytes) (drop n bytes))))
]

init_more : (width height : ℕ) (name bytes more : List ℕ) → ExtendsTo (init_at width height name bytes) more (init_at width height name (bytes ++ more))
unfolding init_at
init_more width height name bytes more = field_more 1 bytes more (λ flag rest. say (server_init width height name) (silent (Got tt rest))) (λ f rest. refl)

chosen_more : (width height : ℕ) (name : List ℕ) (b : Bool) (rest more : List ℕ)
    → ExtendsTo (if b then say ok (init_at width height name rest) else say no_type (silent (Bad faults.Security))) more
    (if b then say ok (init_at width height name (rest ++ more)) else say no_type (silent (Bad faults.Security)))
chosen_more width height name true rest more = say_more ok more (init_at width height name rest) (init_at width height name (rest ++ more)) (init_more width height name rest more)
chosen_more width height name false rest more = refl

choice_more : (width height : ℕ) (name bytes more : List ℕ) → ExtendsTo (choice_at width height name bytes) more (choice_at width height name (bytes ++ more))
unfolding choice_at
choice_more width height name bytes more = field_more 1 bytes more (λ f rest. chosen width height name (slice_index f 0) rest) (λ f rest. chosen_more width height name (nat_eq (slice_index f 0) 1) rest more)

versioned_more : (width height : ℕ) (name : List ℕ) (b : Bool) (rest more : List ℕ) → ExtendsTo (versioned width height name b rest) more (versioned width height name b (rest ++ more))
versioned_more width height name true rest more = say_more none_offered more (choice_at width height name rest) (choice_at width height name (rest ++ more)) (choice_more width height name rest more)
versioned_more width height name false rest more = refl

version_more : (width height : ℕ) (name bytes more : List ℕ) → ExtendsTo (version_at width height name bytes) more (version_at width height name (bytes ++ more))
unfolding version_at
version_more width height name bytes more = field_more 12 bytes more (λ f rest. versioned width height name (bytes_eq f version) rest) (λ f rest. versioned_more width height name (bytes_eq f version) rest more)

-- what a handshake says, it says whatever follows
pub handshake_more : (width height : ℕ) (name bytes more : List ℕ) → ExtendsTo (handshake_at width height name bytes) more (handshake_at width height name (bytes ++ more))
handshake_more width height name bytes more = say_more version more (version_at width height name bytes) (version_at width height name (bytes ++ more)) (version_more width height name bytes more)

prefix_by : (r : Reading (Unit {0}) SessionFault) (said more : List ℕ) (longer : Talk (Unit {0}) SessionFault) → ExtendsBy r said more longer → (later : List ℕ) × (longer.said ≡ said ++ later)
prefix_by (Got x rest) said more longer e = ([], ap (λ (t : Talk (Unit {0}) SessionFault). t.said) e ∙ sym (append-nil said))
prefix_by More said more longer e = e
prefix_by (Bad f) said more longer e = ([], ap (λ (t : Talk (Unit {0}) SessionFault). t.said) e ∙ sym (append-nil said))

-- what was said stays said
pub said_more : (width height : ℕ) (name bytes more : List ℕ) → (later : List ℕ) × ((handshake_at width height name (bytes ++ more)).said ≡ (handshake_at width height name bytes).said ++ later)
said_more width height name bytes more = prefix_by (handshake_at width height name bytes).heard (handshake_at width height name bytes).said more (handshake_at width height name (bytes ++ more)) (handshake_more width height name bytes more)

-- a whole handshake, and a refused one, whatever follows
pub whole_more : (width height : ℕ) (name bytes more said rest : List ℕ) → handshake_at width height name bytes ≡ record { said = said; heard = Got tt rest }
    → handshake_at width height name (bytes ++ more) ≡ record { said = said; heard = Got tt (rest ++ more) }
whole_more width height name bytes more said rest is =
    subst (λ (t : Talk (Unit {0}) SessionFault). ExtendsTo t more (handshake_at width height name (bytes ++ more))) is (handshake_more width height name bytes more)

pub bad_more : (width height : ℕ) (name bytes more said : List ℕ) (f : SessionFault) → handshake_at width height name bytes ≡ record { said = said; heard = Bad f }
    → handshake_at width height name (bytes ++ more) ≡ record { said = said; heard = Bad f }
bad_more width height name bytes more said f is =
    subst (λ (t : Talk (Unit {0}) SessionFault). ExtendsTo t more (handshake_at width height name (bytes ++ more))) is (handshake_more width height name bytes more)

-- no more was put out than is said
pub sent_more : (width height : ℕ) (name old new more : List ℕ) (sent : ℕ) → new ≡ old ++ more → sent ≤ length (handshake_at width height name old).said
    → sent ≤ length (handshake_at width height name new).said
sent_more width height name old new more sent is le =
    let e = said_more width height name old more in
    let longer : length (handshake_at width height name new).said ≡ length (handshake_at width height name old).said + length e.0 =
    ap (λ (z : List ℕ). length (handshake_at width height name z).said) is ∙ ap length e.1 ∙ length-append (handshake_at width height name old).said e.0 in
    omega arith
