-- What follows from a whole field: one equation for each stage.
use Rattle.std.proofs.Common.{◌≡◌, ℕ, ◌+◌, ◌-◌, ◌<◌, List, ◌++◌, length, slice_index, nat_lt, ◌≤◌, Bool, true, false, refl, ap, ◌∙◌, drop, arith, inl, inr, length-append}
use Rattle.std.specs.Prelude.{min}
use Rattle.std.specs.Str.{bytes_eq}
use Rattle.std.proofs.lemmas.Bool.{ltb-true, ltb-false, le-ltb, lt-ltb}
use Rattle.std.proofs.Math.Seq.{drop-append-add}
use Rattle.terms.specs.Reading.{Got, More, Bad, field}
use Rattle.terms.proofs.Readings.{field-whole, field-short, true_or_false}
use Rattle.host_session.specs.declared.fault.HostFault.TheVariants as faults
use Rattle.host_session.specs.declared.stage.Stage.{Stage}
use Rattle.host_session.specs.declared.stage.Stage.TheVariants as stages
use Rattle.terms.specs.Talk.{Talk, silent, say, hear}
use Rattle.terms.specs.Number.{u16_at, u32_at}
use Rattle.host_session.specs.Handshake.{Told, Refusal, version, text_limit, offers_security_none, reason_at, failure_at, rest_of_name, name_at, head_at, sized, size_at, judged, outcome_at, offered, types_at, counted, count_at, versioned, handshake_at, first_requests}
use Rattle.host_session.specs.Stage.{wants_of, resume}
use Rattle.host_session.specs.declared.expected.ExpectedScreen.{ExpectedScreen}
use Rattle.terms.specs.declared.screen_size.ScreenSize.{ScreenSize}

hear_whole : (n : ℕ) (f more : List ℕ) (next : List ℕ → List ℕ → Talk Told Refusal) → length f ≡ n → hear (field {E = Refusal} n (f ++ more)) next ≡ next f more
hear_whole n f more next whole = rw (field-whole {E = Refusal} n f more whole) refl

pub version_goes : (expected : ExpectedScreen) (f more : List ℕ) (same : Bool) → length f ≡ 12 → bytes_eq f version ≡ same
    → resume expected stages.Version (f ++ more) ≡ versioned expected same more
unfolding resume handshake_at
version_goes expected f more same whole is =
    hear_whole 12 f more (λ f rest. versioned expected (bytes_eq f version) rest) whole ∙ ap (λ b. versioned expected b more) is

pub count_goes : (expected : ExpectedScreen) (f more : List ℕ) (n : ℕ) → length f ≡ 1 → slice_index f 0 ≡ n
    → resume expected stages.Count (f ++ more) ≡ counted expected n more
unfolding resume count_at
count_goes expected f more n whole is =
    hear_whole 1 f more (λ f rest. counted expected (slice_index f 0) rest) whole ∙ ap (λ b. counted expected b more) is

pub types_go : (expected : ExpectedScreen) (f more : List ℕ) (n : ℕ) (offers : Bool) → length f ≡ n → offers_security_none f ≡ offers
    → resume expected (stages.Types n) (f ++ more) ≡ offered expected offers more
unfolding resume types_at
types_go expected f more n offers whole is =
    hear_whole n f more (λ f rest. offered expected (offers_security_none f) rest) whole ∙ ap (λ b. offered expected b more) is

pub outcome_goes : (expected : ExpectedScreen) (f more : List ℕ) (n : ℕ) → length f ≡ 4 → u32_at f 0 ≡ n
    → resume expected stages.Outcome (f ++ more) ≡ judged expected n more
unfolding resume outcome_at
outcome_goes expected f more n whole is =
    hear_whole 4 f more (λ f rest. judged expected (u32_at f 0) rest) whole ∙ ap (λ b. judged expected b more) is

pub length_goes : (expected : ExpectedScreen) (f more : List ℕ) (n : ℕ) → length f ≡ 4 → u32_at f 0 ≡ n
    → resume expected stages.ReasonLength (f ++ more) ≡ resume expected (stages.Reason n) more
unfolding resume failure_at
length_goes expected f more n whole is =
    hear_whole 4 f more (λ f rest. reason_at (min (u32_at f 0) text_limit) rest) whole ∙ ap (λ b. reason_at (min b text_limit) more) is

pub reason_goes : (expected : ExpectedScreen) (f more : List ℕ) (n : ℕ) → length f ≡ min n text_limit
    → resume expected (stages.Reason n) (f ++ more) ≡ silent (Bad (record { fault = faults.Failed; reason = f }))
unfolding resume reason_at
reason_goes expected f more n whole =
    hear_whole (min n text_limit) f more (λ text rest. silent (Bad (record { fault = faults.Failed; reason = text }))) whole

pub size_goes : (expected : ExpectedScreen) (f more : List ℕ) (width height : ℕ) → length f ≡ 4 → u16_at f 0 ≡ width → u16_at f 2 ≡ height
    → resume expected stages.Size (f ++ more) ≡ sized expected width height more
unfolding resume size_at
size_goes expected f more width height whole w h =
    hear_whole 4 f more (λ f rest. sized expected (u16_at f 0) (u16_at f 2) rest) whole ∙ rw (w, h) refl

pub head_goes : (expected : ExpectedScreen) (f more : List ℕ) (size : ScreenSize) (n : ℕ) → length f ≡ 20 → u32_at f 16 ≡ n
    → resume expected (stages.Head size) (f ++ more) ≡ resume expected (stages.Name size n) more
unfolding resume head_at
head_goes expected f more size n whole is =
    hear_whole 20 f more (λ f rest. name_at size.width size.height (u32_at f 16) rest) whole ∙ ap (λ b. name_at size.width size.height b more) is

pub name_goes : (expected : ExpectedScreen) (f more : List ℕ) (size : ScreenSize) (n left : ℕ) → length f ≡ min n text_limit → n - min n text_limit ≡ left
    → resume expected (stages.Name size n) (f ++ more) ≡ rest_of_name size.width size.height f left more
unfolding resume name_at
name_goes expected f more size n left whole is =
    hear_whole (min n text_limit) f more (λ name rest. rest_of_name size.width size.height name (n - min n text_limit) rest) whole ∙ ap (λ b. rest_of_name size.width size.height f b more) is

-- the stages by which the tests go on
pub resume_count : (expected : ExpectedScreen) (more : List ℕ) → resume expected stages.Count more ≡ count_at expected more
unfolding resume
resume_count expected more = refl

pub resume_types : (expected : ExpectedScreen) (n : ℕ) (more : List ℕ) → resume expected (stages.Types n) more ≡ types_at expected n more
unfolding resume
resume_types expected n more = refl

pub resume_outcome : (expected : ExpectedScreen) (more : List ℕ) → resume expected stages.Outcome more ≡ outcome_at expected more
unfolding resume
resume_outcome expected more = refl

pub resume_length : (expected : ExpectedScreen) (more : List ℕ) → resume expected stages.ReasonLength more ≡ failure_at more
unfolding resume
resume_length expected more = refl

pub resume_size : (expected : ExpectedScreen) (more : List ℕ) → resume expected stages.Size more ≡ size_at expected more
unfolding resume
resume_size expected more = refl

pub resume_head : (expected : ExpectedScreen) (size : ScreenSize) (more : List ℕ) → resume expected (stages.Head size) more ≡ head_at size.width size.height more
unfolding resume
resume_head expected size more = refl

-- a field that isn't whole
hear_short : (n : ℕ) (bytes : List ℕ) (next : List ℕ → List ℕ → Talk Told Refusal) → length bytes < n → hear (field {E = Refusal} n bytes) next ≡ silent More
hear_short n bytes next short = rw (field-short {E = Refusal} n bytes short) refl

pub resume-short : (expected : ExpectedScreen) (stage : Stage) (bytes : List ℕ) → length bytes < wants_of stage → resume expected stage bytes ≡ silent More
unfolding resume handshake_at count_at types_at outcome_at failure_at reason_at size_at head_at name_at
resume-short expected stages.Version bytes short = hear_short 12 bytes (λ f rest. versioned expected (bytes_eq f version) rest) short
resume-short expected stages.Count bytes short = hear_short 1 bytes (λ f rest. counted expected (slice_index f 0) rest) short
resume-short expected (stages.Types n) bytes short = hear_short n bytes (λ types rest. offered expected (offers_security_none types) rest) short
resume-short expected stages.Outcome bytes short = hear_short 4 bytes (λ f rest. judged expected (u32_at f 0) rest) short
resume-short expected stages.ReasonLength bytes short = hear_short 4 bytes (λ f rest. reason_at (min (u32_at f 0) text_limit) rest) short
resume-short expected (stages.Reason n) bytes short =
    hear_short (min n text_limit) bytes (λ text rest. silent (Bad (record { fault = faults.Failed; reason = text }))) short
resume-short expected stages.Size bytes short = hear_short 4 bytes (λ f rest. sized expected (u16_at f 0) (u16_at f 2) rest) short
resume-short expected (stages.Head size) bytes short = hear_short 20 bytes (λ f rest. name_at size.width size.height (u32_at f 16) rest) short
resume-short expected (stages.Name size n) bytes short =
    hear_short (min n text_limit) bytes (λ name rest. rest_of_name size.width size.height name (n - min n text_limit) rest) short

pub rest-short : (width height left : ℕ) (name bytes : List ℕ) → length bytes < left → rest_of_name width height name left bytes ≡ silent More
unfolding rest_of_name
rest-short width height left name bytes short =
    hear_short left bytes (λ skipped rest. say (first_requests width height) (silent (Got (record { width = width; height = height; name = name }) rest))) short

pub rest-whole : (width height left : ℕ) (name f more : List ℕ) → length f ≡ left
    → rest_of_name width height name left (f ++ more) ≡ say (first_requests width height) (silent (Got (record { width = width; height = height; name = name }) more))
unfolding rest_of_name
rest-whole width height left name f more whole =
    hear_whole left f more (λ skipped rest. say (first_requests width height) (silent (Got (record { width = width; height = height; name = name }) rest))) whole

-- bytes that are read over
pub rest-goes : (width height left : ℕ) (name f more : List ℕ) → length f ≤ left
    → rest_of_name width height name left (f ++ more) ≡ rest_of_name width height name (left - length f) more
unfolding rest_of_name field
rest-goes width height left name f more within = elim (true_or_false (nat_lt (length (f ++ more)) left)) [
  | inl short ↦
      (let s : length (f ++ more) < left = ltb-true (length (f ++ more)) left short in
      let also : nat_lt (length more) (left - length f) ≡ true = lt-ltb (length more) (left - length f) (omega (arith, s, length-append f more)) in
      rw (short, also) refl)
  | inr long ↦
      (let s : left ≤ length (f ++ more) = ltb-false (length (f ++ more)) left long in
      let also : nat_lt (length more) (left - length f) ≡ false = le-ltb (length more) (left - length f) (omega (arith, s, length-append f more)) in
      let n : left ≡ length f + (left - length f) = omega (arith, within) in
      let following : drop left (f ++ more) ≡ drop (left - length f) more = ap (λ k. drop k (f ++ more)) n ∙ drop-append-add f more (left - length f) in
      rw (long, also, following) refl)
]
