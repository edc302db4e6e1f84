-- What becomes of pieces.
use Rattle.std.proofs.Common.{◌≡◌, ℕ, List, [], ◌++◌, take, drop, refl, sym, ap, ◌∙◌, append_assoc}
use Rattle.std.proofs.lemmas.List.{append-nil, take-append-drop}
use Rattle.client_wire.proofs.Fronts.{unless_memory as unless_wire_memory, unless_memory_map as unless_wire_memory_map}
use Rattle.host_session.specs.declared.fault.HostFault.{HostFault}
use Rattle.host_session.specs.declared.fault.HostFault.TheVariants as faults
use Rattle.host_session.specs.declared.stage.Stage.{Stage}
use Rattle.host_session.specs.declared.stage.Position.{Position}
use Rattle.host_session.specs.declared.stage.Position.TheVariants as positions
use Rattle.host_session.specs.Fault.{UnlessMemory}
use Rattle.host_session.specs.Stage.{position_at, resume, failed, Leads, Ends, Fails}
use Rattle.host_session.specs.Take.{Says}
use Rattle.terms.specs.Talk.{Talk, say, silent}
use Rattle.host_session.specs.Handshake.{Told, Refusal}
use Rattle.terms.specs.Reading.{Got}
use Rattle.host_session.specs.declared.expected.ExpectedScreen.{ExpectedScreen}

pub unless_memory : (f : HostFault) (P : Type 0) → P → UnlessMemory f P
unless_memory (faults.Wire f) P p = unless_wire_memory f P p
unless_memory faults.Version P p = p
unless_memory faults.NoneNotOffered P p = p
unless_memory faults.Failed P p = p
unless_memory faults.SizeDiffers P p = p
unless_memory faults.TooLarge P p = p

-- a field that is whole within a piece, and refused
pub field_fails : (expected : ExpectedScreen) (position : Position) (stage : Stage) (kept piece field after : List ℕ) (n : ℕ) (f : HostFault)
    → position ≡ positions.Field stage → after ≡ kept ++ take n piece → field ≡ after
    → ((more : List ℕ) → resume expected stage (field ++ more) ≡ failed f field)
    → Fails expected position kept piece [] f after
field_fails expected position stage kept piece field after n f is whole same bad = record {
  link = λ more.
      let split : kept ++ (piece ++ more) ≡ after ++ (drop n piece ++ more) =
      ap (λ z. kept ++ (z ++ more)) (sym (take-append-drop n piece)) ∙ ap (λ z. kept ++ z) (append_assoc (take n piece) (drop n piece) more)
      ∙ sym (append_assoc kept (take n piece) (drop n piece ++ more)) ∙ ap (λ z. z ++ (drop n piece ++ more)) (sym whole) in
      ap (λ p. position_at expected p kept (piece ++ more)) is ∙ ap (resume expected stage) split
      ∙ ap (λ z. resume expected stage (z ++ (drop n piece ++ more))) (sym same) ∙ bad (drop n piece ++ more) ∙ ap (failed f) same;
}

-- one answer after another
say_more : (a b : List ℕ) (t : Talk Told Refusal) → say a (say b t) ≡ say (a ++ b) t
say_more a b t = rw (append_assoc a b t.said) refl

pub leads_none : (expected : ExpectedScreen) (position : Position) (kept due : List ℕ)
    → Says (λ said. Leads expected position kept [] said position kept) due due
leads_none expected position kept due = record { said = []; due = sym (append-nil due); is = record { link = λ more. refl } }

-- what is said in two turns
says_more : {P Q R : List ℕ → Type 0} (due then later : List ℕ) → Says P due then → Says Q then later
    → ((first second : List ℕ) → P first → Q second → R (first ++ second)) → Says R due later
says_more due then later a b both = record {
  said = a.said ++ b.said;
  due = b.due ∙ ap (λ z. z ++ b.said) a.due ∙ append_assoc due a.said b.said;
  is = both a.said b.said a.is b.is;
}

-- what the first turn leads to, and what the second makes of that
linked : (expected : ExpectedScreen) (old : Position) (before front more rest first : List ℕ) {t u : Talk Told Refusal}
    → position_at expected old before (front ++ (more ++ rest)) ≡ say first t → t ≡ u → position_at expected old before ((front ++ more) ++ rest) ≡ say first u
linked expected old before front more rest first one two = ap (position_at expected old before) (append_assoc front more rest) ∙ one ∙ ap (say first) two

-- A turn that leads on, and one from there to what is reached after it, whatever comes: so do both.
two_turns : {Q R : List ℕ → Type 0} (expected : ExpectedScreen) (old mid : Position) (before between front more due then later : List ℕ) (reached : List ℕ → Talk Told Refusal)
    → Says (λ said. Leads expected old before front said mid between) due then → Says Q then later
    → ((said : List ℕ) → Q said → (rest : List ℕ) → position_at expected mid between (more ++ rest) ≡ say said (reached rest))
    → ((said : List ℕ) → ((rest : List ℕ) → position_at expected old before ((front ++ more) ++ rest) ≡ say said (reached rest)) → R said)
    → Says R due later
two_turns expected old mid before between front more due then later reached a b links is =
    says_more due then later a b (λ first second one two. is (first ++ second)
    (λ rest. linked expected old before front more rest first (one.link (more ++ rest)) (links second two rest) ∙ say_more first second (reached rest)))

pub leads_more : (expected : ExpectedScreen) (old mid new : Position) (before between after front more due then later : List ℕ)
    → Says (λ said. Leads expected old before front said mid between) due then
    → Says (λ said. Leads expected mid between more said new after) then later
    → Says (λ said. Leads expected old before (front ++ more) said new after) due later
leads_more expected old mid new before between after front more due then later a b =
    two_turns expected old mid before between front more due then later (position_at expected new after) a b (λ said step. step.link) (λ said link. record { link = link })

pub leads_end : (expected : ExpectedScreen) (old mid : Position) (before between front more due then later requests : List ℕ) (told : Told)
    → Says (λ said. Leads expected old before front said mid between) due then
    → Says (λ said. Ends expected mid between more (said ++ requests) told) then later
    → Says (λ said. Ends expected old before (front ++ more) (said ++ requests) told) due later
leads_end expected old mid before between front more due then later requests told a b =
    let told_at : List ℕ → Talk Told Refusal = λ rest. silent (Got told rest) in
    two_turns expected old mid before between front more due then later (λ rest. say requests (told_at rest)) a b (λ said step rest. step.link rest ∙ sym (say_more said requests (told_at rest)))
    (λ said link. record { link = λ rest. link rest ∙ say_more said requests (told_at rest) })

pub leads_fail : (expected : ExpectedScreen) (old mid : Position) (before between front more due then later : List ℕ) (f : HostFault) (field : List ℕ)
    → Says (λ said. Leads expected old before front said mid between) due then
    → Says (λ said. Fails expected mid between more said f field) then later
    → Says (λ said. Fails expected old before (front ++ more) said f field) due later
leads_fail expected old mid before between front more due then later f field a b =
    two_turns expected old mid before between front more due then later (λ rest. failed f field) a b (λ said step. step.link) (λ said link. record { link = link })

pub unless_memory_map : (f : HostFault) (P Q : Type 0) → (P → Q) → UnlessMemory f P → UnlessMemory f Q
unless_memory_map (faults.Wire f) P Q m p = unless_wire_memory_map f P Q m p
unless_memory_map fault P Q m p = m p
