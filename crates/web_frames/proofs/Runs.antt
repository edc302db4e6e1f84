-- Frame after frame.
use Rattle.std.proofs.Common.{◌≡◌, ℕ, zero, suc, ◌+◌, ◌-◌, ◌≤◌, Bool, true, false, List, [], ◌∷◌, ◌++◌, drop, Option, None, Some, Result, Ok, Err, refl, sym, ◌∙◌, ap, arith, append-nil, append_assoc, inl, inr}
use Rattle.std.specs.Prelude.{is_some, not, length, ◌⊎◌}
use Rattle.websocket.specs.declared.error.Error.{Error}
use Rattle.websocket.specs.declared.protocol.frame.codec.FrameStatus.{FrameStatus}
use Rattle.websocket.specs.declared.protocol.frame.codec.FrameStatus.TheVariants.{Partial, Complete}
use Rattle.websocket.specs.declared.protocol.config.Role.{Role}
use Rattle.websocket.specs.declared.protocol.config.Role.TheVariants.{Server}
use Rattle.websocket.specs.Frame.{encode_frame}
use Rattle.websocket.specs.Connection.{Connection, Effect, Outgoing, Sends, read_step, is_server, whole_header}
use Rattle.web_frames.proofs.Kept.{read_kept}
use Rattle.websocket.specs.Stream.{Trace, prepend, after_read, read_times, read_all}
use Rattle.web_frames.specs.declared.fault.Fault.{Fault}
use Rattle.web_frames.specs.declared.fault.Fault.TheVariants.{NoMemory}
use Rattle.web_frames.specs.declared.heard.Heard.{Heard}
use Rattle.web_frames.specs.Frames.{Reader, IsServers, Reads, Gives, HasHeard, IsSame, reply_bytes, replies_of, payload_of, words_of, carried, said, StepsTo, StopsAt, Refuses}

abbrev Outcome : Type 0
Outcome = Result (FrameStatus (ℕ × Effect)) Error

-- ---- reads that follow on reads

first : (effect : Effect) (t : Trace) (effects : List Effect) (after : Connection) (rest : List ℕ) → prepend (effect ∷ []) t ≡ record { effects = effects; end = Ok (after, rest) }
    → (effects ≡ effect ∷ t.effects) × (t ≡ record { effects = t.effects; end = Ok (after, rest) })
first effect t effects after rest is =
    let some : effect ∷ t.effects ≡ effects = ap (λ (z : Trace). z.effects) is in
    let end : t.end ≡ Ok (after, rest) = ap (λ (z : Trace). z.end) is in
    (sym some, ap (λ (e : Result (Connection × List ℕ) Error). record { effects = t.effects; end = e }) end)

-- a run that took no frame
nothing : (conn : Connection) (input : List ℕ) (effects : List Effect) (after : Connection) (rest : List ℕ)
    → ◌≡◌ {A = Trace} (record { effects = []; end = Ok (conn, input) }) (record { effects = effects; end = Ok (after, rest) }) → (effects ≡ []) × (conn ≡ after) × (input ≡ rest)
nothing conn input effects after rest is =
    let none : [] ≡ effects = ap (λ (z : Trace). z.effects) is in
    let end : ◌≡◌ {A = Result (Connection × List ℕ) Error} (Ok (conn, input)) (Ok (after, rest)) = ap (λ (z : Trace). z.end) is in
    let same : (conn, input) ≡ (after, rest) = cc end in
    (sym none, ap (λ (z : Connection × List ℕ). z.0) same, ap (λ (z : Connection × List ℕ). z.1) same)

after_more : (n m : ℕ) (conn : Connection) (input : List ℕ) (r : Outcome) (effects : List Effect) (after : Connection) (rest : List ℕ)
    → read_step conn input ≡ r
    → ((next : Connection) (left : List ℕ) (some : List Effect) → Reads n next left some after rest → read_times (n + m) next left ≡ prepend some (read_times m after rest))
    → after_read (read_times n) conn input r ≡ record { effects = effects; end = Ok (after, rest) }
    → after_read (read_times (n + m)) conn input r ≡ prepend effects (read_times m after rest)
unfolding read_times
after_more n m conn input (Err e) effects after rest is more h =
    let end : ◌≡◌ {A = Result (Connection × List ℕ) Error} (Err e) (Ok (after, rest)) = ap (λ (z : Trace). z.end) h in
    absurd (cc end)
after_more n zero conn input (Ok (Partial k)) effects after rest is more h =
    let at = nothing conn input effects after rest h in
    rw (at.0, sym at.1, sym at.2)
after_more n (suc m) conn input (Ok (Partial k)) effects after rest is more h =
    let at = nothing conn input effects after rest h in
    rw (at.0, sym at.1, sym at.2, is)
after_more n m conn input (Ok (Complete p)) effects after rest is more h =
    let parts = first p.1 (read_times n p.1.next (drop p.0 input)) effects after rest h in
    let on = more p.1.next (drop p.0 input) _ parts.1 in
    rw (on, parts.0)

read_more : (n m : ℕ) (conn : Connection) (input : List ℕ) (effects : List Effect) (after : Connection) (rest : List ℕ)
    → Reads n conn input effects after rest → read_times (n + m) conn input ≡ prepend effects (read_times m after rest)
unfolding read_times
read_more zero m conn input effects after rest h =
    let at = nothing conn input effects after rest h in
    let sum : 0 + m ≡ m = omega arith in
    rw (sum, at.0, sym at.1, sym at.2)
read_more (suc n) m conn input effects after rest h =
    let sum : suc n + m ≡ suc (n + m) = omega arith in
    rw sum (after_more n m conn input (read_step conn input) effects after rest refl (λ next left some k. read_more n m next left some after rest k) h)

-- one frame more
one_complete : (conn : Connection) (input : List ℕ) (p : ℕ × Effect) → read_step conn input ≡ Ok (Complete p)
    → read_times 1 conn input ≡ record { effects = p.1 ∷ []; end = Ok (p.1.next, drop p.0 input) }
unfolding read_times
one_complete conn input p is = rw is

pub read_next : (n : ℕ) (conn : Connection) (input : List ℕ) (effects : List Effect) (after : Connection) (rest : List ℕ) (p : ℕ × Effect)
    → Reads n conn input effects after rest → read_step after rest ≡ Ok (Complete p)
    → Reads (n + 1) conn input (effects ++ p.1 ∷ []) p.1.next (drop p.0 rest)
read_next n conn input effects after rest p h is = read_more n 1 conn input effects after rest h ∙ ap (prepend effects) (one_complete after rest p is)

-- the frame that comes next isn't whole
one_partial : (m : ℕ) (conn : Connection) (input : List ℕ) (k : ℕ) → read_step conn input ≡ Ok (Partial k)
    → read_times (suc m) conn input ≡ record { effects = []; end = Ok (conn, input) }
unfolding read_times
one_partial m conn input k is = rw is

pub read_waits : (n most : ℕ) (conn : Connection) (input : List ℕ) (effects : List Effect) (after : Connection) (rest : List ℕ) (k : ℕ)
    → n ≤ most → Reads n conn input effects after rest → read_step after rest ≡ Ok (Partial k)
    → Reads (suc most) conn input effects after rest
read_waits n most conn input effects after rest k below h is =
    let sum : n + suc (most - n) ≡ suc most = omega (arith, below) in
    let more = read_more n (suc (most - n)) conn input effects after rest h ∙ ap (prepend effects) (one_partial (most - n) after rest k is) in
    rw (sym sum) (more ∙ rw append-nil refl)

-- ---- what was heard

-- a call that took a frame
pub record Took (r : Outcome) (old new : Reader) (heard heard' : Heard) : Type 0 where
  pub frame : ℕ × Effect
  pub read : r ≡ Ok (Complete frame)
  pub next : new.conn ≡ frame.1.next
  pub rest : new.rest ≡ drop frame.0 old.rest
  pub hears : HasHeard frame.1.message heard heard'
  pub sends : Sends frame.1.next.role frame.1.reply heard.replies.items heard'.replies.items

step_of : (goes : Bool) (r : Outcome) (old new : Reader) (heard heard' : Heard) → StepsTo goes r old new heard heard' → goes ≡ true → Took r old new heard heard'
step_of true (Ok (Complete p)) old new heard heard' s is = record { frame = p; read = refl; next = s.0; rest = s.1; hears = s.2; sends = s.3 }
step_of true (Ok (Partial k)) old new heard heard' s is = absurd s
step_of true (Err e) old new heard heard' s is = absurd s
step_of false r old new heard heard' s is = absurd (cc is)

wait_of : (goes : Bool) (r : Outcome) (old new : Reader) (heard heard' : Heard) → StepsTo goes r old new heard heard' → goes ≡ false
    → (k : ℕ) × (r ≡ Ok (Partial k)) × (new.conn ≡ old.conn) × (new.rest ≡ old.rest) × IsSame heard heard'
wait_of true r old new heard heard' s is = absurd (cc is)
wait_of false (Ok (Partial k)) old new heard heard' s is = (k, refl, s.0, s.1, s.2)
wait_of false (Ok (Complete p)) old new heard heard' s is = absurd s
wait_of false (Err e) old new heard heard' s is = absurd s

payload_last : (effects : List Effect) (effect : Effect) → payload_of (effects ++ effect ∷ []) ≡ payload_of effects ++ carried effect.message
payload_last [] effect = rw append-nil
payload_last (e ∷ effects) effect = rw (payload_last effects effect, append_assoc)

words_last : (effects : List Effect) (effect : Effect) → words_of (effects ++ effect ∷ []) ≡ words_of effects ++ said effect.message
words_last [] effect = rw append-nil
words_last (e ∷ effects) effect = rw (words_last effects effect, append_assoc)

no_mask : (mask : Option (List ℕ)) → is_some mask ≡ false → mask ≡ None
no_mask None is = refl
no_mask (Some key) is = absurd (cc is)

-- what a server sends is one frame without a mask
pub sent : (role : Role) (reply : Option Outgoing) (old new : List ℕ) → role ≡ Server → Sends role reply old new → new ≡ old ++ reply_bytes reply
sent role None old new server is = is ∙ rw append-nil
sent role (Some frame) old new server is =
    let side : is_some is.0 ≡ not (is_server role) = is.1.0 in
    let none : is.0 ≡ None = no_mask is.0 (rw server at side) in
    is.2 ∙ ap (λ (mask : Option (List ℕ)). old ++ encode_frame (whole_header frame.opcode mask) frame.payload) none

replies_last : (effects : List Effect) (effect : Effect) → replies_of (effects ++ effect ∷ []) ≡ replies_of effects ++ reply_bytes effect.reply
replies_last [] effect = rw append-nil
replies_last (e ∷ effects) effect = rw (replies_last effects effect, append_assoc)

-- what is known between two frames: what they did, and what was heard of it
pub record Run (n : ℕ) (from to : Reader) (heard heard' : Heard) : Type 0 where
  pub effects : List Effect
  pub reads : Reads n from.conn from.rest effects to.conn to.rest
  pub gives : Gives effects heard heard'
  pub fault : to.fault ≡ from.fault
  pub server : IsServers to.conn

pub run_none : (from : Reader) (heard : Heard) → IsServers from.conn → Run 0 from from heard heard
unfolding read_times
run_none from heard server = record {
  effects = [];
  reads = refl;
  gives = record { payload_is = rw append-nil; words_are = rw append-nil; replies_are = rw append-nil };
  fault = refl;
  server = server;
}

run_took : (n : ℕ) (from at to : Reader) (heard between heard' : Heard) → Run n from at heard between
    → Took (read_step at.conn at.rest) at to between heard' → to.fault ≡ at.fault → Run (n + 1) from to heard heard'
run_took n from at to heard between heard' run took kept =
    let p = took.frame in
    let server : p.1.next.role ≡ Server = (read_kept at.conn at.rest p took.read).0 ∙ run.server in
    let gone = sent p.1.next.role p.1.reply between.replies.items heard'.replies.items server took.sends in
    record {
      effects = run.effects ++ p.1 ∷ [];
      reads = rw (took.next, took.rest) (read_next n from.conn from.rest run.effects at.conn at.rest p run.reads took.read);
      gives = record {
        payload_is = rw (took.hears.payload_is, run.gives.payload_is, payload_last run.effects p.1, append_assoc) refl;
        words_are = rw (took.hears.words_are, run.gives.words_are, words_last run.effects p.1, append_assoc) refl;
        replies_are = rw (gone, run.gives.replies_are, replies_last run.effects p.1, append_assoc) refl;
      };
      fault = kept ∙ run.fault;
      server = rw took.next server;
    }

pub run_next : (n : ℕ) (from at to : Reader) (heard between heard' : Heard) (goes : Bool) → Run n from at heard between
    → StepsTo goes (read_step at.conn at.rest) at to between heard' → goes ≡ true → to.fault ≡ at.fault → Run (n + 1) from to heard heard'
run_next n from at to heard between heard' goes run steps is kept =
    run_took n from at to heard between heard' run (step_of goes (read_step at.conn at.rest) at to between heard' steps is) kept

abbrev pub Goes : Reader → Reader → Heard → Heard → Type 0
Goes from to heard heard' =
    (effects : List Effect) × (read_all from.conn from.rest ≡ record { effects = effects; end = Ok (to.conn, to.rest) }) × Gives effects heard heard'

-- at the end of the rounds
pub run_all : (n most : ℕ) (from to : Reader) (heard heard' : Heard) → Run n from to heard heard' → n ≡ most + 1 → most ≡ length from.rest → Goes from to heard heard'
run_all n most from to heard heard' run is all =
    let rounds : n ≡ suc (length from.rest) = omega (arith, is, all) in
    (run.effects, rw (sym rounds) run.reads, run.gives)

same_given : (effects : List Effect) (heard between heard' : Heard) → Gives effects heard between → IsSame between heard' → Gives effects heard heard'
same_given effects heard between heard' gives same = record {
  payload_is = same.payload_is ∙ gives.payload_is;
  words_are = same.words_are ∙ gives.words_are;
  replies_are = same.replies_are ∙ gives.replies_are;
}

-- at a frame that isn't whole
pub run_waits : (n most : ℕ) (from at to : Reader) (heard between heard' : Heard) (goes : Bool) → Run n from at heard between → n ≤ most
    → most ≡ length from.rest → StepsTo goes (read_step at.conn at.rest) at to between heard' → goes ≡ false → Goes from to heard heard'
run_waits n most from at to heard between heard' goes run below all steps is =
    let w = wait_of goes (read_step at.conn at.rest) at to between heard' steps is in
    let waits = read_waits n most from.conn from.rest run.effects at.conn at.rest w.0 below run.reads w.1 in
    (run.effects, rw (w.2, w.3, sym all) waits, same_given run.effects heard between heard' run.gives w.4)

-- at a frame that is refused
pub run_stops : (n : ℕ) (from at : Reader) (heard between heard' : Heard) (f : Fault) → Run n from at heard between
    → (f ≡ NoMemory) ⊎ (Refuses (read_step at.conn at.rest) f × IsSame between heard')
    → (f ≡ NoMemory) ⊎ StopsAt from.conn from.rest heard heard' f
run_stops n from at heard between heard' f run (inl memory) = inl memory
run_stops n from at heard between heard' f run (inr refused) = inr (record {
  count = n;
  effects = run.effects;
  after = at.conn;
  rest = at.rest;
  reads = run.reads;
  gives = same_given run.effects heard between heard' run.gives refused.1;
  refuses = refused.0;
})
