-- A file has one summary at most, and none beside a fault.
use Rattle.std.proofs.Common.{◌≡◌, ◌≢◌, ◌≤◌, inl, inr, ℕ, zero, suc, List, [], ◌∷◌, ◌++◌, length, take, drop, false, nat_lt, refl, sym, ap, ◌∙◌, subst, arith, append_assoc, append-nil, length-append}
use Rattle.std.specs.List.{flat_map, AllByRecursion}
use Rattle.std.proofs.lemmas.Bool.{cases_lt, le-ltb}
use Rattle.std.proofs.lemmas.List.{drop-append-le}
use Rattle.terms.specs.Reading.{Reading, Got, More, Bad, ◌>>=◌, field, guard, IsLocal}
use Rattle.terms.specs.Number.{u16_at, u32_at}
use Rattle.terms.specs.declared.format.Format.TheVariants.{Two}
use Rattle.terms.specs.Limits.{limits, is_size}
use Rattle.terms.proofs.Readings.{bind_got, bind_local, field-whole, field_got, field_local, guard_local}
use Rattle.terms.specs.declared.wire_fault.WireFault.{WireFault}
use Rattle.std.specs.Str.{bytes_eq}
use Rattle.std.specs.Prelude.{nat_eq}
use Rattle.client_wire.specs.Stream.{Part, Reads, FaultOf, IsPart, bytes_of}
use Rattle.client_wire.proofs.Streams.{empty_list, no_fault, one_reading, part_again, waits_begins_none}
use Rattle.rfb_wire.specs.Grammar.{message_at, message_limit}
use Rattle.rfb_wire.proofs.Local.{message_local}
use Rattle.fbs_export.specs.declared.fault.FbsFault.{FbsFault}
use Rattle.fbs_export.specs.declared.fault.FbsFault.TheVariants as faults
use Rattle.fbs_export.specs.Blocks.{Block, Laid, begun, block_at, content_of, data_of, padding_length, rest_of_block, stream_of, times_of}
use Rattle.fbs_export.specs.Opening.{Opening, format_then, is_host, name_at, name_limit, named, opening_at, security_then, size_then, version}
use Rattle.fbs_export.specs.Summary.{InFront, IsFault, IsSummary, MessageFault, Said, Tells}
use Rattle.fbs_export.proofs.Laying.{head_short}
use Rattle.fbs_export.proofs.Starts.{short_start}

rest_local : (n : ℕ) → IsLocal (rest_of_block n)
unfolding rest_of_block
rest_local n bytes more =
    let last : List ℕ → List ℕ → List ℕ → List ℕ → Reading Block WireFault = λ content padding time rest. Got (record { content = content; padding = padding; time = u32_at time 0 }) rest in
    let padded : List ℕ → List ℕ → List ℕ → Reading Block WireFault = λ content padding following. field 4 following >>= last content padding in
    let whole : List ℕ → List ℕ → Reading Block WireFault = λ content following. field (padding_length n) following >>= padded content in
    bind_local (field n bytes) (field n (bytes ++ more)) more whole whole (field_local WireFault n bytes more)
    (λ content following. bind_local (field (padding_length n) following) (field (padding_length n) (following ++ more)) more (padded content) (padded content) (field_local WireFault (padding_length n) following more)
    (λ padding end. bind_local (field 4 end) (field 4 (end ++ more)) more (last content padding) (last content padding) (field_local WireFault 4 end more) (λ time rest. refl)))

block_local : IsLocal block_at
unfolding block_at
block_local bytes more =
    let next : List ℕ → List ℕ → Reading Block WireFault = λ head rest. rest_of_block (u32_at head 0) rest in
    bind_local (field 4 bytes) (field 4 (bytes ++ more)) more next next (field_local WireFault 4 bytes more) (λ head rest. rest_local (u32_at head 0) rest more)

name_local : (w h : ℕ) → IsLocal (name_at w h)
unfolding name_at named
name_local w h bytes more =
    let last : List ℕ → List ℕ → Reading Opening FbsFault = λ name rest. Got (record { width = w; height = h; name = take name_limit name }) rest in
    let next : List ℕ → List ℕ → Reading Opening FbsFault = λ count rest. field (u32_at count 0) rest >>= last in
    bind_local (field 4 bytes) (field 4 (bytes ++ more)) more next next (field_local FbsFault 4 bytes more)
    (λ count rest. bind_local (field (u32_at count 0) rest) (field (u32_at count 0) (rest ++ more)) more last last (field_local FbsFault (u32_at count 0) rest more) (λ name end. refl))

format_local : (w h : ℕ) → IsLocal (format_then w h)
unfolding format_then
format_local w h bytes more =
    let next : List ℕ → List ℕ → Reading Opening FbsFault = λ format rest. guard (is_host format) faults.Format (name_at w h rest) in
    bind_local (field 16 bytes) (field 16 (bytes ++ more)) more next next (field_local FbsFault 16 bytes more)
    (λ format rest. guard_local (is_host format) faults.Format (name_at w h rest) (name_at w h (rest ++ more)) more (name_local w h rest more))

size_local : IsLocal size_then
unfolding size_then
size_local bytes more =
    let next : List ℕ → List ℕ → Reading Opening FbsFault = λ size rest. guard (is_size (limits Two) (u16_at size 0) (u16_at size 2)) faults.Size (format_then (u16_at size 0) (u16_at size 2) rest) in
    bind_local (field 4 bytes) (field 4 (bytes ++ more)) more next next (field_local FbsFault 4 bytes more)
    (λ size rest. guard_local (is_size (limits Two) (u16_at size 0) (u16_at size 2)) faults.Size (format_then (u16_at size 0) (u16_at size 2) rest) (format_then (u16_at size 0) (u16_at size 2) (rest ++ more)) more
    (format_local (u16_at size 0) (u16_at size 2) rest more))

security_local : IsLocal security_then
unfolding security_then
security_local bytes more =
    let next : List ℕ → List ℕ → Reading Opening FbsFault = λ security rest. guard (nat_eq (u32_at security 0) 1) faults.Security (size_then rest) in
    bind_local (field 4 bytes) (field 4 (bytes ++ more)) more next next (field_local FbsFault 4 bytes more)
    (λ security rest. guard_local (nat_eq (u32_at security 0) 1) faults.Security (size_then rest) (size_then (rest ++ more)) more (size_local rest more))

opening_local : IsLocal opening_at
unfolding opening_at
opening_local bytes more =
    let next : List ℕ → List ℕ → Reading Opening FbsFault = λ v rest. guard (bytes_eq v version) faults.Version (security_then rest) in
    bind_local (field 12 bytes) (field 12 (bytes ++ more)) more next next (field_local FbsFault 12 bytes more)
    (λ v rest. guard_local (bytes_eq v version) faults.Version (security_then rest) (security_then (rest ++ more)) more (security_local rest more))

-- a stream tells one thing
tells_once : (stream times : List ℕ) (a b : Said) → Tells stream times a → Tells stream times b → a ≡ b
tells_once stream times a b x y =
    let both : Got a.opening x.body ≡ Got b.opening y.body = sym x.opens ∙ y.opens in
    let opening : a.opening ≡ b.opening = cc in
    let body : x.body ≡ y.body = cc in
    let local = message_local (message_limit Two) a.opening.width a.opening.height in
    let reads = subst (λ (o : Opening). Reads (message_at (message_limit Two) o.width o.height) y.body y.parts y.rest) (sym opening) y.reads in
    let waits = subst (λ (o : Opening). message_at (message_limit Two) o.width o.height y.rest ≡ More) (sym opening) y.waits in
    let read = message_at (message_limit Two) a.opening.width a.opening.height in
    let one = one_reading read local x.body y.body x.parts y.parts x.rest y.rest body x.reads (waits_begins_none read local x.rest x.waits) reads (waits_begins_none read local y.rest waits) in
    let parts : x.parts ≡ y.parts = one.0 in
    let messages : a.messages ≡ b.messages = rw (x.messages_are, opening, body, parts) (sym y.messages_are) in
    let rest : a.rest ≡ b.rest = x.rest_is ∙ ap (λ (z : List ℕ). length z) one.1 ∙ sym y.rest_is in
    let same : record { opening = a.opening; messages = a.messages; rest = a.rest } ≡ b = rw (opening, messages, rest) refl in
    same

pub one_summary : (file : List ℕ) (a b : Said) → IsSummary file a → IsSummary file b → a ≡ b
one_summary file a b x y =
    let one = one_reading block_at block_local (drop 12 file) (drop 12 file) x.blocks y.blocks [] [] refl
    x.laid.reads (waits_begins_none block_at block_local [] x.laid.unfinished) y.laid.reads (waits_begins_none block_at block_local [] y.laid.unfinished) in
    tells_once (data_of x.blocks) (times_of x.blocks) a b x.tells (subst (λ (z : List (Part Block)). Tells (data_of z) (times_of z) b) (sym one.0) y.tells)

-- These bytes begin with those.
record GoesOn (front whole : List ℕ) : Type 0 where
  more : List ℕ
  is : whole ≡ front ++ more

front_of_take : (n : ℕ) (xs ys : List ℕ) → GoesOn (take n xs) (take n (xs ++ ys))
front_of_take zero xs ys = record { more = []; is = refl }
front_of_take (suc n) [] ys = record { more = take (suc n) ys; is = refl }
front_of_take (suc n) (x ∷ xs) ys =
    let goes = front_of_take n xs ys in
    record { more = goes.more; is = ap (λ (z : List ℕ). x ∷ z) goes.is }

same_block : (read : Reading Block WireFault) (one other : Block) (rest after : List ℕ) → read ≡ Got one rest → read ≡ Got other after → one ≡ other
same_block read one other rest after is is_too = let both = sym is ∙ is_too in cc

-- the data of a block that is read
content_is : (n : ℕ) (x : List ℕ) (m : Block) (after : List ℕ) → rest_of_block n x ≡ Got m after → m.content ≡ take n x
unfolding rest_of_block
content_is n x m after e =
    let last : List ℕ → List ℕ → List ℕ → List ℕ → Reading Block WireFault = λ content padding time rest. Got (record { content = content; padding = padding; time = u32_at time 0 }) rest in
    let padded : List ℕ → List ℕ → List ℕ → Reading Block WireFault = λ content padding following. field 4 following >>= last content padding in
    let whole : List ℕ → List ℕ → Reading Block WireFault = λ content following. field (padding_length n) following >>= padded content in
    let first = bind_got (field n x) whole m after e in
    let second = bind_got (field (padding_length n) first.rest) (padded first.value) m after first.then in
    let third = bind_got (field 4 second.rest) (last first.value second.value) m after second.then in
    let made : Block = record { content = first.value; padding = second.value; time = u32_at third.value 0 } in
    let same : made ≡ m = same_block (Got m after) made m third.rest after (sym third.then) refl in
    ap (λ (z : Block). z.content) (sym same) ∙ (field_got n x first.value first.rest first.first).is

-- what is there of a block stands in front of its data
begun_in_front : (q : Part Block) (rest t following : List ℕ) → block_at (t ++ following) ≡ Got q.message rest → GoesOn (begun t) (content_of q)
unfolding block_at
begun_in_front q rest [] following e = record { more = content_of q; is = refl }
begun_in_front q rest (a ∷ []) following e = record { more = content_of q; is = refl }
begun_in_front q rest (a ∷ b ∷ []) following e = record { more = content_of q; is = refl }
begun_in_front q rest (a ∷ b ∷ c ∷ []) following e = record { more = content_of q; is = refl }
begun_in_front q rest (a ∷ b ∷ c ∷ d ∷ t) following e =
    let head : List ℕ = a ∷ b ∷ c ∷ d ∷ [] in
    let n : ℕ = u32_at head 0 in
    let read : rest_of_block n (t ++ following) ≡ Got q.message rest = rw (field-whole {E = WireFault} 4 head (t ++ following) refl) at e in
    let content : content_of q ≡ take n (t ++ following) = content_is n (t ++ following) q.message rest read in
    let long : nat_lt (length (a ∷ b ∷ c ∷ d ∷ t)) 4 ≡ false = le-ltb (length (a ∷ b ∷ c ∷ d ∷ t)) 4 (omega arith) in
    let goes = front_of_take n t following in
    record { more = goes.more; is = rw (long) (content ∙ goes.is) }

-- The blocks of a front of a file, and what it has of one more, stand in front of the file's.
data_go_on : (b blocks : List (Part Block)) (t following : List ℕ) → AllByRecursion (IsPart block_at) b → AllByRecursion (IsPart block_at) blocks
    → flat_map bytes_of blocks ≡ flat_map bytes_of b ++ (t ++ following) → GoesOn (stream_of b t) (data_of blocks)
data_go_on [] [] t following x y is =
    let none : t ≡ [] = empty_list t (omega (arith, ap (λ (z : List ℕ). length z) is, length-append t following)) in
    record { more = []; is = rw none refl }
data_go_on [] (q ∷ blocks) t following x y is =
    let got : block_at (t ++ following) ≡ Got q.message (flat_map bytes_of blocks) = ap block_at (sym is) ∙ part_again block_at block_local q (flat_map bytes_of blocks) y.0 in
    let goes = begun_in_front q (flat_map bytes_of blocks) t following got in
    record { more = goes.more ++ data_of blocks; is = ap (λ (z : List ℕ). z ++ data_of blocks) goes.is ∙ append_assoc (begun t) goes.more (data_of blocks) }
data_go_on (p ∷ b) [] t following x y is =
    let none : p.bytes ≡ [] = empty_list p.bytes (omega (arith, ap (λ (z : List ℕ). length z) is, length-append (p.bytes ++ flat_map bytes_of b) (t ++ following), length-append p.bytes (flat_map bytes_of b))) in
    let both : More ≡ Got p.message [] = sym (head_short [] (omega arith)).0 ∙ ap block_at (sym none) ∙ x.0 in
    absurd (cc)
data_go_on (p ∷ b) (q ∷ blocks) t following x y is =
    let front : q.bytes ++ flat_map bytes_of blocks ≡ p.bytes ++ (flat_map bytes_of b ++ (t ++ following)) = is ∙ append_assoc p.bytes (flat_map bytes_of b) (t ++ following) in
    let got = sym (part_again block_at block_local q (flat_map bytes_of blocks) y.0) ∙ ap block_at front ∙ part_again block_at block_local p (flat_map bytes_of b ++ (t ++ following)) x.0 in
    let message : q.message ≡ p.message = cc in
    let rests : flat_map bytes_of blocks ≡ flat_map bytes_of b ++ (t ++ following) = cc in
    let goes = data_go_on b blocks t following x.1 y.1 rests in
    record {
      more = goes.more;
      is = ap (λ (m : Block). m.content ++ data_of blocks) message ∙ ap (λ (z : List ℕ). content_of p ++ z) goes.is
          ∙ ap (λ (z : List ℕ). content_of p ++ z) (append_assoc (data_of b) (begun t) goes.more)
          ∙ sym (append_assoc (content_of p) (data_of b) (begun t ++ goes.more))
          ∙ sym (append_assoc (content_of p ++ data_of b) (begun t) goes.more);
    }

long_start : (front : List ℕ) (blocks : List (Part Block)) (tail : List ℕ) → Laid front blocks tail → 12 ≤ length front
long_start front blocks tail laid = elim (cases_lt (length front) 12) [
  | inl short ↦ (let both = sym laid.start ∙ short_start front short in absurd (cc))
  | inr long ↦ long
]

front_goes_on : (file : List ℕ) (P : List ℕ → Type 0) (blocks : List (Part Block)) → Laid file blocks [] → (f : InFront file P) → GoesOn (stream_of f.blocks f.tail) (data_of blocks)
front_goes_on file P blocks laid f =
    let all : drop 12 file ≡ drop 12 f.front ++ f.following = ap (drop 12) f.is ∙ drop-append-le 12 f.front f.following (long_start f.front f.blocks f.tail f.laid) in
    let is : flat_map bytes_of blocks ≡ flat_map bytes_of f.blocks ++ (f.tail ++ f.following) =
    sym (append-nil (flat_map bytes_of blocks)) ∙ sym laid.reads.stream_is ∙ all ∙ ap (λ (z : List ℕ). z ++ f.following) f.laid.reads.stream_is ∙ append_assoc (flat_map bytes_of f.blocks) f.tail f.following in
    data_go_on f.blocks blocks f.tail f.following f.laid.reads.each laid.reads.each is

-- a fault of the opening is one of whatever goes on
no_bad_opening : (file : List ℕ) (s : Said) (bad : FbsFault) → IsSummary file s → InFront file (λ z. opening_at z ≡ Bad bad) → ⊥
no_bad_opening file s bad x f =
    let goes = front_goes_on file (λ z. opening_at z ≡ Bad bad) x.blocks x.laid f in
    let there = opening_local (stream_of f.blocks f.tail) goes.more in
    let bad_here : opening_at (stream_of f.blocks f.tail ++ goes.more) ≡ Bad bad = rw f.holds at there in
    let both : Bad bad ≡ Got s.opening x.tells.body = sym bad_here ∙ ap opening_at (sym goes.is) ∙ x.tells.opens in
    absurd (cc)

no_bad_message : (file : List ℕ) (s : Said) (bad : WireFault) → IsSummary file s → InFront file (λ z. MessageFault z bad) → ⊥
no_bad_message file s bad x f =
    let goes = front_goes_on file (λ z. MessageFault z bad) x.blocks x.laid f in
    let h = f.holds in
    let o : Opening = h.opening in
    let there = opening_local (stream_of f.blocks f.tail) goes.more in
    let opens : opening_at (stream_of f.blocks f.tail ++ goes.more) ≡ Got o (h.body ++ goes.more) = rw h.opens at there in
    let both : Got o (h.body ++ goes.more) ≡ Got s.opening x.tells.body = sym opens ∙ ap opening_at (sym goes.is) ∙ x.tells.opens in
    let same : o ≡ s.opening = cc in
    let body : h.body ++ goes.more ≡ x.tells.body = cc in
    let read = message_at (message_limit Two) o.width o.height in
    let local = message_local (message_limit Two) o.width o.height in
    let reads = subst (λ (z : Opening). Reads (message_at (message_limit Two) z.width z.height) x.tells.body x.tells.parts x.tells.rest) (sym same) x.tells.reads in
    let waits = subst (λ (z : Opening). message_at (message_limit Two) z.width z.height x.tells.rest ≡ More) (sym same) x.tells.waits in
    let longer = local h.fault.rest goes.more in
    let fault : FaultOf read x.tells.body bad = record {
      parts = h.fault.parts;
      rest = h.fault.rest ++ goes.more;
      reads = record {
        each = h.fault.reads.each;
        stream_is = sym body ∙ ap (λ (z : List ℕ). z ++ goes.more) h.fault.reads.stream_is ∙ append_assoc (flat_map bytes_of h.fault.parts) h.fault.rest goes.more;
      };
      fault = rw h.fault.fault at longer;
    } in
    no_fault read local x.tells.body x.tells.parts x.tells.rest bad reads waits fault

pub no_fault_beside : (file : List ℕ) (s : Said) (fault : FbsFault) → IsSummary file s → IsFault file fault → fault ≢ faults.NoMemory → fault ≢ faults.Read → ⊥
no_fault_beside file s faults.NotFbs x f memory reader = let both = sym x.laid.start ∙ f in absurd (cc)
no_fault_beside file s faults.Truncated x f memory reader =
    let one = one_reading block_at block_local (drop 12 file) (drop 12 file) f.blocks x.blocks f.tail [] refl
    f.laid.reads (waits_begins_none block_at block_local f.tail f.laid.unfinished) x.laid.reads (waits_begins_none block_at block_local [] x.laid.unfinished) in
    elim f.short [
      | inl short ↦
          (let all : stream_of f.blocks f.tail ≡ data_of x.blocks = rw (one.0, one.1) (append-nil (data_of x.blocks)) in
          let both : More ≡ Got s.opening x.tells.body = sym short ∙ ap opening_at all ∙ x.tells.opens in
          absurd (cc))
      | inr tail ↦ tail.0 one.1
    ]
no_fault_beside file s faults.Version x f memory reader = no_bad_opening file s faults.Version x f
no_fault_beside file s faults.Security x f memory reader = no_bad_opening file s faults.Security x f
no_fault_beside file s faults.Format x f memory reader = no_bad_opening file s faults.Format x f
no_fault_beside file s faults.Size x f memory reader = no_bad_opening file s faults.Size x f
no_fault_beside file s (faults.Message w) x f memory reader = no_bad_message file s w x f
no_fault_beside file s faults.NoMemory x f memory reader = memory refl
no_fault_beside file s faults.Read x f memory reader = reader refl
