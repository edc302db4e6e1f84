-- Blocks that come, one after the other.
use Rattle.std.proofs.Common.{◌≡◌, ◌<◌, ◌≤◌, ◌+◌, ◌^◌, ◌⊎◌, inl, inr, ℕ, List, [], ◌∷◌, ◌++◌, length, take, drop, false, nat_lt, refl, sym, ap, ◌∙◌, subst, arith, append_assoc, append-nil, length-append, length-drop, take-append-drop, None, Some, IfSome}
use Rattle.std.specs.Prelude.{Option}
use Rattle.std.specs.List.{flat_map}
use Rattle.std.specs.Io.KnownBytes.{Consumes}
use Rattle.std.proofs.lemmas.Bool.{cases_lt, le-ltb, lt-ltb}
use Rattle.std.proofs.lemmas.List.{take-append-le, drop-append-le, take_all, take_at, length-take, length-replicate}
use Rattle.terms.specs.Reading.{Got, More, field}
use Rattle.terms.proofs.Readings.{field-whole, field-short}
use Rattle.terms.specs.Number.{u32_at}
use Rattle.terms.specs.Number.{u32_bytes}
use Rattle.client_wire.specs.Stream.{Part, bytes_of, IsPart}
use Rattle.terms.specs.declared.wire_fault.WireFault.{WireFault}
use Rattle.client_wire.proofs.Streams.{flat_append, all_append}
use Rattle.fbs_export.specs.declared.fault.FbsFault.{FbsFault}
use Rattle.fbs_export.specs.declared.fault.FbsFault.TheVariants as faults
use Rattle.fbs_export.specs.Blocks.{Block, Laid, block_at, rest_of_block, padding_length, content_of, block_times, data_of, times_of, begun, stream_of, is_start}
use Rattle.fbs_export.specs.Opening.{opening_at}
use Rattle.fbs_export.specs.Reader.{IsDataFault, IsStop}
use Rattle.fbs_export.specs.Summary.{IsFault, IsCutShort, Waits}
use Rattle.fbs_export.proofs.Blocks.{number_again}

-- too few bytes for a length
pub head_short : (tail : List ℕ) → length tail < 4 → (block_at tail ≡ More) × (begun tail ≡ [])
unfolding block_at
head_short tail short = (rw (field-short {E = WireFault} 4 tail short) refl, rw (lt-ltb (length tail) 4 short) refl)

head_whole : (n : ℕ) (x : List ℕ) → n < 2 ^ 32 → block_at (u32_bytes n ++ x) ≡ rest_of_block n x
unfolding block_at
head_whole n x small = rw (field-whole {E = WireFault} 4 (u32_bytes n) x refl, number_again n small) refl

-- the data that are there
pub begun_is : (n : ℕ) (x some : List ℕ) → n < 2 ^ 32 → length x ≤ n → (length some ≡ 0) ⊎ (length x ≡ n) → begun (u32_bytes n ++ (x ++ some)) ≡ x
begun_is n x some small fits whole =
    let long : nat_lt (length (u32_bytes n ++ (x ++ some))) 4 ≡ false = le-ltb (length (u32_bytes n ++ (x ++ some))) 4 (omega (arith, length-append (u32_bytes n) (x ++ some))) in
    let front : take n (x ++ some) ≡ x = elim whole [
      | inl none ↦ take_all n (x ++ some) (omega (arith, none, fits, length-append x some)) ∙ ap (λ z. x ++ z) (empty some none) ∙ append-nil x
      | inr all ↦ take_at x some n all
    ] in
    rw (long, number_again n small) front
  where
    empty : (xs : List ℕ) → length xs ≡ 0 → xs ≡ []
    empty [] e = refl
    empty (x ∷ xs) e = absurd (omega arith)

-- data that aren't whole, or have no time yet
pub in_block : (n : ℕ) (x some : List ℕ) → n < 2 ^ 32 → (length x < n) × (length some ≡ 0) ⊎ (length x ≡ n) × (length some < padding_length n + 4)
    → block_at (u32_bytes n ++ (x ++ some)) ≡ More
unfolding rest_of_block
in_block n x some small (inl p) =
    head_whole n (x ++ some) small ∙ rw (field-short {E = WireFault} n (x ++ some) (omega (arith, p.0, p.1, length-append x some))) refl
in_block n x some small (inr p) = elim (cases_lt (length some) (padding_length n)) [
  | inl short ↦ head_whole n (x ++ some) small ∙ rw (field-whole {E = WireFault} n x some p.0, field-short {E = WireFault} (padding_length n) some short) refl
  | inr long ↦
      (let pad : ℕ = padding_length n in
      let front : length (take pad some) ≡ pad = omega (arith, length-take pad some, long) in
      let split : some ≡ take pad some ++ drop pad some = sym (take-append-drop pad some) in
      let got : field {E = WireFault} pad some ≡ Got (take pad some) (drop pad some) = ap (field {E = WireFault} pad) split ∙ field-whole {E = WireFault} pad (take pad some) (drop pad some) front in
      head_whole n (x ++ some) small ∙ rw (field-whole {E = WireFault} n x some p.0, got, field-short {E = WireFault} 4 (drop pad some) (omega (arith, length-drop pad some, p.1, long))) refl)
]

-- a whole block
abbrev pub block_part : ℕ → List ℕ → List ℕ → Part Block
block_part n x last = record {
  message = record { content = x; padding = take (padding_length n) last; time = u32_at (drop (padding_length n) last) 0 };
  bytes = u32_bytes n ++ (x ++ last);
}

pub block_whole : (n : ℕ) (x last : List ℕ) → n < 2 ^ 32 → length x ≡ n → length last ≡ padding_length n + 4 → IsPart block_at (block_part n x last)
unfolding rest_of_block
block_whole n x last small whole long =
    let pad : ℕ = padding_length n in
    let front : length (take pad last) ≡ pad = omega (arith, length-take pad last, long) in
    let split : last ≡ take pad last ++ drop pad last = sym (take-append-drop pad last) in
    let got : field {E = WireFault} pad last ≡ Got (take pad last) (drop pad last) = ap (field {E = WireFault} pad) split ∙ field-whole {E = WireFault} pad (take pad last) (drop pad last) front in
    let four : length (drop pad last) ≡ 4 = omega (arith, length-drop pad last, long) in
    let time : field {E = WireFault} 4 (drop pad last) ≡ Got (drop pad last) [] = ap (field {E = WireFault} 4) (sym (append-nil (drop pad last))) ∙ field-whole {E = WireFault} 4 (drop pad last) [] four in
    head_whole n (x ++ last) small ∙ rw (field-whole {E = WireFault} n x last whole, got, time) refl

-- a tail that is no whole block
pub laid_tail : (seen tail : List ℕ) (blocks : List (Part Block)) → Laid seen blocks [] → 12 ≤ length seen → block_at tail ≡ More → Laid (seen ++ tail) blocks tail
laid_tail seen tail blocks laid long waits = record {
  start = ap is_start (take-append-le 12 seen tail long) ∙ laid.start;
  reads = record {
    each = laid.reads.each;
    stream_is = drop-append-le 12 seen tail long ∙ ap (λ z. z ++ tail) (laid.reads.stream_is ∙ append-nil (flat_map bytes_of blocks));
  };
  unfinished = waits;
}

-- a block more
pub laid_block : (seen : List ℕ) (blocks : List (Part Block)) (p : Part Block) → Laid seen blocks [] → 12 ≤ length seen → IsPart block_at p → Laid (seen ++ p.bytes) (blocks ++ p ∷ []) []
laid_block seen blocks p laid long is = record {
  start = ap is_start (take-append-le 12 seen p.bytes long) ∙ laid.start;
  reads = record {
    each = all_append (IsPart block_at) blocks (p ∷ []) laid.reads.each (is, tt);
    stream_is = drop-append-le 12 seen p.bytes long ∙ ap (λ z. z ++ p.bytes) (laid.reads.stream_is ∙ append-nil (flat_map bytes_of blocks))
        ∙ ap (λ z. flat_map bytes_of blocks ++ z) (sym (append-nil p.bytes)) ∙ sym (flat_append bytes_of blocks (p ∷ [])) ∙ sym (append-nil (flat_map bytes_of (blocks ++ p ∷ [])));
  };
  unfinished = laid.unfinished;
}

pub data_more : (blocks : List (Part Block)) (p : Part Block) → data_of (blocks ++ p ∷ []) ≡ data_of blocks ++ content_of p
data_more blocks p = flat_append content_of blocks (p ∷ []) ∙ ap (λ z. data_of blocks ++ z) (append-nil (content_of p))

pub times_more : (blocks : List (Part Block)) (p : Part Block) → times_of (blocks ++ p ∷ []) ≡ times_of blocks ++ block_times p
times_more blocks p = flat_append block_times blocks (p ∷ []) ∙ ap (λ z. times_of blocks ++ z) (append-nil (block_times p))

-- a fault in the data that are there is one of the file, whatever follows
pub fault_in_data : (f : FbsFault) (front following : List ℕ) (blocks : List (Part Block)) (tail : List ℕ) → Laid front blocks tail → IsDataFault (stream_of blocks tail) f → IsFault (front ++ following) f
fault_in_data faults.NotFbs front following blocks tail laid p = absurd p
fault_in_data faults.Truncated front following blocks tail laid p = absurd p
fault_in_data faults.Version front following blocks tail laid p = record { front = front; following = following; is = refl; blocks = blocks; tail = tail; laid = laid; holds = p }
fault_in_data faults.Security front following blocks tail laid p = record { front = front; following = following; is = refl; blocks = blocks; tail = tail; laid = laid; holds = p }
fault_in_data faults.Format front following blocks tail laid p = record { front = front; following = following; is = refl; blocks = blocks; tail = tail; laid = laid; holds = p }
fault_in_data faults.Size front following blocks tail laid p = record { front = front; following = following; is = refl; blocks = blocks; tail = tail; laid = laid; holds = p }
fault_in_data (faults.Message w) front following blocks tail laid p = record { front = front; following = following; is = refl; blocks = blocks; tail = tail; laid = laid; holds = p }
fault_in_data faults.NoMemory front following blocks tail laid p = tt
fault_in_data faults.Read front following blocks tail laid p = tt

-- what is said of the bytes that are left is said of all of them
pub if_some_front : (a b : Option (List ℕ)) (seen : List ℕ) (P : List ℕ → Type 0) → Consumes a b seen → IfSome b (λ rest. P (seen ++ rest)) → IfSome a P
if_some_front None b seen P p h = tt
if_some_front (Some x) None seen P p h = absurd p
if_some_front (Some x) (Some y) seen P p h = subst P (sym p) h

-- whatever is left
pub if_any : (b : Option (List ℕ)) (P : List ℕ → Type 0) → ((rest : List ℕ) → P rest) → IfSome b P
if_any None P h = tt
if_any (Some x) P h = h x

-- a fault in the data of a block
pub content_fault : (f : FbsFault) (seen : List ℕ) (blocks : List (Part Block)) (n : ℕ) (x following : List ℕ) → Laid seen blocks [] → 12 ≤ length seen → n < 2 ^ 32 → length x ≤ n
    → IsDataFault (data_of blocks ++ x) f → IsFault (seen ++ (u32_bytes n ++ (x ++ following))) f
content_fault f seen blocks n x following laid long small fits bad =
    let tail : List ℕ = u32_bytes n ++ (x ++ []) in
    let waits : block_at tail ≡ More = elim (cases_lt (length x) n) [
      | inl less ↦ in_block n x [] small (inl (less, refl))
      | inr more ↦ in_block n x [] small (inr (omega (arith, fits, more), omega arith))
    ] in
    let here : begun tail ≡ x = begun_is n x [] small fits (inl refl) in
    let front : Laid (seen ++ tail) blocks tail = laid_tail seen tail blocks laid long waits in
    let all : (seen ++ tail) ++ following ≡ seen ++ (u32_bytes n ++ (x ++ following)) =
    append_assoc seen tail following ∙ ap (λ z. seen ++ (z ++ following)) (ap (λ z. u32_bytes n ++ z) (append-nil x)) ∙ ap (λ z. seen ++ z) (append_assoc (u32_bytes n) x following) in
    subst (λ z. IsFault z f) all (fault_in_data f (seen ++ tail) following blocks tail front (subst (λ z. IsDataFault (data_of blocks ++ z) f) (sym here) bad))

-- a file that ends inside a block
pub cut_short : (seen tail x : List ℕ) (blocks : List (Part Block)) → Laid seen blocks [] → 12 ≤ length seen → block_at tail ≡ More → begun tail ≡ x → 0 < length tail
    → (opening_at (data_of blocks ++ x) ≡ More) ⊎ Waits (data_of blocks ++ x) → IsCutShort (seen ++ tail)
cut_short seen tail x blocks laid long waits here some (inl opens) = record {
  blocks = blocks;
  tail = tail;
  laid = laid_tail seen tail blocks laid long waits;
  short = inl (ap (λ z. opening_at (data_of blocks ++ z)) here ∙ opens);
}
cut_short seen tail x blocks laid long waits here some (inr w) = record {
  blocks = blocks;
  tail = tail;
  laid = laid_tail seen tail blocks laid long waits;
  short = inr (λ none. omega (arith, ap (λ z. length z) none, some), subst (λ z. Waits (data_of blocks ++ z)) (sym here) w);
}

pub content_short : (seen : List ℕ) (blocks : List (Part Block)) (n : ℕ) (x : List ℕ) → Laid seen blocks [] → 12 ≤ length seen → n < 2 ^ 32 → length x < n
    → (opening_at (data_of blocks ++ x) ≡ More) ⊎ Waits (data_of blocks ++ x) → IsCutShort (seen ++ (u32_bytes n ++ x))
content_short seen blocks n x laid long small less w =
    subst (λ z. IsCutShort (seen ++ (u32_bytes n ++ z))) (append-nil x)
    (cut_short seen (u32_bytes n ++ (x ++ [])) x blocks laid long (in_block n x [] small (inl (less, refl))) (begun_is n x [] small (omega (arith, less)) (inl refl)) (omega (arith, length-append (u32_bytes n) (x ++ []))) w)

pub padding_short : (seen : List ℕ) (blocks : List (Part Block)) (n : ℕ) (x some : List ℕ) → Laid seen blocks [] → 12 ≤ length seen → n < 2 ^ 32 → length x ≡ n → length some < padding_length n + 4
    → (opening_at (data_of blocks ++ x) ≡ More) ⊎ Waits (data_of blocks ++ x) → IsCutShort (seen ++ (u32_bytes n ++ (x ++ some)))
padding_short seen blocks n x some laid long small whole less w =
    cut_short seen (u32_bytes n ++ (x ++ some)) x blocks laid long (in_block n x some small (inr (whole, less))) (begun_is n x some small (omega (arith, whole)) (inr whole)) (omega (arith, length-append (u32_bytes n) (x ++ some))) w

pub length_short : (seen tail : List ℕ) (blocks : List (Part Block)) → Laid seen blocks [] → 12 ≤ length seen → length tail < 4 → 0 < length tail
    → (opening_at (data_of blocks) ≡ More) ⊎ Waits (data_of blocks) → IsCutShort (seen ++ tail)
length_short seen tail blocks laid long less some w =
    let p = head_short tail less in
    cut_short seen tail [] blocks laid long p.0 p.1 some (subst (λ z. (opening_at z ≡ More) ⊎ Waits z) (sym (append-nil (data_of blocks))) w)

-- a file that ends here is cut short, wherever it does, or its reader failed
pub stopped : (rest : Option (List ℕ)) (least most : ℕ) (f : FbsFault) (file : List ℕ → List ℕ) → IsStop least most rest f
    → ((bytes : List ℕ) → least ≤ length bytes → length bytes < most → IsCutShort (file bytes)) → IfSome rest (λ bytes. IsFault (file bytes) f)
stopped None least most f file stop cut = tt
stopped (Some bytes) least most f file (inl read) cut = subst (IsFault (file bytes)) (sym read) tt
stopped (Some bytes) least most f file (inr short) cut = subst (IsFault (file bytes)) (sym short.0) (cut bytes short.1.0 short.1.1)

-- each byte of the stream has a time
pub same_lengths : (blocks : List (Part Block)) → length (data_of blocks) ≡ length (times_of blocks)
same_lengths [] = refl
same_lengths (p ∷ blocks) =
    omega (arith, length-append (content_of p) (data_of blocks), length-append (block_times p) (times_of blocks), length-replicate (length (content_of p)) p.message.time, same_lengths blocks)
