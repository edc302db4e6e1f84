-- What is told of one more block.
use Rattle.std.proofs.Common.{◌≡◌, ◌<◌, ◌+◌, ◌-◌, ◌^◌, inl, inr, ℕ, List, [], ◌∷◌, ◌++◌, Option, Some, length, refl, sym, ap, subst, ◌∙◌, arith, zero, suc, append_assoc, append-nil, length-append}
use Rattle.std.specs.Prelude.{sum_by, slice_get, slice_set}
use Rattle.std.specs.List.{AllByRecursion}
use Rattle.std.proofs.lemmas.List.Sums.{sum_by-append}
use Rattle.timeline.specs.declared.stretch.Block.{Block}
use Rattle.timeline.specs.declared.stretch.Stretch.{Stretch}
use Rattle.timeline.specs.Timeline.{AreTogether, counted, IsOf, IsWhole, Tell, Told, TellsOf, BeginsAnother, joined, begun, IsJoined, IsFollowed}

all_more : (P : Block → Type 0) (bs : List Block) (b : Block) → AllByRecursion P bs → P b → AllByRecursion P (bs ++ b ∷ [])
all_more P [] b all is = (is, tt)
all_more P (x ∷ bs) b all is = (all.0, all_more P bs b all.1 is)

-- the messages of one more block
sum_more : (s u t : ℕ) → t ≡ s + (0 + u) → counted (counted s + u) ≡ counted t
sum_more s u t is = omega arith

updates_more : (x : Block) (bs : List Block) (b : Block)
    → counted (counted (sum_by (λ (b : Block). b.updates) (x ∷ bs)) + b.updates) ≡ counted (sum_by (λ (b : Block). b.updates) (x ∷ (bs ++ b ∷ [])))
updates_more x bs b =
    sum_more (sum_by (λ (b : Block). b.updates) (x ∷ bs)) b.updates (sum_by (λ (b : Block). b.updates) (x ∷ (bs ++ b ∷ [])))
    (sum_by-append (λ (b : Block). b.updates) (x ∷ bs) (b ∷ []))

of_more : (every : Option ℕ) (n : ℕ) (run : List Block) (s : Stretch) (b : Block) → IsOf every n run s → AreTogether every s.time b.time → IsOf every n (run ++ b ∷ []) (joined s b)
of_more every n [] s b is together = absurd is
of_more every n (x ∷ bs) s b is together =
    let one : joined s b ≡ record { time = x.time; message = x.message; block = counted n; updates = counted (counted (sum_by (λ (b : Block). b.updates) (x ∷ bs)) + b.updates) } = ap (λ (z : Stretch). joined z b) is.0 in
    let more : record { time = x.time; message = x.message; block = counted n; updates = counted (counted (sum_by (λ (b : Block). b.updates) (x ∷ bs)) + b.updates) }
    ≡ (let all : Stretch = record { time = x.time; message = x.message; block = counted n; updates = counted (sum_by (λ (b : Block). b.updates) (x ∷ (bs ++ b ∷ []))) } in all)
    = ap (λ (u : ℕ). let all : Stretch = record { time = x.time; message = x.message; block = counted n; updates = u } in all) (updates_more x bs b) in
    (one ∙ more, all_more (λ b. AreTogether every x.time b.time) bs b is.1 (subst (λ (z : Stretch). AreTogether every z.time b.time) is.0 together))

whole_more : (every : Option ℕ) (s : Stretch) (rest : List Block) (b : Block) → IsWhole every s rest → (rest ≡ [] → ⊥) → IsWhole every s (rest ++ b ∷ [])
whole_more every s [] b whole some = absurd (some refl)
whole_more every s (r ∷ rest) b whole some = whole

-- a run has a block
run_some : (every : Option ℕ) (n : ℕ) (run rest blocks : List Block) (s : Stretch) → IsOf every n run s → blocks ≡ run ++ rest → blocks ≡ [] → ⊥
run_some every n [] rest blocks s is whole none = is
run_some every n (x ∷ run) rest blocks s is whole none = absurd (cc (whole, none))

told_some : (every : Option ℕ) (n : ℕ) (blocks : List Block) (s : Stretch) (ss : List Stretch) → Tell every n blocks (s ∷ ss) → blocks ≡ [] → ⊥
told_some every n blocks s ss told = run_some every n told.0 told.1 blocks s told.3 told.2

last_some : (every : Option ℕ) (n : ℕ) (blocks : List Block) (before : List Stretch) (last : Stretch) → Tell every n blocks (before ++ last ∷ []) → blocks ≡ [] → ⊥
last_some every n blocks [] last told = told_some every n blocks last [] told
last_some every n blocks (s ∷ before) last told = told_some every n blocks s (before ++ last ∷ []) told

further : (blocks run rest : List Block) (b : Block) → blocks ≡ run ++ rest → blocks ++ b ∷ [] ≡ run ++ (rest ++ b ∷ [])
further blocks run rest b whole = ap (λ (z : List Block). z ++ b ∷ []) whole ∙ append_assoc run rest (b ∷ [])

at_last : (blocks run rest : List Block) (b : Block) → blocks ≡ run ++ rest → rest ≡ [] → blocks ++ b ∷ [] ≡ (run ++ b ∷ []) ++ []
at_last blocks run rest b whole none =
    let all : blocks ≡ run = whole ∙ (ap (λ (z : List Block). run ++ z) none ∙ append-nil run) in
    ap (λ (z : List Block). z ++ b ∷ []) all ∙ sym (append-nil (run ++ b ∷ []))

-- the last stretch tells of one more block
told_joined : (every : Option ℕ) (n : ℕ) (before : List Stretch) (last : Stretch) (blocks : List Block) (b : Block) → Tell every n blocks (before ++ last ∷ []) → AreTogether every last.time b.time
    → Tell every n (blocks ++ b ∷ []) (before ++ joined last b ∷ [])
told_joined every n [] last blocks b told together =
    (told.0 ++ b ∷ [], [], at_last blocks told.0 told.1 b told.2 told.5, of_more every n told.0 last b told.3 together, tt, refl)
told_joined every n (s ∷ before) last blocks b told together = (
  told.0,
  told.1 ++ b ∷ [],
  further blocks told.0 told.1 b told.2,
  told.3,
  whole_more every s told.1 b told.4 (last_some every (n + length told.0) told.1 before last told.5),
  told_joined every (n + length told.0) before last told.1 b told.5 together,
)

whole_begun : (every : Option ℕ) (n : ℕ) (s : Stretch) (rest : List Block) (ss : List Stretch) (b : Block) → IsWhole every s rest → Tell every n rest ss → BeginsAnother every (s ∷ ss) b.time → IsWhole every s (rest ++ b ∷ [])
whole_begun every n s [] [] b whole told another = another [] s refl
whole_begun every n s [] (t ∷ ss) b whole told another = absurd (told_some every n [] t ss told refl)
whole_begun every n s (r ∷ rest) ss b whole told another = whole

-- its number is that of the first, and so many more
number_after : (n : ℕ) (blocks run rest : List Block) → blocks ≡ run ++ rest → (n + length run) + length rest ≡ n + length blocks
number_after n blocks run rest whole = omega (arith, ap length whole ∙ length-append run rest)

alone : (n u : ℕ) (blocks : List Block) → blocks ≡ [] → u < 2 ^ 64 → (counted (n + length blocks) ≡ counted n) × (u ≡ counted (0 + u))
alone n u blocks none small = (omega (arith, ap length none), omega arith)

-- another stretch tells of one more block
told_begun : (every : Option ℕ) (n : ℕ) (ss : List Stretch) (blocks : List Block) (b : Block) → b.updates < 2 ^ 64 → Tell every n blocks ss → BeginsAnother every ss b.time
    → Tell every n (blocks ++ b ∷ []) (ss ++ begun (counted (n + length blocks)) b ∷ [])
told_begun every n [] blocks b small told another =
    let is = alone n b.updates blocks told small in
    (b ∷ [], [], ap (λ (z : List Block). z ++ b ∷ []) told, (cc (is.0, is.1), tt), tt, refl)
told_begun every n (s ∷ ss) blocks b small told another =
    let more : Tell every (n + length told.0) (told.1 ++ b ∷ []) (ss ++ begun (counted ((n + length told.0) + length told.1)) b ∷ [])
    = told_begun every (n + length told.0) ss told.1 b small told.5 (λ before last is. another (s ∷ before) last (ap (λ (z : List Stretch). s ∷ z) is)) in (
      told.0,
      told.1 ++ b ∷ [],
      further blocks told.0 told.1 b told.2,
      told.3,
      whole_begun every (n + length told.0) s told.1 ss b told.4 told.5 another,
      subst (λ (k : ℕ). Tell every (n + length told.0) (told.1 ++ b ∷ []) (ss ++ begun (counted k) b ∷ [])) (number_after n blocks told.0 told.1 told.2) more,
    )

next_after : (n : ℕ) (blocks : List Block) (b : Block) → counted (counted (n + length blocks) + 1) ≡ counted (n + length (blocks ++ b ∷ []))
next_after n blocks b = omega (arith, length-append blocks (b ∷ []))

followed : (every : Option ℕ) (from : ℕ) (blocks : List Block) (old new : List Stretch) (number : ℕ) (b : Block) → b.updates < 2 ^ 64 → number ≡ counted (from + length blocks)
    → Tell every from blocks old → IsFollowed every old number b new → Tell every from (blocks ++ b ∷ []) new
followed every from blocks old new number b small is told (inl j) =
    subst (λ (z : List Stretch). Tell every from (blocks ++ b ∷ []) z) (sym j.is)
    (told_joined every from j.before j.last blocks b (subst (λ (z : List Stretch). Tell every from blocks z) j.was told) j.together)
followed every from blocks old new number b small is told (inr j) =
    let P : List Stretch → Type 0 = λ z. Tell every from (blocks ++ b ∷ []) z in
    subst P (sym (j.is ∙ ap (λ (k : ℕ). old ++ begun k b ∷ []) is)) (told_begun every from old blocks b small told j.another)

-- A timeline to which a block was added tells of that too.
pub tells_of_more : (from : ℕ) (blocks : List Block) (old new : Told) (b : Block) → b.updates < 2 ^ 64 → new.every ≡ old.every → new.next ≡ counted (old.next + 1)
    → IsFollowed old.every old.stretches old.next b new.stretches → TellsOf from blocks old → TellsOf from (blocks ++ b ∷ []) new
tells_of_more from blocks old new b small every next follows told =
    let stretches : Tell old.every from (blocks ++ b ∷ []) new.stretches = followed old.every from blocks old.stretches new.stretches old.next b small told.next told.stretches follows in
    record {
      next = next ∙ (ap (λ (n : ℕ). counted (n + 1)) told.next ∙ next_after from blocks b);
      stretches = subst (λ (e : Option ℕ). Tell e from (blocks ++ b ∷ []) new.stretches) (sym every) stretches;
    }

at_end : (xs : List Stretch) (n : ℕ) (last new : Stretch) → slice_get xs n ≡ Some last → length xs ≡ n + 1
    → (before : List Stretch) × (xs ≡ before ++ last ∷ []) × (slice_set xs n new ≡ before ++ new ∷ [])
at_end [] n last new is all = absurd (cc is)
at_end (x ∷ []) zero last new is all = ([], cc is, refl)
at_end (x ∷ (y ∷ xs)) zero last new is all = absurd (omega arith)
at_end (x ∷ []) (suc n) last new is all = absurd (cc is)
at_end (x ∷ (y ∷ xs)) (suc n) last new is all =
    let h = at_end (y ∷ xs) n last new is (omega arith) in
    (x ∷ h.0, ap (λ (z : List Stretch). x ∷ z) h.1, ap (λ (z : List Stretch). x ∷ z) h.2)

abbrev pub with_updates : Stretch → ℕ → Stretch
with_updates s u = record s { updates = u }

at_joined : (every : Option ℕ) (old : List Stretch) (n : ℕ) (b : Block) (last : Stretch) (u : ℕ) → slice_get old n ≡ Some last → length old ≡ n + 1 → AreTogether every last.time b.time
    → u ≡ counted (last.updates + b.updates) → IsJoined every old b (slice_set old n (with_updates last u))
at_joined every old n b last u is all together sum =
    let h = at_end old n last (with_updates last u) is all in
    record { before = h.0; last = last; was = h.1; together = together; is = h.2 ∙ ap (λ (k : ℕ). h.0 ++ with_updates last k ∷ []) sum }

-- the last of some stretches is joined
pub last_joined : (every : Option ℕ) (old : List Stretch) (end : ℕ) (b : Block) (last : Stretch) (u : ℕ) → end ≡ length old → slice_get old (length old - 1) ≡ Some last
    → AreTogether every last.time b.time → u ≡ counted (last.updates + b.updates) → IsJoined every old b (slice_set old (end - 1) (with_updates last u))
last_joined every [] end b last u ends is together sum = absurd (cc is)
last_joined every (s ∷ ss) end b last u ends is together sum =
    let at : end - 1 ≡ length (s ∷ ss) - 1 = omega arith in
    at_joined every (s ∷ ss) (end - 1) b last u (ap (slice_get (s ∷ ss)) at ∙ is) (omega arith) together sum
