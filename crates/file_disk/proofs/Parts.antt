-- What reads and writes of a part bring the whole on.
use Rattle.std.specs.Prelude.{◌≡◌, ℕ, ◌+◌, ◌-◌, ◌≤◌, List, ◌++◌, length, take, drop}
use Rattle.std.proofs.Common.{arith, sym, ap, ◌∙◌, subst, length-drop}
use Rattle.std.proofs.lemmas.List.{length-take-le, length-take, drop-drop}
use Rattle.std.proofs.Math.Seq.{take-add, take-take, take-append-add, take-append_seam}
use Rattle.disk.specs.Contents.{Contents, IsWritten, IsWithinWrite}
use Rattle.disk.specs.History.{History, present, GoesOn}
use Rattle.disk.specs.Moments.{GoesOn-then, GoesOn-weaken}
use Rattle.file_disk.specs.WriteLaws.{IsWritten-then, IsWithinWrite-then}

-- the bytes after the first so many
abbrev pub rest_of : List ℕ → ℕ → List ℕ
rest_of bytes done = take (length bytes - done) (drop done bytes)

length-rest_of : (bytes : List ℕ) (done : ℕ) → length (rest_of bytes done) ≡ length bytes - done
length-rest_of bytes done = omega (arith, length-take (length bytes - done) (drop done bytes), length-drop done bytes)

pub first_of_rest : (bytes : List ℕ) (done n : ℕ) → n ≤ length (rest_of bytes done) → take n (rest_of bytes done) ≡ take n (drop done bytes)
first_of_rest bytes done n few = take-take n (length bytes - done) (drop done bytes) (omega (arith, length-rest_of bytes done))

pub written_more : (bytes : List ℕ) (offset done n : ℕ) (old mid new : Contents) → offset ≤ length old.now → done ≤ length bytes → n ≤ length (rest_of bytes done) → IsWritten offset (take done bytes) old mid → IsWritten (offset + done) (take n (rest_of bytes done)) mid new → IsWritten offset (take (done + n) bytes) old new
written_more bytes offset done n old mid new h within few first second =
    let front : length (take done bytes) ≡ done = length-take-le done bytes within in
    let P : List ℕ → Type 0 = λ part. IsWritten (offset + length (take done bytes)) part mid new in
    let Q : ℕ → Type 0 = λ k. IsWritten (offset + k) (take n (rest_of bytes done)) mid new in
    let there : IsWritten (offset + length (take done bytes)) (take n (drop done bytes)) mid new =
    subst P (first_of_rest bytes done n few) (subst Q (sym front) second) in
    let R : List ℕ → Type 0 = λ part. IsWritten offset part old new in
    subst R (sym (take-add done n bytes)) (IsWritten-then offset (take done bytes) (take n (drop done bytes)) old mid new h first there)

pub goes_on_more : (h k l : History) (offset done : ℕ) (bytes : List ℕ) → offset ≤ length (present h).now → done ≤ length bytes → IsWritten offset (take done bytes) (present h) (present k) → GoesOn h k (IsWithinWrite offset (length bytes) (present h)) → GoesOn k l (IsWithinWrite (offset + done) (length (rest_of bytes done)) (present k)) → GoesOn h l (IsWithinWrite offset (length bytes) (present h))
goes_on_more h k l offset done bytes fits within first run more =
    let front : length (take done bytes) ≡ done = length-take-le done bytes within in
    let all : length (take done bytes) + length (rest_of bytes done) ≤ length bytes = omega (arith, length-rest_of bytes done) in
    let each : (c : Contents) → IsWithinWrite (offset + done) (length (rest_of bytes done)) (present k) c → IsWithinWrite offset (length bytes) (present h) c =
    λ c part.
    let Q : ℕ → Type 0 = λ n. IsWithinWrite (offset + n) (length (rest_of bytes done)) (present k) c in
    IsWithinWrite-then offset (length bytes) (length (rest_of bytes done)) (take done bytes) (present h) (present k) c fits all first (subst Q (sym front) part) in
    GoesOn-then h k l (IsWithinWrite offset (length bytes) (present h)) run
    (GoesOn-weaken k l (IsWithinWrite (offset + done) (length (rest_of bytes done)) (present k)) (IsWithinWrite offset (length bytes) (present h)) each more)

filled_part : (a : ℕ) (xs ys all : List ℕ) (n : ℕ) → take (a + length ys) all ≡ take a xs ++ ys → a ≤ length xs → n ≤ length ys → take (a + n) all ≡ take a xs ++ take n ys
filled_part a xs ys all n whole fits short =
    let front : length (take a xs) ≡ a = length-take-le a xs fits in
    sym (take-take (a + n) (a + length ys) all (omega (arith, short))) ∙ ap (take (a + n)) whole
    ∙ ap (λ (z : ℕ). take (z + n) (take a xs ++ ys)) (sym front) ∙ take-append-add (take a xs) ys n

-- n bytes more are read after those that were
pub read_more : (file xs ys all : List ℕ) (offset done n : ℕ) → take (done + length ys) all ≡ take done xs ++ ys → done ≤ length xs → n ≤ length ys → take done xs ≡ take done (drop offset file) → take n ys ≡ take n (drop (offset + done) file) → take (done + n) all ≡ take (done + n) (drop offset file)
read_more file xs ys all offset done n whole fits short before here =
    let following : take n (drop (offset + done) file) ≡ take n (drop done (drop offset file)) = ap (take n) (sym (drop-drop done offset file)) in
    filled_part done xs ys all n whole fits short
    ∙ ap (λ (front : List ℕ). front ++ take n ys) before
    ∙ ap (λ (back : List ℕ). take done (drop offset file) ++ back) (here ∙ following)
    ∙ sym (take-add done n (drop offset file))

-- a read that a signal cut off leaves what was read before
pub read_none : (file xs ys all : List ℕ) (offset done : ℕ) → take (done + length ys) all ≡ take done xs ++ ys → done ≤ length xs → take done xs ≡ take done (drop offset file) → take done all ≡ take done (drop offset file)
read_none file xs ys all offset done whole fits before =
    let front : length (take done xs) ≡ done = length-take-le done xs fits in
    sym (take-take done (done + length ys) all (omega arith)) ∙ ap (take done) whole
    ∙ ap (λ (z : ℕ). take z (take done xs ++ ys)) (sym front) ∙ take-append_seam (take done xs) ys ∙ before
