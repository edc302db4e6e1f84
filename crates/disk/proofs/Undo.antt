-- Undoing a write.
use Rattle.std.specs.Prelude.{◌≡◌, ℕ, ◌+◌, ◌-◌, ◌<◌, ◌≤◌, min, max, Bool, true, false, List, ◌++◌, length, take, drop, slice_index, replicate, if◌then◌else◌}
use Rattle.std.proofs.Common.{arith, sym, ap, ◌∙◌, inl, inr, length-append, length-drop, append_assoc}
use Rattle.std.proofs.lemmas.Bool.{cases_lt}
use Rattle.std.proofs.lemmas.Bool.Decides.{nat_tests}
use Rattle.std.proofs.lemmas.List.{length-replicate, get_or-replicate, length-take, get_or-take, ext_get_or, drop-drop}
use borrow.Rule.Slice.PartMut.{put_mid}
use Rattle.disk.specs.Overwrite.{Overwrite}
use Rattle.disk.specs.Contents.{put, is_between}
use Rattle.disk.specs.Put.{length-put, put_before, put_within, put_after}
use Rattle.disk.specs.Memory.{before_write}

pub put_mid-put : (file bytes : List ℕ) (offset count : ℕ) → length bytes ≡ count → put_mid offset count file bytes ≡ put file offset bytes
put_mid-put file bytes offset count e =
    rw (drop-drop count offset file, ← e) (sym (append_assoc (take offset file) bytes (drop (offset + length bytes) file)))

-- at each offset of the file that is left
same_offset : (file replaced : List ℕ) (offset start n count p : ℕ) → start ≡ min offset (length file) → count ≡ min (min (length file - start) n) (length replaced) → p < length file → slice_index (put file start (take count replaced)) p ≡ slice_index (put file offset (take n replaced)) p
same_offset file replaced offset start n count p s k l =
    let few : List ℕ = take count replaced in
    let all : List ℕ = take n replaced in
    let few_length : length few ≡ count = omega (arith, length-take count replaced) in
    let all_length : length all ≡ min n (length replaced) = length-take n replaced in
    elim (cases_lt p start) [
      | inl before ↦
          put_before file few start p l before ∙ sym (put_before file all offset p l (omega arith))
      | inr from ↦ elim (cases_lt p (start + count)) [
        | inl to ↦
            let here : start ≡ offset = omega arith in
            put_within file few start p (omega arith) from (omega arith)
            ∙ get_or-take count replaced (p - start) 0 (omega arith)
            ∙ ap (λ (q : ℕ). slice_index replaced (p - q)) here
            ∙ sym (get_or-take n replaced (p - offset) 0 (omega arith))
            ∙ sym (put_within file all offset p (omega arith) (omega arith) (omega arith))
        | inr following ↦
            put_after file few start p (omega arith) (omega arith)
            ∙ sym (elim (cases_lt p offset) [
              | inl below ↦ put_before file all offset p l below
              | inr past ↦ put_after file all offset p (omega arith) (omega arith)
            ])
      ]
    ]

length-put-least : (file bytes : List ℕ) (offset : ℕ) → length file ≤ length (put file offset bytes)
length-put-least file bytes offset =
    omega (arith, length-append (take offset file ++ bytes) (drop (offset + length bytes) file), length-append (take offset file) bytes, length-take offset file, length-drop (offset + length bytes) file)

pub undone_in_place : (w : Overwrite) (file : List ℕ) (start count : ℕ) → start ≡ min w.offset (length file) → count ≡ min (min (length file - start) w.count) (length w.replaced) → take w.length_before (put_mid start count file (take count w.replaced)) ≡ before_write w file
unfolding before_write
undone_in_place w file start count s k =
    let few : List ℕ = take count w.replaced in
    let few_length : length few ≡ count = omega (arith, length-take count w.replaced) in
    let old : List ℕ = put file w.offset (take w.count w.replaced) in
    let here : List ℕ = put file start few in
    let here_length : length here ≡ max (length file) (start + length few) = length-put file few start (omega arith) in
    let same_length : length (take w.length_before here) ≡ length (take (min w.length_before (length file)) old) =
    omega (arith, length-take w.length_before here, length-take (min w.length_before (length file)) old, length-put-least file (take w.count w.replaced) w.offset) in
    rw (put_mid-put file few start count few_length)
    (ext_get_or 0 (take w.length_before here) (take (min w.length_before (length file)) old) same_length (λ p l.
    let below : p < min w.length_before (length here) = omega (arith, length-take w.length_before here) in
    get_or-take w.length_before here p 0 (omega arith)
    ∙ same_offset file w.replaced w.offset start w.count count p s k (omega arith)
    ∙ sym (get_or-take (min w.length_before (length file)) old p 0 (omega arith))))

within_range : (offset n p : ℕ) → offset ≤ p → p < offset + n → is_between offset n p ≡ true
within_range offset n p from to = grind (arith, nat_tests)

before_range : (offset n p : ℕ) → p < offset → is_between offset n p ≡ false
before_range offset n p before = grind (arith, nat_tests)

after_range : (offset n p : ℕ) → offset + n ≤ p → is_between offset n p ≡ false
after_range offset n p following = grind (arith, nat_tests)

-- one byte over a range, as far as the file goes
pub overwritten_in_place : (file : List ℕ) (offset n start count byte p : ℕ) → start ≡ min offset (length file) → count ≡ min n (length file - start) → p < length file → slice_index (put_mid start count file (replicate count byte)) p ≡ (if is_between offset n p then byte else slice_index file p)
overwritten_in_place file offset n start count byte p s k l =
    let bytes : List ℕ = replicate count byte in
    let bytes_length : length bytes ≡ count = length-replicate count byte in
    let choice : Bool → ℕ = λ t. if t then byte else slice_index file p in
    rw (put_mid-put file bytes start count bytes_length) (elim (cases_lt p start) [
      | inl before ↦ put_before file bytes start p l before ∙ sym (ap choice (before_range offset n p (omega arith)))
      | inr from ↦ elim (cases_lt p (start + count)) [
        | inl to ↦
            put_within file bytes start p (omega arith) from (omega arith)
            ∙ get_or-replicate count (p - start) byte 0 (omega arith)
            ∙ sym (ap choice (within_range offset n p (omega arith) (omega arith)))
        | inr following ↦
            put_after file bytes start p (omega arith) (omega arith)
            ∙ sym (elim (cases_lt p offset) [
              | inl below ↦ ap choice (before_range offset n p below)
              | inr past ↦ ap choice (after_range offset n p (omega arith))
            ])
      ]
    ])
