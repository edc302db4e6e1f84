-- How writes of some bytes, one after the other, make one write.
use Rattle.std.specs.Prelude.{◌≡◌, ◌||◌, ℕ, ◌+◌, ◌≤◌, Bool, true, false, List, [], ◌++◌, length, take, drop, refl}
use Rattle.std.proofs.Common.{arith, sym, ap, ◌∙◌, length-append, append_assoc}
use Rattle.std.proofs.lemmas.Bool.Decides.{nat_tests}
use Rattle.std.proofs.lemmas.List.{length-take-le, take-append-drop, drop-drop, append-nil}
use Rattle.std.proofs.Math.Seq.{take-append_seam, drop-append-add}
use Rattle.disk.specs.Contents.{Contents, IsWritten, IsWithinWrite, put, is_between}
use Rattle.disk.specs.ContentsLaws.{IsWithinWrite-written}

or_nothing : (b : Bool) → (b || false) ≡ b
or_nothing true = refl
or_nothing false = refl

none_between : (offset p : ℕ) → is_between offset 0 p ≡ false
none_between offset p = grind (arith, nat_tests)

put_nothing : (file : List ℕ) (offset : ℕ) → put file offset [] ≡ file
put_nothing file offset =
    let none : offset + 0 ≡ offset = omega arith in
    rw (append-nil (take offset file), none) (take-append-drop offset file)

-- a write of no bytes changes nothing
pub IsWritten-nothing : (offset : ℕ) (c : Contents) → IsWritten offset [] c c
IsWritten-nothing offset c = record {
  now = sym (put_nothing c.now offset);
  held = refl;
  touched = λ p. sym (ap (λ b. c.touched p || b) (none_between offset p) ∙ or_nothing (c.touched p));
}

-- two writes, the second right after the first, put the bytes of both
put_put : (file a b : List ℕ) (offset : ℕ) → offset ≤ length file → put (put file offset a) (offset + length a) b ≡ put file offset (a ++ b)
put_put file a b offset h =
    let front : length (take offset file ++ a) ≡ offset + length a = omega (arith, length-append (take offset file) a, length-take-le offset file h) in
    let rest : List ℕ = drop (offset + length a) file in
    let taken : take (offset + length a) (put file offset a) ≡ take offset file ++ a =
    ap (λ (n : ℕ). take n (put file offset a)) (sym front) ∙ take-append_seam (take offset file ++ a) rest in
    let all : offset + length a + length b ≡ offset + length (a ++ b) = omega (arith, length-append a b) in
    let dropped : drop (offset + length a + length b) (put file offset a) ≡ drop (offset + length (a ++ b)) file =
    ap (λ (n : ℕ). drop (n + length b) (put file offset a)) (sym front)
    ∙ drop-append-add (take offset file ++ a) rest (length b)
    ∙ drop-drop (length b) (offset + length a) file
    ∙ ap (λ (n : ℕ). drop n file) all in
    rw (taken, dropped, append_assoc (take offset file) a b)

two_ranges : (offset n m p : ℕ) → (is_between offset n p || is_between (offset + n) m p) ≡ is_between offset (n + m) p
two_ranges offset n m p = grind (arith, nat_tests)

or_assoc : (a b c : Bool) → ((a || b) || c) ≡ (a || (b || c))
or_assoc true b c = refl
or_assoc false b c = refl

-- A whole write, and one of the bytes that follow, are a whole write of both.
pub IsWritten-then : (offset : ℕ) (a b : List ℕ) (old mid new : Contents) → offset ≤ length old.now → IsWritten offset a old mid → IsWritten (offset + length a) b mid new → IsWritten offset (a ++ b) old new
IsWritten-then offset a b old mid new h first second = record {
  now = second.now ∙ ap (λ (file : List ℕ). put file (offset + length a) b) first.now ∙ put_put old.now a b offset h;
  held = second.held ∙ first.held;
  touched = λ p.
      second.touched p
      ∙ ap (λ (t : Bool). t || is_between (offset + length a) (length b) p) (first.touched p)
      ∙ or_assoc (old.touched p) (is_between offset (length a) p) (is_between (offset + length a) (length b) p)
      ∙ ap (λ (t : Bool). old.touched p || t) (two_ranges offset (length a) (length b) p ∙ ap (λ (n : ℕ). is_between offset n p) (sym (length-append a b)));
}

within_range : (offset n k m p : ℕ) → n + k ≤ m → is_between offset m p ≡ false → is_between offset n p ≡ false
within_range offset n k m p fits outside = grind (arith, nat_tests)

after_range : (offset n k m p : ℕ) → n + k ≤ m → is_between offset m p ≡ false → is_between (offset + n) k p ≡ false
after_range offset n k m p fits outside = grind (arith, nat_tests)

-- What stands within a write of n bytes, stands within one of more.
pub IsWithinWrite-wider : (offset n m : ℕ) (old new : Contents) → n ≤ m → IsWithinWrite offset n old new → IsWithinWrite offset m old new
IsWithinWrite-wider offset n m old new wider within = record {
  held = within.held;
  no_shorter = within.no_shorter;
  no_longer = omega (arith, within.no_longer);
  elsewhere = λ p outside. within.elsewhere p (within_range offset n 0 m p (omega arith) outside);
  untouched = λ p outside. within.untouched p (within_range offset n 0 m p (omega arith) outside);
}

-- A whole write, and what stands within one of the bytes that follow, stand within one of both.
pub IsWithinWrite-then : (offset m k : ℕ) (a : List ℕ) (old mid new : Contents) → offset ≤ length old.now → length a + k ≤ m → IsWritten offset a old mid → IsWithinWrite (offset + length a) k mid new → IsWithinWrite offset m old new
IsWithinWrite-then offset m k a old mid new h fits first second =
    let before : IsWithinWrite offset (length a) old mid = IsWithinWrite-written offset a old mid h first in
    record {
      held = second.held ∙ before.held;
      no_shorter = omega (arith, before.no_shorter, second.no_shorter);
      no_longer = omega (arith, before.no_longer, second.no_longer);
      elsewhere = λ p outside.
          second.elsewhere p (after_range offset (length a) k m p fits outside)
          ∙ before.elsewhere p (within_range offset (length a) k m p fits outside);
      untouched = λ p outside.
          second.untouched p (after_range offset (length a) k m p fits outside)
          ∙ before.untouched p (within_range offset (length a) k m p fits outside);
    }
