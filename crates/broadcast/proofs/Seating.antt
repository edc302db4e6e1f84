-- What is kept of seats.
use Rattle.std.proofs.Common.{◌≡◌, ◌≢◌, ℕ, zero, suc, ◌+◌, ◌<◌, ◌≤◌, List, [], ◌∷◌, ◌++◌, length, drop, Some, refl, sym, ◌∙◌, ap, subst, arith}
use Rattle.std.specs.Prelude.{Option, None, slice_index_or}
use Rattle.std.specs.List.{slice_get}
use Rattle.broadcast.specs.declared.seat.Cursor.{Cursor}
use Rattle.broadcast.specs.Seats.{seat_at, with_seat, first_free, next_of, AreFree, AreWithin}

pub kept_at : (seats : List (Option Cursor)) (n : ℕ) (seat : Option Cursor) → slice_get seats n ≡ Some seat → seat ≡ seat_at seats n
kept_at [] n seat e = absurd (cc)
kept_at (s ∷ seats) zero seat e = let same : s ≡ seat = cc in sym same
kept_at (s ∷ seats) (suc n) seat e = kept_at seats n seat e

pub none_past : (seats : List (Option Cursor)) (n : ℕ) → length seats ≤ n → seat_at seats n ≡ None
none_past [] n past = refl
none_past (s ∷ seats) zero past = absurd (omega arith)
none_past (s ∷ seats) (suc n) past = none_past seats n (omega arith)

pub within_seats : (seats : List (Option Cursor)) (n : ℕ) → seat_at seats n ≢ None → n < length seats
within_seats [] n some = absurd (some refl)
within_seats (s ∷ seats) zero some = omega arith
within_seats (s ∷ seats) (suc n) some = omega (arith, within_seats seats n some)

pub set_is_kept : (seats : List (Option Cursor)) (n : ℕ) (seat : Option Cursor) → n < length seats → seat_at (with_seat seats n seat) n ≡ seat
set_is_kept [] n seat within = absurd (omega arith)
set_is_kept (s ∷ seats) zero seat within = refl
set_is_kept (s ∷ seats) (suc n) seat within = set_is_kept seats n seat (omega arith)

pub length-with_seat : (seats : List (Option Cursor)) (n : ℕ) (seat : Option Cursor) → length (with_seat seats n seat) ≡ length seats
length-with_seat [] n seat = refl
length-with_seat (s ∷ seats) zero seat = refl
length-with_seat (s ∷ seats) (suc n) seat = ap suc (length-with_seat seats n seat)

-- seats stand within the committed messages
pub seat_within : (committed : ℕ) (seats : List (Option Cursor)) (n : ℕ) (cursor : Cursor) → AreWithin committed seats → seat_at seats n ≡ Some cursor → cursor.position ≤ committed
seat_within committed [] n cursor all e = absurd (cc)
seat_within committed (None ∷ seats) zero cursor all e = absurd (cc)
seat_within committed ((Some p) ∷ seats) zero cursor all e = let same : p ≡ cursor = cc in subst (λ (q : Cursor). q.position ≤ committed) same all.0
seat_within committed (None ∷ seats) (suc n) cursor all e = seat_within committed seats n cursor all e
seat_within committed ((Some p) ∷ seats) (suc n) cursor all e = seat_within committed seats n cursor all.1 e

pub still_within : (old new : ℕ) (seats : List (Option Cursor)) → old ≤ new → AreWithin old seats → AreWithin new seats
still_within old new [] more all = tt
still_within old new (None ∷ seats) more all = still_within old new seats more all
still_within old new ((Some p) ∷ seats) more all = (omega (arith, all.0), still_within old new seats more all.1)

pub set_within : (committed : ℕ) (seats : List (Option Cursor)) (n : ℕ) (cursor : Cursor) → cursor.position ≤ committed → AreWithin committed seats → AreWithin committed (with_seat seats n (Some cursor))
set_within committed [] n cursor is all = tt
set_within committed (None ∷ seats) zero cursor is all = (is, all)
set_within committed ((Some p) ∷ seats) zero cursor is all = (is, all.1)
set_within committed (None ∷ seats) (suc n) cursor is all = set_within committed seats n cursor is all
set_within committed ((Some p) ∷ seats) (suc n) cursor is all = (all.0, set_within committed seats n cursor is all.1)

pub freed_within : (committed : ℕ) (seats : List (Option Cursor)) (n : ℕ) → AreWithin committed seats → AreWithin committed (with_seat seats n None)
freed_within committed [] n all = tt
freed_within committed (None ∷ seats) zero all = all
freed_within committed ((Some p) ∷ seats) zero all = all.1
freed_within committed (None ∷ seats) (suc n) all = freed_within committed seats n all
freed_within committed ((Some p) ∷ seats) (suc n) all = (all.0, freed_within committed seats n all.1)

-- the number of a seat after so many others
abbrev pub following : ℕ → Option ℕ → Option ℕ
following n None = None
following n (Some k) = Some (n + k)

pub after_next : (n : ℕ) (k : Option ℕ) → following n (next_of k) ≡ following (n + 1) k
after_next n None = refl
after_next n (Some k) = let e : n + suc k ≡ n + 1 + k = omega arith in ap Some e

pub after_none : (k : Option ℕ) → k ≡ following 0 k
after_none None = refl
after_none (Some k) = let e : k ≡ 0 + k = omega arith in ap Some e

pub rest_is : (seats : List (Option Cursor)) (n : ℕ) (seat : Option Cursor) → slice_get seats n ≡ Some seat → drop n seats ≡ seat ∷ drop (n + 1) seats
rest_is [] n seat e = absurd (cc)
rest_is (s ∷ seats) zero seat e = let same : s ≡ seat = cc in ap (λ t. t ∷ seats) same
rest_is (s ∷ seats) (suc n) seat e = let one : suc n + 1 ≡ suc (n + 1) = omega arith in rest_is seats n seat e ∙ ap (λ k. seat ∷ drop k (s ∷ seats)) (sym one)

-- a seat that is taken: the first free one comes after it
pub taken_before : (seats : List (Option Cursor)) (n : ℕ) (cursor : Cursor) → slice_get seats n ≡ Some (Some cursor) → first_free seats ≡ following n (first_free (drop n seats))
    → first_free seats ≡ following (n + 1) (first_free (drop (n + 1) seats))
taken_before seats n cursor e so_far = so_far ∙ ap (λ l. following n (first_free l)) (rest_is seats n (Some cursor) e) ∙ after_next n (first_free (drop (n + 1) seats))

-- a seat that is free: it is the first
pub free_here : (seats : List (Option Cursor)) (n : ℕ) → slice_get seats n ≡ Some None → first_free seats ≡ following n (first_free (drop n seats)) → first_free seats ≡ Some n
free_here seats n e so_far =
    let here : n + 0 ≡ n = omega arith in
    so_far ∙ ap (λ l. following n (first_free l)) (rest_is seats n None e) ∙ ap Some here

pub free_within : (committed : ℕ) (seats : List (Option Cursor)) → AreFree seats → AreWithin committed seats
free_within committed [] free = tt
free_within committed (None ∷ seats) free = free_within committed seats free
free_within committed ((Some cursor) ∷ seats) free = absurd free

pub number_within : (seats : List (Option Cursor)) (n : ℕ) (cursor : Cursor) → seat_at seats n ≡ Some cursor → n < length seats
number_within [] n cursor e = absurd (cc)
number_within (s ∷ seats) zero cursor e = omega arith
number_within (s ∷ seats) (suc n) cursor e = omega (arith, number_within seats n cursor e)

pub index_is : (seats : List (Option Cursor)) (n : ℕ) → slice_index_or seats n None ≡ seat_at seats n
index_is [] n = refl
index_is (s ∷ seats) zero = refl
index_is (s ∷ seats) (suc n) = index_is seats n

-- one free seat more
pub free_more : (seats : List (Option Cursor)) → AreFree seats → AreFree (seats ++ None ∷ [])
free_more [] free = tt
free_more (None ∷ seats) free = free_more seats free
free_more ((Some p) ∷ seats) free = absurd free
