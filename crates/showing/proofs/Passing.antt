-- Why messages are passed over.
use Rattle.std.proofs.Common.{◌≡◌, ℕ, ◌⊎◌, Bool, true, false, ◌&&◌, ◌||◌, refl, sym, ap, ◌∙◌, inl, inr, ◌<◌, ◌-◌, arith}
use Rattle.std.proofs.lemmas.Bool.{and_parts}
use Rattle.std.proofs.lemmas.Bool.Decides.{nat_tests}
use Rattle.showing.specs.declared.situation.Situation.{Situation}
use Rattle.showing.specs.declared.next.Next.TheVariants.{Want, Newest}
use Rattle.showing.specs.Table.{next_of, far, is_live, is_far, lags, leaps, goes_on, may_go_on, is_unread, starts_at_newest}
use Rattle.showing.specs.Run.{Watch, Lacks, lacked, happens}
use Rattle.showing.proofs.Sound.{lagging}
use Rattle.showing.proofs.Waits.{says_if, happens_if}

abbrev IsPassing : Situation → Type 0
IsPassing s = (is_live s ≡ true) × (s.position < s.committed) × ((far < s.committed - s.position) ⊎ (s.is_stale ≡ true))

unread_then : (s : Situation) → is_unread s ≡ true → s.has_failed ≡ true
unread_then s e = grind arith

fresh_then : (s : Situation) → starts_at_newest s ≡ true → s.is_fresh ≡ true
fresh_then s e = grind arith

far_then : (s : Situation) → is_far s ≡ true → far < s.committed - s.position
far_then s e = grind (arith, nat_tests)

far_or_stale : (live away late stale : Bool) → (live && (away || (late && stale))) ≡ true → (live ≡ true) × ((away ≡ true) ⊎ (stale ≡ true))
far_or_stale true true late stale e = (refl, inl refl)
far_or_stale true false true true e = (refl, inr refl)
far_or_stale true false true false e = absurd (let contrary : false ≡ true = e in cc)
far_or_stale true false false stale e = absurd (let contrary : false ≡ true = e in cc)
far_or_stale false away late stale e = absurd (let contrary : false ≡ true = e in cc)

leaping_why : (s : Situation) → leaps s ≡ true → IsPassing s
leaping_why s e =
    let why = far_or_stale (is_live s) (is_far s) (lags s) s.is_stale e in
    (why.0, lagging s e, elim why.1 [ inl away ↦ inl (far_then s away) | inr stale ↦ inr stale ])

pub passes_why : (s : Situation) → next_of s ≡ Newest → s.is_fresh ≡ false → s.has_failed ≡ false → IsPassing s
passes_why s e shows reads = elim (says_if s Newest e) [
  | inl unread ↦ absurd (let contrary : true ≡ false = sym (unread_then s unread) ∙ reads in cc)
  | inr (inl first) ↦ absurd (let contrary : true ≡ false = sym (fresh_then s first) ∙ shows in cc)
  | inr (inr leap) ↦
      let parts = and_parts (goes_on s) (leaps s && (is_far s || may_go_on s)) leap in
      leaping_why s (and_parts (leaps s) (is_far s || may_go_on s) parts.1).0
]

-- memory that is short changes what is done next only as the recorder closes
short_same : (s : Situation) → s.is_closing ≡ false → next_of (record s { is_short = true }) ≡ next_of s
short_same s open_still = rw open_still refl

pub tried_again : (w : Watch) (limit : ℕ) → w.gone ≡ false → w.sees.is_closing ≡ false → next_of w.sees ≡ Want limit → next_of (happens w Lacks).sees ≡ Want limit
tried_again w limit goes open_still e = ap (λ (v : Watch). next_of v.sees) (happens_if w Lacks goes ∙ ap (lacked w) e) ∙ short_same w.sees open_still ∙ e
