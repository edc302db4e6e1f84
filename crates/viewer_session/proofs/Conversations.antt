-- A viewer is served from one call to the next.
use Rattle.std.proofs.Common.{◌≡◌, ℕ, zero, suc, ◌+◌, ◌<◌, ◌⊎◌, inl, inr, Bool, true, false, List, [], ◌∷◌, ◌++◌, refl, sym, ap, ◌∙◌, subst, arith, append_assoc}
use Rattle.std.specs.Prelude.{◌&&◌, Option, Some, None}
use Rattle.std.specs.List.{flat_map, AllByRecursion}
use Rattle.std.proofs.lemmas.Bool.{and_parts, cases_lt}
use Rattle.std.proofs.lemmas.List.{append-nil, append_cancel_left}
use Rattle.pixel_format.specs.Canvas.{Picture}
use Rattle.terms.specs.Reading.{Got}
use Rattle.terms.specs.Talk.{Talk}
use Rattle.terms.proofs.Readings.{true_or_false}
use Rattle.terms.specs.declared.area.Area.{Area}
use Rattle.terms.specs.Area.{is_in}
use Rattle.rect_codec.specs.Update.{all_painted}
use Rattle.painter.specs.Framebuffer.{Framebuffer}
use Rattle.painter.proofs.Region.{in_is}
use Rattle.gated_journal.specs.Recording.{Head}
use Rattle.keyed_entries.specs.declared.entry.Stamped.{Stamped}
use Rattle.client_wire.specs.declared.message.ClientMessage.{ClientMessage}
use Rattle.client_wire.specs.Reader.{Reader}
use Rattle.client_wire.proofs.Streams.{flat_append, all_append}
use Rattle.viewer_session.specs.declared.fault.SessionFault.{SessionFault}
use Rattle.viewer_session.specs.declared.fault.SessionFault.TheVariants as faults
use Rattle.viewer_session.specs.declared.view.View.{View}
use Rattle.viewer_session.specs.View.{IsRight, IsDue, AreTaken, is_pending, stale_at}
use Rattle.viewer_session.specs.Handshake.{handshake_at}
use Rattle.viewer_session.specs.Stream.{Stands, Ends}
use Rattle.viewer_session.specs.Session.{Session, IsAfter, closed_by}
use Rattle.viewer_session.specs.Feeding.{Takes, StopsIn, KeepsView}
use Rattle.viewer_session.specs.Conversation.{Sent, IsReadAs, bytes_of, painted_by, HasGot, IsServed, StaysServed, IsAnswered, IsServedOn}
use Rattle.viewer_session.proofs.Handshakes.{whole_more}

-- ---- whether an update is due

last_or_before : (p : ℕ → Bool) (n k : ℕ) → p n ≡ false → ((k : ℕ) → k < n → p k ≡ false) → k < suc n → p k ≡ false
last_or_before p n k here none h = elim (cases_lt k n) [
  | inl before ↦ none k before
  | inr following ↦ (let e : k ≡ n = omega arith in ap p e ∙ here)
]

below : (p : ℕ → Bool) (n : ℕ) → ((k : ℕ) × (p k ≡ true)) ⊎ ((k : ℕ) → k < n → p k ≡ false)
below p zero = inr (λ k h. absurd (omega arith))
below p (suc n) = elim (below p n) [
  | inl some ↦ inl some
  | inr none ↦ elim (true_or_false (p n)) [
    | inl here ↦ inl (n, here)
    | inr here ↦ inr (λ k h. last_or_before p n k here none h)
  ]
]

pixel_below : (p : ℕ → ℕ → Bool) (w h : ℕ) → ((x : ℕ) × (y : ℕ) × (p x y ≡ true)) ⊎ ((x y : ℕ) → x < w → y < h → p x y ≡ false)
pixel_below p zero h = inr (λ x y a b. absurd (omega arith))
pixel_below p (suc w) h = elim (pixel_below p w h) [
  | inl some ↦ inl some
  | inr none ↦ elim (below (p w) h) [
    | inl here ↦ inl (w, here.0, here.1)
    | inr column ↦ inr (λ x y a b. elim (cases_lt x w) [
      | inl before ↦ none x y before b
      | inr following ↦ (let e : x ≡ w = omega arith in ap (λ z. p z y) e ∙ column y b)
    ])
  ]
]

due_by : (v : View) (o : Option Area) → v.pending ≡ o → v.started ≡ true → IsDue v ⊎ (IsDue v → ⊥)
due_by v None is started = inr (λ due. let e = sym (ap (λ (p : Option Area). is_pending p due.x due.y) is) ∙ due.asked in absurd (cc))
due_by v (Some area) is started = elim (pixel_below (λ x y. is_in area x y && stale_at v x y) (area.x + area.w) (area.y + area.h)) [
  | inl some ↦
      (let parts = and_parts (is_in area some.0 some.1) (stale_at v some.0 some.1) some.2 in
      inl (record {
        started = started;
        x = some.0;
        y = some.1;
        asked = ap (λ (p : Option Area). is_pending p some.0 some.1) is ∙ parts.0;
        stale = parts.1;
      }))
  | inr none ↦ inr (λ due.
      let asked : is_in area due.x due.y ≡ true = sym (ap (λ (p : Option Area). is_pending p due.x due.y) is) ∙ due.asked in
      let pixel = in_is area due.x due.y asked in
      let both : (is_in area due.x due.y && stale_at v due.x due.y) ≡ true = rw (asked, due.stale) refl in
      let never = none due.x due.y pixel.right pixel.bottom in
      let clash = sym both ∙ never in
      absurd (cc))
]

decide_due : (v : View) → IsDue v ⊎ (IsDue v → ⊥)
decide_due v = elim (true_or_false v.started) [
  | inl started ↦ due_by v v.pending refl started
  | inr not_started ↦ inr (λ due. let clash = sym due.started ∙ not_started in absurd (cc))
]

-- ---- a viewer that has sent a message has been told the whole handshake

stands_whole : (w h : ℕ) (name heard : List ℕ) (r : Option Reader) (stream : List ℕ) (m : ClientMessage) (ms : List ClientMessage) (said : List ℕ)
    → Stands w h name heard r stream (m ∷ ms) said → (rest : List ℕ) × (handshake_at w h name stream ≡ record { said = said; heard = Got tt rest })
stands_whole w h name heard None stream m ms said is = let none = is.none in absurd (cc)
stands_whole w h name heard (Some r) stream m ms said is = (is.gets.rest, is.gets.handshake)

-- and nothing else, whatever has come since
stands_said : (w h : ℕ) (name heard : List ℕ) (r : Option Reader) (stream : List ℕ) (ms : List ClientMessage) (said all rest : List ℕ)
    → Stands w h name heard r stream ms said → handshake_at w h name stream ≡ record { said = all; heard = Got tt rest } → said ≡ all
stands_said w h name heard None stream ms said all rest is whole =
    let e = ap (λ (t : Talk (Unit {0}) SessionFault). t.heard) (sym is.reads ∙ whole) in absurd (cc)
stands_said w h name heard (Some r) stream ms said all rest is whole = ap (λ (t : Talk (Unit {0}) SessionFault). t.said) (sym is.gets.handshake ∙ whole)

ends_said : (w h : ℕ) (name : List ℕ) (r : Option Reader) (stream : List ℕ) (ms : List ClientMessage) (said all rest : List ℕ) (f : SessionFault)
    → Ends w h name r stream ms said f → handshake_at w h name stream ≡ record { said = all; heard = Got tt rest } → said ≡ all
ends_said w h name None stream ms said all rest f is whole =
    let e = ap (λ (t : Talk (Unit {0}) SessionFault). t.heard) (sym is.reads ∙ whole) in absurd (cc)
ends_said w h name (Some r) stream ms said all rest (faults.Wire f) is whole = ap (λ (t : Talk (Unit {0}) SessionFault). t.said) (sym is.gets.handshake ∙ whole)
ends_said w h name (Some r) stream ms said all rest faults.Version is whole = absurd is
ends_said w h name (Some r) stream ms said all rest faults.Security is whole = absurd is
ends_said w h name (Some r) stream ms said all rest faults.Closed is whole = absurd is

got_said : (t : Session) (stream : List ℕ) (ms : List ClientMessage) (told all rest : List ℕ)
    → HasGot t stream ms told → handshake_at t.width t.height t.name stream ≡ record { said = all; heard = Got tt rest } → told ++ t.due ≡ all
got_said t stream ms told all rest (inl after) whole = stands_said t.width t.height t.name t.heard t.reader stream ms (told ++ t.due) all rest after whole
got_said t stream ms told all rest (inr stopped) whole = ends_said t.width t.height t.name t.reader stream ms (told ++ t.due) all rest stopped.0 stopped.2 whole

same_handshake : (s t : Session) (bytes : List ℕ) → KeepsView s t → handshake_at t.width t.height t.name bytes ≡ handshake_at s.width s.height s.name bytes
same_handshake s t bytes keeps =
    ap (λ (z : ℕ). handshake_at z t.height t.name bytes) keeps.width
    ∙ ap (λ (z : ℕ). handshake_at s.width z t.name bytes) keeps.height
    ∙ ap (λ (z : List ℕ). handshake_at s.width s.height z bytes) keeps.name

-- so the answers stay before the first update
first_stays : (s t : Session) (stream piece : List ℕ) (ms all : List ClientMessage) (told : List ℕ) (updates : List Sent) → IsAfter s stream ms told → KeepsView s t
    → HasGot t (stream ++ piece) all told → (ms ≡ [] → updates ≡ []) → (updates ≡ []) ⊎ (s.due ≡ []) → (updates ≡ []) ⊎ (t.due ≡ [])
first_stays s t stream piece [] all told updates after keeps got none first = inl (none refl)
first_stays s t stream piece (m ∷ ms) all told updates after keeps got none (inl e) = inl e
first_stays s t stream piece (m ∷ ms) all told updates after keeps got none (inr e) =
    let w = stands_whole s.width s.height s.name s.heard s.reader stream m ms (told ++ s.due) after in
    let longer = whole_more s.width s.height s.name stream piece (told ++ s.due) w.0 w.1 in
    let said = got_said t (stream ++ piece) all told (told ++ s.due) (w.0 ++ piece) got (same_handshake s t (stream ++ piece) keeps ∙ longer) in
    inr (append_cancel_left told t.due s.due said ∙ e)

-- ---- what is put out

painted_more : (us : List Sent) (u : Sent) (shown : Picture) → painted_by (us ++ u ∷ []) shown ≡ all_painted u.format u.drawn (painted_by us shown)
painted_more [] u shown = refl
painted_more (v ∷ us) u shown = painted_more us u (all_painted v.format v.drawn shown)

put_more : (put told due : List ℕ) (updates last : List Sent) → put ≡ told ++ flat_map bytes_of updates → (updates ≡ []) ⊎ (due ≡ [])
    → put ++ (due ++ flat_map bytes_of last) ≡ (told ++ due) ++ flat_map bytes_of (updates ++ last)
put_more put told due updates last is (inl e) =
    ap (λ z. z ++ (due ++ flat_map bytes_of last)) (is ∙ ap (λ (us : List Sent). told ++ flat_map bytes_of us) e ∙ append-nil told)
    ∙ sym (append_assoc told due (flat_map bytes_of last))
    ∙ ap (λ (us : List Sent). (told ++ due) ++ flat_map bytes_of (us ++ last)) (sym e)
put_more put told due updates last is (inr e) =
    ap (λ (z : List ℕ). put ++ (z ++ flat_map bytes_of last)) e
    ∙ ap (λ z. z ++ flat_map bytes_of last) is
    ∙ append_assoc told (flat_map bytes_of updates) (flat_map bytes_of last)
    ∙ ap (λ z. told ++ z) (sym (flat_append bytes_of updates last))
    ∙ ap (λ z. z ++ flat_map bytes_of (updates ++ last)) (sym (append-nil told) ∙ ap (λ (d : List ℕ). told ++ d) (sym e))

-- what was due is told
told_on : (s : Session) (view : View) (stream : List ℕ) (ms : List ClientMessage) (told : List ℕ) → HasGot s stream ms told → HasGot (record s { due = []; view = view }) stream ms (told ++ s.due)
told_on s view stream ms told (inl after) =
    inl (subst (λ (z : List ℕ). Stands s.width s.height s.name s.heard s.reader stream ms z) (sym (append-nil (told ++ s.due))) after)
told_on s view stream ms told (inr stopped) =
    inr (stopped.0, stopped.1, subst (λ (z : List ℕ). Ends s.width s.height s.name s.reader stream ms z stopped.0) (sym (append-nil (told ++ s.due))) stopped.2)

-- ---- the calls

none_of : (a b : List ClientMessage) → a ++ b ≡ [] → (a ≡ []) × (b ≡ [])
none_of [] b e = (refl, e)
none_of (m ∷ a) b e = absurd (cc)

taken_none : (old new : View) (more : List ClientMessage) → more ≡ [] → AreTaken old new more → new ≡ old
taken_none old new [] e taken = taken
taken_none old new (m ∷ more) e taken = absurd (cc)

still_going : (s : Session) (stream : List ℕ) (ms : List ClientMessage) (told : List ℕ) → s.fault ≡ None → HasGot s stream ms told → IsAfter s stream ms told
still_going s stream ms told going (inl after) = after
still_going s stream ms told going (inr stopped) = let e = sym going ∙ stopped.1 in absurd (cc)

fed : (head : Head) (s t : Session) (stream piece : List ℕ) (ms more : List ClientMessage) (told : List ℕ) (updates : List Sent) (put : List ℕ) (shown : Picture) (list : List Stamped)
    → IsServed head s stream ms told updates put shown list → IsAfter s stream ms told → KeepsView s t → AreTaken s.view t.view more
    → HasGot t (stream ++ piece) (ms ++ more) told → StaysServed head s t (stream ++ piece) ms told updates put shown list
fed head s t stream piece ms more told updates put shown list served after keeps taken got = record {
  more = more;
  taken = taken;
  served = record {
    got = got;
    put_is = served.put_is;
    first = first_stays s t stream piece ms (ms ++ more) told updates after keeps got (λ none. (served.asked none).1) served.first;
    each = subst (λ (z : Framebuffer). AllByRecursion (IsReadAs z.width z.height) updates) (sym keeps.screen) served.each;
    right = keeps.right head (painted_by updates shown) list served.right;
    asked = λ none.
        let parts = none_of ms more none in
        let before = served.asked parts.0 in
        (ap (λ (v : View). v.pending) (taken_none s.view t.view more parts.1 taken) ∙ before.0, before.1);
  };
}

pub heard : (head : Head) (s t : Session) (stream piece : List ℕ) (ms : List ClientMessage) (told : List ℕ) (updates : List Sent) (put : List ℕ) (shown : Picture) (list : List Stamped)
    → IsServed head s stream ms told updates put shown list → s.fault ≡ None → Takes s t piece → KeepsView s t
    → StaysServed head s t (stream ++ piece) ms told updates put shown list
heard head s t stream piece ms told updates put shown list served going takes keeps =
    let after = still_going s stream ms told going served.got in
    let f = takes stream told ms after in
    fed head s t stream piece ms f.more told updates put shown list served after keeps f.taken (inl f.after)

pub stopped : (head : Head) (s t : Session) (stream piece : List ℕ) (ms : List ClientMessage) (told : List ℕ) (updates : List Sent) (put : List ℕ) (shown : Picture) (list : List Stamped) (fault : SessionFault)
    → IsServed head s stream ms told updates put shown list → s.fault ≡ None → StopsIn s t piece fault → t.fault ≡ Some fault → KeepsView s t
    → StaysServed head s t (stream ++ piece) ms told updates put shown list
stopped head s t stream piece ms told updates put shown list fault served going stops kept keeps =
    let after = still_going s stream ms told going served.got in
    let f = stops stream told ms after in
    fed head s t stream piece ms f.more told updates put shown list served after keeps f.taken (inr (fault, kept, f.ends))

pub started : (head : Head) (s : Session) (shown : Picture) (list : List Stamped) → IsAfter s [] [] [] → s.view.pending ≡ None → IsRight head s.view shown list
    → IsServed head s [] [] [] [] [] shown list
started head s shown list after none right = record {
  got = inl after;
  put_is = refl;
  first = inl refl;
  each = tt;
  right = right;
  asked = λ e. (none, refl);
}

pub advanced : (head : Head) (s t : Session) (stream : List ℕ) (ms : List ClientMessage) (told : List ℕ) (updates : List Sent) (put : List ℕ) (shown : Picture) (list : List Stamped)
    → IsServed head s stream ms told updates put shown list → t ≡ record s { view = t.view }
    → t.view.screen.width ≡ s.view.screen.width → t.view.screen.height ≡ s.view.screen.height → t.view.pending ≡ s.view.pending
    → ((seen : Picture) → IsRight head s.view seen list → IsRight head t.view seen list)
    → IsServed head t stream ms told updates put shown list
advanced head s t stream ms told updates put shown list served kept width height pending right = record {
  got = subst (λ (z : Session). HasGot z stream ms told) (sym kept) served.got;
  put_is = served.put_is;
  first = subst (λ (z : Session). (updates ≡ []) ⊎ (z.due ≡ [])) (sym kept) served.first;
  each = subst (λ (z : ℕ). AllByRecursion (IsReadAs z t.view.screen.height) updates) (sym width)
      (subst (λ (z : ℕ). AllByRecursion (IsReadAs s.view.screen.width z) updates) (sym height) served.each);
  right = right (painted_by updates shown) served.right;
  asked = λ none. let before = served.asked none in (pending ∙ before.0, before.1);
}

pub closed : (head : Head) (s : Session) (stream : List ℕ) (ms : List ClientMessage) (told : List ℕ) (updates : List Sent) (put : List ℕ) (shown : Picture) (list : List Stamped)
    → IsServed head s stream ms told updates put shown list → IsServed head (record s { fault = Some (closed_by s.fault) }) stream ms told updates put shown list
closed head s stream ms told updates put shown list served = record {
  got = elim served.got as (λ _. HasGot (record s { fault = Some (closed_by s.fault) }) stream ms told) [
    | inl after ↦ inl after
    | inr ended ↦ inr (ended.0, ap (λ (z : Option SessionFault). Some (closed_by z)) ended.1, ended.2)
  ];
  put_is = served.put_is;
  first = served.first;
  each = served.each;
  right = served.right;
  asked = served.asked;
}

-- ---- an answer

updated : (head : Head) (s t : Session) (stream : List ℕ) (ms : List ClientMessage) (told : List ℕ) (updates : List Sent) (put : List ℕ) (shown : Picture) (list : List Stamped) (before after : List ℕ)
    → IsServed head s stream ms told updates put shown list → IsAnswered s t before after → IsDue s.view
    → IsServedOn head s t stream ms told updates put shown list before after
updated head s t stream ms told updates put shown list before after served is due =
    let a = is.due due in
    let u : Sent = record { format = s.view.format; drawn = a.are.drawn; bytes = a.bytes } in
    record {
      last = u ∷ [];
      is_due = (due, refl, refl);
      after_is = a.is ∙ append_assoc before s.due a.bytes ∙ ap (λ (z : List ℕ). before ++ (s.due ++ z)) (sym (append-nil a.bytes));
      served = record {
        got = subst (λ (z : Session). HasGot z stream ms (told ++ s.due)) (sym is.kept) (told_on s t.view stream ms told served.got);
        put_is = put_more put told s.due updates (u ∷ []) served.put_is served.first;
        first = inr (ap (λ (z : Session). z.due) is.kept);
        each = subst (λ (z : Framebuffer). AllByRecursion (IsReadAs z.width z.height) (updates ++ u ∷ [])) (sym is.screen)
            (all_append (IsReadAs s.view.screen.width s.view.screen.height) updates (u ∷ []) served.each (a.are.reads, tt));
        right = subst (λ (p : Picture). IsRight head t.view p list) (sym (painted_more updates u shown)) (a.are.right head (painted_by updates shown) list served.right);
        asked = λ none.
            let never = (served.asked none).0 in
            let clash = sym (ap (λ (p : Option Area). is_pending p due.x due.y) never) ∙ due.asked in
            absurd (cc);
      };
    }

silent : (head : Head) (s t : Session) (stream : List ℕ) (ms : List ClientMessage) (told : List ℕ) (updates : List Sent) (put : List ℕ) (shown : Picture) (list : List Stamped) (before after : List ℕ)
    → IsServed head s stream ms told updates put shown list → IsAnswered s t before after → (IsDue s.view → ⊥)
    → IsServedOn head s t stream ms told updates put shown list before after
silent head s t stream ms told updates put shown list before after served is never =
    let n = is.none never in
    let same : t.view ≡ s.view = n.1 in
    record {
      last = [];
      is_due = never;
      after_is = n.0 ∙ ap (λ (z : List ℕ). before ++ z) (sym (append-nil s.due));
      served = subst (λ (us : List Sent). IsServed head t stream ms (told ++ s.due) us (put ++ (s.due ++ [])) shown list) (sym (append-nil updates)) (record {
        got = subst (λ (z : Session). HasGot z stream ms (told ++ s.due)) (sym is.kept) (told_on s t.view stream ms told served.got);
        put_is = put_more put told s.due updates [] served.put_is served.first ∙ ap (λ (us : List Sent). (told ++ s.due) ++ flat_map bytes_of us) (append-nil updates);
        first = inr (ap (λ (z : Session). z.due) is.kept);
        each = subst (λ (z : Framebuffer). AllByRecursion (IsReadAs z.width z.height) updates) (sym is.screen) served.each;
        right = subst (λ (v : View). IsRight head v (painted_by updates shown) list) (sym same) served.right;
        asked = λ none. let before = served.asked none in (ap (λ (v : View). v.pending) same ∙ before.0, before.1);
      });
    }

pub answered : (head : Head) (s t : Session) (stream : List ℕ) (ms : List ClientMessage) (told : List ℕ) (updates : List Sent) (put : List ℕ) (shown : Picture) (list : List Stamped) (before after : List ℕ)
    → IsServed head s stream ms told updates put shown list → IsAnswered s t before after
    → IsServedOn head s t stream ms told updates put shown list before after
answered head s t stream ms told updates put shown list before after served is = elim (decide_due s.view) [
  | inl due ↦ updated head s t stream ms told updates put shown list before after served is due
  | inr never ↦ silent head s t stream ms told updates put shown list before after served is never
]
