-- A viewer's run: what happens around it, and what its worker does for it, each time by the table.
-- Memory may run out at any step, and the device may fail in reading for it.
use Rattle.std.specs.Prelude.{◌≡◌, ℕ, zero, suc, ◌+◌, ◌-◌, ◌≤◌, min, max, Bool, true, false, not, ◌&&◌, ◌||◌, nat_lt, nat_le, if◌then◌else◌, List, [], ◌∷◌, ◌++◌}
use Rattle.showing.specs.declared.begins.Begins.{Begins}
use Rattle.showing.specs.declared.begins.Begins.TheVariants.{Live, After}
use Rattle.showing.specs.declared.situation.Situation.{Situation}
use Rattle.showing.specs.declared.next.Next.{Next}
use Rattle.showing.specs.declared.next.Next.TheVariants.{Want, Wait, WaitUntilAsked, HoldBack, Newest, Seek, Begin, Sleep, Show, Rest, Stop}
use Rattle.showing.specs.Table.{next_of, is_live, is_over}

-- sees: what the decision looks at; stored: how many messages are committed; ended: host and flusher
-- have ended; view: how many messages its view shows; answers_from: nothing is sent before its view is
-- here; due: its view has something that it wasn't shown; shown: after how many messages each screen is
-- that it was shown, in order; gone: its worker has ended; unread: the device has failed in reading for it
pub record Watch : Type 0 where
  pub sees : Situation
  pub stored : ℕ
  pub ended : Bool
  pub view : ℕ
  pub answers_from : ℕ
  pub due : Bool
  pub shown : List ℕ
  pub gone : Bool
  pub unread : Bool

-- What may happen. Works: the worker does what comes next for it, and is handed one message and so
-- many more, if there are and it wants them; changes_all: its whole screen changes by that. Lacks: it
-- is to be handed something, and there is no memory for it. Fails: it is to be handed what is read for
-- it, and the device fails.
pub data Event : Type 0 where
  Commits : Event
  Tells : Event
  Asks : Event
  Closes : Event
  Ends : Event
  Leaves : Event
  Works : (more : ℕ) (changes_all : Bool) → Event
  Lacks : Event
  Fails : Event

-- what it has is sent to it, and it asks for nothing until it asks again
abbrev pub answered : Watch → Watch
answered w = record w {
  sees = record w.sees { has_asked = false; is_answered = true; is_stale = false };
  due = false;
  shown = w.shown ++ w.view ∷ [];
}

-- so it is once it asks and there is something that it wasn't shown
abbrev pub answered_if_due : Watch → Watch
answered_if_due w =
    if w.sees.has_asked && (w.due && nat_le w.answers_from w.view) then answered w else w

-- its view goes on to this count
abbrev pub moved_to : Watch → ℕ → Bool → Watch
moved_to w count changes_all = record w {
  sees = record w.sees {
    position = count;
    is_fresh = false;
    is_answered = w.sees.is_answered && not (w.sees.is_fresh || nat_lt w.sees.position count);
    is_stale = w.sees.is_stale || (w.sees.is_fresh || changes_all);
    has_waited = false;
    is_short = false;
    has_failed = false;
  };
  view = count;
  due = w.due || (w.sees.is_fresh || nat_lt w.sees.position count);
}

abbrev pub taken_to : Watch → ℕ → Bool → Watch
taken_to w count changes_all = answered_if_due (moved_to w count changes_all)

-- It stands after all that are committed, without a screen.
abbrev pub without_screen : Watch → Watch
without_screen w = record w { sees = record w.sees { position = w.stored; is_fresh = true } }

-- it asks for what changes next
abbrev pub asking : Watch → Watch
asking w = record w { sees = record w.sees { has_asked = true } }

-- a viewer that waits is woken if there is more, and told the end if nothing comes any more
abbrev pub woken : Watch → Watch
woken w = record w { sees = record w.sees { has_waited = true } }

abbrev pub told_the_end : Watch → Watch
told_the_end w = record w { sees = record w.sees { is_at_end = true } }

abbrev pub waited : Watch → Watch
waited w = if nat_lt w.sees.position w.stored then woken w else (if w.ended then told_the_end w else w)

-- It stays until it was shown what it has; if there is no host, first until the recorder is closing.
abbrev pub rested : Watch → Watch
rested w =
    if w.sees.has_left || (w.sees.has_asked && (not w.sees.is_alone || w.sees.is_closing))
    then record w { gone = true } else w

-- what the worker does
abbrev pub done : Watch → ℕ → Bool → Next → Watch
done w more changes_all (Want limit) =
    taken_to w (w.sees.position + min (min limit (w.stored - w.sees.position)) (suc more)) changes_all
done w more changes_all Newest = taken_to (without_screen w) w.stored changes_all
done w more changes_all Wait = waited w
done w more changes_all WaitUntilAsked = w
done w more changes_all HoldBack = record w { answers_from = suc w.view }
done w more changes_all Rest = rested w
done w more changes_all Stop = record w { gone = true }
-- these are for a recording that is played
done w more changes_all (Seek count) = w
done w more changes_all Begin = w
done w more changes_all (Sleep time) = w
done w more changes_all Show = w

-- what is left if there is no memory for it
abbrev pub lacked : Watch → Next → Watch
lacked w (Want limit) = record w { sees = record w.sees { is_short = true } }
lacked w Newest = record w { sees = record w.sees { position = w.stored; is_fresh = true; is_short = true } }
lacked w Wait = w
lacked w WaitUntilAsked = w
lacked w HoldBack = w
lacked w Rest = w
lacked w Stop = w
lacked w (Seek count) = w
lacked w Begin = w
lacked w (Sleep time) = w
lacked w Show = w

-- whether something is read for it; the newest screen is in memory
abbrev pub is_read : Next → Bool
is_read (Want limit) = true
is_read Newest = false
is_read Wait = false
is_read WaitUntilAsked = false
is_read HoldBack = false
is_read Rest = false
is_read Stop = false
is_read (Seek count) = false
is_read Begin = false
is_read (Sleep time) = false
is_read Show = false

-- what is left if the device fails in reading for it: a live one goes on, and another one's worker ends
abbrev pub failed : Watch → Watch
failed w = record w { sees = record w.sees { has_failed = true }; gone = not (is_live w.sees); unread = true }

abbrev pub happens_to : Watch → Event → Watch
happens_to w Commits = if w.ended then w else record w { stored = suc w.stored }
happens_to w Tells = record w { sees = record w.sees { committed = w.stored } }
happens_to w Asks = answered_if_due (asking w)
happens_to w Closes = record w { sees = record w.sees { is_closing = true } }
happens_to w Ends = record w { ended = true }
happens_to w Leaves = record w { sees = record w.sees { has_left = true } }
happens_to w (Works more changes_all) = done w more changes_all (next_of w.sees)
happens_to w Lacks = lacked w (next_of w.sees)
happens_to w Fails = if is_read (next_of w.sees) then failed w else w

-- Nothing happens to a viewer whose worker has ended.
abbrev pub happens : Watch → Event → Watch
happens w e = if w.gone then w else happens_to w e

abbrev pub run : List Event → Watch → Watch
run [] w = w
run (e ∷ events) w = run events (happens w e)

-- the position that it is answered from
abbrev pub start_of : Begins → ℕ
start_of Live = 0
start_of (After from each_until) = from

-- A viewer that comes: it has a seat here, so many messages are committed, and so many known to be.
abbrev pub comes : Begins → ℕ → ℕ → ℕ → Bool → Watch
comes begins position stored told alone = record {
  sees = record {
    begins = begins;
    position = position;
    committed = told;
    is_fresh = true;
    has_asked = false;
    is_answered = false;
    is_stale = false;
    has_waited = false;
    is_at_end = false;
    is_short = false;
    has_failed = false;
    has_left = false;
    is_closing = false;
    is_alone = alone;
  };
  stored = stored;
  ended = false;
  view = 0;
  answers_from = start_of begins;
  due = false;
  shown = [];
  gone = false;
  unread = false;
}

-- Some events lead to it, of a viewer that comes to what is committed.
pub record IsReached (w : Watch) : Type 0 where
  pub begins : Begins
  pub position : ℕ
  pub stored : ℕ
  pub told : ℕ
  pub alone : Bool
  pub events : List Event
  pub start : start_of begins ≤ stored
  pub seat : position ≤ stored
  pub known : told ≤ stored
  pub is : w ≡ run events (comes begins position stored told alone)

-- One that begins after so many, from a seat at a screen at or before that.
abbrev pub comes_after : ℕ → ℕ → ℕ → ℕ → Bool → Watch
comes_after from key stored told alone = comes (After from (max from told)) key stored told alone

-- Turns: the viewer asks, and its worker does what comes next, of which the rest is as it may be.
abbrev pub turns : List (ℕ × Bool) → List Event
turns [] = []
turns (t ∷ ts) = Asks ∷ Works t.0 t.1 ∷ turns ts

-- Messages are committed one by one, and told; of each the worker is told, and then the viewer asks.
abbrev pub as_they_come : List Bool → List Event
as_they_come [] = []
as_they_come (changes_all ∷ more) = Commits ∷ Tells ∷ Works 0 changes_all ∷ Asks ∷ as_they_come more

-- It is served, has a screen, and was shown what that shows.
pub record IsUpToDate (w : Watch) : Type 0 where
  pub goes_on : w.gone ≡ false
  pub not_ended : w.sees.is_at_end ≡ false
  pub not_over : is_over w.sees ≡ false
  pub reads : w.sees.has_failed ≡ false
  pub shows : w.sees.is_fresh ≡ false
  pub at : w.view ≡ w.sees.position
  pub shown : w.due ≡ false
  pub answers : w.answers_from ≤ w.sees.position

-- It has all that is committed, and asks for more.
pub record HasAll (w : Watch) : Type 0 where
  pub up_to_date : IsUpToDate w
  pub asks : w.sees.has_asked ≡ true
  pub waits : w.sees.has_waited ≡ false
  pub not_stale : w.sees.is_stale ≡ false
  pub here : w.sees.position ≡ w.stored
  pub records : w.ended ≡ false

-- so many numbers, each one above the one before, from this one on
abbrev pub count_up : ℕ → ℕ → List ℕ
count_up from zero = []
count_up from (suc many) = from ∷ count_up (suc from) many

abbrev pub BeginsWith : List ℕ → List ℕ → Type 0
BeginsWith list beginning = (rest : List ℕ) × (list ≡ beginning ++ rest)

abbrev pub EndsWith : List ℕ → ℕ → Type 0
EndsWith list count = (before : List ℕ) × (list ≡ before ++ count ∷ [])
