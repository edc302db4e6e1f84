-- What a viewer sees, and how it changes.
use Rattle.std.proofs.Common.{◌≡◌, ℕ, ◌+◌, ◌<◌, Bool, true, false, List, [], ◌∷◌, ◌++◌, length, take, drop, refl, sym, ap, ◌∙◌, subst, take-add}
use Rattle.std.specs.Prelude.{◌||◌}
use Rattle.pixel_format.specs.Pixel.{converted}
use Rattle.pixel_format.specs.Canvas.{Picture}
use Rattle.rfb_wire.specs.Host.{Host}
use Rattle.painter.specs.Framebuffer.{Framebuffer, color_at, Shows}
use Rattle.keyed_entries.specs.declared.entry.Stamped.{Stamped}
use Rattle.keyed_entries.specs.Entry.{hosts_of}
use Rattle.gated_journal.specs.Recording.{Head}
use Rattle.replay.specs.Screens.{IsScreenAt}
use Rattle.viewer_session.specs.declared.view.View.{View}
use Rattle.pixel_sets.specs.Pixels.{holds}
use Rattle.shared_updates.specs.Copies.{all_copied}
use Rattle.viewer_session.specs.View.{stale_at}

-- an or that is false
pub neither : (a b : Bool) → (a || b) ≡ false → (a ≡ false) × (b ≡ false)
neither true b e = absurd (cc)
neither false b e = (refl, e)

hosts_append : (ms ns : List Stamped) → hosts_of (ms ++ ns) ≡ hosts_of ms ++ hosts_of ns
hosts_append [] ns = refl
hosts_append (m ∷ ms) ns = ap (λ (hs : List Host). m.message ∷ hs) (hosts_append ms ns)

-- the screen after the messages of a slice
pub screen_on : (head : Head) (messages items : List Stamped) (first : ℕ) (old new : Framebuffer) → IsScreenAt head messages first old → take (length items) (drop first messages) ≡ items
    → new.width ≡ old.width → new.height ≡ old.height → ((before : List Host) → Shows old before → Shows new (before ++ hosts_of items)) → IsScreenAt head messages (first + length items) new
screen_on head messages items first old new at same wide high shows =
    let split : hosts_of (take first messages) ++ hosts_of items ≡ hosts_of (take (first + length items) messages) =
    sym (hosts_append (take first messages) items)
    ∙ ap hosts_of (ap (λ (z : List Stamped). take first messages ++ z) (sym same) ∙ sym (take-add first (length items) messages)) in
    record {
      width_is = wide ∙ at.width_is;
      height_is = high ∙ at.height_is;
      shows = subst (λ (hs : List Host). Shows new hs) split (shows (hosts_of (take first messages)) at.shows);
    }

-- the viewer has what isn't stale
abbrev pub Converts : View → Picture → Type 0
Converts v seen = (x y : ℕ) → x < v.screen.width → y < v.screen.height → stale_at v x y ≡ false → seen x y ≡ converted v.format (color_at v.screen x y)

-- once it has carried out the copies, it has what isn't to be sent
abbrev pub Sees : View → Picture → Type 0
Sees v seen = (x y : ℕ) → x < v.screen.width → y < v.screen.height → holds v.stale x y ≡ false → all_copied v.copies seen x y ≡ converted v.format (color_at v.screen x y)
