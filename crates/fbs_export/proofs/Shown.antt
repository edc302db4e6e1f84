-- The text of a screen that shows a picture is the picture's.
use Rattle.std.proofs.Common.{◌≡◌, ◌<◌, ◌≤◌, ◌+◌, ℕ, zero, suc, List, ◌++◌, take, refl, ap, ◌∙◌, arith, append_assoc}
use Rattle.gated_journal.specs.Recording.{Head}
use Rattle.keyed_entries.specs.declared.entry.Stamped.{Stamped}
use Rattle.painter.specs.Framebuffer.{Framebuffer, Has, color_at}
use Rattle.painter.specs.Picture.{painted}
use Rattle.pixel_format.specs.Canvas.{Picture}
use Rattle.terms.specs.Area.{whole_area}
use Rattle.keyed_entries.specs.Entry.{hosts_of}
use Rattle.replay.specs.Screens.{IsScreenAt}
use Rattle.rfb_wire.specs.Written.{raw_update_bytes}
use Rattle.fbs_export.specs.Export.{start, block_text, opening_text, screen_text, front_text, export_text, messages_from, row_text, rows_text}

row_same : (a b : Picture) (w y x n : ℕ) → ((i : ℕ) → i < w → a i y ≡ b i y) → x + n ≤ w → row_text a y x n ≡ row_text b y x n
row_same a b w y x zero same within = refl
row_same a b w y x (suc n) same within =
    rw (same x (omega (arith, within)), row_same a b w y (x + 1) n same (omega (arith, within))) refl

rows_same : (a b : Picture) (w h y n : ℕ) → ((i j : ℕ) → i < w → j < h → a i j ≡ b i j) → y + n ≤ h → rows_text a w y n ≡ rows_text b w y n
rows_same a b w h y zero same within = refl
rows_same a b w h y (suc n) same within =
    rw (row_same a b w y 0 w (λ i less. same i y less (omega (arith, within))) (omega arith), rows_same a b w h (y + 1) n same (omega (arith, within))) refl

screen_same : (s : Framebuffer) (picture : Picture) → Has s picture → screen_text s.width s.height (color_at s) ≡ screen_text s.width s.height picture
unfolding screen_text
screen_same s picture has =
    ap (raw_update_bytes (whole_area s.width s.height)) (rows_same (color_at s) picture s.width s.height 0 s.height has (omega arith))

pub export_is : (h : Head) (all : List Stamped) (from to : ℕ) (s : Framebuffer) → IsScreenAt h all from s
    → front_text h (color_at s) ++ messages_from all from to ≡ export_text h all from to
unfolding front_text export_text
export_is h all from to s shown =
    let picture : Picture = painted (hosts_of (take from all)) in
    let opening : List ℕ = block_text 0 (opening_text h) in
    let last : List ℕ = messages_from all from to in
    let same : screen_text h.width h.height (color_at s) ≡ screen_text h.width h.height picture = rw (← shown.width_is, ← shown.height_is) (screen_same s picture shown.shows) in
    let update : List ℕ = block_text 0 (screen_text h.width h.height (color_at s)) in
    append_assoc start (opening ++ update) last ∙ ap (λ z. start ++ z) (append_assoc opening update last)
    ∙ ap (λ z. start ++ (opening ++ (block_text 0 z ++ last))) same
