use Rattle.std.proofs.Common.{◌≡◌, ◌≤◌, ◌⊎◌, ℕ, List, []}
use Rattle.std.specs.Io.KnownBytes.{Appends}
use Rattle.keyed_entries.specs.Entry.{messages_in}
use Rattle.painter.specs.Framebuffer.{color_at}
use Rattle.replay.specs.Screens.{IsScreenAt}
use Rattle.pictures.specs.declared.picture.PictureFormat.TheVariants.{Ppm}
use Rattle.pictures.specs.Frames.{AreFrames, frame_moment}
use Rattle.replay.specs.Moments.{IsShownAt}
use Rattle.pictures.specs.Pictures.{picture_text}
use Rattle.pictures.proofs.frames.write_each.Given as goal

-- The frames so far are written, and the replay stands no further than the next one shows.
abbrev pub invariant-loop-frame : goal.invariant-loop-frame
invariant-loop-frame g l =
    let D = g.D.Disk in
    let first = l.fn.index in
    let film = l.fn.film in
    let messages = messages_in first.blocks in
    let screen = l.replay.screen in record {
      width : screen.width ≡ first.head.width;
      height : screen.height ≡ first.head.height;
      painted : D.is_modelled → IsScreenAt first.head messages l.replay.position screen;
      numbers : l.index.numbers ≡ first.numbers;
      head : l.index.head ≡ first.head;
      blocks : D.is_modelled → l.index.blocks ≡ first.blocks;
      history : D.is_modelled → D.history l.index.disk ≡ D.history first.disk;
      unfailed : D.is_modelled → D.failures l.index.disk ≡ D.failures first.disk;
      picture : (l.picture.items ≡ []) ⊎ (l.picture.items ≡ picture_text Ppm screen.width screen.height (color_at screen));
      following : D.is_modelled → (n : ℕ) → IsShownAt (frame_moment film.from film.rate l.frame) messages n → l.replay.position ≤ n;
      written : D.is_modelled → (text : List ℕ) × AreFrames first.head messages film.from film.rate l.frame text × Appends (g.W.Write.contents l.fn.out) (g.W.Write.contents l.out) text;
    }
