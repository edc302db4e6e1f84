use Rattle.std.proofs.Common.{◌≡◌, ◌+◌, [], ◌++◌, inl, inr, refl, ap, subst, ◌∙◌, arith}
use Rattle.std.specs.Io.KnownBytes.{Appends}
use Rattle.std.proofs.KnownBytes.{Appends-nil, Appends-trans}
use Rattle.disk.specs.FailuresLaws.{unfailed}
use Rattle.keyed_entries.specs.Entry.{messages_in}
use Rattle.replay.specs.Screens.{IsScreenAt}
use Rattle.pictures.specs.Frames.{IsFrame, frame_moment}
use Rattle.pictures.proofs.Filming.{frames_grow, one_more_frame}
use Rattle.replay.proofs.Moments.{shown_later}
use Rattle.pictures.proofs.frames.write_each.Goals as goal

pub loop-frame-init : goal.loop-frame-init
loop-frame-init g c =
    record {
      width = c.requires.width;
      height = c.requires.height;
      painted = c.requires.painted;
      numbers = refl;
      head = refl;
      blocks = λ modelled. refl;
      history = λ modelled. refl;
      unfailed = λ modelled. refl;
      picture = inl c.requires.picture;
      following = c.requires.following;
      written = λ modelled. ([], refl, Appends-nil _);
    }

pub loop-frame-preserved : goal.loop-frame-preserved
loop-frame-preserved g c =
    let D = g.D.Disk in
    let old = c.args.index.now in
    let messages = messages_in old.blocks in
    let film = c.args.film.now in
    let frame = c.loop-frame.frame in
    let replay = c.show.new.replay in
    let picture = c.show.new.picture.items in
    let loop = c.loop-frame.invariant in
    let count = c.in_ok-count.ensures in
    let show = c.in_ok-show.ensures in
    let head : c.count_at.new.index.head ≡ old.head = count.only.2 ∙ loop.head in
    let blocks = λ (modelled : D.is_modelled). count.only.3 modelled ∙ loop.blocks modelled in
    let shown = λ (modelled : D.is_modelled). rw (c.moment.ensures, ap messages_in (loop.blocks modelled)) at (count.shown modelled) in
    let position = λ (modelled : D.is_modelled). show.position (loop.following modelled c.in_ok-count.count (shown modelled)) in
    let painted = λ (modelled : D.is_modelled). rw (head, ap messages_in (blocks modelled)) at (show.painted modelled) in
    record {
      width = show.width ∙ loop.width;
      height = show.height ∙ loop.height;
      painted = painted;
      numbers = show.only.1 ∙ count.only.1 ∙ loop.numbers;
      head = show.only.2 ∙ head;
      blocks = λ modelled. show.only.3 modelled ∙ blocks modelled;
      history = λ modelled. show.only.0 modelled ∙ count.only.0 modelled ∙ loop.history modelled;
      unfailed = λ modelled. unfailed (show.cause modelled) (λ failed. cc) ∙ unfailed (count.cause modelled) (λ failed. cc) ∙ loop.unfailed modelled;
      picture = inr show.picture;
      following = λ modelled n later.
          let grows = frames_grow film.from film.rate frame film.rated in
          omega (arith, position modelled, shown_later (frame_moment film.from film.rate frame) (frame_moment film.from film.rate (frame + 1)) messages c.in_ok-count.count n grows (shown modelled) later);
      written = λ modelled.
          let before = loop.written modelled in
          let last : IsFrame old.head messages (frame_moment film.from film.rate frame) picture = record {
            count = c.in_ok-count.count;
            screen = replay.screen;
            shown = shown modelled;
            painted = subst (λ n. IsScreenAt old.head messages n replay.screen) (position modelled) (painted modelled);
            text_is = show.picture;
          } in
          let more = subst (Appends (g.W.Write.contents c.loop-frame.out) (g.W.Write.contents c.write_all.new.self)) c.deref.ensures.value c.in_ok-write_all.ensures.bytes in
          (before.0 ++ picture, one_more_frame old.head messages film.from film.rate frame before.0 picture before.1 last, Appends-trans _ _ _ before.0 picture before.2 more);
    }
