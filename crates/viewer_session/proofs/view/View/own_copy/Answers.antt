use Rattle.std.proofs.Common.{rules, ◌≡◌, true, sym, subst, arith}
use Rattle.std.specs.Prelude.{◌&&◌}
use Rattle.terms.specs.declared.area.Area.{Area}
use Rattle.terms.specs.declared.screen_size.ScreenSize.{ScreenSize}
use Rattle.terms.specs.Area.{is_in, IsSmallest}
use Rattle.pixel_sets.specs.Pixels.{holds}
use Rattle.shared_updates.specs.Copies.{HasRoom}
use Rattle.viewer_session.specs.View.{IsAskedFor}
use Rattle.viewer_session.proofs.view.View.own_copy.Goals as goal

pub returns : goal.returns
returns c =
    let set = c.args.self.now.stale in
    let a = c.if-area-eq0.false in
    let d = c.if-area-eq0-2.false in
    let f = c.ne.ensures in
    let e = c.if-ne.false in
    let same = c.named-copy.ensures.area in
    let area = c.args.rectangle.area in
    record {
      is = record { encoding = search rules; area = same; source_is = c.named-copy.ensures.source; across = omega arith; down = omega arith };
      takes = c.if-not-self.false;
      whole = c.if-self.false;
      room = subst (λ (t : Area). HasRoom c.args.self.now.screen.width c.args.self.now.screen.height c.args.self.now.copies t) (sym same)
          (subst (λ (s : ScreenSize). HasRoom s.width s.height c.args.self.now.copies area) c.size.ensures (c.have_room.ensures.0 c.if-not-have_room.false));
      asked = subst (λ (t : Area). IsAskedFor c.args.self.now.pending t) (sym same) (c.is_asked_for.ensures.0 c.if-not-is_asked_for.false);
      clean = λ lost.
          let there : IsSmallest (λ x y. is_in c.source.result x y && holds set x y) c.source.result =
          subst (λ (t : Area). IsSmallest (λ x y. is_in t x y && holds set x y) t) (sym c.source.ensures) lost in
          let yes : c.are_lost.result ≡ true = c.are_lost.ensures.1 there in
          absurd (cc);
    }
