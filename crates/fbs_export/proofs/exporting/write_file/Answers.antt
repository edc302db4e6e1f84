use Rattle.std.proofs.Common.{ℕ, List, sym, subst, ◌∙◌}
use Rattle.std.specs.Io.KnownBytes.{Appends}
use Rattle.std.proofs.KnownBytes.{Appends-trans}
use Rattle.keyed_entries.specs.Entry.{messages_in}
use Rattle.replay.specs.Indexed.{start_in}
use Rattle.keyed_entries.specs.declared.entry.Stamped.{Stamped}
use Rattle.painter.specs.Framebuffer.{color_at}
use Rattle.replay.specs.Screens.{IsScreenAt}
use Rattle.fbs_export.specs.Export.{front_text, messages_from}
use Rattle.fbs_export.specs.Written.{WroteFront}
use Rattle.fbs_export.proofs.Parts.{wrote_all}
use Rattle.fbs_export.proofs.Shown.{export_is}
use Rattle.fbs_export.proofs.Writes.{front_of_first, front_of_second}
use Rattle.fbs_export.proofs.exporting.write_file.Goals as goal

pub returns-in_err-write_front-clause-front : goal.returns-in_err-write_front-clause-front
returns-in_err-write_front-clause-front g c = λ m.
    let i = c.args.index.now in
    let all : List Stamped = messages_in i.blocks in
    let from : ℕ = start_in i.numbers c.args.block in
    let screen = c.screen.result.now in
    let played : IsScreenAt i.head all from c.in-Ok.replay.screen = subst (λ z. IsScreenAt i.head all z c.in-Ok.replay.screen) c.in-Ok.ensures.position (c.in-Ok.ensures.screen m) in
    let shown : IsScreenAt i.head all from screen = subst (IsScreenAt i.head all from) (sym c.screen.ensures) played in
    let front : WroteFront (g.W.Write.contents c.args.out.now) (g.W.Write.contents c.write_front.new.out) (front_text i.head (color_at screen)) =
    subst (λ z. WroteFront (g.W.Write.contents c.args.out.now) (g.W.Write.contents c.write_front.new.out) (front_text z (color_at screen))) c.in-Ok.ensures.only.2 c.write_front.ensures.front in
    subst (WroteFront (g.W.Write.contents c.args.out.now) (g.W.Write.contents c.write_front.new.out)) (export_is i.head all from c.args.to screen shown)
    (front_of_first _ _ (front_text i.head (color_at screen)) (messages_from all from c.args.to) front)

pub returns-in_err-write_messages-clause-front : goal.returns-in_err-write_messages-clause-front
returns-in_err-write_messages-clause-front g c = λ m.
    let i = c.args.index.now in
    let all : List Stamped = messages_in i.blocks in
    let from : ℕ = start_in i.numbers c.args.block in
    let screen = c.screen.result.now in
    let played : IsScreenAt i.head all from c.in-Ok.replay.screen = subst (λ z. IsScreenAt i.head all z c.in-Ok.replay.screen) c.in-Ok.ensures.position (c.in-Ok.ensures.screen m) in
    let shown : IsScreenAt i.head all from screen = subst (IsScreenAt i.head all from) (sym c.screen.ensures) played in
    let front : Appends (g.W.Write.contents c.args.out.now) (g.W.Write.contents c.write_front.new.out) (front_text i.head (color_at screen)) =
    subst (λ z. Appends (g.W.Write.contents c.args.out.now) (g.W.Write.contents c.write_front.new.out) (front_text z (color_at screen))) c.in-Ok.ensures.only.2 c.in_ok-write_front.ensures.all in
    let following : WroteFront (g.W.Write.contents c.write_front.new.out) (g.W.Write.contents c.write_messages.new.out) (messages_from all from c.args.to) =
    subst (λ z. WroteFront (g.W.Write.contents c.write_front.new.out) (g.W.Write.contents c.write_messages.new.out) (messages_from all z c.args.to)) (c.position.ensures ∙ c.in-Ok.ensures.position)
    (subst (λ z. WroteFront (g.W.Write.contents c.write_front.new.out) (g.W.Write.contents c.write_messages.new.out) (messages_from (messages_in z) c.position.result c.args.to)) (c.in-Ok.ensures.only.3 m) (c.write_messages.ensures.front m)) in
    subst (WroteFront (g.W.Write.contents c.args.out.now) (g.W.Write.contents c.write_messages.new.out)) (export_is i.head all from c.args.to screen shown)
    (front_of_second _ _ _ (front_text i.head (color_at screen)) (messages_from all from c.args.to) front following)

pub returns-clause-all : goal.returns-clause-all
returns-clause-all g c = λ m.
    let i = c.args.index.now in
    let all : List Stamped = messages_in i.blocks in
    let from : ℕ = start_in i.numbers c.args.block in
    let screen = c.screen.result.now in
    let played : IsScreenAt i.head all from c.in-Ok.replay.screen = subst (λ z. IsScreenAt i.head all z c.in-Ok.replay.screen) c.in-Ok.ensures.position (c.in-Ok.ensures.screen m) in
    let shown : IsScreenAt i.head all from screen = subst (IsScreenAt i.head all from) (sym c.screen.ensures) played in
    let front : Appends (g.W.Write.contents c.args.out.now) (g.W.Write.contents c.write_front.new.out) (front_text i.head (color_at screen)) =
    subst (λ z. Appends (g.W.Write.contents c.args.out.now) (g.W.Write.contents c.write_front.new.out) (front_text z (color_at screen))) c.in-Ok.ensures.only.2 c.in_ok-write_front.ensures.all in
    let following : Appends (g.W.Write.contents c.write_front.new.out) (g.W.Write.contents c.write_messages.new.out) (messages_from all from c.args.to) =
    subst (λ z. Appends (g.W.Write.contents c.write_front.new.out) (g.W.Write.contents c.write_messages.new.out) (messages_from all z c.args.to)) (c.position.ensures ∙ c.in-Ok.ensures.position)
    (subst (λ z. Appends (g.W.Write.contents c.write_front.new.out) (g.W.Write.contents c.write_messages.new.out) (messages_from (messages_in z) c.position.result c.args.to)) (c.in-Ok.ensures.only.3 m) (c.in_ok-write_messages.ensures.all m)) in
    subst (Appends (g.W.Write.contents c.args.out.now) (g.W.Write.contents c.write_messages.new.out)) (export_is i.head all from c.args.to screen shown)
    (Appends-trans _ _ _ (front_text i.head (color_at screen)) (messages_from all from c.args.to) front following)

pub returns-clause-front : goal.returns-clause-front
returns-clause-front g c = λ m. wrote_all _ _ _ (returns-clause-all g c m)
