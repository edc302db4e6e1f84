use Rattle.std.proofs.Common.{◌++◌}
use Rattle.std.specs.Io.KnownBytes.{Appends}
use Rattle.std.proofs.KnownBytes.{Appends-trans}
use Rattle.base64.specs.Write.{finished}
use Rattle.recording_page.proofs.Pages.{ends}
use Rattle.recording_page.proofs.writing.Page.end.Goals as goal

pub returns : goal.returns
returns g c before bytes is =
    let page = c.args.self in
    let middle = c.args.middle.now in
    let painter = c.args.painter.now in
    let end = c.args.end.now in
    let finish = g.W.Write.contents c.in_ok-out.out in
    let out = g.W.Write.contents c.write_all-3.new.self in
    let appends : Appends finish out (middle ++ (painter ++ end)) =
    Appends-trans finish (g.W.Write.contents c.write_all.new.self) out middle (painter ++ end) c.in_ok-write_all.ensures.bytes
    (Appends-trans (g.W.Write.contents c.write_all.new.self) (g.W.Write.contents c.write_all-2.new.self) out painter end c.in_ok-write_all-2.ensures.bytes c.in_ok-write_all-3.ensures.bytes) in
    ends (finished page.encoder) finish out (middle ++ (painter ++ end)) c.in_ok-out.ensures appends
    (g.W.Write.contents page.before.value) before bytes page.has is
