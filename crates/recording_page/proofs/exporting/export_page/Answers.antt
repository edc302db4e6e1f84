use Rattle.std.proofs.Common.{◌≡◌, ◌++◌, ℕ, List, [], Some, ap, refl, subst, ◌∙◌}
use Rattle.std.specs.Option.{option_map}
use Rattle.std.specs.Io.KnownBytes.{Appends, Keeps}
use Rattle.std.proofs.KnownBytes.{Appends-kept}
use Rattle.base64.specs.Engines.{standard}
use Rattle.base64.specs.GeneralPurpose.{encode_of}
use Rattle.base64.specs.Write.{finished}
use Rattle.fbs_export.specs.Export.{export_text}
use Rattle.key_index.specs.Indexed.{start_in}
use Rattle.keyed_entries.specs.Entry.{messages_in}
use Rattle.recording_page.specs.Page.{page_after, page_of}
use Rattle.recording_page.specs.Text.{page_text}
use Rattle.recording_page.specs.declared.page.TheConstants.{END, FRONT, MIDDLE}
use Rattle.screen_script.specs.declared.painter.TheConstants.{PAINTER}
use Rattle.fbs_export.specs.declared.fault.ExportFault.{ExportFault}
use Rattle.recording_page.proofs.Pages.{mapped, page_is}
use Rattle.recording_page.proofs.exporting.export_page.Goals as goal

pub begin-requires : goal.begin-requires
begin-requires g c = (refl, refl, refl, refl)

pub returns-clause-all : goal.returns-clause-all
returns-clause-all g c = λ m.
    let i = c.args.index.now in
    let held = g.W.Write.contents c.args.out in
    let front = c.as_bytes.result.now in
    let end = c.as_bytes-2.result.now ++ (c.as_bytes-3.result.now ++ c.as_bytes-4.result.now) in
    let begun = c.in_ok-page.page in
    let page = c.export.new.out in
    let out = c.in_ok-out.out in
    let file = export_text i.head (messages_in i.blocks) (start_in i.numbers c.args.block) c.args.to in
    let begins : Keeps (option_map (λ xs. page_of (xs ++ front) []) held) (page_after (g.W.Write.contents begun.before.value) (finished begun.encoder [])) =
    mapped ExportFault c.begin.result begun (λ p. Keeps (option_map (λ xs. page_of (xs ++ front) []) held) (page_after (g.W.Write.contents p.before.value) (finished p.encoder []))) c.in_ok-page.ensures.cases c.begin.ensures in
    let ends : (before bytes : List ℕ) → page_after (g.W.Write.contents page.before.value) (finished page.encoder []) ≡ Some (page_of before bytes)
    → g.W.Write.contents out ≡ Some (before ++ (encode_of standard bytes ++ end)) =
    mapped ExportFault c.end.result out (λ o. (before bytes : List ℕ) → page_after (g.W.Write.contents page.before.value) (finished page.encoder []) ≡ Some (page_of before bytes)
    → g.W.Write.contents o ≡ Some (before ++ (encode_of standard bytes ++ end))) c.in_ok-out.ensures.cases c.end.ensures in
    let last : end ≡ MIDDLE.now ++ (PAINTER.now ++ END.now) =
    ap (λ z. z ++ (c.as_bytes-3.result.now ++ c.as_bytes-4.result.now)) c.as_bytes-2.ensures.value
    ∙ ap (λ z. MIDDLE.now ++ (z ++ c.as_bytes-4.result.now)) c.as_bytes-3.ensures.value
    ∙ ap (λ z. MIDDLE.now ++ (PAINTER.now ++ z)) c.as_bytes-4.ensures.value in
    let text : front ++ (encode_of standard file ++ end) ≡ page_text file =
    ap (λ z. z ++ (encode_of standard file ++ end)) c.as_bytes.ensures.value ∙ ap (λ z. FRONT.now ++ (encode_of standard file ++ z)) last in
    subst (Appends held (g.W.Write.contents c.flush.new.self)) text
    (Appends-kept held (g.W.Write.contents out) (g.W.Write.contents c.flush.new.self) (front ++ (encode_of standard file ++ end))
    (page_is held _ _ (g.W.Write.contents out) front file end begins (c.in_ok-messages.ensures.all m) ends) c.flush.ensures.bytes)
