-- The text of a page.
use Rattle.std.specs.Prelude.{ℕ, List, ◌++◌}
use Rattle.base64.specs.Engines.{standard}
use Rattle.base64.specs.GeneralPurpose.{encode_of}
use Rattle.recording_page.specs.declared.page.TheConstants.{END, FRONT, MIDDLE}
use Rattle.screen_script.specs.declared.painter.TheConstants.{PAINTER}

-- the page that has this file in it, in base64 (RFC 4648, section 4), and then its scripts
abbrev pub page_text : List ℕ → List ℕ
page_text file = FRONT.now ++ (encode_of standard file ++ (MIDDLE.now ++ (PAINTER.now ++ END.now)))
