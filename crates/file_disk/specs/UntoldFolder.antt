-- What contracts see of a folder of the operating system.
use Rattle.std.specs.Prelude.{None, [], ◌∷◌}
use Rattle.recording_name.specs.Folder.{empty_file}
use Rattle.recording_name.specs.FolderHistory.{History}

-- No moment of such a folder is told: every clause about it has a premise that it never meets.
unfoldable pub untold : History
untold = record { moment = 0; at = λ _. record { names = λ _. None; recent = λ _. None ∷ []; files = λ _. empty_file } }
