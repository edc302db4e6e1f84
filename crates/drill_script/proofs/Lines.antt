-- A text is read as what it spells.
use Rattle.std.proofs.Common.{◌≡◌, ℕ, List, Some, Result, Ok, Err, sym, ◌∙◌}
use Rattle.std.specs.Prelude.{IfOk}
use Rattle.std.proofs.lemmas.Option.{same_Some}
use Rattle.drill_script.specs.declared.fault.LineFault.{LineFault}
use Rattle.drill_script.specs.declared.fault.LineFault.TheVariants.{Bad, NoMemory}
use Rattle.drill_script.specs.declared.line.Line.{Line}
use Rattle.drill_script.specs.Grammar.{Command, command_of, Spells}
use Rattle.drill_script.specs.Reading.{parts, GivesLine, command_at}
use Rattle.drill_script.proofs.Again.{command_again}
use Rattle.drill_script.proofs.Parts.{parts_text, text_parts, words_some}
use Rattle.drill_script.proofs.Taken.{command_told}

-- what is read is spelled
read_spells : (text : List ℕ) (command : Command) → command_at (parts text) ≡ Some command → Spells text command
read_spells text command e =
    let told = command_told (parts text) command e in
    (parts text, parts_text text told.1, told.0)

-- what is spelled is read
spelled_reads : (text : List ℕ) (command : Command) → Spells text command → command_at (parts text) ≡ Some command
spelled_reads text command s = rw (text_parts s.0 text s.1) (command_again s.0 command (words_some s.0 s.1.each) s.2)

-- a text spells one line
pub one_command : (text : List ℕ) (a b : Command) → Spells text a → Spells text b → a ≡ b
one_command text a b s t = same_Some a b (sym (spelled_reads text a s) ∙ spelled_reads text b t)

-- what reading answered, in the words of the grammar
pub line_spelled : (text : List ℕ) (r : Result Line LineFault) → GivesLine r (command_at (parts text)) → IfOk r (λ line. Spells text (command_of line))
line_spelled text (Ok line) given = read_spells text (command_of line) given
line_spelled text (Err fault) given = tt

pub line_read : (text : List ℕ) (r : Result Line LineFault) (command : Command) → GivesLine r (command_at (parts text)) → Spells text command → IfOk r (λ line. command_of line ≡ command)
line_read text (Ok line) command given s = same_Some (command_of line) command (sym given ∙ spelled_reads text command s)
line_read text (Err fault) command given s = tt

abbrev fails : LineFault → Result Line LineFault
fails fault = Err fault

pub line_bad : (text : List ℕ) (r : Result Line LineFault) (command : Command) → GivesLine r (command_at (parts text)) → r ≡ fails Bad → Spells text command → ⊥
line_bad text (Ok line) command given bad s = absurd cc
line_bad text (Err Bad) command given bad s = let read = spelled_reads text command s in absurd cc
line_bad text (Err NoMemory) command given bad s = absurd cc
