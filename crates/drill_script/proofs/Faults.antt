-- What a fault in the rest of a line says of the line.
use Rattle.std.proofs.Common.{◌≡◌, ℕ, List, Some, Err, refl, sym, ap, ◌∙◌, inl, inr}
use Rattle.drill_script.specs.declared.fault.LineFault.{LineFault}
use Rattle.drill_script.specs.declared.fault.LineFault.TheVariants.{Bad, NoMemory}
use Rattle.drill_script.specs.declared.words.Kind.{Kind}
use Rattle.drill_script.specs.Grammar.{command_of, TakesMemory}
use Rattle.drill_script.specs.Reading.{parts, ReadsInMemory, GivesLine, KindTakesMemory, word_at, keyword, kind_by, rest_at, command_at}
use Rattle.drill_script.proofs.Parts.{parts_begin}
use Rattle.drill_script.proofs.Taken.{kind_named, word_takes}

-- a fault in what follows the first word
pub rest_fails : (fault : LineFault) (it : Kind) (first : List ℕ) (words rest after : List (List ℕ)) → word_at words ≡ Some (first, rest) → kind_by first ≡ Some it
    → ReadsInMemory command_of (Err fault) after (rest_at it rest) → GivesLine (Err fault) (command_at words)
unfolding command_at
rest_fails Bad it first words rest after at named read = rw (at, named, read) refl
rest_fails NoMemory it first words rest after at named read = tt

-- a line whose kind takes memory
pub text_takes : (it : Kind) (first text : List ℕ) (rest : List (List ℕ)) → word_at (parts text) ≡ Some (first, rest) → kind_by first ≡ Some it → KindTakesMemory it → TakesMemory text
text_takes it first text rest at named takes =
    let begins = sym (parts_begin text first rest (word_takes (parts text) (first, rest) at).0) ∙ kind_named first it named in
    elim takes [
      | inl new ↦ inl (begins ∙ ap keyword new)
      | inr (inl chained) ↦ inr (inl (begins ∙ ap keyword chained))
      | inr (inr host) ↦ inr (inr (begins ∙ ap keyword host))
    ]
