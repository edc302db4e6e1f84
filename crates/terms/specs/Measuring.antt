-- What a reading is to one who measures it.
use Rattle.std.specs.Prelude.{ℕ, ◌-◌, length, Result, Ok, Err}
use Rattle.terms.specs.Reading.{Reading, Got, More, Bad, ◌>>=◌}
use Rattle.terms.specs.declared.measuring.NoLength.{NoLength}
use Rattle.terms.specs.declared.measuring.NoLength.TheVariants as answers

-- whether data are whole, faulty or too short, whatever they say
abbrev pub judged : {A E : Type 0} → Reading A E → Reading Unit E
judged r = r >>= λ content rest. Got tt rest

-- of so many bytes the length of what is whole
abbrev pub measured : {A E : Type 0} → ℕ → Reading A E → Result ℕ NoLength
measured size (Got x rest) = Ok (size - length rest)
measured size More = Err answers.NeedMore
measured size (Bad e) = Err answers.Bad
