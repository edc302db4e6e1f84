-- Three parts that are written one after the other.
use Rattle.std.proofs.Common.{ℕ, List, [], ◌++◌, refl, sym, append-nil}
use Rattle.std.specs.Prelude.{Option}
use Rattle.std.specs.Io.KnownBytes.{Appends}
use Rattle.std.proofs.KnownBytes.{Appends-trans, Appends-nil}
use Rattle.fbs_export.specs.Written.{WroteFront}
use Rattle.fbs_export.proofs.Writes.{front_of_first, front_of_second}

pub wrote_none : (a : Option (List ℕ)) (text : List ℕ) → WroteFront a a text
wrote_none a text = record { front = []; following = text; is = refl; wrote = Appends-nil a }

pub wrote_all : (a b : Option (List ℕ)) (text : List ℕ) → Appends a b text → WroteFront a b text
wrote_all a b text p = record { front = text; following = []; is = sym (append-nil text); wrote = p }

pub in_second : (a b c : Option (List ℕ)) (first second third : List ℕ) → Appends a b first → WroteFront b c second → WroteFront a c (first ++ (second ++ third))
in_second a b c first second third p w = front_of_second a b c first (second ++ third) p (front_of_first b c second third w)

pub in_third : (a b c d : Option (List ℕ)) (first second third : List ℕ) → Appends a b first → Appends b c second → WroteFront c d third → WroteFront a d (first ++ (second ++ third))
in_third a b c d first second third p q w = front_of_second a b d first (second ++ third) p (front_of_second b c d second third q w)

pub three_parts : (a b c d : Option (List ℕ)) (first second third : List ℕ) → Appends a b first → Appends b c second → Appends c d third → Appends a d (first ++ (second ++ third))
three_parts a b c d first second third p q r = Appends-trans a b d first (second ++ third) p (Appends-trans b c d second third q r)
