-- What follows a front.
use Rattle.std.proofs.Common.{◌≡◌, ◌∙◌, ℕ, List, ◌++◌, sym}
use Rattle.std.proofs.lemmas.List.{append_cancel_left}

-- there is one rest
pub same_rest : (bytes front rest other : List ℕ) → bytes ≡ front ++ rest → bytes ≡ front ++ other → rest ≡ other
same_rest bytes front rest other is of = append_cancel_left front rest other (sym is ∙ of)
