-- The recordings that tests begin with.
use Rattle.std.specs.Prelude.{◌≡◌}
use Rattle.terms.specs.declared.format.Format.TheVariants.{One}
use Rattle.gated_journal.specs.Recording.{Head}

-- a recording of a screen of one pixel, in format 1
abbrev pub IsOfOnePixel : Head → Type 0
IsOfOnePixel head = (head.format ≡ One) × (head.width ≡ 1) × (head.height ≡ 1)
