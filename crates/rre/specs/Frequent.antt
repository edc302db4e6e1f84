-- How often colours stand in a list.
use Rattle.std.specs.Prelude.{ℕ, ◌==◌, ◌&&◌, Bool, List, count_by, not}
use Rattle.pixel_format.specs.declared.Color.{Color}

abbrev pub is_color : Color → Color → Bool
is_color one other = (one.r == other.r && one.g == other.g) && one.b == other.b

-- how many pixels have a colour
abbrev pub count_of : Color → List Color → ℕ
count_of color colors = count_by (is_color color) colors

-- how many pixels have another one
abbrev pub others_than : Color → List Color → ℕ
others_than color colors = count_by (λ other. not (is_color color other)) colors
