-- The fields of a head, by their names.
use Rattle.std.specs.Prelude.{ℕ, Bool, cond, List, [], ◌∷◌, map, bytes_eq}
use Rattle.std.specs.Char.{to_ascii_lowercase}
use Rattle.httparse.specs.declared.spans.HeaderSpan.{HeaderSpan}
use Rattle.httparse.specs.Grammar.{RequestHead}
use Rattle.httparse.specs.Spans.{header_bytes, name_and_value}

-- names of fields, and of hosts, are the same in any case (RFC 9110, section 5.1; RFC 3986, section 3.2.2)
unfoldable pub is_same : List ℕ → List ℕ → Bool
is_same name other = bytes_eq (map to_ascii_lowercase name) (map to_ascii_lowercase other)

-- each field's name, and its value without the white space around it (RFC 9112, section 5.1), in order
abbrev pub Fields : Type 0
Fields = List (List ℕ × List ℕ)

abbrev pub fields_of : RequestHead → Fields
fields_of head = map name_and_value head.fields

-- the fields that spans cover
abbrev pub covered : List ℕ → List HeaderSpan → Fields
covered bytes spans = map (header_bytes bytes) spans

-- the values of all fields of a name, in order
abbrev pub values_of : List ℕ → Fields → List (List ℕ)
values_of name [] = []
values_of name (field ∷ fields) = cond (is_same field.0 name) (field.1 ∷ values_of name fields) (values_of name fields)
