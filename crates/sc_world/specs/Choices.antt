-- Which entities there may be of a type: of an enumerated one those whose ids are its choices, and else any.
use Rattle.std.specs.Prelude.{ℕ, List, [], ◌∷◌, Bool, true, IsTrue}
use Rattle.std.specs.List.{list_any}
use Rattle.std.specs.Str.{bytes_eq}
use Rattle.sc_names.specs.declared.uid.Uid.{Uid}
use Rattle.sc_schema.specs.Declarations.{Declarations, choices_of}

-- an id is one of the choices, where there are some
abbrev pub is_choice : List (List ℕ) → List ℕ → Bool
is_choice [] id = true
is_choice (first ∷ more) id = list_any (bytes_eq id) (first ∷ more)

-- an entity's id is a choice of its type, if the type is enumerated
abbrev pub IsChoice : Declarations → Uid → Type 0
IsChoice s u = IsTrue (is_choice (choices_of s u.type_name) u.id)
