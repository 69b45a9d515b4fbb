-- What follows a common type, by its place. Clauses inside of the crate speak of it.
use Rattle.std.specs.Prelude.{ℕ, [], get_or}
use Rattle.sc_schema_types.specs.References.{Names, Bodies, references}

-- the common types that the body of the one at a place names
abbrev pub named_at : Bodies → Names → ℕ → Names
named_at bodies names i = references bodies (get_or names i [])
