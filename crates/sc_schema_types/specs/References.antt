-- Which common types a type names, and which common types lead to which.
use Rattle.std.specs.Prelude.{ℕ, List, [], ◌∷◌, Option, option_map, unwrap_or, find, Contains}
use Rattle.std.specs.List.{flat_map}
use Rattle.std.specs.Str.{bytes_eq}
use Rattle.sc_schema.specs.declared.ty.Presence.{Presence}
use Rattle.sc_schema.specs.declared.resolved_common_type.ResolvedCommonType.{ResolvedCommonType}
use Rattle.sc_schema.specs.declared.resolved_type.ResolvedType.{ResolvedType, ResolvedType-F, fold-ResolvedType}
use Rattle.sc_schema.specs.declared.resolved_type.ResolvedType.TheOpen as r
use Rattle.sc_schema.specs.declared.resolved_schema.ResolvedSchema.{ResolvedSchema}
use Rattle.sc_schema.specs.Resolved.{common_types}
use Rattle.sc_graphs.specs.Reaching as reaching

abbrev pub Names : Type 0
Names = List (List ℕ)

-- the common types that a type names, in order, each type inside it being seen as those that it names
abbrev pub names_step : ResolvedType-F Names → Names
names_step r.Boolean = []
names_step r.Long = []
names_step r.String = []
names_step r.Decimal = []
names_step r.Ip = []
names_step (r.Entity name) = []
names_step (r.Set element) = element
names_step (r.Record attributes) = flat_map (λ (a : List ℕ × Presence × Names). a.2) attributes
names_step (r.Common name) = name ∷ []

unfoldable pub names_in : ResolvedType → Names
names_in = fold-ResolvedType Names names_step

-- the bodies of common types, by their names
abbrev pub Bodies : Type 0
Bodies = List ℕ → Option ResolvedType

-- the body of the first of these common types that has the name
unfoldable pub body_among : List ResolvedCommonType → Bodies
body_among types name = option_map (λ (c : ResolvedCommonType). c.body)
    (find (λ (c : ResolvedCommonType). bytes_eq name c.name) types)

-- the body of the common type of a schema that has the name
abbrev pub body_of : ResolvedSchema → Bodies
body_of s = body_among (common_types s)

-- the common types that the body of each one names
abbrev pub Graph : Type 0
Graph = List ℕ → Names

abbrev pub references : Bodies → Graph
references bodies name = unwrap_or (option_map names_in (bodies name)) []

-- the body of a names b
abbrev pub LeadsTo : Graph → List ℕ → List ℕ → Type 0
LeadsTo graph a b = Contains (graph a) b

-- a common type reaches those that its body names, and those that these reach
abbrev pub Reaches : Graph → List ℕ → List ℕ → Type 0
Reaches graph = reaching.Reaches (LeadsTo graph)
