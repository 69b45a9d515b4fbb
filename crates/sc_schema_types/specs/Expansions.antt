-- What types stand for: themselves, with each common type in them written out.
use Rattle.std.specs.Prelude.{◌≡◌, ℕ, List, [], map, Some, option_map, unwrap_or, find}
use Rattle.std.specs.List.{flat_map}
use Rattle.std.specs.Str.{bytes_eq}
use Rattle.sc_schema.specs.declared.ty.EntityKind.{EntityKind}
use Rattle.sc_schema.specs.declared.ty.Ty.{Ty}
use Rattle.sc_schema.specs.declared.ty.Ty.TheVariants as ty
use Rattle.sc_schema.specs.declared.resolved_namespace.ResolvedNamespace.{ResolvedNamespace}
use Rattle.sc_schema.specs.declared.resolved_entity_type.ResolvedEntityType.{ResolvedEntityType}
use Rattle.sc_schema.specs.declared.resolved_schema.ResolvedSchema.{ResolvedSchema}
use Rattle.sc_schema.specs.declared.resolved_type.ResolvedType.{ResolvedType, ResolvedType-F, fold-ResolvedType}
use Rattle.sc_schema.specs.declared.resolved_type.ResolvedType.TheOpen as r
use Rattle.sc_schema_types.specs.References.{Bodies}

-- the entity types of a schema, each with its choices
abbrev pub Kinds : Type 0
Kinds = List EntityKind

abbrev pub kind_of_type : ResolvedEntityType → EntityKind
kind_of_type t = record { name = t.name; choices = t.choices }

abbrev pub kinds_of : ResolvedSchema → Kinds
kinds_of s = flat_map (λ (n : ResolvedNamespace). map kind_of_type n.entity_types) s.namespaces

-- the choices of the first of these that has the name
abbrev pub choices_among : Kinds → List ℕ → List (List ℕ)
choices_among kinds name =
    unwrap_or (option_map (λ (k : EntityKind). k.choices) (find (λ (k : EntityKind). bytes_eq name k.name) kinds)) []

-- the entity type that a name stands for
abbrev pub kind_among : Kinds → List ℕ → EntityKind
kind_among kinds name = record { name = name; choices = choices_among kinds name }

-- what the name of each common type stands for
abbrev pub Meaning : Type 0
Meaning = List ℕ → Ty

-- what a type stands for, each type inside it being seen as what that stands for
abbrev pub expand_step : Kinds → Meaning → ResolvedType-F Ty → Ty
expand_step kinds m r.Boolean = ty.Bool
expand_step kinds m r.Long = ty.Long
expand_step kinds m r.String = ty.String
expand_step kinds m r.Decimal = ty.Decimal
expand_step kinds m r.Ip = ty.Ip
expand_step kinds m (r.Entity name) = ty.Entity (kind_among kinds name)
expand_step kinds m (r.Set element) = ty.Set element
expand_step kinds m (r.Record attributes) = ty.Record attributes
expand_step kinds m (r.Common name) = m name

unfoldable pub expanded : Kinds → Meaning → ResolvedType → Ty
expanded kinds m = fold-ResolvedType Ty (expand_step kinds m)

-- each common type stands for what its body stands for
abbrev pub IsMeaning : Kinds → Bodies → Meaning → Type 0
IsMeaning kinds bodies m =
    (name : List ℕ) (body : ResolvedType) → bodies name ≡ Some body → m name ≡ expanded kinds m body
