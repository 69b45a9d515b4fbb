-- The common types that a type names, construct by construct.
use Rattle.std.proofs.Common.{◌≡◌, ℕ, List, [], ◌∷◌, ◌++◌, map, refl, ap, sym, ◌∙◌}
use Rattle.std.specs.List.{flat_map}
use Rattle.sc_schema.specs.declared.ty.Presence.{Presence}
use Rattle.sc_schema.specs.declared.resolved_type.ResolvedType.{ResolvedType, fold-roll-ResolvedType}
use Rattle.sc_schema.specs.declared.resolved_type.ResolvedType.TheVariants as type
use Rattle.sc_schema.specs.declared.resolved_type.ResolvedType.TheVariants.{rolls-Set, rolls-Record, rolls-Common}
use Rattle.sc_schema.specs.declared.resolved_type.ResolvedType.TheOpen as r
use Rattle.sc_schema_types.specs.References.{Names, names_in, names_step}

abbrev pub Attribute : Type 0
Attribute = List ℕ × Presence × ResolvedType

pub names_Set : (x : ResolvedType) → names_in (type.Set x) ≡ names_in x
unfolding names_in
names_Set x = ap names_in (sym (rolls-Set x)) ∙ fold-roll-ResolvedType Names names_step (r.Set x)

pub names_of_attributes : (fields : List Attribute) → flat_map (λ (a : List ℕ × Presence × Names). a.2) (map (λ (a : Attribute). (a.0, a.1, names_in a.2)) fields) ≡ flat_map (λ (a : Attribute). names_in a.2) fields
names_of_attributes [] = refl
names_of_attributes (a ∷ fields) = ap (λ ns. names_in a.2 ++ ns) (names_of_attributes fields)

pub names_Record : (fields : List Attribute) → names_in (type.Record fields) ≡ flat_map (λ (a : Attribute). names_in a.2) fields
unfolding names_in
names_Record fields = ap names_in (sym (rolls-Record fields)) ∙ fold-roll-ResolvedType Names names_step (r.Record fields) ∙ names_of_attributes fields

pub names_Common : (name : List ℕ) → names_in (type.Common name) ≡ name ∷ []
unfolding names_in
names_Common name = ap names_in (sym (rolls-Common name)) ∙ fold-roll-ResolvedType Names names_step (r.Common name)
