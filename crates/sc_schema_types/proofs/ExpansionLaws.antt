-- What a type stands for, construct by construct.
use Rattle.std.proofs.Common.{◌≡◌, ℕ, List, map, ap, sym, ◌∙◌}
use Rattle.sc_schema.specs.declared.ty.Presence.{Presence}
use Rattle.sc_schema.specs.declared.ty.Ty.{Ty}
use Rattle.sc_schema.specs.declared.ty.Ty.TheVariants as ty
use Rattle.sc_schema.specs.declared.resolved_type.ResolvedType.{ResolvedType, fold-roll-ResolvedType}
use Rattle.sc_schema.specs.declared.resolved_type.ResolvedType.TheVariants as type
use Rattle.sc_schema.specs.declared.resolved_type.ResolvedType.TheVariants.{rolls-Entity, rolls-Set, rolls-Record, rolls-Common}
use Rattle.sc_schema.specs.declared.resolved_type.ResolvedType.TheOpen as r
use Rattle.sc_schema_types.specs.Expansions.{Kinds, kind_among, Meaning, expanded, expand_step}
use Rattle.sc_schema_types.proofs.NamesLaws.{Attribute}

-- the fields that attributes stand for
abbrev pub fields_of : Kinds → Meaning → List Attribute → List (List ℕ × Presence × Ty)
fields_of k m = map (λ (a : Attribute). (a.0, a.1, expanded k m a.2))

pub expanded_Entity : (k : Kinds) (m : Meaning) (name : List ℕ) → expanded k m (type.Entity name) ≡ ty.Entity (kind_among k name)
unfolding expanded
expanded_Entity k m name = ap (expanded k m) (sym (rolls-Entity name)) ∙ fold-roll-ResolvedType Ty (expand_step k m) (r.Entity name)

pub expanded_Set : (k : Kinds) (m : Meaning) (x : ResolvedType) → expanded k m (type.Set x) ≡ ty.Set (expanded k m x)
unfolding expanded
expanded_Set k m x = ap (expanded k m) (sym (rolls-Set x)) ∙ fold-roll-ResolvedType Ty (expand_step k m) (r.Set x)

pub expanded_Record : (k : Kinds) (m : Meaning) (fields : List Attribute) → expanded k m (type.Record fields) ≡ ty.Record (fields_of k m fields)
unfolding expanded
expanded_Record k m fields = ap (expanded k m) (sym (rolls-Record fields)) ∙ fold-roll-ResolvedType Ty (expand_step k m) (r.Record fields)

pub expanded_Common : (k : Kinds) (m : Meaning) (name : List ℕ) → expanded k m (type.Common name) ≡ m name
unfolding expanded
expanded_Common k m name = ap (expanded k m) (sym (rolls-Common name)) ∙ fold-roll-ResolvedType Ty (expand_step k m) (r.Common name)
