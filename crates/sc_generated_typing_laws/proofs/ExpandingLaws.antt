-- The schema with its types written out: there are no common types, and no type is too large.
use Rattle.std.proofs.Common.{◌≡◌, ℕ, ◌+◌, List, [], map, codes, true, false, None, refl, sym, ap, arith, ◌∙◌}
use Rattle.std.specs.List.{sum_by}
use Rattle.sc_schema.specs.declared.ty.EntityKind.{EntityKind}
use Rattle.sc_schema.specs.declared.ty.Presence.{Presence}
use Rattle.sc_schema.specs.declared.ty.Ty.{Ty, out-Ty, out-roll-Ty}
use Rattle.sc_schema.specs.declared.ty.Ty.TheVariants as ty
use Rattle.sc_schema.specs.declared.ty.Ty.TheVariants.{rolls-Bool, rolls-Long, rolls-String, rolls-Ip, rolls-Entity, rolls-Set, rolls-Record}
use Rattle.sc_schema.specs.declared.ty.Ty.TheOpen as t
use Rattle.sc_schema.specs.Sizes.{deepest, levels, nodes}
use Rattle.sc_schema.proofs.SizesLaws.{levels-roll, nodes-roll}
use Rattle.sc_schema.specs.declared.resolved_type.ResolvedType.{ResolvedType, ResolvedType-F, roll-ResolvedType, map-ResolvedType, fold-roll-ResolvedType}
use Rattle.sc_schema.specs.declared.resolved_type.ResolvedType.TheVariants as type
use Rattle.sc_schema.specs.declared.resolved_type.ResolvedType.TheVariants.{rolls-Boolean, rolls-Long as rolls-Long_type, rolls-String as rolls-String_type, rolls-Ip as rolls-Ip_type, rolls-Entity as rolls-Entity_type}
use Rattle.sc_schema.specs.declared.resolved_type.ResolvedType.TheOpen as r
use Rattle.sc_schema_types.specs.Expansions.{Kinds, kinds_of, kind_among, Meaning, expand_step, expanded, IsMeaning}
use Rattle.sc_schema_types.specs.Faults.{fault_of, first_fault}
use Rattle.sc_schema_types.specs.Orders.{IsOrder}
use Rattle.sc_schema_types.specs.References.{body_among, body_of}
use Rattle.sc_schema_types.specs.Sizes.{is_record_level, is_record, is_too_large}
use Rattle.sc_schema_types.specs.Types.{expanded_schema, IsExpansion}
use Rattle.sc_schema_types.proofs.ExpansionLaws.{expanded_Set, expanded_Record}
use Rattle.sc_generated_typing_laws.specs.Schema.{free, context_fields, context, document, group, user}
use Rattle.sc_generated_typing_laws.specs.Steps.{context_resolved, document_resolved, user_resolved, resolved_schema, document_expanded, group_expanded, user_expanded, viewing_expanded}
use Rattle.sc_generated_typing_laws.specs.Steps as steps

-- ---- what types stand for

abbrev kinds : Kinds
kinds = kinds_of resolved_schema

-- no common type is named, so any meaning will do
abbrev nothing : Meaning
nothing name = ty.Bool

rolled : (x : ResolvedType) (y : ResolvedType-F ResolvedType) → roll-ResolvedType y ≡ x → expanded kinds nothing x ≡ expand_step kinds nothing (map-ResolvedType ResolvedType Ty (expanded kinds nothing) y)
unfolding expanded
rolled x y at = ap (expanded kinds nothing) (sym at) ∙ fold-roll-ResolvedType Ty (expand_step kinds nothing) y

is_Boolean : expanded kinds nothing type.Boolean ≡ ty.Bool
is_Boolean = rolled type.Boolean r.Boolean rolls-Boolean

is_Long : expanded kinds nothing type.Long ≡ ty.Long
is_Long = rolled type.Long r.Long rolls-Long_type

is_String : expanded kinds nothing type.String ≡ ty.String
is_String = rolled type.String r.String rolls-String_type

is_Ip : expanded kinds nothing type.Ip ≡ ty.Ip
is_Ip = rolled type.Ip r.Ip rolls-Ip_type

is_Entity : (name : List ℕ) → expanded kinds nothing (type.Entity name) ≡ ty.Entity (kind_among kinds name)
is_Entity name = rolled (type.Entity name) (r.Entity name) (rolls-Entity_type name)

user_free : kind_among kinds (codes "User") ≡ free (codes "User")
unfolding resolved_schema
user_free = refl

context_is : expanded kinds nothing context_resolved ≡ context
unfolding context_fields
context_is = rw (expanded_Record, is_Ip, is_Long, is_String, expanded_Set, is_Long, expanded_Set, is_Boolean) refl

document_is : expanded kinds nothing document_resolved ≡ document.shape
unfolding document
document_is = rw (expanded_Record, is_Entity, user_free) refl

user_is : expanded kinds nothing user_resolved ≡ user.shape
unfolding user
user_is = rw (expanded_Record, is_Long, is_Entity, user_free, is_String) refl

-- ---- how large they are

abbrev Fields : Type 0
Fields = List (List ℕ × Presence × Ty)

levels_Record : (fs : Fields) → levels (ty.Record fs) ≡ deepest (map (λ (f : List ℕ × Presence × Ty). (f.0, f.1, levels f.2)) fs) + 1
levels_Record fs = ap levels (sym (rolls-Record fs)) ∙ levels-roll (t.Record fs)

nodes_Record : (fs : Fields) → nodes (ty.Record fs) ≡ sum_by (λ (f : List ℕ × Presence × ℕ). f.2) (map (λ (f : List ℕ × Presence × Ty). (f.0, f.1, nodes f.2)) fs) + 1
nodes_Record fs = ap nodes (sym (rolls-Record fs)) ∙ nodes-roll (t.Record fs)

levels_Set : (x : Ty) → levels (ty.Set x) ≡ levels x + 1
levels_Set x = ap levels (sym (rolls-Set x)) ∙ levels-roll (t.Set x)

nodes_Set : (x : Ty) → nodes (ty.Set x) ≡ nodes x + 1
nodes_Set x = ap nodes (sym (rolls-Set x)) ∙ nodes-roll (t.Set x)

levels_Bool : levels ty.Bool ≡ 1
levels_Bool = ap levels (sym rolls-Bool) ∙ levels-roll t.Bool

nodes_Bool : nodes ty.Bool ≡ 1
nodes_Bool = ap nodes (sym rolls-Bool) ∙ nodes-roll t.Bool

levels_Long : levels ty.Long ≡ 1
levels_Long = ap levels (sym rolls-Long) ∙ levels-roll t.Long

nodes_Long : nodes ty.Long ≡ 1
nodes_Long = ap nodes (sym rolls-Long) ∙ nodes-roll t.Long

levels_String : levels ty.String ≡ 1
levels_String = ap levels (sym rolls-String) ∙ levels-roll t.String

nodes_String : nodes ty.String ≡ 1
nodes_String = ap nodes (sym rolls-String) ∙ nodes-roll t.String

levels_Ip : levels ty.Ip ≡ 1
levels_Ip = ap levels (sym rolls-Ip) ∙ levels-roll t.Ip

nodes_Ip : nodes ty.Ip ≡ 1
nodes_Ip = ap nodes (sym rolls-Ip) ∙ nodes-roll t.Ip

levels_Entity : (kind : EntityKind) → levels (ty.Entity kind) ≡ 1
levels_Entity kind = ap levels (sym (rolls-Entity kind)) ∙ levels-roll (t.Entity kind)

nodes_Entity : (kind : EntityKind) → nodes (ty.Entity kind) ≡ 1
nodes_Entity kind = ap nodes (sym (rolls-Entity kind)) ∙ nodes-roll (t.Entity kind)

context_levels : levels context ≡ 3
unfolding context_fields
context_levels = rw (levels_Record, levels_Ip, levels_Long, levels_String, levels_Set, levels_Long, levels_Set, levels_Bool) refl

context_nodes : nodes context ≡ 10
unfolding context_fields
context_nodes = rw (nodes_Record, nodes_Ip, nodes_Long, nodes_String, nodes_Set, nodes_Long, nodes_Set, nodes_Bool) refl

document_levels : levels document.shape ≡ 2
unfolding document
document_levels = rw (levels_Record, levels_Entity) refl

document_nodes : nodes document.shape ≡ 2
unfolding document
document_nodes = rw (nodes_Record, nodes_Entity) refl

user_levels : levels user.shape ≡ 2
unfolding user
user_levels = rw (levels_Record, levels_Long, levels_Entity, levels_String) refl

user_nodes : nodes user.shape ≡ 4
unfolding user
user_nodes = rw (nodes_Record, nodes_Long, nodes_Entity, nodes_String) refl

record_is : (fs : Fields) → is_record (ty.Record fs) ≡ true
record_is fs = ap (λ z. is_record_level (out-Ty z)) (sym (rolls-Record fs)) ∙ ap is_record_level (out-roll-Ty (t.Record fs))

context_record : is_record context ≡ true
context_record = record_is context_fields

document_record : is_record document.shape ≡ true
unfolding document
document_record = record_is _

user_record : is_record user.shape ≡ true
unfolding user
user_record = record_is _

context_small : is_too_large context ≡ false
context_small = rw (context_levels, context_nodes) refl

document_small : is_too_large document.shape ≡ false
document_small = rw (document_levels, document_nodes) refl

user_small : is_too_large user.shape ≡ false
user_small = rw (user_levels, user_nodes) refl

-- ---- the schema

pub no_types : IsOrder resolved_schema []
unfolding resolved_schema
no_types = record { all = tt; leads_back = λ i h. absurd (omega arith) }

meaning : IsMeaning kinds (body_of resolved_schema) nothing
unfolding resolved_schema body_among
meaning name body is = cc

no_type_fault : first_fault (fault_of kinds nothing) resolved_schema ≡ None
unfolding resolved_schema
no_type_fault = rw (context_is, context_record, context_small, document_is, document_record, document_small, user_is, user_record, user_small) refl

written_out : steps.expanded ≡ expanded_schema nothing resolved_schema
unfolding steps.expanded resolved_schema document_expanded group_expanded user_expanded viewing_expanded group
written_out = rw (context_is, document_is, user_is) refl

pub is_expansion : IsExpansion resolved_schema steps.expanded
is_expansion = record { order = []; ordered = no_types; m = nothing; means = meaning; no_fault = no_type_fault; schema = written_out }
