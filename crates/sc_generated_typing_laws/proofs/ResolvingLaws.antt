-- The schema as it is written, and with its names looked up.
use Rattle.std.proofs.Common.{◌≡◌, ℕ, List, [], codes, Option, None, refl, sym, ap, ◌∙◌}
use Rattle.sc_schema.specs.declared.resolved_type.ResolvedType.{ResolvedType}
use Rattle.sc_schema.specs.declared.resolved_type.ResolvedType.TheVariants as type
use Rattle.sc_schema_names.specs.Names.{Known, known_in}
use Rattle.sc_schema_names.specs.Resolution.{entity_type_of, extension_type, resolved_step, resolved_type, resolved}
use Rattle.sc_schema_names.specs.Resolves.{Resolves}
use Rattle.sc_schema_names.specs.Unknown.{inside, entity_type_fault, type_fault_step, type_fault, first_unknown}
use Rattle.sc_schema_names.proofs.RecordsLaws.{resolved_record, record_fault_is}
use Rattle.sc_schema_syntax.specs.Written.{schema_of, type_of}
use Rattle.sc_schema_syntax.specs.declared.extension.ExtensionKind.{ExtensionKind}
use Rattle.sc_schema_syntax.specs.declared.fault.SchemaFault.{SchemaFault}
use Rattle.sc_schema_syntax.specs.declared.written_type.WrittenType.{WrittenType, WrittenType-F, roll-WrittenType, map-WrittenType, fold-roll-WrittenType}
use Rattle.sc_schema_syntax.specs.declared.written_type.WrittenType.TheVariants as written
use Rattle.sc_schema_syntax.specs.declared.written_type.WrittenType.TheVariants.{rolls-Boolean, rolls-Long, rolls-String, rolls-Set, rolls-Entity, rolls-Extension}
use Rattle.sc_schema_syntax.specs.declared.written_type.WrittenType.TheOpen as t
use Rattle.sc_generated_typing_laws.specs.Schema.{tree}
use Rattle.sc_generated_typing_laws.specs.Steps.{context_written, document_written, user_written, written_schema, context_resolved, document_resolved, user_resolved, resolved_schema}

-- ---- types, construct by construct

rolled : (k : Known) (n : List ℕ) (x : WrittenType) (y : WrittenType-F WrittenType) → roll-WrittenType y ≡ x → resolved_type k n x ≡ resolved_step k n (map-WrittenType WrittenType ResolvedType (resolved_type k n) y)
unfolding resolved_type
rolled k n x y at = ap (resolved_type k n) (sym at) ∙ fold-roll-WrittenType ResolvedType (resolved_step k n) y

is_Boolean : (k : Known) (n : List ℕ) → resolved_type k n written.Boolean ≡ type.Boolean
is_Boolean k n = rolled k n written.Boolean t.Boolean rolls-Boolean

is_Long : (k : Known) (n : List ℕ) → resolved_type k n written.Long ≡ type.Long
is_Long k n = rolled k n written.Long t.Long rolls-Long

is_String : (k : Known) (n : List ℕ) → resolved_type k n written.String ≡ type.String
is_String k n = rolled k n written.String t.String rolls-String

is_Set : (k : Known) (n : List ℕ) (x : WrittenType) → resolved_type k n (written.Set x) ≡ type.Set (resolved_type k n x)
is_Set k n x = rolled k n (written.Set x) (t.Set x) (rolls-Set x)

is_Entity : (k : Known) (n name : List ℕ) → resolved_type k n (written.Entity name) ≡ type.Entity (entity_type_of k n name)
is_Entity k n name = rolled k n (written.Entity name) (t.Entity name) (rolls-Entity name)

is_Extension : (k : Known) (n : List ℕ) (x : ExtensionKind) → resolved_type k n (written.Extension x) ≡ extension_type x
is_Extension k n x = rolled k n (written.Extension x) (t.Extension x) (rolls-Extension x)

faulty : (k : Known) (n : List ℕ) (x : WrittenType) (y : WrittenType-F WrittenType) → roll-WrittenType y ≡ x → type_fault k n x ≡ type_fault_step k n (map-WrittenType WrittenType (Option SchemaFault) (type_fault k n) y)
unfolding type_fault
faulty k n x y at = ap (type_fault k n) (sym at) ∙ fold-roll-WrittenType (Option SchemaFault) (type_fault_step k n) y

no_Boolean : (k : Known) (n : List ℕ) → type_fault k n written.Boolean ≡ None
no_Boolean k n = faulty k n written.Boolean t.Boolean rolls-Boolean

no_Long : (k : Known) (n : List ℕ) → type_fault k n written.Long ≡ None
no_Long k n = faulty k n written.Long t.Long rolls-Long

no_String : (k : Known) (n : List ℕ) → type_fault k n written.String ≡ None
no_String k n = faulty k n written.String t.String rolls-String

in_Set : (k : Known) (n : List ℕ) (x : WrittenType) → type_fault k n (written.Set x) ≡ inside (codes "element") (type_fault k n x)
in_Set k n x = faulty k n (written.Set x) (t.Set x) (rolls-Set x)

in_Entity : (k : Known) (n name : List ℕ) → type_fault k n (written.Entity name) ≡ inside (codes "name") (entity_type_fault k n name)
in_Entity k n name = faulty k n (written.Entity name) (t.Entity name) (rolls-Entity name)

no_Extension : (k : Known) (n : List ℕ) (x : ExtensionKind) → type_fault k n (written.Extension x) ≡ None
no_Extension k n x = faulty k n (written.Extension x) (t.Extension x) (rolls-Extension x)

-- ---- the types of the schema

abbrev known : Known
known = known_in written_schema

user_known : entity_type_of known [] (codes "User") ≡ codes "User"
unfolding known_in written_schema
user_known = refl

user_declared : entity_type_fault known [] (codes "User") ≡ None
unfolding known_in written_schema
user_declared = refl

context_is : resolved_type known [] context_written ≡ context_resolved
context_is = rw (resolved_record, is_Extension, is_Long, is_String, is_Set, is_Set, is_Long, is_Boolean) refl

document_is : resolved_type known [] document_written ≡ document_resolved
document_is = rw (resolved_record, is_Entity, user_known) refl

user_is : resolved_type known [] user_written ≡ user_resolved
user_is = rw (resolved_record, is_Long, is_Entity, user_known, is_String) refl

context_known : type_fault known [] context_written ≡ None
context_known = rw (record_fault_is, no_Extension, no_Long, no_String, in_Set, no_Long, in_Set, no_Boolean) refl

document_known : type_fault known [] document_written ≡ None
document_known = rw (record_fault_is, in_Entity, user_declared) refl

user_written_known : type_fault known [] user_written ≡ None
user_written_known = rw (record_fault_is, no_Long, in_Entity, user_declared, no_String) refl

-- ---- the schema

schema_is : schema_of tree ≡ written_schema
unfolding tree type_of written_schema
schema_is = refl

all_known : first_unknown written_schema ≡ None
unfolding written_schema known_in
all_known = rw (context_known, document_known, user_written_known) refl

all_is : resolved written_schema ≡ resolved_schema
unfolding written_schema resolved_schema known_in
all_is = rw (context_is, document_is, user_is) refl

pub names_known : Resolves (schema_of tree) resolved_schema
names_known = record { no_fault = ap first_unknown schema_is ∙ all_known; schema = sym (ap resolved schema_is ∙ all_is) }
