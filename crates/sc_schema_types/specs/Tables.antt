-- What is kept in tables by name while types are expanded. Clauses inside of the crate speak of it.
use Rattle.std.specs.Prelude.{◌+◌, min, max, ℕ, List, [], Bool, true, false, Option, Some, None, option_map, unwrap_or, ◌||◌, nat_lt, if◌then◌else◌}
use Rattle.std.specs.Option.{option_copied}
use Rattle.std.specs.Borrow.{Bor}
use Rattle.std.specs.BTreeMap.{is_at}
use Rattle.std.specs.List.{fold}
use Rattle.std.specs.Map.{lookup}
use Rattle.sc_names.specs.Uids.{text_cmp}
use Rattle.sc_schema.specs.declared.ty.Presence.{Presence}
use Rattle.sc_schema.specs.declared.ty.Ty.{Ty, Ty-F, fold-Ty}
use Rattle.sc_schema.specs.declared.ty.Ty.TheOpen as t
use Rattle.sc_schema.specs.declared.ty.Ty.TheVariants as ty
use Rattle.sc_schema.specs.declared.resolved_type.ResolvedType.{ResolvedType, ResolvedType-F, fold-ResolvedType}
use Rattle.sc_schema.specs.declared.resolved_type.ResolvedType.TheOpen as r
use Rattle.sc_schema_syntax.specs.declared.fault.SchemaFault.{SchemaFault}
use Rattle.sc_schema_syntax.specs.declared.fault.SchemaFault.TheVariants.{NotRecord, TypeTooLarge}
use Rattle.sc_schema_types.specs.declared.outline.Outline.{Outline}
use Rattle.sc_schema_types.specs.declared.wanted.Wanted.{Wanted}
use Rattle.sc_schema_types.specs.declared.wanted.Wanted.TheVariants.{AnyType, RecordType}
use Rattle.sc_schema_types.specs.References.{Names, Bodies}
use Rattle.sc_schema.specs.Sizes.{max_levels, max_nodes}
use Rattle.sc_schema_types.specs.Expansions.{Kinds, Meaning, expanded}
use Rattle.sc_schema_types.specs.Faults.{Judge}

-- the bodies in a table
abbrev pub body_in : List (List ℕ × Bor ResolvedType) → Bodies
body_in entries name = option_copied (lookup (is_at (text_cmp name)) entries)

-- what each name has, once one has this
abbrev pub changed : {X : Type 0} → (List ℕ → X) → List ℕ → X → List ℕ → X
changed f name x q = if is_at (text_cmp name) q then x else f q

-- what each name has, once the one that has a body has what is made of it
abbrev pub with_body : {X : Type 0} → Bodies → ((List ℕ → X) → ResolvedType → X) → (List ℕ → X) → List ℕ → List ℕ → X
with_body bodies made f name = unwrap_or (option_map (λ body. changed f name (made f body)) (bodies name)) f

-- ---- what common types stand for

-- what the names of a table stand for, and Bool for any other
abbrev pub type_in : List (List ℕ × Ty) → Meaning
type_in entries name = unwrap_or (lookup (is_at (text_cmp name)) entries) ty.Bool

-- what common types stand for that are taken in this order
abbrev pub meaning_by : Kinds → Bodies → Names → Meaning
meaning_by kinds bodies order = fold (with_body bodies (expanded kinds)) (λ _. ty.Bool) order

-- ---- outlines

-- that of a type with no types inside
abbrev pub leaf : Outline
leaf = record { is_record = false; levels = 1; nodes = 1 }

-- that of no fields
abbrev pub nothing : Outline
nothing = record { is_record = false; levels = 0; nodes = 0 }

-- that of a type with these inside
abbrev pub around : Bool → Outline → Outline
around is_record o = record {
  is_record = is_record;
  levels = min (o.levels + 1) (max_levels + 1);
  nodes = min (o.nodes + 1) (max_nodes + 1);
}

-- that of the one beside the other
abbrev pub beside : Outline → Outline → Outline
beside o p = record {
  is_record = false;
  levels = max o.levels p.levels;
  nodes = min (o.nodes + p.nodes) (max_nodes + 1);
}

abbrev pub together : List (List ℕ × Presence × Outline) → Outline
together fields = fold (λ o (f : List ℕ × Presence × Outline). beside o f.2) nothing fields

abbrev pub outline_step : Ty-F Outline → Outline
outline_step (t.Set member) = around false member
outline_step (t.Record fields) = around true (together fields)
outline_step _ = leaf

-- the outline of a type
unfoldable pub outline : Ty → Outline
outline = fold-Ty Outline outline_step

abbrev pub outlined_step : (List ℕ → Outline) → ResolvedType-F Outline → Outline
outlined_step table (r.Set element) = around false element
outlined_step table (r.Record attributes) = around true (together attributes)
outlined_step table (r.Common name) = table name
outlined_step table _ = leaf

-- the outline of what a type stands for, where common types have these
unfoldable pub outlined : (List ℕ → Outline) → ResolvedType → Outline
outlined table = fold-ResolvedType Outline (outlined_step table)

-- the outlines in a table
abbrev pub outline_in : List (List ℕ × Outline) → List ℕ → Outline
outline_in entries name = unwrap_or (lookup (is_at (text_cmp name)) entries) leaf

-- the outlines of common types that are taken in this order
abbrev pub outlines_by : Bodies → Names → List ℕ → Outline
outlines_by bodies order = fold (with_body bodies outlined) (λ _. leaf) order

-- the fault of a type with this outline that may be any
abbrev pub outline_size_fault : Outline → Option SchemaFault
outline_size_fault o = if nat_lt max_levels o.levels || nat_lt max_nodes o.nodes then Some (TypeTooLarge []) else None

-- the fault of a type with this outline where this is wanted
abbrev pub outline_fault : Wanted → Outline → Option SchemaFault
outline_fault AnyType o = outline_size_fault o
outline_fault RecordType o = if o.is_record then outline_size_fault o else Some (NotRecord [])

abbrev pub judged_by : (List ℕ → Outline) → Judge
judged_by table wanted type = outline_fault wanted (outlined table type)
