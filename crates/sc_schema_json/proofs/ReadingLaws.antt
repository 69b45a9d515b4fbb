-- Bytes are refused for their form, for a name, or for what they declare.
use Rattle.std.proofs.Common.{ℕ, List}
use Rattle.sc_lists.specs.declared.fault.Fault.{Fault}
use Rattle.sc_lists.specs.declared.fault.Fault.TheVariants.{Told, NoMemory}
use Rattle.sc_schema_syntax.specs.declared.fault.SchemaFault.{SchemaFault}
use Rattle.sc_schema_syntax.specs.declared.written_schema.WrittenSchema.{WrittenSchema}
use Rattle.sc_schema_syntax.specs.Syntax as syntax
use Rattle.sc_schema_names.specs.Resolves as names
use Rattle.sc_schema.specs.declared.resolved_schema.ResolvedSchema.{ResolvedSchema}
use Rattle.sc_schema_json.specs.Spelling.{of_form, of_names, of_schema, Declares, Refuses, RefusesOf}

pub refuses_form : (bytes : List ℕ) (fault : Fault SchemaFault) → syntax.Refuses bytes fault → Refuses bytes fault
refuses_form bytes (Told fault) h = of_form fault h
refuses_form bytes NoMemory h = tt

pub refuses_names : (bytes : List ℕ) (w : WrittenSchema) (fault : Fault SchemaFault) → syntax.Spells bytes w → names.Refuses w fault → Refuses bytes fault
refuses_names bytes w (Told fault) form h = of_names w fault form h
refuses_names bytes w NoMemory form h = tt

pub refuses_schema : (bytes : List ℕ) (r : ResolvedSchema) (fault : Fault SchemaFault) → Declares bytes r → RefusesOf r fault → Refuses bytes fault
refuses_schema bytes r (Told fault) declares h = of_schema r fault declares h
refuses_schema bytes r NoMemory declares h = tt
