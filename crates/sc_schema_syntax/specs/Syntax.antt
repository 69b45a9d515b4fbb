-- Which bytes spell which schema, and which fault they have.
use Rattle.std.specs.Prelude.{◌≡◌, ◌⊎◌, ℕ, List, ⊤}
use Rattle.sc_json.specs.Trees.{Says, Fails}
use Rattle.sc_lists.specs.declared.fault.Fault.{Fault}
use Rattle.sc_lists.specs.declared.fault.Fault.TheVariants.{Told, NoMemory}
use Rattle.sc_schema_syntax.specs.declared.fault.SchemaFault.{SchemaFault}
use Rattle.sc_schema_syntax.specs.declared.fault.SchemaFault.TheVariants.{NotJson}
use Rattle.sc_schema_syntax.specs.declared.written_schema.WrittenSchema.{WrittenSchema}
use Rattle.sc_schema_syntax.specs.Faults.{first_fault}
use Rattle.sc_schema_syntax.specs.Written.{schema_of}

-- the bytes spell a schema: its tree has no fault, and says it
abbrev pub Spells : List ℕ → WrittenSchema → Type 0
Spells = Says first_fault schema_of

-- the bytes have a fault: they are the text of no tree, or their tree has it first
abbrev pub HasFault : List ℕ → SchemaFault → Type 0
HasFault = Fails NotJson first_fault

-- what it says of bytes that they were refused with this fault
abbrev pub Refuses : List ℕ → Fault SchemaFault → Type 0
Refuses bytes (Told fault) = HasFault bytes fault
Refuses bytes NoMemory = ⊤

-- bytes spell just one schema or have just one fault, and not both
pub record IsSettled (bytes : List ℕ) : Type 0 where
  pub one_schema : (v w : WrittenSchema) → Spells bytes v → Spells bytes w → v ≡ w
  pub one_fault : (a b : SchemaFault) → HasFault bytes a → HasFault bytes b → a ≡ b
  pub not_both : (w : WrittenSchema) (a : SchemaFault) → Spells bytes w → ¬ HasFault bytes a
  pub either : ((w : WrittenSchema) × Spells bytes w) ⊎ ((fault : SchemaFault) × HasFault bytes fault)
