-- What a schema file says, its names looked up, or the first of them that nothing has.
use Rattle.std.specs.Prelude.{◌≡◌, ◌⊎◌, Some, None, ⊤}
use Rattle.sc_lists.specs.declared.fault.Fault.{Fault}
use Rattle.sc_lists.specs.declared.fault.Fault.TheVariants.{Told, NoMemory}
use Rattle.sc_schema_syntax.specs.declared.fault.SchemaFault.{SchemaFault}
use Rattle.sc_schema_syntax.specs.declared.fault.SchemaFault.TheVariants.{UnknownType, UnknownAction}
use Rattle.sc_schema_syntax.specs.declared.written_schema.WrittenSchema.{WrittenSchema}
use Rattle.sc_schema.specs.declared.resolved_schema.ResolvedSchema.{ResolvedSchema}
use Rattle.sc_schema_names.specs.Resolution.{resolved}
use Rattle.sc_schema_names.specs.Unknown.{first_unknown}

-- each name in the file is known, and with the names looked up it says this schema
pub record Resolves (w : WrittenSchema) (s : ResolvedSchema) : Type 0 where
  pub no_fault : first_unknown w ≡ None
  pub schema : s ≡ resolved w

-- a name in the file is unknown, the first of them with this fault
pub record HasUnknown (w : WrittenSchema) (fault : SchemaFault) : Type 0 where
  pub first : first_unknown w ≡ Some fault

-- what it says of a written schema that it was refused with this fault
abbrev pub Refuses : WrittenSchema → Fault SchemaFault → Type 0
Refuses w (Told fault) = HasUnknown w fault
Refuses w NoMemory = ⊤

-- what is written resolves to just one schema or has just one fault, and not both
pub record IsSettled (w : WrittenSchema) : Type 0 where
  pub one_schema : (s t : ResolvedSchema) → Resolves w s → Resolves w t → s ≡ t
  pub one_fault : (a b : SchemaFault) → HasUnknown w a → HasUnknown w b → a ≡ b
  pub not_both : (s : ResolvedSchema) (a : SchemaFault) → Resolves w s → ¬ HasUnknown w a
  pub either : ((s : ResolvedSchema) × Resolves w s) ⊎ ((fault : SchemaFault) × HasUnknown w fault)

-- the fault is that a type's name is unknown, or an action's
abbrev pub IsOfName : SchemaFault → Type 0
IsOfName (UnknownType path) = ⊤
IsOfName (UnknownAction path) = ⊤
IsOfName _ = ⊥
