-- What is written resolves to just one schema or has just one fault, and not both.
use Rattle.std.proofs.Common.{◌≡◌, ◌⊎◌, ◌∙◌, refl, sym, inl, inr, Option, Some, None}
use Rattle.sc_schema_syntax.specs.declared.fault.SchemaFault.{SchemaFault}
use Rattle.sc_schema_syntax.specs.declared.written_schema.WrittenSchema.{WrittenSchema}
use Rattle.sc_schema.specs.declared.resolved_schema.ResolvedSchema.{ResolvedSchema}
use Rattle.sc_schema_names.specs.Resolution.{resolved}
use Rattle.sc_schema_names.specs.Unknown.{first_unknown}
use Rattle.sc_schema_names.specs.Resolves.{Resolves, HasUnknown, IsSettled}

one_schema : (w : WrittenSchema) (s t : ResolvedSchema) → Resolves w s → Resolves w t → s ≡ t
one_schema w s t a b = a.schema ∙ sym b.schema

one_fault : (w : WrittenSchema) (a b : SchemaFault) → HasUnknown w a → HasUnknown w b → a ≡ b
one_fault w a b h k =
    let both : Some a ≡ Some b = sym h.first ∙ k.first in
    cc

not_both : (w : WrittenSchema) (s : ResolvedSchema) (a : SchemaFault) → Resolves w s → ¬ HasUnknown w a
not_both w s a h k =
    let both : None ≡ Some a = sym h.no_fault ∙ k.first in
    cc

either : (w : WrittenSchema) → ((s : ResolvedSchema) × Resolves w s) ⊎ ((fault : SchemaFault) × HasUnknown w fault)
either w = at (first_unknown w) refl where
  at : (o : Option SchemaFault) → first_unknown w ≡ o → ((s : ResolvedSchema) × Resolves w s) ⊎ ((fault : SchemaFault) × HasUnknown w fault)
  at None first = inl (resolved w, record { no_fault = first; schema = refl })
  at (Some fault) first = inr (fault, record { first = first })

pub settled : (w : WrittenSchema) → IsSettled w
settled w = record { one_schema = one_schema w; one_fault = one_fault w; not_both = not_both w; either = either w }
