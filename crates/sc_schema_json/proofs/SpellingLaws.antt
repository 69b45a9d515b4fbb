-- Bytes spell just one schema or have just one fault, and not both.
use Rattle.std.proofs.Common.{◌≡◌, ◌≢◌, ℕ, List, length, refl, ap, subst, ◌∙◌, arith}
use Rattle.std.specs.Ordering.{ordering_reverse}
use Rattle.std.specs.declared.cmp.Ordering.{Ordering}
use Rattle.std.specs.declared.cmp.Ordering.TheVariants.{Less, Equal, Greater}
use Rattle.sc_names.specs.declared.uid.Uid.{Uid}
use Rattle.sc_names.specs.Uids.{uid_cmp}
use Rattle.sc_names.proofs.UidLaws.{uid_cmp_total, uid_cmp_level}
use Rattle.sc_schema.specs.Declarations.{Declarations, environments}
use Rattle.sc_schema_syntax.specs.declared.fault.SchemaFault.{SchemaFault}
use Rattle.sc_schema_syntax.specs.declared.fault.SchemaFault.TheVariants.{TypeCycle, ActionCycle}
use Rattle.sc_schema_syntax.specs.declared.written_schema.WrittenSchema.{WrittenSchema}
use Rattle.sc_schema_syntax.specs.Syntax as syntax
use Rattle.sc_schema_syntax.specs.WellWritten.{IsWritten}
use Rattle.sc_schema_names.specs.Resolves as names
use Rattle.sc_schema.specs.declared.resolved_schema.ResolvedSchema.{ResolvedSchema}
use Rattle.sc_schema.specs.declared.expanded.ExpandedSchema.{ExpandedSchema}
use Rattle.sc_schema.specs.Resolved.{IsResolved}
use Rattle.sc_schema_types.specs.Orders.{HasTypeCycle, cycle}
use Rattle.sc_schema_types.specs.Types as types
use Rattle.sc_schema_json.specs.Above.{Links, IsLeastCycle}
use Rattle.sc_schema_json.specs.Schemas.{IsSchemaOf}
use Rattle.sc_schema_json.specs.Spelling.{links_of, IsOrdered, IsAcyclic, Means, Describes, HasFaultOf, of_common_types, of_actions, of_types, of_environments, Declares, Spells, HasFault, of_form, of_names, of_schema, IsSettled}
use Rattle.sc_schema_json.proofs.EitherLaws.{AreTypesExpanded, schema_or_fault}

-- the least of those on cycles is one
one_least : (links : Links Uid) (a b : Uid) → IsLeastCycle uid_cmp links a → IsLeastCycle uid_cmp links b → a ≡ b
one_least links a b h k = level (uid_cmp a b) refl (k.least a h.cycle) (h.least b k.cycle) where
  level : (o : Ordering) → uid_cmp a b ≡ o → uid_cmp a b ≢ Less → uid_cmp b a ≢ Less → a ≡ b
  level Less is below above = absurd (below is)
  level Equal is below above = uid_cmp_level a b is
  level Greater is below above = absurd (above (uid_cmp_total.antisymm b a ∙ ap ordering_reverse is))

-- declarations make one schema
abbrev OneSchema : Type 0
OneSchema = (x : ExpandedSchema) (s t : Declarations) → IsSchemaOf x s → IsSchemaOf x t → s ≡ t

module _ (r : ResolvedSchema) (settled : types.IsSettled r) (one : OneSchema) where
  one_meaning : (s t : Declarations) → Means r s → Means r t → s ≡ t
  one_meaning s t a b =
      let expansions : a.expanded ≡ b.expanded = settled.one_expansion a.expanded b.expanded a.types b.types in
      one b.expanded s t (subst (λ (x : ExpandedSchema). IsSchemaOf x s) expansions a.schema) b.schema

  no_order_with : (fault : SchemaFault) → HasTypeCycle r fault → ¬ IsOrdered r
  no_order_with fault (cycle name h) ordered = settled.no_cycle ordered.order name ordered.ordered h.cycle

  not_acyclic_with : (u : Uid) → IsLeastCycle uid_cmp (links_of r) u → ¬ IsAcyclic r
  not_acyclic_with u h acyclic = acyclic.actions u h.cycle

  -- common types that reach themselves have one fault, and what comes after them none
  one_cycle : (a b : SchemaFault) → HasTypeCycle r a → HasTypeCycle r b → a ≡ b
  one_cycle _ _ (cycle m h) (cycle n k) = ap TypeCycle (settled.one_cycle m n h k)

  one_fault_of : (a b : SchemaFault) → HasFaultOf r a → HasFaultOf r b → a ≡ b
  one_fault_of _ _ (of_common_types a h) (of_common_types b k) = one_cycle a b h k
  one_fault_of _ _ (of_common_types a h) (of_actions u ordered k) = absurd (no_order_with a h ordered)
  one_fault_of _ _ (of_common_types a h) (of_types b acyclic k) = absurd (no_order_with a h acyclic.types)
  one_fault_of _ _ (of_common_types a h) (of_environments s means many) = absurd (no_order_with a h means.acyclic.types)
  one_fault_of _ _ (of_actions u ordered h) (of_common_types b k) = absurd (no_order_with b k ordered)
  one_fault_of _ _ (of_actions u ordered h) (of_actions v ordered_too k) = ap ActionCycle (one_least (links_of r) u v h k)
  one_fault_of _ _ (of_actions u ordered h) (of_types b acyclic k) = absurd (not_acyclic_with u h acyclic)
  one_fault_of _ _ (of_actions u ordered h) (of_environments s means many) = absurd (not_acyclic_with u h means.acyclic)
  one_fault_of _ _ (of_types a acyclic h) (of_common_types b k) = absurd (no_order_with b k acyclic.types)
  one_fault_of _ _ (of_types a acyclic h) (of_actions u ordered k) = absurd (not_acyclic_with u k acyclic)
  one_fault_of _ _ (of_types a acyclic h) (of_types b acyclic_too k) = settled.one_fault a b h k
  one_fault_of _ _ (of_types a acyclic h) (of_environments s means many) = absurd (settled.not_both means.expanded a means.types h)
  one_fault_of _ _ (of_environments s means many) (of_common_types b k) = absurd (no_order_with b k means.acyclic.types)
  one_fault_of _ _ (of_environments s means many) (of_actions u ordered k) = absurd (not_acyclic_with u k means.acyclic)
  one_fault_of _ _ (of_environments s means many) (of_types b acyclic k) = absurd (settled.not_both means.expanded b means.types k)
  one_fault_of _ _ (of_environments s means many) (of_environments t means_too many_too) = refl

  no_fault_of : (s : Declarations) (a : SchemaFault) → Describes r s → ¬ HasFaultOf r a
  no_fault_of s _ d (of_common_types a h) = no_order_with a h d.means.acyclic.types
  no_fault_of s _ d (of_actions u ordered h) = not_acyclic_with u h d.means.acyclic
  no_fault_of s _ d (of_types a acyclic h) = settled.not_both d.means.expanded a d.means.types h
  no_fault_of s _ d (of_environments t means many) =
      let one_length : length (environments s) ≡ length (environments t) = ap (λ (u : Declarations). length (environments u)) (one_meaning s t d.means means) in
      omega (arith, one_length, many, d.few)

-- ---- from the bytes on

-- what the calls below promise
abbrev SyntaxSettled : Type 0
SyntaxSettled = (bytes : List ℕ) → syntax.IsSettled bytes

abbrev IsWellWritten : Type 0
IsWellWritten = (bytes : List ℕ) (w : WrittenSchema) → syntax.Spells bytes w → IsWritten w

abbrev NamesSettled : Type 0
NamesSettled = (w : WrittenSchema) → names.IsSettled w

abbrev AreNamesResolved : Type 0
AreNamesResolved = (w : WrittenSchema) (r : ResolvedSchema) → IsWritten w → names.Resolves w r → IsResolved r

abbrev TypesSettled : Type 0
TypesSettled = (r : ResolvedSchema) → IsResolved r → types.IsSettled r

module _ (form : SyntaxSettled) (written : IsWellWritten) (resolution : NamesSettled) (resolves : AreNamesResolved) (typing : TypesSettled) (expands : AreTypesExpanded) (one : OneSchema) (bytes : List ℕ) where
  declares_resolved : (r : ResolvedSchema) → Declares bytes r → IsResolved r
  declares_resolved r h = resolves h.written r (written bytes h.written h.form) h.names

  declares_settled : (r : ResolvedSchema) → Declares bytes r → types.IsSettled r
  declares_settled r h = typing r (declares_resolved r h)

  one_written : (v w : WrittenSchema) → syntax.Spells bytes v → syntax.Spells bytes w → v ≡ w
  one_written = (form bytes).one_schema

  one_declared : (r t : ResolvedSchema) → Declares bytes r → Declares bytes t → r ≡ t
  one_declared r t a b =
      let same : a.written ≡ b.written = one_written a.written b.written a.form b.form in
      (resolution b.written).one_schema r t (subst (λ (w : WrittenSchema). names.Resolves w r) same a.names) b.names

  -- bytes of which a name is unknown declare nothing
  nothing_declared : (w : WrittenSchema) (fault : SchemaFault) (r : ResolvedSchema) → syntax.Spells bytes w → names.HasUnknown w fault → ¬ Declares bytes r
  nothing_declared w fault r form unknown h =
      let same : h.written ≡ w = one_written h.written w h.form form in
      (resolution w).not_both r fault (subst (λ (v : WrittenSchema). names.Resolves v r) same h.names) unknown

  one_unknown : (v w : WrittenSchema) (a b : SchemaFault) → syntax.Spells bytes v → syntax.Spells bytes w → names.HasUnknown v a → names.HasUnknown w b → a ≡ b
  one_unknown v w a b f g h k =
      let same : v ≡ w = one_written v w f g in
      (resolution w).one_fault a b (subst (λ (u : WrittenSchema). names.HasUnknown u a) same h) k

  one_of_declared : (r t : ResolvedSchema) (a b : SchemaFault) → Declares bytes r → Declares bytes t → HasFaultOf r a → HasFaultOf t b → a ≡ b
  one_of_declared r t a b d e h k =
      let same : r ≡ t = one_declared r t d e in
      one_fault_of t (declares_settled t e) one a b (subst (λ (u : ResolvedSchema). HasFaultOf u a) same h) k

  no_form_fault : (w : WrittenSchema) (a : SchemaFault) → syntax.Spells bytes w → ¬ syntax.HasFault bytes a
  no_form_fault w a = (form bytes).not_both w a

  one_fault : (a b : SchemaFault) → HasFault bytes a → HasFault bytes b → a ≡ b
  one_fault _ _ (of_form a h) (of_form b k) = (form bytes).one_fault a b h k
  one_fault _ _ (of_form a h) (of_names w b f k) = absurd (no_form_fault w a f h)
  one_fault _ _ (of_form a h) (of_schema r b d k) = absurd (no_form_fault d.written a d.form h)
  one_fault _ _ (of_names w a f h) (of_form b k) = absurd (no_form_fault w b f k)
  one_fault _ _ (of_names v a f h) (of_names w b g k) = one_unknown v w a b f g h k
  one_fault _ _ (of_names w a f h) (of_schema r b d k) = absurd (nothing_declared w a r f h d)
  one_fault _ _ (of_schema r a d h) (of_form b k) = absurd (no_form_fault d.written b d.form k)
  one_fault _ _ (of_schema r a d h) (of_names w b f k) = absurd (nothing_declared w b r f k d)
  one_fault _ _ (of_schema r a d h) (of_schema t b e k) = one_of_declared r t a b d e h k

  one_schema : (s t : Declarations) → Spells bytes s → Spells bytes t → s ≡ t
  one_schema s t a b =
      let same : a.resolved ≡ b.resolved = one_declared a.resolved b.resolved a.declares b.declares in
      let described : Describes b.resolved s = subst (λ (r : ResolvedSchema). Describes r s) same a.describes in
      one_meaning b.resolved (declares_settled b.resolved b.declares) one s t described.means b.describes.means

  not_both : (s : Declarations) (a : SchemaFault) → Spells bytes s → ¬ HasFault bytes a
  not_both s _ h (of_form a k) = no_form_fault h.declares.written a h.declares.form k
  not_both s _ h (of_names w a f k) = nothing_declared w a h.resolved f k h.declares
  not_both s _ h (of_schema r a d k) =
      let same : h.resolved ≡ r = one_declared h.resolved r h.declares d in
      no_fault_of r (declares_settled r d) one s a (subst (λ (u : ResolvedSchema). Describes u s) same h.describes) k

  pub settled : IsSettled bytes
  settled =
      record { one_schema = one_schema; one_fault = one_fault; not_both = not_both; either = schema_or_fault bytes (form bytes) resolution declares_resolved typing expands }
