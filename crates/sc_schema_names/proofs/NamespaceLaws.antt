-- The first fault of a namespace: of its actions, then of its common types, then of its entity types.
use Rattle.std.proofs.Common.{◌≡◌, ◌∙◌, ℕ, List, Option, Some, None, Result, IfOk, codes, ap, subst}
use Rattle.std.specs.Option.{option_or}
use Rattle.sc_schema_syntax.specs.declared.fault.SchemaFault.{SchemaFault}
use Rattle.sc_schema_syntax.specs.declared.written_action.WrittenAction.{WrittenAction}
use Rattle.sc_schema_syntax.specs.declared.written_common_type.WrittenCommonType.{WrittenCommonType}
use Rattle.sc_schema_syntax.specs.declared.written_entity_type.WrittenEntityType.{WrittenEntityType}
use Rattle.sc_schema_syntax.specs.declared.written_namespace.WrittenNamespace.{WrittenNamespace}
use Rattle.sc_schema_names.specs.Names.{Known}
use Rattle.sc_schema_names.specs.Unknown.{inside, first_member, action_fault, common_type_fault, declared_entity_type_fault, namespace_fault}

module _ (known : Known) (n : WrittenNamespace) (name : List ℕ) where
  abbrev pub actions_fault : Option SchemaFault
  actions_fault = inside (codes "actions") (first_member (λ (a : WrittenAction). a.id) (action_fault known name) n.actions)

  abbrev pub common_types_fault : Option SchemaFault
  common_types_fault = inside (codes "commonTypes") (first_member (λ (c : WrittenCommonType). c.name) (common_type_fault known name) n.common_types)

  abbrev pub entity_types_fault : Option SchemaFault
  entity_types_fault = inside (codes "entityTypes") (first_member (λ (e : WrittenEntityType). e.name) (declared_entity_type_fault known name) n.entity_types)

  abbrev pub fault : Option SchemaFault
  fault = option_or actions_fault (option_or common_types_fault entity_types_fault)

pub action_told : (known : Known) (n : WrittenNamespace) (name : List ℕ) (x : SchemaFault) → name ≡ n.name → Some x ≡ actions_fault known n name → Some x ≡ namespace_fault known n
action_told known n name x is told =
    ap (λ (o : Option SchemaFault). option_or o (option_or (common_types_fault known n name) (entity_types_fault known n name))) told ∙ ap (fault known n) is

pub common_type_told : (known : Known) (n : WrittenNamespace) (name : List ℕ) (x : SchemaFault) → name ≡ n.name
    → None ≡ actions_fault known n name → Some x ≡ common_types_fault known n name → Some x ≡ namespace_fault known n
common_type_told known n name x is none told =
    ap (λ (o : Option SchemaFault). option_or o (entity_types_fault known n name)) told
    ∙ (ap (λ (o : Option SchemaFault). option_or o (option_or (common_types_fault known n name) (entity_types_fault known n name))) none ∙ ap (fault known n) is)

pub entity_type_told : {E : Type 0} (known : Known) (n : WrittenNamespace) (name : List ℕ) (r : Result (Option SchemaFault) E) → name ≡ n.name
    → None ≡ actions_fault known n name → None ≡ common_types_fault known n name → IfOk r (λ x. x ≡ entity_types_fault known n name) → IfOk r (λ x. x ≡ namespace_fault known n)
entity_type_told known n name r is none never told =
    subst (λ (o : Option SchemaFault). IfOk r (λ x. x ≡ o))
    (ap (λ (o : Option SchemaFault). option_or o (entity_types_fault known n name)) never
    ∙ (ap (λ (o : Option SchemaFault). option_or o (option_or (common_types_fault known n name) (entity_types_fault known n name))) none ∙ ap (fault known n) is))
    told
