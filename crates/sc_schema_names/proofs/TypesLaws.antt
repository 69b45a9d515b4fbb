-- A well-written type in which each name is known resolves to a type that names what is declared.
use Rattle.std.proofs.Common.{◌≡◌, ◌∙◌, ℕ, ◌+◌, List, [], ◌∷◌, map, Bool, true, false, Option, Some, None, IfSome, codes, refl, sym, ap, subst}
use Rattle.std.specs.Prelude.{Contains, unwrap_or, option_map, if◌then◌else◌}
use Rattle.std.specs.Option.{option_or}
use Rattle.std.specs.Fmt.{decimal}
use Rattle.std.specs.List.{AllByRecursion}
use Rattle.std.specs.List.Sorted.{IsStrictlySortedBy}
use Rattle.std.specs.Str.{IsUtf8}
use Rattle.std.proofs.lemmas.Bool.{cond_both}
use Rattle.sc_names.specs.declared.uid.Uid.{Uid}
use Rattle.sc_names.specs.Uids.{text_cmp}
use Rattle.sc_schema.specs.declared.ty.Presence.{Presence}
use Rattle.sc_schema_syntax.specs.declared.attribute.WrittenPresence.{WrittenPresence}
use Rattle.sc_schema_syntax.specs.declared.extension.ExtensionKind.{ExtensionKind}
use Rattle.sc_schema_syntax.specs.declared.extension.ExtensionKind.TheVariants as extension
use Rattle.sc_schema_syntax.specs.declared.fault.SchemaFault.{SchemaFault}
use Rattle.sc_schema_syntax.specs.declared.written_type.WrittenType.{WrittenType, WrittenType-F, roll-WrittenType, map-WrittenType, ind-WrittenType, fold-roll-WrittenType}
use Rattle.sc_schema_syntax.specs.declared.written_type.WrittenType.TheOpen as t
use Rattle.sc_schema_syntax.specs.declared.written_action.WrittenParent.{WrittenParent}
use Rattle.sc_schema_syntax.specs.declared.written_schema.WrittenSchema.{WrittenSchema}
use Rattle.sc_schema_syntax.specs.WellWritten.{attribute_names, IsWrittenLevel, IsWrittenType}
use Rattle.sc_schema_syntax.proofs.FaultsLaws.{no_fault_either, no_fault_under}
use Rattle.sc_schema_syntax.proofs.EveryWrittenLaws.{every_level, every_element, every_attributes}
use Rattle.sc_schema.specs.declared.resolved_type.ResolvedType.{ResolvedType}
use Rattle.sc_schema.specs.declared.resolved_type.ResolvedType.TheVariants as type
use Rattle.sc_schema.specs.declared.resolved_schema.ResolvedSchema.{ResolvedSchema}
use Rattle.sc_schema.specs.Resolved.{common_names, entity_names, action_uids, field_names, AreDeclared, IsResolvedLevel, IsResolvedType}
use Rattle.sc_schema_names.specs.Names.{Known, known_in, entity_types, common_types, actions, candidates, entity_type_named, common_type_named, action_named}
use Rattle.sc_schema_names.specs.Resolution.{is_either, builtin, declared_type, type_named, entity_type_of, common_type_of, any_type_of, extension_type, presence_of, resolved_step, resolved_type, resolved_parent}
use Rattle.sc_schema_names.specs.Unknown.{inside, first_member, first_item, no_type, no_action, entity_type_fault, parent_fault, type_fault_step, type_fault, any_type_fault}
use Rattle.sc_schema_names.proofs.EveryResolvedLaws.{every_Boolean, every_Long, every_String, every_Decimal, every_Ip, every_Entity, every_Common, every_Set, every_Record}
use Rattle.sc_schema_names.proofs.LookupLaws.{name_contained, uid_contained, found_passes}

-- ---- what is found

-- what is found where nothing is unknown, whatever would stand there else
known_type : {X : Type 0} (P : X → Type 0) (o : Option X) (d : X) → IfSome o P → no_type o ≡ None → P (unwrap_or o d)
known_type P None d h e = absurd cc
known_type P (Some x) d h e = h

known_action : (P : Uid → Type 0) (o : Option Uid) (d : Uid) → IfSome o P → no_action o ≡ None → P (unwrap_or o d)
known_action P None d h e = absurd cc
known_action P (Some x) d h e = h

weaker : {X : Type 0} (P Q : X → Type 0) → ((x : X) → P x → Q x) → (o : Option X) → IfSome o P → IfSome o Q
weaker P Q f None h = tt
weaker P Q f (Some x) h = f x h

-- the same names are declared in what is written and in what it resolves to
pub record SameNames (w : WrittenSchema) (s : ResolvedSchema) : Type 0 where
  pub commons : common_names s ≡ common_types w
  pub entities : entity_names s ≡ entity_types w
  pub uids : action_uids s ≡ actions w

module _ (w : WrittenSchema) (s : ResolvedSchema) (same : SameNames w s) (namespace : List ℕ) where
  abbrev known : Known
  known = known_in w

  -- ---- names

  is_entity : (name : List ℕ) → (known_in w).is_entity_type name ≡ true → Contains (entity_names s) name
  unfolding known_in
  is_entity name e = subst (λ (names : List (List ℕ)). Contains names name) (sym same.entities) (name_contained name (entity_types w) e)

  is_common : (name : List ℕ) → (known_in w).is_common_type name ≡ true → Contains (common_names s) name
  unfolding known_in
  is_common name e = subst (λ (names : List (List ℕ)). Contains names name) (sym same.commons) (name_contained name (common_types w) e)

  is_action : (uid : Uid) → (known_in w).is_action uid ≡ true → Contains (action_uids s) uid
  unfolding known_in
  is_action uid e = subst (λ (uids : List Uid). Contains uids uid) (sym same.uids) (uid_contained uid (actions w) e)

  entity_declared : (text : List ℕ) → entity_type_fault known namespace text ≡ None → Contains (entity_names s) (entity_type_of known namespace text)
  entity_declared text e =
      let found = entity_type_named known namespace text in
      known_type (Contains (entity_names s)) found text (weaker (λ x. known.is_entity_type x ≡ true) (Contains (entity_names s)) is_entity found (found_passes known.is_entity_type (candidates namespace text))) e

  common_declared : (text : List ℕ) → no_type (common_type_named known namespace text) ≡ None → Contains (common_names s) (common_type_of known namespace text)
  common_declared text e =
      let found = common_type_named known namespace text in
      known_type (Contains (common_names s)) found text (weaker (λ x. known.is_common_type x ≡ true) (Contains (common_names s)) is_common found (found_passes known.is_common_type (candidates namespace text))) e

  parent_declared : (p : WrittenParent) → parent_fault known namespace p ≡ None → Contains (action_uids s) (resolved_parent known namespace p)
  parent_declared p e =
      let found = action_named known namespace p in
      known_action (Contains (action_uids s)) found _ (weaker (λ x. known.is_action x ≡ true) (Contains (action_uids s)) is_action found (found_passes known.is_action _)) e

  -- ---- any type

  abbrev Fine : ResolvedType → Type 0
  Fine = IsResolvedType s

  fine_entity : (name : List ℕ) → Contains (entity_names s) name → Fine (type.Entity name)
  fine_entity name h = every_Entity (IsResolvedLevel s) name h

  fine_common : (name : List ℕ) → Contains (common_names s) name → Fine (type.Common name)
  fine_common name h = every_Common (IsResolvedLevel s) name h

  fine_declared : (names : List (List ℕ)) → IfSome (declared_type known names) Fine
  fine_declared [] = tt
  fine_declared (name ∷ names) =
      cond_both (known.is_common_type name) (Some (type.Common name)) _ (λ o. IfSome o Fine) (λ e. fine_common name (is_common name e))
      (λ _. cond_both (known.is_entity_type name) (Some (type.Entity name)) _ (λ o. IfSome o Fine) (λ e. fine_entity name (is_entity name e)) (λ _. fine_declared names))

  one_of : (b : Bool) (x : ResolvedType) (later : Option ResolvedType) → Fine x → IfSome later Fine → IfSome (if b then Some x else later) Fine
  one_of true x later p q = p
  one_of false x later p q = q

  fine_builtin : (text : List ℕ) → IfSome (builtin text) Fine
  fine_builtin text =
      one_of (is_either text (codes "Bool") (codes "__cedar::Bool")) type.Boolean _ (every_Boolean (IsResolvedLevel s) tt)
      (one_of (is_either text (codes "Boolean") (codes "__cedar::Boolean")) type.Boolean _ (every_Boolean (IsResolvedLevel s) tt)
      (one_of (is_either text (codes "Long") (codes "__cedar::Long")) type.Long _ (every_Long (IsResolvedLevel s) tt)
      (one_of (is_either text (codes "String") (codes "__cedar::String")) type.String _ (every_String (IsResolvedLevel s) tt)
      (one_of (is_either text (codes "ipaddr") (codes "__cedar::ipaddr")) type.Ip _ (every_Ip (IsResolvedLevel s) tt)
      (one_of (is_either text (codes "decimal") (codes "__cedar::decimal")) type.Decimal None (every_Decimal (IsResolvedLevel s) tt) tt)))))

  fine_either : (a b : Option ResolvedType) → IfSome a Fine → IfSome b Fine → IfSome (option_or a b) Fine
  fine_either None b p q = q
  fine_either (Some x) b p q = p

  any_fine : (text : List ℕ) → no_type (type_named known namespace text) ≡ None → Fine (any_type_of known namespace text)
  any_fine text e =
      known_type Fine (type_named known namespace text) (type.Entity text)
      (fine_either (declared_type known (candidates namespace text)) (builtin text) (fine_declared (candidates namespace text)) (fine_builtin text)) e

  -- ---- types

  abbrev Goal : WrittenType → Type 0
  Goal x = IsWrittenType x → type_fault known namespace x ≡ None → Fine (resolved_type known namespace x)

  abbrev Shown : Type 0
  Shown = (x : WrittenType) × Goal x

  abbrev forget : WrittenType-F Shown → WrittenType-F WrittenType
  forget = map-WrittenType Shown WrittenType (λ e. e.0)

  abbrev faulty : WrittenType-F WrittenType → WrittenType-F (Option SchemaFault)
  faulty = map-WrittenType WrittenType (Option SchemaFault) (type_fault known namespace)

  abbrev looked_up : WrittenType-F WrittenType → WrittenType-F ResolvedType
  looked_up = map-WrittenType WrittenType ResolvedType (resolved_type known namespace)

  abbrev plain : List (List ℕ × WrittenPresence × Shown) → List (List ℕ × WrittenPresence × WrittenType)
  plain = map (λ (a : List ℕ × WrittenPresence × Shown). (a.0, a.1, a.2.0))

  abbrev faults : List (List ℕ × WrittenPresence × WrittenType) → List (List ℕ × WrittenPresence × Option SchemaFault)
  faults = map (λ (a : List ℕ × WrittenPresence × WrittenType). (a.0, a.1, type_fault known namespace a.2))

  abbrev fields : List (List ℕ × WrittenPresence × WrittenType) → List (List ℕ × Presence × ResolvedType)
  fields all = map (λ (a : List ℕ × WrittenPresence × ResolvedType). (a.0, presence_of a.1, a.2)) (map (λ (a : List ℕ × WrittenPresence × WrittenType). (a.0, a.1, resolved_type known namespace a.2)) all)

  field_names-fields : (all : List (List ℕ × WrittenPresence × WrittenType)) → field_names (fields all) ≡ attribute_names all
  field_names-fields [] = refl
  field_names-fields (a ∷ all) = ap (λ (names : List (List ℕ)). a.0 ∷ names) (field_names-fields all)

  fine_fields : (all : List (List ℕ × WrittenPresence × Shown)) → AllByRecursion (λ (a : List ℕ × WrittenPresence × WrittenType). IsWrittenType a.2) (plain all)
      → first_member (λ (a : List ℕ × WrittenPresence × Option SchemaFault). a.0) (λ a. a.2) (faults (plain all)) ≡ None
      → AllByRecursion (λ (f : List ℕ × Presence × ResolvedType). Fine f.2) (fields (plain all))
  fine_fields [] h e = tt
  fine_fields (a ∷ all) h e =
      let parts = no_fault_either (inside a.0 (type_fault known namespace a.2.0)) (first_member (λ (b : List ℕ × WrittenPresence × Option SchemaFault). b.0) (λ b. b.2) (faults (plain all))) e in
      (a.2.1 h.0 (no_fault_under a.0 (type_fault known namespace a.2.0) parts.0), fine_fields all h.1 parts.1)

  fine_record : (all : List (List ℕ × WrittenPresence × Shown)) → IsWrittenType (roll-WrittenType (t.Record (plain all)))
      → first_member (λ (a : List ℕ × WrittenPresence × Option SchemaFault). a.0) (λ a. a.2) (faults (plain all)) ≡ None → Fine (type.Record (fields (plain all)))
  fine_record all h e =
      let names = every_level IsWrittenLevel (t.Record (plain all)) h in
      let is = sym (field_names-fields (plain all)) in
      every_Record (IsResolvedLevel s) (fields (plain all)) (subst (IsStrictlySortedBy text_cmp) is names.ascending, subst (AllByRecursion IsUtf8) is names.texts)
      (fine_fields all (every_attributes IsWrittenLevel (plain all) h) e)

  fine_extension : (kind : ExtensionKind) → Fine (extension_type kind)
  fine_extension extension.Ipaddr = every_Ip (IsResolvedLevel s) tt
  fine_extension extension.Decimal = every_Decimal (IsResolvedLevel s) tt

  fine_step : (y : WrittenType-F Shown) → IsWrittenType (roll-WrittenType (forget y)) → type_fault_step known namespace (faulty (forget y)) ≡ None
      → Fine (resolved_step known namespace (looked_up (forget y)))
  fine_step t.Boolean h e = every_Boolean (IsResolvedLevel s) tt
  fine_step t.Long h e = every_Long (IsResolvedLevel s) tt
  fine_step t.String h e = every_String (IsResolvedLevel s) tt
  fine_step (t.Set x) h e =
      every_Set (IsResolvedLevel s) (resolved_type known namespace x.0) tt (x.1 (every_element IsWrittenLevel x.0 h) (no_fault_under (codes "element") (type_fault known namespace x.0) e))
  fine_step (t.Record all) h e = fine_record all h (no_fault_under (codes "attributes") _ e)
  fine_step (t.Entity name) h e = fine_entity (entity_type_of known namespace name) (entity_declared name (no_fault_under (codes "name") (entity_type_fault known namespace name) e))
  fine_step (t.Extension kind) h e = fine_extension kind
  fine_step (t.EntityOrCommon name) h e = any_fine name (no_fault_under (codes "name") (no_type (type_named known namespace name)) e)
  fine_step (t.Common name) h e = fine_common (common_type_of known namespace name) (common_declared name (no_fault_under (codes "type") (no_type (common_type_named known namespace name)) e))

  pub fine_type : (x : WrittenType) → Goal x
  unfolding type_fault resolved_type
  fine_type =
      ind-WrittenType Goal (λ x y e. subst (λ z. Goal (roll-WrittenType z)) e
      (λ h none.
      subst Fine (sym (fold-roll-WrittenType ResolvedType (resolved_step known namespace) (forget y)))
      (fine_step y h (sym (fold-roll-WrittenType (Option SchemaFault) (type_fault_step known namespace) (forget y)) ∙ none))))

  pub fine_any_type : (o : Option WrittenType) → IfSome o IsWrittenType → any_type_fault known namespace o ≡ None → IfSome (option_map (resolved_type known namespace) o) Fine
  fine_any_type None h e = tt
  fine_any_type (Some x) h e = fine_type x h e

  -- ---- lists of names

  pub entities_declared : (n : ℕ) (texts : List (List ℕ)) → first_item (entity_type_fault known namespace) n texts ≡ None → AreDeclared (entity_names s) (map (entity_type_of known namespace) texts)
  entities_declared n [] e = tt
  entities_declared n (text ∷ texts) e =
      let parts = no_fault_either (inside (decimal n) (entity_type_fault known namespace text)) (first_item (entity_type_fault known namespace) (n + 1) texts) e in
      (entity_declared text (no_fault_under (decimal n) (entity_type_fault known namespace text) parts.0), entities_declared (n + 1) texts parts.1)

  pub parents_declared : (n : ℕ) (ps : List WrittenParent) → first_item (parent_fault known namespace) n ps ≡ None → AllByRecursion (Contains (action_uids s)) (map (resolved_parent known namespace) ps)
  parents_declared n [] e = tt
  parents_declared n (p ∷ ps) e =
      let parts = no_fault_either (inside (decimal n) (parent_fault known namespace p)) (first_item (parent_fault known namespace) (n + 1) ps) e in
      (parent_declared p (no_fault_under (decimal n) (parent_fault known namespace p) parts.0), parents_declared (n + 1) ps parts.1)
