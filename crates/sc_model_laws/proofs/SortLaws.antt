-- The sort of a term is one of the schema's values.
use Rattle.std.proofs.Common.{◌≡◌, ℕ, inl, inr, List, [], Some, Contains, map, refl, sym, ap, subst}
use Rattle.std.specs.List.{AllByRecursion}
use Rattle.std.specs.Map.{lookup}
use Rattle.std.specs.Str.{bytes_eq}
use Rattle.std.proofs.lemmas.Map.Views.{Contains-from_lookup}
use Rattle.sc_lists.proofs.ListLaws.{all_element, contains_from_map, joined_from}
use Rattle.sc_lists.proofs.TextLaws.{bytes_eq_true}
use Rattle.sc_names.specs.declared.uid.Uid.{Uid}
use Rattle.sc_schema.specs.declared.declarations.Env.{Env}
use Rattle.sc_schema.specs.Declarations.{Declarations, environment, environments, environments_for}
use Rattle.sc_schema.specs.Lawful.{IsLawful, IsEntityType}
use Rattle.sc_world.specs.Named.{IsDeclared as IsDeclaredUid}
use Rattle.sc_sorts.specs.declared.sort.Sort.{Sort}
use Rattle.sc_sorts.specs.declared.sort.Sort.TheVariants as sort
use Rattle.sc_sorts.specs.declared.sort.Sort.TheOpen as s
use Rattle.sc_sorts.specs.Entities.{choices_of, entity_sort}
use Rattle.sc_sorts.specs.Inside.{SortField, SortFields}
use Rattle.sc_sorts.proofs.EveryLaws.{in_Bool, in_Long, in_String, in_Decimal, in_Ip, in_Entity, in_Set, in_Record, in_Option}
use Rattle.sc_sorts.proofs.OutLaws.{out_String, out_Entity}
use Rattle.sc_terms.specs.Trees.{Tree, Trees}
use Rattle.sc_term_laws.specs.Judging.{IsTermOf, HaveFields}
use Rattle.sc_term_laws.specs.Judging as judged
use Rattle.sc_term_laws.specs.LawfulSorts.{IsDeclared, IsSortLevel, IsSortOf}
use Rattle.sc_term_laws.proofs.ChoicesLaws.{declared_is}
use Rattle.sc_term_laws.proofs.FitVals.{no_option_at}
use Rattle.sc_term_laws.proofs.SortsLawful.{lawful_action, above_declared, attrs_lawful, tags_lawful, context_lawful, type_lawful, listed_declared}

-- ---- a field is found by its name, where names ascend

module _ (d : Declarations) (env : Env) (written : List Uid) (lawful : IsLawful d) (among : Contains (environments d) env) (declared : AllByRecursion (IsDeclaredUid d) written) where
  abbrev Is : Sort → Tree → Type 0
  Is = IsTermOf d env written

  abbrev Lawful : Sort → Type 0
  Lawful = IsSortOf d

  entity_lawful : (name : List ℕ) → IsDeclared d name → Lawful (entity_sort d name)
  entity_lawful name h = (in_Entity (IsSortLevel d) name (choices_of d name)).1 (h, refl)

  written_declared : (u : Uid) → Contains written u → IsDeclared d u.type_name
  written_declared u h = (declared_is d u.type_name).0 (all_element (IsDeclaredUid d) written u declared h).of_type

  principal_declared : IsEntityType d env.principal
  principal_declared =
      let a = joined_from environments_for d.actions env among in
      let p = joined_from (λ p. map (environment a.0 p) a.0.resources) a.0.principals env a.2 in
      let r = contains_from_map (environment a.0 p.0) a.0.resources env p.2 in
      all_element (IsEntityType d) a.0.principals env.principal (lawful_action d lawful a.0 a.1).principal_types.declared
      (subst (Contains a.0.principals) (ap (λ (e : Env). e.principal) r.2) p.1)

  resource_declared : IsEntityType d env.resource
  resource_declared =
      let a = joined_from environments_for d.actions env among in
      let p = joined_from (λ p. map (environment a.0 p) a.0.resources) a.0.principals env a.2 in
      let r = contains_from_map (environment a.0 p.0) a.0.resources env p.2 in
      all_element (IsEntityType d) a.0.resources env.resource (lawful_action d lawful a.0 a.1).resource_types.declared
      (subst (Contains a.0.resources) (ap (λ (e : Env). e.resource) r.2) r.1)

  bool_sort : Lawful sort.Bool
  bool_sort = (in_Bool (IsSortLevel d)).1 tt

  long_sort : Lawful sort.Long
  long_sort = (in_Long (IsSortLevel d)).1 tt

  string_sort : Lawful sort.String
  string_sort = (in_String (IsSortLevel d)).1 tt

  field_lawful : (fs : SortFields) (name : List ℕ) (k : Sort) → AllByRecursion (λ (f : SortField). Lawful f.1) fs → lookup (bytes_eq name) fs ≡ Some k → Lawful k
  field_lawful fs name k h e = all_element (λ (f : SortField). Lawful f.1) fs (name, k) h (Contains-from_lookup (λ a b g. bytes_eq_true a b g) name k fs e)

  mutual
    pub sort_lawful : (k : Sort) (t : Tree) → Is k t → Lawful k
    sort_lawful _ _ (judged.of_truth b) = bool_sort
    sort_lawful _ _ (judged.of_number n h) = long_sort
    sort_lawful _ _ (judged.of_text x h) = string_sort
    sort_lawful _ _ (judged.of_decimal_number n h) = (in_Decimal (IsSortLevel d)).1 tt
    sort_lawful _ _ (judged.of_address ip h) = (in_Ip (IsSortLevel d)).1 tt
    sort_lawful _ _ (judged.of_uid u (inl h)) = entity_lawful u.type_name (written_declared u h)
    sort_lawful _ _ (judged.of_uid u (inr h)) = entity_lawful u.type_name (listed_declared d lawful u h).type_declared
    sort_lawful _ _ (judged.of_default name h e) = (in_Entity (IsSortLevel d) name []).1 (inl h, sym e)
    sort_lawful _ _ (judged.of_none k h) = (in_Option (IsSortLevel d) k).1 h
    sort_lawful _ _ judged.of_principal = entity_lawful env.principal (inl principal_declared)
    sort_lawful _ _ judged.of_resource = entity_lawful env.resource (inl resource_declared)
    sort_lawful _ _ (judged.of_context t e) = type_lawful d lawful t (context_lawful d lawful env.action t e)
    sort_lawful _ _ (judged.of_not a h e) = bool_sort
    sort_lawful _ _ (judged.of_and a b g h e) = bool_sort
    sort_lawful _ _ (judged.of_or a b g h e) = bool_sort
    sort_lawful _ _ (judged.of_choice k c a b f g h e) = sort_lawful k a g
    sort_lawful _ _ (judged.of_equal k a b g h e) = bool_sort
    sort_lawful _ _ (judged.of_arithmetic o a b i g h) = long_sort
    sort_lawful _ _ (judged.of_overflow o a b i g h) = bool_sort
    sort_lawful _ _ (judged.of_less k a b i g h) = bool_sort
    sort_lawful _ _ (judged.of_bit k i a p g e) = bool_sort
    sort_lawful _ _ (judged.of_in_range a b g h) = bool_sort
    sort_lawful _ _ (judged.of_carry o i a b p q g) = bool_sort
    sort_lawful _ _ (judged.of_low k i a b p q g h) = bool_sort
    sort_lawful _ _ (judged.of_row i j a b p q g) = bool_sort
    sort_lawful _ _ (judged.of_product_carry i j a b p q g) = bool_sort
    sort_lawful _ _ (judged.of_attributes name t a e g) = type_lawful d lawful t (attrs_lawful d lawful name t e)
    sort_lawful _ _ (judged.of_ancestors name above names a e c g) =
        (in_Set (IsSortLevel d) (entity_sort d above)).1
        (no_option_at (entity_sort d above) (s.Entity above (choices_of d above)) (out_Entity above (choices_of d above)) refl, entity_lawful above (above_declared d lawful name above names e c))
    sort_lawful _ _ (judged.of_keys name t a e g) = (in_Set (IsSortLevel d) sort.String).1 (no_option_at sort.String s.String out_String refl, string_sort)
    sort_lawful _ _ (judged.of_tag name t a x e g h) = type_lawful d lawful t (tags_lawful d lawful name t e)
    sort_lawful _ _ (judged.of_field fs name k a g l e) = field_lawful fs name k ((in_Record (IsSortLevel d) fs).0 (sort_lawful (sort.Record fs) a g)).1 l
    sort_lawful _ _ (judged.of_record fs ts names h) = (in_Record (IsSortLevel d) fs).1 (names, fields_lawful fs ts h)
    sort_lawful _ _ (judged.of_set k ts held h) = (in_Set (IsSortLevel d) k).1 held
    sort_lawful _ _ (judged.of_present k a g e) = bool_sort
    sort_lawful _ _ (judged.of_held k a g e) = ((in_Option (IsSortLevel d) k).0 (sort_lawful (sort.Option k) a g)).1
    sort_lawful _ _ (judged.of_member k x a g h) = bool_sort
    sort_lawful _ _ (judged.of_sets o k a b p g h) = bool_sort
    sort_lawful _ _ (judged.of_pick o k a b p g h) = ((in_Set (IsSortLevel d) k).0 (sort_lawful (sort.Set k) a g)).1
    sort_lawful _ _ (judged.of_like p a g e) = bool_sort

    fields_lawful : (fs : SortFields) (ts : Trees) → HaveFields d env written fs ts → AllByRecursion (λ (f : SortField). Lawful f.1) fs
    fields_lawful _ _ judged.no_field = tt
    fields_lawful _ _ (judged.with_field name k fs t ts h more) = (sort_lawful k t h, fields_lawful fs ts more)
