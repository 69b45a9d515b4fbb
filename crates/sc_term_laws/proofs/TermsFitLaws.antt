-- In a well-formed world of a lawful schema the sort of a term is lawful, and its value fits the sort.
use Rattle.std.proofs.Common.{cond, ◌≡◌, inl, inr, ℕ, List, [], map, Bool, true, false, not, Option, Some, None, Contains, refl, sym, ap, ◌∙◌, subst}
use Rattle.std.specs.Prelude.{find}
use Rattle.std.specs.List.{AllByRecursion}
use Rattle.std.specs.List.Sorted.{IsStrictlySortedBy}
use Rattle.std.specs.Map.{lookup, keys_of}
use Rattle.std.specs.Str.{bytes_eq}
use Rattle.std.proofs.lemmas.Bool.{false≢true}
use Rattle.std.proofs.lemmas.Map.Views.{Contains-from_lookup}
use Rattle.sc_laws.proofs.BoolLaws.{and_first}
use Rattle.sc_lists.proofs.ListLaws.{all_element}
use Rattle.sc_lists.proofs.TextLaws.{bytes_eq_true}
use Rattle.sc_names.specs.declared.uid.Uid.{Uid}
use Rattle.sc_names.specs.Uids.{text_cmp}
use Rattle.sc_schema.specs.declared.ty.EntityKind.{EntityKind}
use Rattle.sc_schema.specs.declared.declarations.Env.{Env}
use Rattle.sc_schema.specs.Declarations.{Declarations}
use Rattle.sc_schema.specs.Lawful.{IsLawful}
use Rattle.sc_schema.proofs.LawfulLaws.{ascii_text}
use Rattle.sc_sorts.specs.declared.sort.Sort.{Sort}
use Rattle.sc_sorts.specs.declared.sort.Sort.TheVariants as sort
use Rattle.sc_sorts.specs.declared.sort.Sort.TheVariants.{rolls-Entity}
use Rattle.sc_sorts.specs.declared.sort.Sort.TheOpen as s
use Rattle.sc_sorts.specs.Defaults.{is_option, default_of, default_uid}
use Rattle.sc_sorts.specs.Entities.{choices_of, entity_sort}
use Rattle.sc_sorts.specs.Inside.{SortField, SortFields, name_in, field_sort, held_sort, member_sort}
use Rattle.sc_sorts.proofs.EveryLaws.{in_Bool, in_Long, in_String, in_Decimal, in_Ip, in_Entity, in_Set, in_Record, in_Option}
use Rattle.sc_sorts.proofs.OutLaws.{out_String, out_Decimal, out_Ip, out_Entity, out_Record}
use Rattle.sc_values.specs.declared.value.Value.{Value, Value-F, every-Value, out-Value, roll-Value, roll-out-Value}
use Rattle.sc_values.specs.declared.value.Value.TheVariants as value
use Rattle.sc_values.specs.declared.value.Value.TheVariants.{rolls-Record}
use Rattle.sc_values.specs.declared.value.Value.TheOpen as v
use Rattle.sc_values.specs.Proper.{IsProperLevel}
use Rattle.sc_values.specs.Records.{field}
use Rattle.sc_values.proofs.EveryLaws as every
use Rattle.sc_world.specs.declared.world.World.{World}
use Rattle.sc_world.specs.Choices.{is_choice}
use Rattle.sc_world.specs.Conforms.{is_entity_of}
use Rattle.sc_world.specs.Stores.{stored}
use Rattle.sc_world.specs.WellFormed.{IsStored, IsWellFormed}
use Rattle.sc_sorts.specs.declared.node.BinaryOp.{BinaryOp}
use Rattle.sc_sorts.specs.declared.node.ManyOp.TheVariants as manys
use Rattle.sc_terms.specs.Trees.{Tree, leaf, one, two, choice, many, Trees, listed}
use Rattle.sc_terms.specs.TreeSorts.{tree_sort}
use Rattle.sc_terms.specs.Values.{Val, it, value_in, uid_in, text_in, uid_seen, record_in, fields_seen, option_in, field_seen, field_value, held_value, two_value, val, vals, is_maybe, HaveKinds, HasKinds}
use Rattle.sc_terms.specs.Values as values
use Rattle.sc_term_laws.specs.Fitting.{kind_listed, IsOfSort, NamesKnownLevel, Fits, as_value, as_option}
use Rattle.sc_term_laws.specs.Judging.{IsTermOf, HaveSort, HaveFields, IsArithmetic, IsOverflow, IsTestOfSets, IsPick}
use Rattle.sc_term_laws.specs.Judging as judged
use Rattle.sc_term_laws.specs.LawfulSorts.{IsDeclared, IsSortLevel, IsSortOf}
use Rattle.sc_term_laws.proofs.ChoicesLaws.{listed_choice}
use Rattle.sc_term_laws.proofs.FitLaws.{field_is_of, field_may_lack}
use Rattle.sc_term_laws.proofs.FitVals.{fits_at, no_option_at, yes_fits, long_fits, wrapped_fits, not_fits, and_fits, or_fits, choice_fits, equal_fits}
use Rattle.sc_term_laws.proofs.FitSets.{set_ascends, set_each, set_fits, value_of, members_fit, least_fits}
use Rattle.sc_term_laws.proofs.FitRecords.{HaveVals, no_val, with_val, record_fits, holds_fit, all_apart, swapped}
use Rattle.sc_term_laws.proofs.FitDefaults.{entity_of, string_of, decimal_of, address_of, default_is, default_fits}
use Rattle.sc_term_laws.proofs.FitEntities.{stored_declared, stored_fits, context_fits, attributes_fit, tag_fits, keys_fit, ancestors_fit}
use Rattle.sc_term_laws.proofs.JudgingLaws.{sort_is, field_of_record, held_of, member_of}
use Rattle.sc_term_laws.proofs.SortsLawful.{above_declared, attrs_lawful, tags_lawful, context_lawful, type_lawful, listed_declared, declared_text}
use Rattle.sc_term_laws.proofs.TestLaws.{option_told}

module _ (d : Declarations) (env : Env) (written : List Uid) (w : World) (lawful : IsLawful d) (well : IsWellFormed d env written w) where
  abbrev Is : Sort → Tree → Type 0
  Is k t = IsTermOf d env written k t

  abbrev Lawful : Sort → Type 0
  Lawful = IsSortOf d

  abbrev Of : Sort → Value → Type 0
  Of = IsOfSort d w.store

  abbrev FitsVal : Sort → Val → Type 0
  FitsVal = Fits d w.store

  -- ---- sorts

  entity_lawful : (name : List ℕ) → IsDeclared d name → Lawful (entity_sort d name)
  entity_lawful name h = (in_Entity (IsSortLevel d) name (choices_of d name)).1 (h, refl)

  written_stored : (u : Uid) → Contains written u → IsStored w.store u
  written_stored u h = all_element (IsStored w.store) written u well.closed.written h

  declared_as : (u : Uid) (name : List ℕ) → u.type_name ≡ name → IsStored w.store u → IsDeclared d name
  declared_as u name e h = subst (IsDeclared d) e (stored_declared d env written w lawful well u h)

  bool_sort : Lawful sort.Bool
  bool_sort = (in_Bool (IsSortLevel d)).1 tt

  long_sort : Lawful sort.Long
  long_sort = (in_Long (IsSortLevel d)).1 tt

  string_sort : Lawful sort.String
  string_sort = (in_String (IsSortLevel d)).1 tt

  found_lawful : (fs : SortFields) (name : List ℕ) (k : Sort) → AllByRecursion (λ (f : SortField). Lawful f.1) fs → lookup (bytes_eq name) fs ≡ Some k → Lawful k
  found_lawful fs name k h e = all_element (λ (f : SortField). Lawful f.1) fs (name, k) h (Contains-from_lookup (λ a b g. bytes_eq_true a b g) name k fs e)

  mutual
    pub sort_lawful : (k : Sort) (t : Tree) → Is k t → Lawful k
    sort_lawful _ _ (judged.of_truth b) = bool_sort
    sort_lawful _ _ (judged.of_number n h) = long_sort
    sort_lawful _ _ (judged.of_text x h) = string_sort
    sort_lawful _ _ (judged.of_decimal_number n h) = (in_Decimal (IsSortLevel d)).1 tt
    sort_lawful _ _ (judged.of_address ip h) = (in_Ip (IsSortLevel d)).1 tt
    sort_lawful _ _ (judged.of_uid u (inl h)) = entity_lawful u.type_name (declared_as u u.type_name refl (written_stored u h))
    sort_lawful _ _ (judged.of_uid u (inr h)) = entity_lawful u.type_name (listed_declared d lawful u h).type_declared
    sort_lawful _ _ (judged.of_default name h e) = (in_Entity (IsSortLevel d) name []).1 (inl h, sym e)
    sort_lawful _ _ (judged.of_none k h) = (in_Option (IsSortLevel d) k).1 h
    sort_lawful _ _ judged.of_principal = entity_lawful env.principal (declared_as w.request.principal env.principal well.request.principal well.closed.principal)
    sort_lawful _ _ judged.of_resource = entity_lawful env.resource (declared_as w.request.resource env.resource well.request.resource well.closed.resource)
    sort_lawful _ _ (judged.of_context t e) = type_lawful d lawful t (context_lawful d lawful env.action t e)
    sort_lawful _ _ (judged.of_not a h e) = bool_sort
    sort_lawful _ _ (judged.of_and a b g h e) = bool_sort
    sort_lawful _ _ (judged.of_or a b g h e) = bool_sort
    sort_lawful _ _ (judged.of_choice k c a b f g h e) = sort_lawful k a g
    sort_lawful _ _ (judged.of_equal k a b g h e) = bool_sort
    sort_lawful _ _ (judged.of_arithmetic o a b i g h) = long_sort
    sort_lawful _ _ (judged.of_overflow o a b i g h) = bool_sort
    sort_lawful _ _ (judged.of_less k a b i g h) = bool_sort
    sort_lawful _ _ (judged.of_bit k i a p g e) = bool_sort
    sort_lawful _ _ (judged.of_in_range a b g h) = bool_sort
    sort_lawful _ _ (judged.of_carry o i a b p q g) = bool_sort
    sort_lawful _ _ (judged.of_low k i a b p q g h) = bool_sort
    sort_lawful _ _ (judged.of_row i j a b p q g) = bool_sort
    sort_lawful _ _ (judged.of_product_carry i j a b p q g) = bool_sort
    sort_lawful _ _ (judged.of_attributes name t a e g) = type_lawful d lawful t (attrs_lawful d lawful name t e)
    sort_lawful _ _ (judged.of_ancestors name above names a e c g) =
        (in_Set (IsSortLevel d) (entity_sort d above)).1
        (no_option_at (entity_sort d above) (s.Entity above (choices_of d above)) (out_Entity above (choices_of d above)) refl, entity_lawful above (above_declared d lawful name above names e c))
    sort_lawful _ _ (judged.of_keys name t a e g) = (in_Set (IsSortLevel d) sort.String).1 (no_option_at sort.String s.String out_String refl, string_sort)
    sort_lawful _ _ (judged.of_tag name t a x e g h) = type_lawful d lawful t (tags_lawful d lawful name t e)
    sort_lawful _ _ (judged.of_field fs name k a g l e) = found_lawful fs name k ((in_Record (IsSortLevel d) fs).0 (sort_lawful (sort.Record fs) a g)).1 l
    sort_lawful _ _ (judged.of_record fs ts names h) = (in_Record (IsSortLevel d) fs).1 (names, fields_lawful fs ts h)
    sort_lawful _ _ (judged.of_set k ts held h) = (in_Set (IsSortLevel d) k).1 held
    sort_lawful _ _ (judged.of_present k a g e) = bool_sort
    sort_lawful _ _ (judged.of_held k a g e) = ((in_Option (IsSortLevel d) k).0 (sort_lawful (sort.Option k) a g)).1
    sort_lawful _ _ (judged.of_member k x a g h) = bool_sort
    sort_lawful _ _ (judged.of_sets o k a b p g h) = bool_sort
    sort_lawful _ _ (judged.of_pick o k a b p g h) = ((in_Set (IsSortLevel d) k).0 (sort_lawful (sort.Set k) a g)).1
    sort_lawful _ _ (judged.of_like p a g e) = bool_sort

    fields_lawful : (fs : SortFields) (ts : Trees) → HaveFields d env written fs ts → AllByRecursion (λ (f : SortField). Lawful f.1) fs
    fields_lawful _ _ judged.no_field = tt
    fields_lawful _ _ (judged.with_field name k fs t ts h more) = (sort_lawful k t h, fields_lawful fs ts more)

  held_lawful : (k : Sort) (t : Tree) → Is (sort.Option k) t → (is_option k ≡ false) × Lawful k
  held_lawful k t h = (in_Option (IsSortLevel d) k).0 (sort_lawful (sort.Option k) t h)

  member_lawful : (k : Sort) (t : Tree) → Is (sort.Set k) t → (is_option k ≡ false) × Lawful k
  member_lawful k t h = (in_Set (IsSortLevel d) k).0 (sort_lawful (sort.Set k) t h)

  -- ---- what operators give of what fits

  as_default : (k : Sort) → Lawful k → Of k (default_of k)
  as_default k h = default_is d w.store lawful k h

  entity_at : (kind : EntityKind) (x : Value-F Value) → is_entity_of kind x ≡ true → (uid_seen x).type_name ≡ kind.name
  entity_at kind (v.Entity u) h = bytes_eq_true u.type_name kind.name (and_first (bytes_eq u.type_name kind.name) (is_choice kind.choices u.id) h)
  entity_at kind _ h = absurd cc

  -- the entity that a value of an entity sort is
  entity_named : (name : List ℕ) (us : List Uid) (x : Val) → FitsVal (sort.Entity name us) x → (uid_in x).type_name ≡ name
  entity_named name us x h =
      let it_is = value_of d w.store (sort.Entity name us) x (no_option_at (sort.Entity name us) (s.Entity name us) (out_Entity name us) refl) h in
      entity_at (kind_listed name us) (out-Value (value_in x)) (ap (λ (z : Value → Bool). z (value_in x)) (sym (fits_at (sort.Entity name us) (s.Entity name us) (rolls-Entity name us))) ∙ it_is.of_sort)

  arithmetic_fits : (o : BinaryOp) (j : Sort) (x y : Val) → IsArithmetic o → FitsVal sort.Long (two_value o j x y w)
  arithmetic_fits _ j x y (judged.of_sum _ judged.addition) = wrapped_fits d w.store _
  arithmetic_fits _ j x y (judged.of_sum _ judged.subtraction) = wrapped_fits d w.store _
  arithmetic_fits _ j x y judged.multiplication = wrapped_fits d w.store _

  overflow_fits : (o : BinaryOp) (j : Sort) (x y : Val) → IsOverflow o → FitsVal sort.Bool (two_value o j x y w)
  overflow_fits _ j x y judged.addition_overflow = yes_fits d w.store _
  overflow_fits _ j x y judged.subtraction_overflow = yes_fits d w.store _
  overflow_fits _ j x y judged.multiplication_overflow = yes_fits d w.store _

  test_fits : (o : BinaryOp) (j : Sort) (x y : Val) → IsTestOfSets o → FitsVal sort.Bool (two_value o j x y w)
  test_fits _ j x y judged.subset_test = yes_fits d w.store _
  test_fits _ j x y judged.common_test = yes_fits d w.store _

  pick_fits : (o : BinaryOp) (j k : Sort) (x y : Val) → IsPick o → member_sort j ≡ k → is_option k ≡ false → Lawful k → FitsVal (sort.Set k) x → FitsVal k (two_value o j x y w)
  pick_fits _ j k x y judged.difference e none l h =
      subst (λ (z : Sort). FitsVal k (values.least z (find (λ (a : Value). not (values.has_member (values.members_in y) a)) (values.members_in x)))) (sym e)
      (least_fits d w.store k _ (values.members_in x) none (as_default k l) (members_fit d w.store k x h))
  pick_fits _ j k x y judged.intersection e none l h =
      subst (λ (z : Sort). FitsVal k (values.least z (find (values.has_member (values.members_in y)) (values.members_in x)))) (sym e)
      (least_fits d w.store k _ (values.members_in x) none (as_default k l) (members_fit d w.store k x h))

  held_fits : (k : Sort) (x : Val) → is_option k ≡ false → Lawful k → FitsVal (sort.Option k) x → FitsVal k (held_value k (option_in x))
  held_fits k _ none l (as_value x some h) = let both : false ≡ true = sym some ∙ option_told (sort.Option k) k refl in cc
  held_fits k _ none l (as_option None some h) = default_fits d w.store k (as_default k l)
  held_fits k _ none l (as_option (Some x) some h) = as_value x none (subst (λ (z : Sort). Of z x) (held_of k) h)

  -- a field of a record of a sort
  field_level : (P : Value-F Value → Type 0) (x : Value) (y : Value-F Value) (name : List ℕ) (z : Value) → out-Value x ≡ y → field name (fields_seen y) ≡ Some z → every-Value P x → every-Value P z
  field_level P x (v.Record fs) name z e f h =
      let same : x ≡ value.Record fs = sym (roll-out-Value x) ∙ ap roll-Value e ∙ rolls-Record fs in
      all_element (λ (g : List ℕ × Value). every-Value P g.1) fs (name, z) (every.every_fields P fs (subst (every-Value P) same h)) (Contains-from_lookup (λ a b g. bytes_eq_true a b g) name z fs f)
  field_level P x _ name z e f h = absurd cc

  field_of : (fs : SortFields) (name : List ℕ) (k : Sort) (x z : Value) → lookup (bytes_eq name) fs ≡ Some k → Of (sort.Record fs) x → field name (fields_seen (out-Value x)) ≡ Some z → Of k z
  field_of fs name k x z l h f = record {
    of_sort = field_is_of fs name k x z l h.of_sort f;
    proper = field_level IsProperLevel x (out-Value x) name z refl f h.proper;
    named = field_level (NamesKnownLevel d w.store) x (out-Value x) name z refl f h.named;
  }

  held_part : (k : Sort) (z : Value) → is_option k ≡ true → Of k z → Of (held_sort k) z
  held_part k z e h = record { of_sort = holds_fit k z e h.of_sort; proper = h.proper; named = h.named }

  field_fits : (fs : SortFields) (name : List ℕ) (k : Sort) (x : Val) → lookup (bytes_eq name) fs ≡ Some k → FitsVal (sort.Record fs) x → FitsVal k (field_value name k x)
  field_fits fs name k x l h = by (is_option k) (field name (record_in x)) refl refl
    where
      r : Of (sort.Record fs) (value_in x)
      r = value_of d w.store (sort.Record fs) x (no_option_at (sort.Record fs) (s.Record fs) (out_Record fs) refl) h

      lacks : is_option k ≡ false → field name (record_in x) ≡ None → false ≡ true
      lacks e f = sym e ∙ field_may_lack fs name k (value_in x) l r.of_sort f

      by : (b : Bool) (o : Option Value) → is_option k ≡ b → field name (record_in x) ≡ o → FitsVal k (field_seen b k o)
      by true None e f = as_option None e tt
      by true (Some z) e f = as_option (Some z) e (held_part k z e (field_of fs name k (value_in x) z l r f))
      by false (Some z) e f = as_value z e (field_of fs name k (value_in x) z l r f)
      by false None e f = absurd (false≢true (lacks e f))

  -- ---- terms

  mutual
    unfolding val

    pub value_fits : (k : Sort) (t : Tree) → Is k t → FitsVal k (val t w)
    value_fits _ _ (judged.of_truth b) = yes_fits d w.store b
    value_fits _ _ (judged.of_number n h) = long_fits d w.store n h
    value_fits _ _ (judged.of_text x h) = as_value (value.String x) (no_option_at sort.String s.String out_String refl) (string_of d w.store x h)
    value_fits _ _ (judged.of_decimal_number n h) = as_value (value.Decimal n) (no_option_at sort.Decimal s.Decimal out_Decimal refl) (decimal_of d w.store n h)
    value_fits _ _ (judged.of_address ip h) = as_value (value.Ip ip) (no_option_at sort.Ip s.Ip out_Ip refl) (address_of d w.store ip h)
    value_fits _ _ (judged.of_uid u (inl h)) = stored_fits d env written w lawful well u.type_name u refl (written_stored u h)
    value_fits _ _ (judged.of_uid u (inr h)) =
        let us = choices_of d u.type_name in
        as_value (value.Entity u) (no_option_at (sort.Entity u.type_name us) (s.Entity u.type_name us) (out_Entity u.type_name us) refl)
        (entity_of d w.store u.type_name us u refl (listed_choice us u h) (listed_declared d lawful u h).text (inr (inr h)))
    value_fits _ _ (judged.of_default name h e) =
        as_value (value.Entity (default_uid name [])) (no_option_at (sort.Entity name []) (s.Entity name []) (out_Entity name []) refl)
        (entity_of d w.store name [] (default_uid name []) refl refl (declared_text d lawful name (inl h), ascii_text [] refl) (inr (inl (ap (default_uid name) (sym e)))))
    value_fits _ _ (judged.of_none k h) = as_option None (option_told (sort.Option k) k refl) tt
    value_fits _ _ judged.of_principal = stored_fits d env written w lawful well env.principal w.request.principal well.request.principal well.closed.principal
    value_fits _ _ judged.of_resource = stored_fits d env written w lawful well env.resource w.request.resource well.request.resource well.closed.resource
    value_fits _ _ (judged.of_context t e) = context_fits d env written w lawful well t e
    value_fits _ _ (judged.of_not a h e) = not_fits d w.store (val a w) (value_fits sort.Bool a h)
    value_fits _ _ (judged.of_and a b g h e) = and_fits d w.store (val a w) (val b w) (value_fits sort.Bool a g) (value_fits sort.Bool b h)
    value_fits _ _ (judged.of_or a b g h e) = or_fits d w.store (val a w) (val b w) (value_fits sort.Bool a g) (value_fits sort.Bool b h)
    value_fits _ _ (judged.of_choice k c a b f g h e) = choice_fits d w.store k (val c w) (val a w) (val b w) (value_fits k a g) (value_fits k b h)
    value_fits _ _ (judged.of_equal k a b g h e) = equal_fits d w.store k (val a w) (val b w) (value_fits k a g) (value_fits k b h)
    value_fits _ _ (judged.of_arithmetic o a b i g h) = arithmetic_fits o (tree_sort a) (val a w) (val b w) i
    value_fits _ _ (judged.of_overflow o a b i g h) = overflow_fits o (tree_sort a) (val a w) (val b w) i
    value_fits _ _ (judged.of_less k a b i g h) = yes_fits d w.store _
    value_fits _ _ (judged.of_bit k i a p g e) = yes_fits d w.store _
    value_fits _ _ (judged.of_in_range a b g h) = yes_fits d w.store _
    value_fits _ _ (judged.of_carry o i a b p q g) = yes_fits d w.store _
    value_fits _ _ (judged.of_low k i a b p q g h) = yes_fits d w.store _
    value_fits _ _ (judged.of_row i j a b p q g) = yes_fits d w.store _
    value_fits _ _ (judged.of_product_carry i j a b p q g) = yes_fits d w.store _
    value_fits _ _ (judged.of_attributes name t a e g) =
        attributes_fit d env written w lawful well name t (uid_in (val a w)) (stored (uid_in (val a w)) w.store) (entity_named name (choices_of d name) (val a w) (value_fits (entity_sort d name) a g)) e refl
    value_fits _ _ (judged.of_ancestors name above names a e c g) =
        let own = ap name_in (out_Entity above (choices_of d above)) in
        let u = uid_in (val a w) in
        subst (λ (n : List ℕ). FitsVal (sort.Set (entity_sort d above)) (it (values.ancestors_value n (stored u w.store)))) (sym own)
        (ancestors_fit d env written w lawful well above u (stored u w.store) refl)
    value_fits _ _ (judged.of_keys name t a e g) = keys_fit d env written w lawful well (uid_in (val a w)) (stored (uid_in (val a w)) w.store) refl
    value_fits _ _ (judged.of_tag name t a x e g h) =
        tag_fits d env written w lawful well name t (text_in (val x w)) (uid_in (val a w)) (stored (uid_in (val a w)) w.store) (entity_named name (choices_of d name) (val a w) (value_fits (entity_sort d name) a g)) e refl
    value_fits _ _ (judged.of_field fs name k a g l e) =
        let same : field_sort name (tree_sort a) ≡ k = ap (field_sort name) (sort_is d env written (sort.Record fs) a g) ∙ field_of_record fs name k l in
        subst (λ (z : Sort). FitsVal k (field_value name z (val a w))) (sym same) (field_fits fs name k (val a w) l (value_fits (sort.Record fs) a g))
    value_fits _ _ (judged.of_record fs ts names h) = record_fits d w.store fs (vals ts w) names (fields_fit fs ts h)
    value_fits _ _ (judged.of_set k ts held h) = set_fits d w.store k _ (set_ascends _) (set_each (IsOfSort d w.store k) _ (each_fits k ts held.0 h))
    value_fits _ _ (judged.of_present k a g e) = yes_fits d w.store _
    value_fits _ _ (judged.of_held k a g e) =
        let same : held_sort (tree_sort a) ≡ k = ap held_sort (sort_is d env written (sort.Option k) a g) ∙ held_of k in
        let l = held_lawful k a g in
        subst (λ (z : Sort). FitsVal k (held_value z (option_in (val a w)))) (sym same) (held_fits k (val a w) l.0 l.1 (value_fits (sort.Option k) a g))
    value_fits _ _ (judged.of_member k x a g h) = yes_fits d w.store _
    value_fits _ _ (judged.of_sets o k a b p g h) = test_fits o (tree_sort a) (val a w) (val b w) p
    value_fits _ _ (judged.of_pick o k a b p g h) =
        let same : member_sort (tree_sort a) ≡ k = ap member_sort (sort_is d env written (sort.Set k) a g) ∙ member_of k in
        let l = member_lawful k a g in
        pick_fits o (tree_sort a) k (val a w) (val b w) p same l.0 l.1 (value_fits (sort.Set k) a g)
    value_fits _ _ (judged.of_like p a g e) = yes_fits d w.store _

    fields_fit : (fs : SortFields) (ts : Trees) → HaveFields d env written fs ts → HaveVals d w.store fs (vals ts w)
    fields_fit _ _ judged.no_field = no_val
    fields_fit _ _ (judged.with_field name k fs t ts h more) = with_val name k (val t w) fs (vals ts w) (value_fits k t h) (fields_fit fs ts more)

    each_fits : (k : Sort) (ts : Trees) → is_option k ≡ false → HaveSort d env written k ts → AllByRecursion (Of k) (map (λ (x : List ℕ × Val). value_in x.1) (vals ts w))
    each_fits _ _ none (judged.no_member k) = tt
    each_fits _ _ none (judged.with_member k t ts h more) = (value_of d w.store k (val t w) none (value_fits k t h), each_fits k ts none more)

  -- ---- the parts of a record term are options just where their sorts are

  maybe_is : (k : Sort) (x : Val) → FitsVal k x → is_maybe x ≡ is_option k
  maybe_is k _ (as_value x none h) = sym none
  maybe_is k _ (as_option o some h) = sym some

  absent_part : (name : List ℕ) (fs : SortFields) (ts : Trees) → HaveFields d env written fs ts → AllByRecursion (λ (m : List ℕ). bytes_eq name m ≡ false) (keys_of fs) → lookup (bytes_eq name) (listed ts) ≡ None
  absent_part name _ _ judged.no_field h = refl
  absent_part name _ _ (judged.with_field other k fs t ts g more) h =
      ap (λ (b : Bool). cond b (Some t) (lookup (bytes_eq name) (listed ts))) h.0 ∙ absent_part name fs ts more h.1

  have_kinds : (fs : SortFields) (ts : Trees) → IsStrictlySortedBy text_cmp (keys_of fs) → HaveFields d env written fs ts → HaveKinds ts w
  unfolding IsStrictlySortedBy
  have_kinds _ _ names judged.no_field = tt
  have_kinds _ _ names (judged.with_field name k fs t ts h more) = (
    absent_part name fs ts more (swapped name (keys_of fs) (all_apart name (keys_of fs) names.0)),
    maybe_is k (val t w) (value_fits k t h) ∙ ap is_option (sym (sort_is d env written k t h)),
    have_kinds fs ts names.1 more,
  )

  record_kinds : (k : Sort) (ts : Trees) → Is k (many manys.Record ts) → HaveKinds ts w
  record_kinds _ _ (judged.of_record fs ts names h) = have_kinds fs ts names.0 h

  pub kinds_are : (k : Sort) (t : Tree) → Is k t → HasKinds t w
  kinds_are k (leaf l) h = tt
  kinds_are k (one o a) h = tt
  kinds_are k (two o a b) h = tt
  kinds_are k (choice c a b) h = tt
  kinds_are k (many (manys.Set j) ts) h = tt
  kinds_are k (many manys.Record ts) h = record_kinds k ts h
