-- In the world of a model variables and what is stored of entities have the values of the model.
use Rattle.std.proofs.Common.{◌≡◌, ◌↔◌, inl, inr, cond, ℕ, Bool, true, false, List, [], ◌∷◌, map, flat_map, Option, Some, None, option_map, option_and_then, unwrap_or, Contains, refl, sym, ap, ◌∙◌, subst}
use Rattle.std.specs.List.Sorted.{IsStrictlySortedBy}
use Rattle.std.specs.Str.{bytes_eq}
use Rattle.std.proofs.lemmas.List.Kept.{IsStrictlySortedBy-filter}
use Rattle.std.proofs.lemmas.Map.Lookups.{exact_bytes}
use Rattle.std.proofs.lemmas.Simd.{map-map}
use Rattle.std.proofs.lemmas.Slice.Eq.{bytes_eq-Decides}
use Rattle.sc_lists.specs.Members.{Has}
use Rattle.sc_lists.proofs.MemberLaws.{Has-map, map-Has, Has-flat_map, Has-from_Contains, Contains-from_Has}
use Rattle.sc_laws.proofs.OptionLaws.{same_some}
use Rattle.sc_lists.proofs.TextLaws.{bytes_eq_true}
use Rattle.sc_laws.proofs.BoolLaws.{true_both}
use Rattle.sc_names.specs.declared.uid.Uid.{Uid}
use Rattle.sc_names.specs.Uids.{text_cmp, uid_cmp}
use Rattle.sc_names.proofs.UidLaws.{text_total}
use Rattle.sc_schema.specs.declared.declarations.Action.{Action}
use Rattle.sc_schema.specs.declared.declarations.EntityType.{EntityType}
use Rattle.sc_schema.specs.declared.declarations.Env.{Env}
use Rattle.sc_schema.specs.declared.ty.Ty.{Ty}
use Rattle.sc_schema.specs.Declarations.{Declarations, action, action_uids, action_ancestors, attrs_of, tags_of, context_of, entity_type, is_action_type}
use Rattle.sc_schema.specs.Lawful.{IsLawful}
use Rattle.sc_schema.proofs.LookupLaws.{action_found}
use Rattle.sc_values.specs.declared.value.Value.{Value}
use Rattle.sc_values.specs.declared.value.Value.TheVariants as value
use Rattle.sc_values.specs.Order.{value_cmp}
use Rattle.sc_values.specs.Records.{Fields, field}
use Rattle.sc_values.proofs.AscendingLaws.{one_list}
use Rattle.sc_values.proofs.OrderLaws.{value_cmp_total, value_cmp_exact}
use Rattle.sc_values.proofs.OutLaws as out
use Rattle.sc_world.specs.declared.entity.EntityData.{EntityData}
use Rattle.sc_world.specs.declared.world.Request.{Request}
use Rattle.sc_world.specs.declared.world.World.{World}
use Rattle.sc_world.specs.Defaults.{default_attrs, default_data, default_fields}
use Rattle.sc_world.specs.Given.{of_schema}
use Rattle.sc_world.specs.Stores.{stored}
use Rattle.sc_sorts.specs.declared.sort.Sort.{Sort, Sort-F, out-Sort}
use Rattle.sc_sorts.specs.declared.sort.Sort.TheVariants as sort
use Rattle.sc_sorts.specs.declared.sort.Sort.TheOpen as s
use Rattle.sc_sorts.specs.Defaults.{is_option, is_option_level, default_of}
use Rattle.sc_sorts.specs.Entities.{of_type_name, choices_of, entity_sort}
use Rattle.sc_sorts.specs.Inside.{SortFields, name_in}
use Rattle.sc_sorts.specs.OfTypes.{sort_of}
use Rattle.sc_sorts.proofs.DefaultLaws as plain
use Rattle.sc_sorts.proofs.OutLaws.{out_String, out_Entity}
use Rattle.sc_sorts.specs.declared.node.Leaf.{Leaf}
use Rattle.sc_sorts.specs.declared.node.Leaf.TheVariants as leafs
use Rattle.sc_sorts.specs.declared.node.UnaryOp.{UnaryOp}
use Rattle.sc_sorts.specs.declared.node.UnaryOp.TheVariants as unary
use Rattle.sc_sorts.specs.declared.node.BinaryOp.TheVariants as binary
use Rattle.sc_terms.specs.Trees.{Tree, leaf, one, two}
use Rattle.sc_terms.specs.TreeSorts.{tree_sort}
use Rattle.sc_terms.specs.Values.{Val, it, val, value_in, uid_in, uid_seen, text_in, text_seen, record_in, fields_seen, set_from, default_by, attributes_value, ancestors_value, keys_value, tag_value}
use Rattle.sc_terms.proofs.FoldValues.{one_is, two_is, leaf_is}
use Rattle.sc_term_laws.specs.Judging.{IsTermOf}
use Rattle.sc_term_laws.specs.Judging as judged
use Rattle.sc_term_laws.proofs.ChoicesLaws.{no_actions}
use Rattle.sc_term_laws.proofs.DefaultTypeLaws.{no_option}
use Rattle.sc_term_laws.proofs.FitEntities.{ascend_map, entity_cmp, string_cmp}
use Rattle.sc_term_laws.proofs.FitSets.{set_ascends}
use Rattle.sc_term_laws.proofs.SortsLawful.{action_of, lawful_action, below_lists, tagged_lists}
use Rattle.sc_rule_laws.proofs.MemberTruths.{has_set_from, set_from_has}
use Rattle.sc_closure_rules.specs.Closure.{Closed, principal_term, resource_term}
use Rattle.sc_closure_rules.specs.Goals.{IsGoal}
use Rattle.sc_model_laws.specs.Assignments.{lit}
use Rattle.sc_model_laws.specs.Laws.{EquationsAgree}
use Rattle.sc_model_laws.specs.Models.{IsModel}
use Rattle.sc_model_laws.specs.Rows.{IsRight, HoldsModel, is_variable, is_stored}
use Rattle.sc_model_laws.specs.Vals.{Model, assigned, val_of}
use Rattle.sc_model_laws.proofs.ActionLaws.{named_choice, is_action, action_members}
use Rattle.sc_model_laws.proofs.ClosureLaws.{of_part, tag_keys, tag_key}
use Rattle.sc_model_laws.proofs.DefaultLaws.{AreAddresses}
use Rattle.sc_model_laws.proofs.EntityLaws.{OfAncestors, of_attributes, of_ancestors, of_keys, of_tag, attributes_sort, ancestors_sort, keys_sort, tag_sort, true_member, named_type, ancestors_move, keys_move, text_key, one_attributes, one_tag, absent_tag}
use Rattle.sc_model_laws.proofs.FittingLaws.{AreMade, assigned_sorted}
use Rattle.sc_model_laws.proofs.SortedVals.{val_at, entity_val, set_val, record_val, fields_at}
use Rattle.sc_model_world_laws.specs.Rebuilt.{attributes_said, keys_said, tag_said, context_said, tag_default, tag_at, data_of, request_of, IsRebuilt}
use Rattle.sc_model_world_laws.proofs.EntryLaws.{is_ancestor, ancestor_is, ancestors_ascend, keys_at, is_key, keys_ascend, context_of_term, context_sort}
use Rattle.sc_model_world_laws.proofs.FirstLaws.{said_is}
use Rattle.sc_model_world_laws.proofs.GivenLaws.{plain_stored, listed_stored, named_stored}
use Rattle.sc_model_world_laws.proofs.OrderLaws.{has_ordered}
use Rattle.sc_model_world_laws.proofs.RequestLaws.{principal_sort, resource_sort}
use Rattle.sc_model_world_laws.proofs.SaidLaws.{attributes_told, says_attributes, says_key, tag_told, says_tag, context_told}
use Rattle.sc_model_world_laws.proofs.TypeLaws.{attributes_type, listed_sort, context_type, no_attributes, record_sort}

-- ---- orders of entities and of strings

-- an ascending list of values is the set of what has the same members
set_is : (xs ys : List Value) → IsStrictlySortedBy value_cmp xs → ((v : Value) → Has xs v ↔ Has ys v) → xs ≡ set_from ys
set_is xs ys a h =
    one_list value_cmp_total value_cmp_exact xs (set_from ys) a (set_ascends ys) (λ v. (
      λ k. Contains-from_Has (set_from ys) v (has_set_from ys v ((h v).0 (Has-from_Contains xs v k))),
      λ k. Contains-from_Has xs v ((h v).1 (set_from_has ys v (Has-from_Contains (set_from ys) v k))),
    ))

-- lists with the same members are so under a function
same_map : {X : Type 0} (f : X → Value) (xs ys : List X) → ((x : X) → Has xs x ↔ Has ys x) → (v : Value) → Has (map f xs) v ↔ Has (map f ys) v
same_map f xs ys h v = (
  λ k. let x = map-Has f xs v k in subst (Has (map f ys)) x.2 (Has-map f ys x.0 ((h x.0).0 x.1)),
  λ k. let x = map-Has f ys v k in subst (Has (map f xs)) x.2 (Has-map f xs x.0 ((h x.0).1 x.1)),
)

-- one that is chosen by its type
chosen_first : (name : List ℕ) (u : Uid) (us : List Uid) → u.type_name ≡ name → Has (of_type_name name (u ∷ us)) u
chosen_first name u us e = subst (λ (b : Bool). Has (cond b (u ∷ of_type_name name us) (of_type_name name us)) u) (sym ((bytes_eq-Decides name u.type_name).1 (sym e))) (inl refl)

chosen_past : (b : Bool) (w u : Uid) (us : List Uid) → Has us u → Has (cond b (w ∷ us) us) u
chosen_past true w u us h = inr h
chosen_past false w u us h = h

chosen_by : (name : List ℕ) (us : List Uid) (u : Uid) → Has us u → u.type_name ≡ name → Has (of_type_name name us) u
chosen_by name [] u h e = absurd h
chosen_by name (w ∷ us) u (inl same) e = subst (Has (of_type_name name (w ∷ us))) same (chosen_first name w us (ap (λ (z : Uid). z.type_name) same ∙ e))
chosen_by name (w ∷ us) u (inr later) e = chosen_past (bytes_eq name w.type_name) w u (of_type_name name us) (chosen_by name us u later e)

-- ---- values under keys

module _ (f : List ℕ → Value) where
  abbrev keyed : List (List ℕ) → Fields
  keyed ks = map (λ (k : List ℕ). (k, f k)) ks

  found_at : (k key : List ℕ) (ks : List (List ℕ)) (b : Bool) → bytes_eq key k ≡ b → (Has ks key → field key (keyed ks) ≡ Some (f key)) → Has (k ∷ ks) key
      → cond b (Some (f k)) (field key (keyed ks)) ≡ Some (f key)
  found_at k key ks true e next h = ap (λ (n : List ℕ). Some (f n)) (sym (bytes_eq_true key k e))
  found_at k key ks false e next (inl same) = absurd (true_both (bytes_eq key k) ((bytes_eq-Decides key k).1 (sym same)) e)
  found_at k key ks false e next (inr later) = next later

  key_found : (ks : List (List ℕ)) (key : List ℕ) → Has ks key → field key (keyed ks) ≡ Some (f key)
  key_found [] key h = absurd h
  key_found (k ∷ ks) key h = found_at k key ks (bytes_eq key k) refl (λ g. key_found ks key g) h

  none_at : (k key : List ℕ) (ks : List (List ℕ)) (b : Bool) → bytes_eq key k ≡ b → (Has (k ∷ ks) key → ⊥) → field key (keyed ks) ≡ None → cond b (Some (f k)) (field key (keyed ks)) ≡ None
  none_at k key ks true e h next = absurd (h (inl (sym (bytes_eq_true key k e))))
  none_at k key ks false e h next = next

  key_none : (ks : List (List ℕ)) (key : List ℕ) → (Has ks key → ⊥) → field key (keyed ks) ≡ None
  key_none [] key h = refl
  key_none (k ∷ ks) key h = none_at k key ks (bytes_eq key k) refl h (key_none ks key (λ g. h (inr g)))

-- ---- terms of variables

module _ (d : Declarations) (env : Env) (literals : List Uid) where
  principal_told : (j k : Sort) → IsTermOf d env literals j (leaf (leafs.Principal k)) → k ≡ entity_sort d env.principal
  principal_told _ _ judged.of_principal = refl

  resource_told : (j k : Sort) → IsTermOf d env literals j (leaf (leafs.Resource k)) → k ≡ entity_sort d env.resource
  resource_told _ _ judged.of_resource = refl

module _ (m : Model) where
  -- a record's value is the record of its fields
  whole_val : (k : Sort) (fs : SortFields) (x : Tree) → k ≡ sort.Record fs → it (value.Record (record_in (val_of m k x))) ≡ val_of m k x
  whole_val k fs x e =
      let at = ap (λ (j : Sort). val_of m j x) e ∙ record_val m fs x in
      ap (λ (v : Val). it (value.Record (record_in v))) at ∙ ap (λ (r : Fields). it (value.Record r)) (ap fields_seen (out.out_Record (fields_at m fs x))) ∙ sym at

  -- what is no option is a value
  it_by : (k : Sort) (l : Sort-F Sort) (x : Tree) → out-Sort k ≡ l → is_option_level Sort l ≡ false → it (value_in (val_of m k x)) ≡ val_of m k x
  it_by k s.Bool x e n = rw (val_at m k s.Bool x e) refl
  it_by k s.Long x e n = rw (val_at m k s.Long x e) refl
  it_by k s.String x e n = rw (val_at m k s.String x e) refl
  it_by k s.Decimal x e n = rw (val_at m k s.Decimal x e) refl
  it_by k s.Ip x e n = rw (val_at m k s.Ip x e) refl
  it_by k (s.Entity name us) x e n = rw (val_at m k (s.Entity name us) x e) refl
  it_by k (s.Set j) x e n = rw (val_at m k (s.Set j) x e) refl
  it_by k (s.Record fs) x e n = rw (val_at m k (s.Record fs) x e) refl
  it_by k (s.Option j) x e n = absurd cc

  is_value : (k : Sort) (x : Tree) → is_option k ≡ false → it (value_in (val_of m k x)) ≡ val_of m k x
  is_value k x n = it_by k (out-Sort k) x refl n

module _ (d : Declarations) (env : Env) (literals : List Uid) (goal : Tree) (made : AreMade d env literals goal) (m : Model) (model : IsModel d env goal m) (lawful : IsLawful d) (is : IsGoal d env literals goal)
    (agree : EquationsAgree) (addresses : AreAddresses) (w : World) (r : IsRebuilt d env literals m w) where
  -- ---- variables

  right_principal : (k : Sort) → Closed d env goal (leaf (leafs.Principal k)) → IsRight m w (leaf (leafs.Principal k))
  right_principal k c =
      subst (λ (j : Sort). IsRight m w (leaf (leafs.Principal j))) (sym (principal_told d env literals (tree_sort (leaf (leafs.Principal k))) k (made (leaf (leafs.Principal k)) c)))
      (leaf_is (leafs.Principal (entity_sort d env.principal)) w ∙ ap (λ (q : Request). it (value.Entity q.principal)) r.request
      ∙ sym (ap (λ (j : Sort). val_of m j (principal_term d env)) (principal_sort (entity_sort d env.principal)) ∙ entity_val m env.principal (choices_of d env.principal) (principal_term d env)))

  right_resource : (k : Sort) → Closed d env goal (leaf (leafs.Resource k)) → IsRight m w (leaf (leafs.Resource k))
  right_resource k c =
      subst (λ (j : Sort). IsRight m w (leaf (leafs.Resource j))) (sym (resource_told d env literals (tree_sort (leaf (leafs.Resource k))) k (made (leaf (leafs.Resource k)) c)))
      (leaf_is (leafs.Resource (entity_sort d env.resource)) w ∙ ap (λ (q : Request). it (value.Entity q.resource)) r.request
      ∙ sym (ap (λ (j : Sort). val_of m j (resource_term d env)) (resource_sort (entity_sort d env.resource)) ∙ entity_val m env.resource (choices_of d env.resource) (resource_term d env)))

  context_told_by : (k : Sort) → Closed d env goal (leaf (leafs.Context k)) → (t : Ty) × (context_of d env.action ≡ Some t) × (k ≡ sort_of t)
  context_told_by k c = context_of_term d env literals (tree_sort (leaf (leafs.Context k))) k (made (leaf (leafs.Context k)) c)

  right_context : (k : Sort) → Closed d env goal (leaf (leafs.Context k)) → IsRight m w (leaf (leafs.Context k))
  right_context k c =
      let p = context_told_by k c in
      let fs = record_sort d p.0 (context_type d lawful env.action p.0 p.1) in
      let fields : (request_of d env m).context ≡ record_in (val_of m k (leaf (leafs.Context k))) =
      said_is (context_said m) (default_fields d (context_of d env.action)) (record_in (val_of m k (leaf (leafs.Context k)))) m.closed (leaf (leafs.Context k)) ((model.listed (leaf (leafs.Context k))).1 c) refl
      (λ y q h e.
      let l = context_told m y q e in
      let o = context_told_by l.own (subst (Closed d env goal) l.is ((model.listed y).0 h)) in
      let kinds : l.own ≡ k = o.2 ∙ ap sort_of (same_some (sym o.1 ∙ p.1)) ∙ sym p.2 in
      l.said ∙ ap (λ (z : Tree). record_in (val_of m l.own z)) l.is ∙ ap (λ (j : Sort). record_in (val_of m j (leaf (leafs.Context j)))) kinds) in
      leaf_is (leafs.Context k) w ∙ ap (λ (q : Request). it (value.Record q.context)) r.request ∙ ap (λ (q : Fields). it (value.Record q)) fields
      ∙ whole_val m k fs.0 (leaf (leafs.Context k)) (p.2 ∙ fs.1) ∙ sym (ap (λ (j : Sort). val_of m j (leaf (leafs.Context k))) (context_sort k))

  right_variable : (l : Leaf) → is_variable l ≡ true → Closed d env goal (leaf l) → IsRight m w (leaf l)
  right_variable (leafs.Literal k) e c = absurd cc
  right_variable (leafs.None k) e c = absurd cc
  right_variable (leafs.Principal k) e c = right_principal k c
  right_variable (leafs.Resource k) e c = right_resource k c
  right_variable (leafs.Context k) e c = right_context k c

  -- ---- entities

  uid_right : (name : List ℕ) (e : Tree) → tree_sort e ≡ entity_sort d name → IsRight m w e → uid_in (val e w) ≡ m.uid e
  uid_right name e s q = ap uid_in (q ∙ ap (λ (j : Sort). val_of m j e) s ∙ entity_val m name (choices_of d name) e) ∙ ap uid_seen (out.out_Entity (m.uid e))

  text_right : (x : Tree) → tree_sort x ≡ sort.String → IsRight m w x → text_in (val x w) ≡ m.text x
  text_right x e q = ap text_in (q ∙ ap (λ (j : Sort). val_of m j x) e ∙ val_at m sort.String s.String x out_String) ∙ ap text_seen (out.out_String (m.text x))

  -- of a type that lists no entities what closed terms tell is stored
  told_stored : (name : List ℕ) (e : Tree) → tree_sort e ≡ entity_sort d name → choices_of d name ≡ [] → Closed d env goal e → stored (m.uid e) w.store ≡ Some (data_of d m (m.uid e))
  told_stored name e s n c =
      plain_stored d env literals goal made m model lawful is (request_of d env m) w.store r.given r.stored name e (s ∙ ap (sort.Entity name) n) c

  listed_as : (name : List ℕ) (e : Tree) → tree_sort e ≡ entity_sort d name → (choices_of d name ≡ [] → ⊥) → choices_of d (m.uid e).type_name ≡ [] → ⊥
  listed_as name e s some none = some (ap (choices_of d) (sym (named_type d env literals goal made m model name e s)) ∙ none)

  -- ---- attributes

  told_attributes : (k : Sort) (e : Tree) → Closed d env goal (one (unary.Attributes k) e) → (data_of d m (m.uid e)).attrs ≡ record_in (val_of m k (one (unary.Attributes k) e))
  told_attributes k e c =
      said_is (attributes_said m (m.uid e)) (default_attrs d (m.uid e).type_name) (record_in (val_of m k (one (unary.Attributes k) e))) m.closed (one (unary.Attributes k) e)
      ((model.listed (one (unary.Attributes k) e)).1 c) (says_attributes m (m.uid e) k e refl)
      (λ y q h g.
      let l = attributes_told m (m.uid e) y q g in
      let c2 : Closed d env goal (one (unary.Attributes l.own) l.entity) = subst (Closed d env goal) l.is ((model.listed y).0 h) in
      l.said ∙ ap (λ (z : Tree). record_in (val_of m l.own z)) l.is ∙ ap record_in (one_attributes d env literals goal made m model lawful is agree addresses l.own k l.entity e c2 c l.named))

  right_attributes : (k : Sort) (e : Tree) → Closed d env goal (one (unary.Attributes k) e) → IsRight m w e → IsRight m w (one (unary.Attributes k) e)
  right_attributes k e c q =
      let p = of_attributes d env literals (tree_sort (one (unary.Attributes k) e)) k e (made (one (unary.Attributes k) e) c) in
      one_is (unary.Attributes k) e w ∙ ap (λ (u : Uid). it (attributes_value k (stored u w.store))) (uid_right p.name e p.sorted q)
      ∙ by p.name p.type p.declared p.own p.sorted (choices_of d p.name) refl ∙ sym (ap (λ (j : Sort). val_of m j (one (unary.Attributes k) e)) (attributes_sort k e)) where
        empty : (name : List ℕ) → tree_sort e ≡ entity_sort d name → (choices_of d name ≡ [] → ⊥) → k ≡ sort.Record [] → (o : Option EntityData) → stored (m.uid e) w.store ≡ o → attributes_value k o ≡ value.Record []
        empty name s a n None f = ap default_of n ∙ plain.default_Record []
        empty name s a n (Some x) f =
            let some = listed_as name e s a in
            ap (λ (y : EntityData). value.Record y.attrs) (listed_stored d env literals goal made m model lawful is (request_of d env m) w.store r.given r.stored (m.uid e) x some f)
            ∙ ap value.Record (no_attributes d lawful (m.uid e).type_name some)

        by : (name : List ℕ) (t : Ty) → attrs_of d name ≡ Some t → k ≡ sort_of t → tree_sort e ≡ entity_sort d name → (us : List Uid) → choices_of d name ≡ us
            → it (attributes_value k (stored (m.uid e) w.store)) ≡ val_of m k (one (unary.Attributes k) e)
        by name t g o s [] n =
            let fs = record_sort d t (attributes_type d lawful name t g) in
            ap (λ (x : Option EntityData). it (attributes_value k x)) (told_stored name e s n (of_part d env goal (one (unary.Attributes k) e) e c (inl refl)))
            ∙ ap (λ (x : Fields). it (value.Record x)) (told_attributes k e c)
            ∙ whole_val m k fs.0 (one (unary.Attributes k) e) (o ∙ fs.1)
        by name t g o s (u ∷ us) n =
            let some : choices_of d name ≡ [] → ⊥ = λ (f : choices_of d name ≡ []). let both : u ∷ us ≡ [] = sym n ∙ f in absurd cc in
            let none = o ∙ listed_sort d lawful name t some g in
            ap it (empty name s some none (stored (m.uid e) w.store) refl)
            ∙ sym (ap (λ (j : Sort). val_of m j (one (unary.Attributes k) e)) none ∙ record_val m [] (one (unary.Attributes k) e))

  -- ---- ancestors

  -- the stored ancestors of a type are those of the model
  ancestors_right : (k : Sort) (e : Tree) (above : List ℕ) (us : List Uid) → k ≡ entity_sort d above → IsStrictlySortedBy uid_cmp us
      → ((v : Uid) → Has (map m.uid (assigned m (one (unary.Ancestors k) e))) v ↔ Has (of_type_name above us) v)
      → it (value.Set (map value.Entity (of_type_name above us))) ≡ val_of m (tree_sort (one (unary.Ancestors k) e)) (one (unary.Ancestors k) e)
  ancestors_right k e above us own a h =
      let ys : List Tree = assigned m (one (unary.Ancestors k) e) in
      let x : Tree = one (unary.Ancestors k) e in
      let uid_at : (y : Tree) → val_of m k y ≡ it (value.Entity (m.uid y)) = λ y. ap (λ (j : Sort). val_of m j y) own ∙ entity_val m above (choices_of d above) y in
      let vals_are : map (λ y. value_in (val_of m k y)) ys ≡ map value.Entity (map m.uid ys) = (λ i. map (λ y. value_in (uid_at y i)) ys) ∙ sym (map-map value.Entity m.uid ys) in
      ap (λ (q : List Value). it (value.Set q))
      (set_is (map value.Entity (of_type_name above us)) (map value.Entity (map m.uid ys))
      (ascend_map uid_cmp value_cmp value.Entity entity_cmp (of_type_name above us) (IsStrictlySortedBy-filter uid_cmp (λ (z : Uid). bytes_eq above z.type_name) us a))
      (same_map value.Entity (of_type_name above us) (map m.uid ys) (λ v. ((h v).1, (h v).0))))
      ∙ ap (λ (q : List Value). it (value.Set (set_from q))) (sym vals_are)
      ∙ sym (ap (λ (j : Sort). val_of m j x) (ancestors_sort k e) ∙ set_val m k x)

  told_ancestors : (k : Sort) (e : Tree) → Closed d env goal (one (unary.Ancestors k) e) → (p : OfAncestors d env literals k e) (v : Uid)
      → Has (map m.uid (assigned m (one (unary.Ancestors k) e))) v ↔ Has (of_type_name p.above (data_of d m (m.uid e)).ancestors) v
  told_ancestors k e c p v = (
    λ h.
        let y = map-Has m.uid (assigned m (one (unary.Ancestors k) e)) v h in
        let there = assigned_sorted d env literals goal made m model k (one (unary.Ancestors k) e) y.0 (ancestors_sort k e) y.1 in
        subst (Has (of_type_name p.above (data_of d m (m.uid e)).ancestors)) y.2
        (chosen_by p.above (data_of d m (m.uid e)).ancestors (m.uid y.0) (ancestor_is d env literals goal made m model lawful is (m.uid e) k e y.0 c refl y.1)
        (named_type d env literals goal made m model p.above y.0 (there.1 ∙ p.own))),
    λ h.
        let n = named_choice p.above (data_of d m (m.uid e)).ancestors v h in
        let a = is_ancestor d env literals goal made m model lawful is (m.uid e) v (Has-from_Contains (data_of d m (m.uid e)).ancestors v n.0) in
        let q = of_ancestors d env literals (tree_sort (one (unary.Ancestors a.own) a.entity)) a.own a.entity (made (one (unary.Ancestors a.own) a.entity) a.closed) in
        let there = assigned_sorted d env literals goal made m model a.own (one (unary.Ancestors a.own) a.entity) a.member (ancestors_sort a.own a.entity) a.among in
        let names : q.above ≡ p.above = sym (named_type d env literals goal made m model q.above a.member (there.1 ∙ q.own)) ∙ ap (λ (z : Uid). z.type_name) a.said ∙ n.1 in
        let kinds : a.own ≡ k = q.own ∙ ap (entity_sort d) names ∙ sym p.own in
        let c2 : Closed d env goal (one (unary.Ancestors k) a.entity) = subst (λ (j : Sort). Closed d env goal (one (unary.Ancestors j) a.entity)) kinds a.closed in
        let among : Has (assigned m (one (unary.Ancestors k) a.entity)) a.member = subst (λ (j : Sort). Has (assigned m (one (unary.Ancestors j) a.entity)) a.member) kinds a.among in
        subst (Has (map m.uid (assigned m (one (unary.Ancestors k) e)))) a.said
        (Has-map m.uid (assigned m (one (unary.Ancestors k) e)) a.member (ancestors_move d env literals goal made m model k a.entity e a.member c2 c a.named among)),
  )

  declared_ascend : (u : Uid) → Contains (action_uids d) u → IsStrictlySortedBy uid_cmp (unwrap_or (action_ancestors d u) [])
  declared_ascend u h =
      let a = action_of d lawful u h in
      let ups : action_ancestors d u ≡ Some a.0.ancestors = ap (option_map (λ (b : Action). b.ancestors)) (ap (action d) (sym a.2) ∙ action_found d a.0 lawful a.1) in
      subst (λ (o : Option (List Uid)). IsStrictlySortedBy uid_cmp (unwrap_or o [])) (sym ups) (lawful_action d lawful a.0 a.1).ascending

  right_ancestors : (k : Sort) (e : Tree) → Closed d env goal (one (unary.Ancestors k) e) → IsRight m w e → IsRight m w (one (unary.Ancestors k) e)
  right_ancestors k e c q = by (of_ancestors d env literals (tree_sort (one (unary.Ancestors k) e)) k e (made (one (unary.Ancestors k) e) c)) where
    at : (p : OfAncestors d env literals k e) (x : EntityData) → stored (m.uid e) w.store ≡ Some x → val (one (unary.Ancestors k) e) w ≡ it (value.Set (map value.Entity (of_type_name p.above x.ancestors)))
    at p x f =
        one_is (unary.Ancestors k) e w
        ∙ ap (λ (u : Uid). it (ancestors_value (name_in (out-Sort k)) (stored u w.store))) (uid_right p.name e p.sorted q)
        ∙ ap (λ (j : Sort). it (ancestors_value (name_in (out-Sort j)) (stored (m.uid e) w.store))) p.own
        ∙ ap (λ (l : Sort-F Sort). it (ancestors_value (name_in l) (stored (m.uid e) w.store))) (out_Entity p.above (choices_of d p.above))
        ∙ ap (λ (o : Option EntityData). it (ancestors_value p.above o)) f

    either : (p : OfAncestors d env literals k e) (b : Bool) → is_action_type d p.name ≡ b → IsRight m w (one (unary.Ancestors k) e)
    either p false n =
        at p (data_of d m (m.uid e)) (told_stored p.name e p.sorted (below_lists d lawful p.name p.above p.names p.declared p.among n) (of_part d env goal (one (unary.Ancestors k) e) e c (inl refl)))
        ∙ ancestors_right k e p.above (data_of d m (m.uid e)).ancestors p.own (ancestors_ascend d env literals goal made m model lawful is (m.uid e)) (told_ancestors k e c p)
    either p true n =
        let acts = is_action d env literals goal made m model lawful k e c p n in
        at p (default_data d (m.uid e))
        (named_stored d env literals goal made m model lawful is (request_of d env m) w.store r.given r.stored (m.uid e) (listed_as p.name e p.sorted (λ none. let both : true ≡ false = sym n ∙ no_actions d p.name none in absurd cc)) (of_schema acts))
        ∙ ancestors_right k e p.above (unwrap_or (action_ancestors d (m.uid e)) []) p.own (declared_ascend (m.uid e) acts) (action_members d env literals goal made m model lawful k e c p n)

    by : OfAncestors d env literals k e → IsRight m w (one (unary.Ancestors k) e)
    by p = either p (is_action_type d p.name) refl

  -- ---- keys

  abbrev keys : Tree → List (List ℕ)
  keys e = keys_at d env literals goal made m model lawful is (m.uid e)

  key_listed : (e y : Tree) → Closed d env goal (one unary.Keys e) → Has (assigned m (one unary.Keys e)) y → Has (keys e) (m.text y)
  key_listed e y c h =
      has_ordered text_total exact_bytes (flat_map (keys_said m (m.uid e)) m.closed) (m.text y)
      (Has-flat_map (keys_said m (m.uid e)) m.closed (one unary.Keys e) (m.text y) ((model.listed (one unary.Keys e)).1 c) (says_key m (m.uid e) e y refl h))

  -- a key that is told is one of the model
  listed_key : (e : Tree) (key : List ℕ) → Closed d env goal (one unary.Keys e) → Has (keys e) key → (y : Tree) × Has (assigned m (one unary.Keys e)) y × (m.text y ≡ key)
  listed_key e key c h =
      let a = is_key d env literals goal made m model lawful is (m.uid e) key h in
      (a.member, keys_move d env literals goal made m model a.entity e a.member a.closed c a.named a.among, a.said)

  told_keys : (e : Tree) → Closed d env goal (one unary.Keys e) → (t : List ℕ) → Has (keys e) t ↔ Has (map m.text (assigned m (one unary.Keys e))) t
  told_keys e c t = (
    λ h. let y = listed_key e t c h in subst (Has (map m.text (assigned m (one unary.Keys e)))) y.2 (Has-map m.text (assigned m (one unary.Keys e)) y.0 y.1),
    λ h. let y = map-Has m.text (assigned m (one unary.Keys e)) t h in subst (Has (keys e)) y.2 (key_listed e y.0 c y.1),
  )

  right_keys : (e : Tree) → Closed d env goal (one unary.Keys e) → IsRight m w e → IsRight m w (one unary.Keys e)
  right_keys e c q =
      let p = of_keys d env literals (tree_sort (one unary.Keys e)) e (made (one unary.Keys e) c) in
      let ys : List Tree = assigned m (one unary.Keys e) in
      let vals_are : map (λ y. value_in (val_of m sort.String y)) ys ≡ map value.String (map m.text ys) =
      (λ i. map (λ y. value_in (val_at m sort.String s.String y out_String i)) ys) ∙ sym (map-map value.String m.text ys) in
      one_is unary.Keys e w ∙ ap (λ (u : Uid). it (keys_value (stored u w.store))) (uid_right p.name e p.sorted q)
      ∙ ap (λ (o : Option EntityData). it (keys_value o)) (told_stored p.name e p.sorted (tagged_lists d lawful p.name p.type p.declared) (of_part d env goal (one unary.Keys e) e c (inl refl)))
      ∙ ap (λ (vs : List Value). it (value.Set vs)) (map-map (λ (f : List ℕ × Value). value.String f.0) (tag_at d m (m.uid e)) (keys e))
      ∙ ap (λ (vs : List Value). it (value.Set vs))
      (set_is (map value.String (keys e)) (map value.String (map m.text ys))
      (ascend_map text_cmp value_cmp value.String string_cmp (keys e) (keys_ascend d env literals goal made m model lawful is (m.uid e)))
      (same_map value.String (keys e) (map m.text ys) (told_keys e c)))
      ∙ ap (λ (vs : List Value). it (value.Set (set_from vs))) (sym vals_are)
      ∙ sym (ap (λ (j : Sort). val_of m j (one unary.Keys e)) (keys_sort e) ∙ set_val m sort.String (one unary.Keys e))

  -- ---- tags

  told_tag : (k : Sort) (e x : Tree) → Closed d env goal (two (binary.Tag k) e x) → (tag_at d m (m.uid e) (m.text x)).1 ≡ value_in (val_of m k (two (binary.Tag k) e x))
  told_tag k e x c =
      said_is (tag_said m (m.uid e) (m.text x)) (tag_default d (tags_of d (m.uid e).type_name)) (value_in (val_of m k (two (binary.Tag k) e x))) m.closed (two (binary.Tag k) e x)
      ((model.listed (two (binary.Tag k) e x)).1 c) (says_tag m (m.uid e) k e x refl)
      (λ y q h g.
      let l = tag_told m (m.uid e) (m.text x) y q g in
      let c2 : Closed d env goal (two (binary.Tag l.own) l.entity l.under) = subst (Closed d env goal) l.is ((model.listed y).0 h) in
      l.said ∙ ap (λ (z : Tree). value_in (val_of m l.own z)) l.is ∙ ap value_in (one_tag d env literals goal made m model lawful is agree addresses l.own k l.entity e l.under x c2 c l.named l.keyed))

  right_tag : (k : Sort) (e x : Tree) → Closed d env goal (two (binary.Tag k) e x) → IsRight m w e → IsRight m w x → IsRight m w (two (binary.Tag k) e x)
  right_tag k e x c q t =
      let p = of_tag d env literals (tree_sort (two (binary.Tag k) e x)) k e x (made (two (binary.Tag k) e x) c) in
      let plain_sort : is_option k ≡ false = ap is_option p.own ∙ no_option p.type in
      two_is (binary.Tag k) e x w
      ∙ (λ i. it (tag_value k (text_right x p.key t i) (stored (uid_right p.name e p.sorted q i) w.store)))
      ∙ ap (λ (o : Option EntityData). it (tag_value k (m.text x) o)) (told_stored p.name e p.sorted (tagged_lists d lawful p.name p.type p.declared) (of_part d env goal (two (binary.Tag k) e x) e c (inl refl)))
      ∙ by plain_sort (lit m.truths (two binary.Member x (one unary.Keys e))) refl
      ∙ sym (ap (λ (j : Sort). val_of m j (two (binary.Tag k) e x)) (tag_sort k e x)) where
        keys_closed : Closed d env goal (one unary.Keys e)
        keys_closed = tag_keys d env goal k e x c

        by : is_option k ≡ false → (b : Bool) → lit m.truths (two binary.Member x (one unary.Keys e)) ≡ b
            → it (unwrap_or (field (m.text x) (data_of d m (m.uid e)).tags) (default_of k)) ≡ val_of m k (two (binary.Tag k) e x)
        by n true f =
            let among = key_listed e x keys_closed (true_member d env literals goal made m model (one unary.Keys e) x (tag_key d env goal k e x c) f) in
            ap (λ (o : Option Value). it (unwrap_or o (default_of k))) (key_found (λ key. (tag_at d m (m.uid e) key).1) (keys e) (m.text x) among)
            ∙ ap it (told_tag k e x c) ∙ is_value m k (two (binary.Tag k) e x) n
        by n false f =
            let none = key_none (λ key. (tag_at d m (m.uid e) key).1) (keys e) (m.text x) (λ h.
            let y = listed_key e (m.text x) keys_closed h in
            true_both (lit m.truths (two binary.Member x (one unary.Keys e))) (text_key d env literals goal made m model k e x y.0 c y.1 y.2) f) in
            ap (λ (o : Option Value). it (unwrap_or o (default_of k))) none
            ∙ sym (absent_tag d env literals goal made m model lawful is agree addresses k e x c f ∙ ap (λ (b : Bool). default_by b (default_of k)) n)

  -- ---- all

  right_stored : (o : UnaryOp) (e : Tree) → is_stored o ≡ true → Closed d env goal (one o e) → IsRight m w e → IsRight m w (one o e)
  right_stored (unary.Attributes k) e h c q = right_attributes k e c q
  right_stored (unary.Ancestors k) e h c q = right_ancestors k e c q
  right_stored unary.Keys e h c q = right_keys e c q
  right_stored _ e h c q = absurd cc

  pub holds_model : HoldsModel d env goal m w
  holds_model = record { variables = right_variable; stored = right_stored; tags = right_tag }
