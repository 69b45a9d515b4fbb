-- Record and set terms, and what an option holds, have their values where their parts have theirs.
use Rattle.std.proofs.Common.{◌≡◌, inl, inr, ℕ, Bool, true, false, not, cond, List, [], ◌∷◌, ◌++◌, map, flat_map, Option, Some, None, pos, refl, sym, ap, ◌∙◌, subst}
use Rattle.std.specs.List.{AllByRecursion}
use Rattle.std.specs.List.Sorted.{IsStrictlySortedBy}
use Rattle.std.specs.Map.{lookup, keys_of}
use Rattle.std.specs.Str.{bytes_eq}
use Rattle.std.proofs.lemmas.Slice.Eq.{bytes_eq-Decides}
use Rattle.sc_laws.proofs.BoolLaws.{not_not}
use Rattle.sc_laws.proofs.OptionLaws.{same_some}
use Rattle.sc_lists.proofs.MemberLaws.{Has-map, map-Has}
use Rattle.sc_lists.specs.Members.{Has}
use Rattle.sc_names.specs.declared.uid.Uid.{Uid}
use Rattle.sc_names.specs.Uids.{text_cmp}
use Rattle.sc_schema.specs.declared.declarations.Env.{Env}
use Rattle.sc_schema.specs.Declarations.{Declarations}
use Rattle.sc_values.specs.declared.value.Value.{Value}
use Rattle.sc_values.specs.declared.value.Value.TheVariants as value
use Rattle.sc_world.specs.declared.world.World.{World}
use Rattle.sc_sorts.specs.declared.sort.Sort.{Sort, out-Sort}
use Rattle.sc_sorts.specs.declared.sort.Sort.TheVariants as sort
use Rattle.sc_sorts.specs.Inside.{SortField, SortFields, held_sort}
use Rattle.sc_sorts.proofs.EveryLaws.{in_Record}
use Rattle.sc_sorts.proofs.OutLaws.{out_Option}
use Rattle.sc_sorts.specs.Defaults.{is_option_level, default_uid}
use Rattle.sc_ip.specs.declared.ip.Ip.TheVariants.{V4}
use Rattle.sc_sorts.specs.declared.node.Literal.{Literal}
use Rattle.sc_sorts.specs.declared.node.Literal.TheVariants as literal
use Rattle.sc_sorts.specs.declared.node.UnaryOp.TheVariants as unary
use Rattle.sc_sorts.specs.declared.node.BinaryOp.TheVariants as binary
use Rattle.sc_sorts.specs.declared.node.ManyOp.TheVariants as manys
use Rattle.sc_terms.specs.Trees.{Tree, one, two, many, Trees, no_part, part, listed, parts_of}
use Rattle.sc_terms.specs.TreeSorts.{tree_sort}
use Rattle.sc_terms.specs.Folds.{literal_of, literal_term, truth_term, equal_by, equal_term, field_by, field_term, present_term, held_term, default_term, default_parts}
use Rattle.sc_terms.specs.Values.{Val, it, yes, val, vals, value_in, option_in, field_of, set_from, held_value, default_val}
use Rattle.sc_terms.proofs.DefaultLaws.{default_Bool, default_Long, default_String, default_Decimal, default_Ip, default_Entity, default_Set, default_Option, default_Record}
use Rattle.sc_terms.proofs.DefaultValues.{default_is}
use Rattle.sc_terms.proofs.FoldValues.{many_is, one_is, truth_is}
use Rattle.sc_term_laws.specs.Judging.{IsTermOf, HaveFields, HaveSort}
use Rattle.sc_term_laws.specs.Judging as judged
use Rattle.sc_term_laws.specs.Tests.{is_bool}
use Rattle.sc_term_laws.specs.Unfolded.{stays_option}
use Rattle.sc_term_laws.proofs.FitRecords.{all_apart}
use Rattle.sc_term_laws.proofs.JudgingLaws.{sort_is, fields_are, held_of}
use Rattle.sc_term_laws.specs.LawfulSorts.{IsSortOf, IsSortLevel}
use Rattle.sc_term_laws.proofs.DefaultMade.{default_made}
use Rattle.sc_term_laws.proofs.UnfoldedLaws.{held_stays}
use Rattle.sc_rule_laws.specs.Signed.{so}
use Rattle.sc_rule_laws.specs.Terms.{members, is_option}
use Rattle.sc_rule_laws.specs.Equal.{eq8}
use Rattle.sc_rule_laws.proofs.EquationLaws.{no_constant}
use Rattle.sc_closure_rules.specs.Closure.{Closed, trees_in}
use Rattle.sc_model_laws.specs.Assignments.{lit}
use Rattle.sc_model_laws.specs.Consistent.{of_eq8}
use Rattle.sc_model_laws.specs.Vals.{Model, held_by, val_of}
use Rattle.sc_model_laws.specs.Models.{IsModel}
use Rattle.sc_model_laws.specs.Rows.{IsRight}
use Rattle.sc_model_laws.proofs.ClaimLaws.{AreTerms, AreAddresses, no_truth}
use Rattle.sc_model_laws.proofs.ClosedLaws.{members_trees, of_part, present_closed, held_closed, default_closed}
use Rattle.sc_model_laws.proofs.CompositeClaims.{one_set, ruled, passed, held_sorted, held_plain}
use Rattle.sc_model_laws.proofs.SetClaims.{claims}
use Rattle.sc_model_laws.proofs.EquationTerms.{Equation, is_one, are_literals, is_straight, is_turned, equation_of, lit_not}
use Rattle.sc_model_laws.proofs.HoldLaws.{second}
use Rattle.sc_model_laws.proofs.RowLaws.{bool_only, at_sort, from_sort, right_literal, right_none}
use Rattle.sc_closure_rules.proofs.SortLaws.{key_at}
use Rattle.sc_model_laws.proofs.SortSteps.{by_sorts}
use Rattle.sc_model_laws.proofs.ValLaws.{val_Bool, val_Set, val_Option, val_Record, is_it}

-- ---- the members of a set term

abbrev vals_in : Trees → World → List Value
vals_in ts w = map (λ (x : List ℕ × Val). value_in x.1) (vals ts w)

-- one of the terms has a value
record HasTerm (ts : Trees) (w : World) (v : Value) : Type 0 where
  term : Tree
  there : Has (trees_in ts) term
  value_is : value_in (val term w) ≡ v

vals_have : (ts : Trees) (w : World) (v : Value) → Has (vals_in ts w) v → HasTerm ts w v
unfolding val
vals_have no_part w v h = absurd h
vals_have (part l t ts) w v (inl e) = record { term = t; there = inl refl; value_is = e }
vals_have (part l t ts) w v (inr later) = let next = vals_have ts w v later in record { term = next.term; there = inr next.there; value_is = next.value_is }

have_vals : (ts : Trees) (w : World) (t : Tree) → Has (trees_in ts) t → Has (vals_in ts w) (value_in (val t w))
unfolding val
have_vals no_part w t h = absurd h
have_vals (part l u ts) w t (inl e) = inl (ap (λ z. value_in (val z w)) e)
have_vals (part l u ts) w t (inr later) = inr (have_vals ts w t later)

-- ---- the fields of a record term

module _ (d : Declarations) (env : Env) (literals : List Uid) (w : World) where
  -- the part of a field
  part_at : (fs : SortFields) (ts : Trees) (f : SortField) → HaveFields d env literals fs ts → IsStrictlySortedBy text_cmp (keys_of fs) → Has fs f
      → (t : Tree) × (lookup (bytes_eq f.0) (listed ts) ≡ Some t) × Has (trees_in ts) t × IsTermOf d env literals f.1 t
  unfolding IsStrictlySortedBy
  part_at _ _ f judged.no_field a h = absurd h
  part_at _ _ f (judged.with_field name k fs t ts i more) a (inl e) =
      let here : lookup (bytes_eq f.0) (listed (part name t ts)) ≡ Some t =
      ap (λ (b : Bool). cond b (Some t) (lookup (bytes_eq f.0) (listed ts))) (ap (λ (g : SortField). bytes_eq g.0 name) (sym e) ∙ (bytes_eq-Decides name name).1 refl) in
      (t, here, inl refl, subst (λ (g : SortField). IsTermOf d env literals g.1 t) e i)
  part_at _ _ f (judged.with_field name k fs t ts i more) a (inr later) =
      let differs : bytes_eq f.0 name ≡ false = key_at (λ m. bytes_eq m name ≡ false) fs f (all_apart name (keys_of fs) a.0) later in
      let next = part_at fs ts f more a.1 later in
      (next.0, ap (λ (b : Bool). cond b (Some t) (lookup (bytes_eq f.0) (listed ts))) differs ∙ next.1, inr next.2, next.3)

  -- where each field's value is that of its part, the record is that of the parts
  fields_same : (g : SortField → Val) (fs : SortFields) (ts : Trees) → HaveFields d env literals fs ts → IsStrictlySortedBy text_cmp (keys_of fs)
      → ((f : SortField) → Has fs f → (t : Tree) → lookup (bytes_eq f.0) (listed ts) ≡ Some t → g f ≡ val t w)
      → flat_map (λ (f : SortField). field_of (f.0, g f)) fs ≡ flat_map field_of (vals ts w)
  unfolding IsStrictlySortedBy val
  fields_same g _ _ judged.no_field a h = refl
  fields_same g _ _ (judged.with_field name k fs t ts i more) a h =
      let here : lookup (bytes_eq name) (listed (part name t ts)) ≡ Some t =
      ap (λ (b : Bool). cond b (Some t) (lookup (bytes_eq name) (listed ts))) ((bytes_eq-Decides name name).1 refl) in
      let first : g (name, k) ≡ val t w = h (name, k) (inl refl) t here in
      let rest = fields_same g fs ts more a.1 (λ f there u e.
      let differs : bytes_eq f.0 name ≡ false = key_at (λ m. bytes_eq m name ≡ false) fs f (all_apart name (keys_of fs) a.0) there in
      h f (inr there) u (ap (λ (b : Bool). cond b (Some t) (lookup (bytes_eq f.0) (listed ts))) differs ∙ e)) in
      λ j. field_of (name, first j) ++ rest j

module _ (d : Declarations) (env : Env) (literals : List Uid) (goal : Tree) (addresses : AreAddresses) (terms : AreTerms d env literals goal) (m : Model) (is : IsModel d env goal m) (w : World) where
  field_part : (name : List ℕ) (ts : Trees) (t : Tree) → lookup (bytes_eq name) (listed ts) ≡ Some t → field_term name (many manys.Record ts) ≡ t
  unfolding field_term
  field_part name ts t e = ap (λ (o : Option Tree). field_by o name (many manys.Record ts)) e

  record_sort : (fs : SortFields) (ts : Trees) → HaveFields d env literals fs ts → tree_sort (many manys.Record ts) ≡ sort.Record fs
  unfolding tree_sort
  record_sort fs ts h = ap sort.Record (fields_are d env literals fs ts h)

  pub right_record : (fs : SortFields) (ts : Trees) → IsStrictlySortedBy text_cmp (keys_of fs) → HaveFields d env literals fs ts
      → ((t : Tree) → Has (trees_in ts) t → IsRight m w t) → IsRight m w (many manys.Record ts)
  right_record fs ts a h r =
      let x : Tree = many manys.Record ts in
      let same = fields_same d env literals w (λ (f : SortField). val_of m f.1 (field_term f.0 (many manys.Record ts))) fs ts h a (λ f there t e.
      let found = part_at d env literals w fs ts f h a there in
      let one : found.0 ≡ t = same_some (sym found.1 ∙ e) in
      ap (val_of m f.1) (field_part f.0 ts t e)
      ∙ sym (at_sort d env literals goal addresses terms m is w f.1 t (sort_is d env literals f.1 t (subst (IsTermOf d env literals f.1) one found.3)) (r t (subst (Has (trees_in ts)) one found.2)))) in
      from_sort d env literals goal addresses terms m is w (sort.Record fs) (many manys.Record ts) (record_sort fs ts h)
      (many_is manys.Record ts w ∙ ap (λ q. it (value.Record q)) (sym same) ∙ sym (val_Record m fs (many manys.Record ts)))

  -- ---- set terms

  set_sort : (k : Sort) (ts : Trees) → tree_sort (many (manys.Set k) ts) ≡ sort.Set k
  unfolding tree_sort
  set_sort k ts = refl

  sort_among : (k : Sort) (ts : Trees) (t : Tree) → HaveSort d env literals k ts → Has (trees_in ts) t → tree_sort t ≡ k
  sort_among _ _ t (judged.no_member k) h = absurd h
  sort_among _ _ t (judged.with_member k u ts i more) (inl e) = ap tree_sort (sym e) ∙ sort_is d env literals k u i
  sort_among _ _ t (judged.with_member k u ts i more) (inr later) = sort_among k ts t more later

  pub right_set : (k : Sort) (ts : Trees) → HaveSort d env literals k ts → ((t : Tree) → Has (trees_in ts) t → IsRight m w t) → IsRight m w (many (manys.Set k) ts)
  right_set k ts h r =
      let value_at : (t : Tree) → Has (trees_in ts) t → val t w ≡ val_of m k t = λ t n. at_sort d env literals goal addresses terms m is w k t (sort_among k ts t h n) (r t n) in
      let f : Tree → Value = λ y. value_in (val_of m k y) in
      let us : List Value = map (λ (x : List ℕ × Val). value_in x.1) (vals ts w) in
      let vs : List Value = map f (members ts) in
      let same : set_from us ≡ set_from vs = one_set us vs
      (λ v n.
      let t = vals_have ts w v n in
      subst (Has vs) (ap value_in (sym (value_at t.term t.there)) ∙ t.value_is) (Has-map f (members ts) t.term (subst (λ zs. Has zs t.term) (sym (members_trees ts)) t.there)))
      (λ v n.
      let t = map-Has f (members ts) v n in
      let there = subst (λ zs. Has zs t.0) (members_trees ts) t.1 in
      subst (Has us) (ap value_in (value_at t.0 there) ∙ t.2) (have_vals ts w t.0 there)) in
      from_sort d env literals goal addresses terms m is w (sort.Set k) (many (manys.Set k) ts) (set_sort k ts)
      (many_is (manys.Set k) ts w ∙ ap (λ q. it (value.Set q)) same ∙ sym (val_Set m k (many (manys.Set k) ts)))

  -- ---- defaults

  abbrev Defaulted : Sort → Type 0
  Defaulted k = IsSortOf d k → Closed d env goal (default_term k) → IsRight m w (default_term k)

  by_literal : (k : Sort) (l : Literal) → default_term k ≡ literal_term l → Defaulted k
  by_literal k l e h c = subst (IsRight m w) (sym e) (right_literal d env literals goal addresses terms m is w l (subst (Closed d env goal) e c))

  defaults_made : (fs : SortFields) → AllByRecursion (λ (f : SortField). IsSortOf d f.1) fs → HaveFields d env literals fs (parts_of (map (λ (f : SortField). (f.0, default_term f.1)) fs))
  defaults_made [] h = judged.no_field
  defaults_made (f ∷ fs) h =
      judged.with_field f.0 f.1 fs (default_term f.1) (parts_of (map (λ (f : SortField). (f.0, default_term f.1)) fs)) (default_made d env literals f.1 h.0) (defaults_made fs h.1)

  default_among : (fs : SortFields) (t : Tree) → AllByRecursion (λ (f : SortField). IsSortOf d f.1) fs → Has (trees_in (parts_of (map (λ (f : SortField). (f.0, default_term f.1)) fs))) t
      → (f : SortField) × Has fs f × (default_term f.1 ≡ t) × IsSortOf d f.1
  default_among [] t h n = absurd n
  default_among (f ∷ fs) t h (inl e) = (f, inl refl, e, h.0)
  default_among (f ∷ fs) t h (inr later) = let r = default_among fs t h.1 later in (r.0, inr r.1, r.2, r.3)

  default_record : (fs : SortFields) → ((f : SortField) → Has fs f → Defaulted f.1) → Defaulted (sort.Record fs)
  default_record fs known h c =
      let inside = (in_Record (IsSortLevel d) fs).0 h in
      let at : Closed d env goal (default_parts fs) = subst (Closed d env goal) (default_Record fs) c in
      subst (IsRight m w) (sym (default_Record fs))
      (right_record fs (parts_of (map (λ (f : SortField). (f.0, default_term f.1)) fs)) inside.0.0 (defaults_made fs inside.1) (λ t n.
      let f = default_among fs t inside.1 n in
      subst (IsRight m w) f.2 (known f.0 f.1 f.3 (subst (Closed d env goal) (sym f.2) (of_part d env goal (default_parts fs) t at n)))))

  defaulted : (k : Sort) → Defaulted k
  defaulted = by_sorts Defaulted (record {
    on_bool = by_literal sort.Bool (literal.Bool false) default_Bool;
    on_long = by_literal sort.Long (literal.Long (pos 0)) default_Long;
    on_string = by_literal sort.String (literal.String []) default_String;
    on_decimal = by_literal sort.Decimal (literal.Decimal (pos 0)) default_Decimal;
    on_ip = by_literal sort.Ip (literal.Ip (V4 0 32)) default_Ip;
    on_entity = λ name us. by_literal (sort.Entity name us) (literal.Entity (default_uid name us) us) (default_Entity name us);
    on_set = λ k known h c.
        subst (IsRight m w) (sym (default_Set k))
        (right_set k no_part (judged.no_member k) (λ t n. absurd n));
    on_record = default_record;
    on_option = λ k known h c. subst (IsRight m w) (sym (default_Option k)) (right_none d env literals goal addresses terms m is w k);
  })

  default_sorted : (k : Sort) → IsSortOf d k → tree_sort (default_term k) ≡ k
  default_sorted k h = sort_is d env literals k (default_term k) (default_made d env literals k h)

  pub default_right : (k : Sort) → IsSortOf d k → Closed d env goal (default_term k) → val_of m k (default_term k) ≡ default_val k
  default_right k h c =
      sym (at_sort d env literals goal addresses terms m is w k (default_term k) (default_sorted k h) (defaulted k h c)) ∙ default_is k w

  -- ---- a term whose equation with the default is true has the default's value

  closed_default : (k : Sort) (x : Tree) → IsSortOf d k → is_bool k ≡ false → literal_of x ≡ None → tree_sort x ≡ k → Closed d env goal x
      → Closed d env goal (equal_term x (default_term k)) → Closed d env goal (default_term k)
  closed_default k x h n l e c q = by (equal_term x (default_term k)) q (equation_of x (default_term k) (no_truth k x e n) (no_truth k (default_term k) (default_sorted k h) n)) where
    by : (z : Tree) → Closed d env goal z → Equation x (default_term k) z → Closed d env goal (default_term k)
    by _ q (is_one i) = subst (Closed d env goal) i c
    by _ q (are_literals j o i r) = let both : Some j ≡ None = ap literal_of (sym i) ∙ l in absurd cc
    by _ q (is_straight i) = of_part d env goal (two binary.Equal x (default_term k)) (default_term k) q (inr (inl refl))
    by _ q (is_turned i) = of_part d env goal (two binary.Equal (default_term k) x) (default_term k) q (inl refl)

  false_default : (x : Tree) → literal_of x ≡ None → lit m.truths (equal_term x (default_term sort.Bool)) ≡ true → val_of m sort.Bool x ≡ default_val sort.Bool
  unfolding equal_term
  false_default x l e =
      let turned : lit m.truths (equal_term x (truth_term false)) ≡ not (lit m.truths x) =
      ap (λ (o : Option Bool). lit m.truths (equal_by o (Some false) x (truth_term false))) (no_constant x l) ∙ lit_not m.truths x in
      let off : lit m.truths x ≡ false = sym (not_not (lit m.truths x)) ∙ ap not (sym turned ∙ ap (λ z. lit m.truths (equal_term x z)) (sym default_Bool) ∙ e) in
      val_Bool m x ∙ ap yes off ∙ sym (truth_is false w) ∙ ap (λ z. val z w) (sym default_Bool) ∙ default_is sort.Bool w

  pub is_default : (k : Sort) (x : Tree) → IsSortOf d k → literal_of x ≡ None → tree_sort x ≡ k → Closed d env goal x
      → Closed d env goal (equal_term x (default_term k)) → lit m.truths (equal_term x (default_term k)) ≡ true → val_of m k x ≡ default_val k
  is_default k x h l e c q t = by (is_bool k) refl where
    by : (b : Bool) → is_bool k ≡ b → val_of m k x ≡ default_val k
    by true b =
        subst (λ (j : Sort). lit m.truths (equal_term x (default_term j)) ≡ true → val_of m j x ≡ default_val j)
        (sym (bool_only d env literals goal addresses terms m is w k b)) (false_default x l) t
    by false b =
        let other = closed_default k x h b l e c q in
        (claims d env literals goal addresses terms m is k x (default_term k)
        (record { first = c; second = other; first_sort = e; second_sort = default_sorted k h }) q).same t
        ∙ default_right k h other

  -- ---- what an option holds

  held_is_sort : (k : Sort) (a : Tree) → tree_sort a ≡ sort.Option k → held_sort (tree_sort a) ≡ k
  held_is_sort k a e = ap held_sort e ∙ held_of k

  pub right_held : (k : Sort) (a : Tree) → stays_option a ≡ true → tree_sort a ≡ sort.Option k → Closed d env goal a → IsRight m w a → IsRight m w (one unary.Held a)
  right_held k a stays e c r =
      let same : held_term a ≡ one unary.Held a = held_stays a stays in
      from_sort d env literals goal addresses terms m is w k (one unary.Held a) (ap tree_sort (sym same) ∙ held_sorted d env literals goal addresses terms m is k a e c)
      (one_is unary.Held a w ∙ ap (λ j. held_value j (option_in (val a w))) (held_is_sort k a e)
      ∙ ap (λ v. held_value k (option_in v)) (at_sort d env literals goal addresses terms m is w (sort.Option k) a e r ∙ val_Option m k a)
      ∙ by (lit m.truths (present_term a)) refl ∙ ap (val_of m k) same) where
        default_is_closed : Closed d env goal (equal_term (held_term a) (default_term (held_sort (tree_sort a))))
        default_is_closed = subst (λ j. Closed d env goal (equal_term (held_term a) (default_term j))) (sym (held_is_sort k a e)) (default_closed d env goal k a e c)

        by : (b : Bool) → lit m.truths (present_term a) ≡ b → held_value k (option_in (held_by b (val_of m k (held_term a)))) ≡ val_of m k (held_term a)
        by true t = sym (is_it m k (held_term a) (held_plain d env literals goal addresses terms m is k a e c))
        by false t =
            let held : lit m.truths (equal_term (held_term a) (default_term (held_sort (tree_sort a)))) ≡ true =
            second m.truths true true (present_term a) (equal_term (held_term a) (default_term (held_sort (tree_sort a))))
            (ruled d env literals goal addresses terms m is (eq8 a) (so (present_term a) ∷ so (equal_term (held_term a) (default_term (held_sort (tree_sort a)))) ∷ []) (of_eq8 a c)
            (passed d env literals goal addresses terms m is (is_option a) (so (present_term a) ∷ so (equal_term (held_term a) (default_term (held_sort (tree_sort a)))) ∷ []) (ap (λ j. is_option_level Sort (out-Sort j)) e ∙ ap (is_option_level Sort) (out_Option k)))
            (present_closed d env goal k a e c, (default_is_closed, tt))) t in
            let whole : lit m.truths (equal_term (held_term a) (default_term k)) ≡ true = ap (λ j. lit m.truths (equal_term (held_term a) (default_term j))) (sym (held_is_sort k a e)) ∙ held in
            sym (is_default k (held_term a)
            (subst (IsSortOf d) (held_sorted d env literals goal addresses terms m is k a e c) (terms.lawful (held_term a) (held_closed d env goal k a e c)))
            (ap literal_of (held_stays a stays)) (held_sorted d env literals goal addresses terms m is k a e c) (held_closed d env goal k a e c) (default_closed d env goal k a e c) whole)
