-- A term has its value in a world in which its parts have theirs: one law for each row.
use Rattle.std.proofs.Common.{◌≡◌, ◌&&◌, ◌||◌, inl, inr, ℕ, Bool, true, false, not, cond, List, [], ◌∷◌, flat_map, is_some, Some, None, refl, sym, ap, ◌∙◌, subst}
use Rattle.std.specs.Cmp.{both_ways}
use Rattle.std.specs.List.{list_all, list_any}
use Rattle.std.specs.Map.{lookup}
use Rattle.std.specs.Str.{bytes_eq, chars}
use Rattle.std.proofs.lemmas.Map.Views.{Contains-from_lookup}
use Rattle.sc_lists.proofs.MemberLaws.{Has-from_Contains}
use Rattle.sc_lists.proofs.TextLaws.{bytes_eq_true}
use Rattle.sc_lists.specs.Members.{Has}
use Rattle.sc_names.specs.declared.uid.Uid.{Uid}
use Rattle.sc_pattern.specs.declared.part.Part.{Part}
use Rattle.sc_pattern.specs.Language.{is_match}
use Rattle.sc_schema.specs.declared.declarations.Env.{Env}
use Rattle.sc_schema.specs.Declarations.{Declarations}
use Rattle.sc_values.specs.declared.value.Value.{Value}
use Rattle.sc_values.specs.Records.{Fields, field}
use Rattle.sc_values.proofs.OutLaws as out
use Rattle.sc_world.specs.declared.world.World.{World}
use Rattle.sc_sorts.specs.declared.sort.Sort.{Sort, Sort-F, map-Sort, out-Sort, roll-Sort, roll-out-Sort}
use Rattle.sc_sorts.specs.declared.sort.Sort.TheVariants as sort
use Rattle.sc_sorts.specs.declared.sort.Sort.TheVariants.{rolls-Bool}
use Rattle.sc_sorts.specs.declared.sort.Sort.TheOpen as s
use Rattle.sc_sorts.specs.Defaults.{is_option}
use Rattle.sc_sorts.specs.Inside.{SortField, SortFields, field_sort}
use Rattle.sc_sorts.proofs.OutLaws.{out_Bool}
use Rattle.sc_sorts.specs.declared.node.Leaf.TheVariants as leafs
use Rattle.sc_sorts.specs.declared.node.Literal.{Literal}
use Rattle.sc_sorts.specs.declared.node.UnaryOp.TheVariants as unary
use Rattle.sc_sorts.specs.declared.node.BinaryOp.TheVariants as binary
use Rattle.sc_bits.specs.Addresses.{ip_of}
use Rattle.sc_bits.specs.Bits.{of_bits64}
use Rattle.sc_bits.proofs.IntegerLaws.{bit64-of_bits}
use Rattle.std.specs.Int.{w64}
use Rattle.sc_terms.specs.Trees.{Tree, leaf, one, two, choice}
use Rattle.sc_terms.specs.TreeSorts.{tree_sort}
use Rattle.sc_terms.specs.Folds.{literal_term, equal_term, field_term, present_term, held_term}
use Rattle.sc_terms.specs.Values.{Val, yes, val, seen, bool_seen, truth, value_in, members_in, members_seen, record_in, fields_seen, field_of, set_from, not_value, option_in, level, bit_seen, like_seen, field_seen, field_value, has_member, and_value, or_value, equal_value, choice_value, val_eq}
use Rattle.sc_terms.proofs.FoldValues.{leaf_is, one_is, two_is, not_yes, truth_yes}
use Rattle.sc_terms.proofs.EqualValues.{equal_bools, equal_others, val_eq-exact}
use Rattle.sc_term_definitions.specs.Definitions.{definition, table, chosen_of}
use Rattle.sc_term_definitions.specs.declared.function.Function.TheVariants.{Both, Either}
use Rattle.sc_term_laws.specs.Judging.{HasPlace}
use Rattle.sc_term_laws.specs.Judging as judged
use Rattle.sc_term_laws.specs.Tests.{bool_level, is_bool}
use Rattle.sc_term_laws.specs.Unfolded.{stays_equal, stays_field, stays_option, stays_literal}
use Rattle.sc_term_laws.proofs.JudgingLaws.{field_of_record}
use Rattle.sc_term_laws.proofs.UnfoldedLaws.{equal_stays, field_stays, present_stays, bit_stays, like_stays}
use Rattle.sc_term_laws.proofs.ConnectiveLaws.{both_yes, either_yes}
use Rattle.sc_rule_laws.specs.Signed.{so, unless}
use Rattle.sc_rule_laws.specs.Equal.{eq2}
use Rattle.sc_rule_laws.proofs.EquationLaws.{val_same}
use Rattle.sc_rule_laws.proofs.MemberLaws.{all_has, has_all, any_first, has_any}
use Rattle.sc_rule_laws.proofs.MemberTruths.{has_in, in_has, has_set_from, set_from_has}
use Rattle.sc_closure_rules.specs.Closure.{Closed}
use Rattle.sc_model_laws.specs.Assignments.{lit}
use Rattle.sc_model_laws.specs.Consistent.{of_eq2}
use Rattle.sc_model_laws.specs.Vals.{Model, bits_of, held_by, val_step, val_of}
use Rattle.sc_model_laws.specs.Models.{IsModel}
use Rattle.sc_model_laws.specs.Rows.{IsRight}
use Rattle.sc_model_laws.proofs.ClaimLaws.{AreTerms, AreAddresses, Claim, literal_val, by_definition}
use Rattle.sc_model_laws.proofs.ClosedLaws.{of_part, first_branch, second_branch}
use Rattle.sc_model_laws.proofs.CompositeClaims.{ruled, fields_differ, field_sorted}
use Rattle.sc_model_laws.proofs.SetClaims.{claims, IsSet, asked, included, inclusion, shares, sharing, members_of, val_members}
use Rattle.sc_model_laws.proofs.EquationTerms.{lit_negation}
use Rattle.sc_model_laws.proofs.HoldLaws.{second}
use Rattle.sc_model_laws.proofs.ValLaws.{val_out, val_Bool, val_Long, val_String, val_Decimal, val_Ip, val_Option, val_Record, shown}

-- ---- connectives of truth values

held_some : (b : Bool) (v : Val) → is_some (option_in (held_by b v)) ≡ b
held_some true v = refl
held_some false v = refl

module _ (d : Declarations) (env : Env) (literals : List Uid) (goal : Tree) (addresses : AreAddresses) (terms : AreTerms d env literals goal) (m : Model) (is : IsModel d env goal m) (w : World) where
  pub at_sort : (k : Sort) (x : Tree) → tree_sort x ≡ k → IsRight m w x → val x w ≡ val_of m k x
  at_sort k x e r = r ∙ ap (λ j. val_of m j x) e

  pub truth_right : (x : Tree) → tree_sort x ≡ sort.Bool → IsRight m w x → val x w ≡ yes (lit m.truths x)
  truth_right x e r = at_sort sort.Bool x e r ∙ val_Bool m x

  pub from_sort : (k : Sort) (x : Tree) → tree_sort x ≡ k → val x w ≡ val_of m k x → IsRight m w x
  from_sort k x e r = r ∙ ap (λ j. val_of m j x) (sym e)

  -- a truth value, by its truth
  pub right_truth : (x : Tree) (b : Bool) → tree_sort x ≡ sort.Bool → val x w ≡ yes b → b ≡ lit m.truths x → IsRight m w x
  right_truth x b e v h = from_sort sort.Bool x e (v ∙ ap yes h ∙ sym (val_Bool m x))

  -- ---- leaves

  pub right_literal : (l : Literal) → Closed d env goal (literal_term l) → IsRight m w (literal_term l)
  right_literal l c = leaf_is (leafs.Literal l) w ∙ sym (literal_val d env literals goal addresses terms m is (tree_sort (literal_term l)) l refl c)

  pub right_none : (k : Sort) → IsRight m w (leaf (leafs.None k))
  unfolding tree_sort present_term lit
  right_none k = leaf_is (leafs.None k) w ∙ sym (val_Option m k (leaf (leafs.None k)))

  -- ---- connectives

  pub right_not : (a : Tree) → tree_sort a ≡ sort.Bool → IsRight m w a → IsRight m w (one unary.Not a)
  unfolding tree_sort
  right_not a e r =
      right_truth (one unary.Not a) (not (lit m.truths a)) refl
      (one_is unary.Not a w ∙ ap not_value (truth_right a e r) ∙ not_yes (lit m.truths a)) (sym (lit_negation m.truths a))

  both_definition : (a b : Tree) → definition (two binary.And a b) ≡ table Both (a ∷ b ∷ [])
  unfolding definition
  both_definition a b = refl

  either_definition : (a b : Tree) → definition (two binary.Or a b) ≡ table Either (a ∷ b ∷ [])
  unfolding definition
  either_definition a b = refl

  pub right_and : (a b : Tree) → tree_sort a ≡ sort.Bool → tree_sort b ≡ sort.Bool → Closed d env goal (two binary.And a b) → IsRight m w a → IsRight m w b → IsRight m w (two binary.And a b)
  unfolding tree_sort
  right_and a b e f c r q =
      right_truth (two binary.And a b) (lit m.truths a && lit m.truths b) refl
      (two_is binary.And a b w ∙ (λ i. and_value (truth_right a e r i) (truth_right b f q i)) ∙ both_yes (lit m.truths a) (lit m.truths b))
      (sym (by_definition d env literals goal addresses terms m is (two binary.And a b) (table Both (a ∷ b ∷ [])) refl (both_definition a b) c))

  pub right_or : (a b : Tree) → tree_sort a ≡ sort.Bool → tree_sort b ≡ sort.Bool → Closed d env goal (two binary.Or a b) → IsRight m w a → IsRight m w b → IsRight m w (two binary.Or a b)
  unfolding tree_sort
  right_or a b e f c r q =
      right_truth (two binary.Or a b) (lit m.truths a || lit m.truths b) refl
      (two_is binary.Or a b w ∙ (λ i. or_value (truth_right a e r i) (truth_right b f q i)) ∙ either_yes (lit m.truths a) (lit m.truths b))
      (sym (by_definition d env literals goal addresses terms m is (two binary.Or a b) (table Either (a ∷ b ∷ [])) refl (either_definition a b) c))

  -- ---- choices

  choice_definition : (c a b : Tree) → tree_sort a ≡ sort.Bool → definition (choice c a b) ≡ chosen_of s.Bool c a b
  unfolding definition
  choice_definition c a b e = ap (λ l. chosen_of l c a b) (ap out-Sort e ∙ out_Bool)

  choice_sort : (c a b : Tree) → tree_sort (choice c a b) ≡ tree_sort a
  unfolding tree_sort
  choice_sort c a b = refl

  choice_is : (c a b : Tree) → val (choice c a b) w ≡ choice_value (val c w) (val a w) (val b w)
  unfolding val
  choice_is c a b = refl

  chosen : (c a b : Tree) → tree_sort c ≡ sort.Bool → IsRight m w c → val (choice c a b) w ≡ cond (lit m.truths c) (val a w) (val b w)
  chosen c a b e r = choice_is c a b ∙ ap (λ t. cond t (val a w) (val b w)) (ap truth (truth_right c e r) ∙ truth_yes (lit m.truths c))

  bool_choice : (c a b : Tree) → tree_sort a ≡ sort.Bool → tree_sort b ≡ sort.Bool → Closed d env goal (choice c a b) → tree_sort c ≡ sort.Bool → IsRight m w c → IsRight m w a → IsRight m w b → IsRight m w (choice c a b)
  bool_choice c a b e f h g r q p =
      right_truth (choice c a b) (cond (lit m.truths c) (lit m.truths a) (lit m.truths b)) (choice_sort c a b ∙ e)
      (chosen c a b g r ∙ by (lit m.truths c))
      (sym (by_definition d env literals goal addresses terms m is (choice c a b) (chosen_of s.Bool c a b) (choice_sort c a b ∙ e) (choice_definition c a b e) h)) where
        by : (t : Bool) → cond t (val a w) (val b w) ≡ yes (cond t (lit m.truths a) (lit m.truths b))
        by true = truth_right a e q
        by false = truth_right b f p

  other_choice : (k : Sort) (c a b : Tree) → is_bool k ≡ false → tree_sort a ≡ k → tree_sort b ≡ k → Closed d env goal (choice c a b) → tree_sort c ≡ sort.Bool → IsRight m w c → IsRight m w a → IsRight m w b → IsRight m w (choice c a b)
  other_choice k c a b n e f h g r q p = from_sort k (choice c a b) (choice_sort c a b ∙ e) (chosen c a b g r ∙ by (lit m.truths c) refl) where
    first : Closed d env goal (equal_term (choice c a b) a)
    first = first_branch d env goal c a b (ap is_bool e ∙ n) h

    later : Closed d env goal (equal_term (choice c a b) b)
    later = second_branch d env goal c a b (ap is_bool e ∙ n) h

    by : (t : Bool) → lit m.truths c ≡ t → cond t (val a w) (val b w) ≡ val_of m k (choice c a b)
    by true t =
        at_sort k a e q
        ∙ sym ((claims d env literals goal addresses terms m is k (choice c a b) a
        (record { first = h; second = of_part d env goal (choice c a b) a h (inr (inl refl)); first_sort = choice_sort c a b ∙ e; second_sort = e }) first).same
        (second m.truths false true c (equal_term (choice c a b) a)
        (ruled d env literals goal addresses terms m is (eq2 (choice c a b) 0) (unless c ∷ so (equal_term (choice c a b) a) ∷ []) (of_eq2 (choice c a b) 0 h) refl
        (of_part d env goal (choice c a b) c h (inl refl), (first, tt))) t))
    by false t =
        at_sort k b f p
        ∙ sym ((claims d env literals goal addresses terms m is k (choice c a b) b
        (record { first = h; second = of_part d env goal (choice c a b) b h (inr (inr (inl refl))); first_sort = choice_sort c a b ∙ e; second_sort = f }) later).same
        (second m.truths true true c (equal_term (choice c a b) b)
        (ruled d env literals goal addresses terms m is (eq2 (choice c a b) 1) (so c ∷ so (equal_term (choice c a b) b) ∷ []) (of_eq2 (choice c a b) 1 h) refl
        (of_part d env goal (choice c a b) c h (inl refl), (later, tt))) t))

  pub bool_only : (k : Sort) → is_bool k ≡ true → k ≡ sort.Bool
  bool_only k e = by (out-Sort k) refl e where
    by : (l : Sort-F Sort) → out-Sort k ≡ l → bool_level l ≡ true → k ≡ sort.Bool
    by s.Bool o e = sym (roll-out-Sort k) ∙ ap roll-Sort o ∙ rolls-Bool
    by _ o e = absurd cc

  pub right_choice : (k : Sort) (c a b : Tree) → tree_sort a ≡ k → tree_sort b ≡ k → Closed d env goal (choice c a b) → tree_sort c ≡ sort.Bool → IsRight m w c → IsRight m w a → IsRight m w b → IsRight m w (choice c a b)
  right_choice k c a b e f h g r q p = by (is_bool k) refl where
    by : (t : Bool) → is_bool k ≡ t → IsRight m w (choice c a b)
    by true t = bool_choice c a b (e ∙ bool_only k t) (f ∙ bool_only k t) h g r q p
    by false t = other_choice k c a b t e f h g r q p

  -- ---- equations

  unseen_by : (l : Sort-F Sort) (x : Tree) → bool_level l ≡ false → seen (val_step m (map-Sort Sort (Tree → Val) (val_of m) l) x) ≡ None
  unseen_by s.Bool x n = absurd cc
  unseen_by s.Long x n = ap bool_seen (out.out_Long _)
  unseen_by s.String x n = ap bool_seen (out.out_String _)
  unseen_by s.Decimal x n = ap bool_seen (out.out_Decimal _)
  unseen_by s.Ip x n = ap bool_seen (out.out_Ip _)
  unseen_by (s.Entity name us) x n = ap bool_seen (out.out_Entity _)
  unseen_by (s.Set k) x n = ap bool_seen (out.out_Set _)
  unseen_by (s.Record fs) x n = ap bool_seen (out.out_Record _)
  unseen_by (s.Option k) x n = by (lit m.truths (present_term x)) where
    by : (b : Bool) → seen (held_by b (val_of m k (held_term x))) ≡ None
    by true = refl
    by false = refl

  unseen : (k : Sort) (x : Tree) → is_bool k ≡ false → seen (val_of m k x) ≡ None
  unseen k x n = ap seen (val_out m k x) ∙ unseen_by (out-Sort k) x n

  equal_yes : (k : Sort) (a b : Tree) → equal_value (val_of m k a) (val_of m k b) ≡ yes (val_eq (val_of m k a) (val_of m k b))
  equal_yes k a b = by (is_bool k) refl where
    bools : (j : Sort) → j ≡ sort.Bool → equal_value (val_of m j a) (val_of m j b) ≡ yes (val_eq (val_of m j a) (val_of m j b))
    bools j e =
        let first : val_of m j a ≡ yes (lit m.truths a) = ap (λ i. val_of m i a) e ∙ val_Bool m a in
        let later : val_of m j b ≡ yes (lit m.truths b) = ap (λ i. val_of m i b) e ∙ val_Bool m b in
        rw (first, later) (equal_bools (lit m.truths a) (lit m.truths b))

    by : (t : Bool) → is_bool k ≡ t → equal_value (val_of m k a) (val_of m k b) ≡ yes (val_eq (val_of m k a) (val_of m k b))
    by true t = bools k (bool_only k t)
    by false t = equal_others (val_of m k a) (val_of m k b) (unseen k a t) (unseen k b t)

  pub right_equal : (k : Sort) (a b : Tree) → tree_sort a ≡ k → tree_sort b ≡ k → stays_equal a b ≡ true → Closed d env goal (two binary.Equal a b) → IsRight m w a → IsRight m w b → IsRight m w (two binary.Equal a b)
  unfolding tree_sort
  right_equal k a b e f stays c r q =
      let whole : equal_term a b ≡ two binary.Equal a b = equal_stays a b stays in
      let agrees = claims d env literals goal addresses terms m is k a b
      (record { first = of_part d env goal (two binary.Equal a b) a c (inl refl); second = of_part d env goal (two binary.Equal a b) b c (inr (inl refl)); first_sort = e; second_sort = f })
      (subst (Closed d env goal) (sym whole) c) in
      right_truth (two binary.Equal a b) (val_eq (val_of m k a) (val_of m k b)) refl
      (two_is binary.Equal a b w ∙ (λ i. equal_value (at_sort k a e r i) (at_sort k b f q i)) ∙ equal_yes k a b)
      (both_ways (val_eq (val_of m k a) (val_of m k b)) (lit m.truths (two binary.Equal a b))
      (λ t. ap (lit m.truths) (sym whole) ∙ agrees.told (val_eq-exact (val_of m k a) (val_of m k b) t))
      (λ t. val_same (val_of m k a) (val_of m k b) (agrees.same (ap (lit m.truths) whole ∙ t))))

  -- ---- bits

  pub right_bit : (k : Sort) (i : ℕ) (a : Tree) → HasPlace k i → tree_sort a ≡ k → stays_literal a ≡ true → Closed d env goal a → IsRight m w a → IsRight m w (one (unary.Bit i) a)
  unfolding tree_sort
  right_bit _ i a (judged.of_long h) e stays c r =
      right_truth (one (unary.Bit i) a) (bits_of m a i) refl
      (one_is (unary.Bit i) a w
      ∙ ap yes (ap (λ v. bit_seen (level v) i) (at_sort sort.Long a e r ∙ val_Long m a) ∙ ap (λ l. bit_seen l i) (out.out_Long (of_bits64 (bits_of m a))) ∙ bit64-of_bits w64 (bits_of m a) i h))
      (ap (lit m.truths) (bit_stays a i stays))
  right_bit _ i a (judged.of_decimal h) e stays c r =
      right_truth (one (unary.Bit i) a) (bits_of m a i) refl
      (one_is (unary.Bit i) a w
      ∙ ap yes (ap (λ v. bit_seen (level v) i) (at_sort sort.Decimal a e r ∙ val_Decimal m a) ∙ ap (λ l. bit_seen l i) (out.out_Decimal (of_bits64 (bits_of m a))) ∙ bit64-of_bits w64 (bits_of m a) i h))
      (ap (lit m.truths) (bit_stays a i stays))
  right_bit _ i a (judged.of_ip h) e stays c r =
      right_truth (one (unary.Bit i) a) (bits_of m a i) refl
      (one_is (unary.Bit i) a w
      ∙ ap yes (ap (λ v. bit_seen (level v) i) (at_sort sort.Ip a e r ∙ val_Ip m a) ∙ ap (λ l. bit_seen l i) (out.out_Ip (ip_of (bits_of m a))) ∙ addresses.bits (bits_of m a) (is.consistent.addresses a c e) i h))
      (ap (lit m.truths) (bit_stays a i stays))

  -- ---- patterns

  pub right_like : (p : List Part) (a : Tree) → tree_sort a ≡ sort.String → stays_literal a ≡ true → Closed d env goal (one (unary.Like p) a) → IsRight m w a → IsRight m w (one (unary.Like p) a)
  unfolding tree_sort
  right_like p a e stays c r =
      right_truth (one (unary.Like p) a) (is_match p (chars (m.text a))) refl
      (one_is (unary.Like p) a w
      ∙ ap yes (ap (λ v. like_seen (level v) p) (at_sort sort.String a e r ∙ val_String m a) ∙ ap (λ l. like_seen l p) (out.out_String (m.text a))))
      (is.likes p a a (of_part d env goal (one (unary.Like p) a) a c (inl refl)) e c ∙ ap (lit m.truths) (like_stays a p stays))

  -- ---- fields and options

  pub right_field : (fs : SortFields) (name : List ℕ) (k : Sort) (a : Tree) → lookup (bytes_eq name) fs ≡ Some k → stays_field name a ≡ true → tree_sort a ≡ sort.Record fs → Closed d env goal a → IsRight m w a → IsRight m w (one (unary.Field name) a)
  right_field fs name k a l stays e c r =
      let there : Has fs (name, k) = Has-from_Contains fs (name, k) (Contains-from_lookup (λ a b g. bytes_eq_true a b g) name k fs l) in
      let same : field_term name a ≡ one (unary.Field name) a = field_stays name a stays in
      let fields : Fields = flat_map (λ (f : SortField). field_of (f.0, val_of m f.1 (field_term f.0 a))) fs in
      let record_is : record_in (val a w) ≡ fields = ap record_in (at_sort (sort.Record fs) a e r ∙ val_Record m fs a) ∙ ap fields_seen (out.out_Record fields) in
      let sorted : field_sort name (tree_sort a) ≡ k = ap (field_sort name) e ∙ field_of_record fs name k l in
      let whole : tree_sort (one (unary.Field name) a) ≡ k = ap tree_sort (sym same) ∙ field_sorted d env literals goal addresses terms m is fs a (name, k) e c there in
      from_sort k (one (unary.Field name) a) whole
      (one_is (unary.Field name) a w ∙ ap (λ j. field_value name j (val a w)) sorted ∙ ap (field_seen (is_option k) k) (ap (field name) record_is ∙ fields_differ d env literals goal addresses terms m is fs a e c (name, k) there)
      ∙ shown m k (field_term name a) ∙ ap (val_of m k) same)

  pub right_present : (k : Sort) (a : Tree) → stays_option a ≡ true → tree_sort a ≡ sort.Option k → IsRight m w a → IsRight m w (one unary.Present a)
  unfolding tree_sort
  right_present k a stays e r =
      right_truth (one unary.Present a) (lit m.truths (present_term a)) refl
      (one_is unary.Present a w ∙ ap (λ v. yes (is_some (option_in v))) (at_sort (sort.Option k) a e r ∙ val_Option m k a) ∙ ap yes (held_some (lit m.truths (present_term a)) (val_of m k (held_term a))))
      (ap (lit m.truths) (present_stays a stays))

  -- ---- tests of sets

  abbrev IsSetAt : Sort → Tree → Type 0
  IsSetAt = IsSet d env literals goal addresses terms m is

  -- the members of the value of a set
  in_set : (k : Sort) (x : Tree) (v : Value) → tree_sort x ≡ sort.Set k → IsRight m w x → Has (members_in (val x w)) v → Has (members_of d env literals goal addresses terms m is k x) v
  in_set k x v e r h =
      let us = members_of d env literals goal addresses terms m is k x in
      let members : members_in (val x w) ≡ set_from us =
      ap members_in (at_sort (sort.Set k) x e r ∙ val_members d env literals goal addresses terms m is k x) ∙ ap members_seen (out.out_Set (set_from us)) in
      set_from_has us v (subst (λ vs. Has vs v) members h)

  set_in : (k : Sort) (x : Tree) (v : Value) → tree_sort x ≡ sort.Set k → IsRight m w x → Has (members_of d env literals goal addresses terms m is k x) v → Has (members_in (val x w)) v
  set_in k x v e r h =
      let us = members_of d env literals goal addresses terms m is k x in
      let members : members_in (val x w) ≡ set_from us =
      ap members_in (at_sort (sort.Set k) x e r ∙ val_members d env literals goal addresses terms m is k x) ∙ ap members_seen (out.out_Set (set_from us)) in
      subst (λ vs. Has vs v) (sym members) (has_set_from us v h)

  known : (k : Sort) → Claim d env literals goal addresses terms m is k
  known = claims d env literals goal addresses terms m is

  pub right_member : (k : Sort) (x a : Tree) → tree_sort x ≡ k → tree_sort a ≡ sort.Set k → Closed d env goal (two binary.Member x a) → IsRight m w x → IsRight m w a → IsRight m w (two binary.Member x a)
  unfolding tree_sort
  right_member k x a e f c r q =
      let set : IsSetAt k a = record { closed = of_part d env goal (two binary.Member x a) a c (inr (inl refl)); sorted = f } in
      let ask = asked d env literals goal addresses terms m is k (known k) x a set c in
      right_truth (two binary.Member x a) (has_member (members_in (val a w)) (value_in (val x w))) refl (two_is binary.Member x a w)
      (both_ways (has_member (members_in (val a w)) (value_in (val x w))) (lit m.truths (two binary.Member x a))
      (λ t. ask.back (subst (Has (members_of d env literals goal addresses terms m is k a)) (ap value_in (at_sort k x e r))
      (in_set k a (value_in (val x w)) f q (has_in (members_in (val a w)) (value_in (val x w)) t))))
      (λ t. in_has (members_in (val a w)) (value_in (val x w)) (set_in k a (value_in (val x w)) f q
      (subst (Has (members_of d env literals goal addresses terms m is k a)) (ap value_in (sym (at_sort k x e r))) (ask.told t)))))

  pub right_subset : (k : Sort) (a b : Tree) → tree_sort a ≡ sort.Set k → tree_sort b ≡ sort.Set k → Closed d env goal (two binary.Subset a b) → IsRight m w a → IsRight m w b → IsRight m w (two binary.Subset a b)
  unfolding tree_sort
  right_subset k a b e f c r q =
      let set : IsSetAt k a = record { closed = of_part d env goal (two binary.Subset a b) a c (inl refl); sorted = e } in
      let other : IsSetAt k b = record { closed = of_part d env goal (two binary.Subset a b) b c (inr (inl refl)); sorted = f } in
      let test : Bool = list_all (has_member (members_in (val b w))) (members_in (val a w)) in
      right_truth (two binary.Subset a b) test refl (two_is binary.Subset a b w)
      (both_ways test (lit m.truths (two binary.Subset a b))
      (λ t. inclusion d env literals goal addresses terms m is k (known k) a b set other c (λ v h.
      in_set k b v f q (has_in (members_in (val b w)) v (all_has (has_member (members_in (val b w))) (members_in (val a w)) v t (set_in k a v e r h)))))
      (λ t. has_all (has_member (members_in (val b w))) (members_in (val a w)) (λ v h.
      in_has (members_in (val b w)) v (set_in k b v f q (included d env literals goal addresses terms m is k (known k) a b set other c t v (in_set k a v e r h))))))

  pub right_common : (k : Sort) (a b : Tree) → tree_sort a ≡ sort.Set k → tree_sort b ≡ sort.Set k → Closed d env goal (two binary.Common a b) → IsRight m w a → IsRight m w b → IsRight m w (two binary.Common a b)
  unfolding tree_sort
  right_common k a b e f c r q =
      let set : IsSetAt k a = record { closed = of_part d env goal (two binary.Common a b) a c (inl refl); sorted = e } in
      let other : IsSetAt k b = record { closed = of_part d env goal (two binary.Common a b) b c (inr (inl refl)); sorted = f } in
      let test : Bool = list_any (has_member (members_in (val b w))) (members_in (val a w)) in
      right_truth (two binary.Common a b) test refl (two_is binary.Common a b w)
      (both_ways test (lit m.truths (two binary.Common a b))
      (λ t.
      let any = any_first (has_member (members_in (val b w))) (members_in (val a w)) t in
      sharing d env literals goal addresses terms m is k (known k) a b set other c any.found (in_set k a any.found e r any.there)
      (in_set k b any.found f q (has_in (members_in (val b w)) any.found any.passes)))
      (λ t.
      let v = shares d env literals goal addresses terms m is k (known k) a b set other c t in
      has_any (has_member (members_in (val b w))) (members_in (val a w)) v.0 (set_in k a v.0 e r v.1)
      (in_has (members_in (val b w)) v.0 (set_in k b v.0 f q v.2))))
