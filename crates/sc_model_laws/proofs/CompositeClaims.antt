-- Closed records and options have equal values just where their equation is true, if what is in them has.
use Rattle.std.proofs.Common.{◌≡◌, ◌&&◌, inl, inr, ℕ, suc, Bool, true, false, cond, List, [], ◌∷◌, ◌++◌, map, flat_map, Option, Some, None, slice_get, refl, sym, ap, ◌∙◌, subst}
use Rattle.std.specs.Cmp.{both_ways}
use Rattle.std.specs.Cmp.Derive.{both_true}
use Rattle.std.specs.List.{AllByRecursion}
use Rattle.std.specs.List.Sorted.{IsStrictlySortedBy}
use Rattle.std.specs.Map.{keys_of}
use Rattle.sc_laws.proofs.BoolLaws.{and_first, and_second}
use Rattle.sc_laws.proofs.OptionLaws.{same_some}
use Rattle.sc_lists.proofs.MemberLaws.{Has-flat_map, flat_map-Has, Has-from_Contains, Contains-from_Has}
use Rattle.sc_lists.specs.Members.{Has}
use Rattle.sc_names.specs.declared.uid.Uid.{Uid}
use Rattle.sc_names.specs.Uids.{text_cmp}
use Rattle.sc_schema.specs.declared.declarations.Env.{Env}
use Rattle.sc_schema.specs.Declarations.{Declarations}
use Rattle.sc_values.specs.declared.value.Value.{Value}
use Rattle.sc_values.specs.declared.value.Value.TheVariants as value
use Rattle.sc_values.specs.Records.{Fields, field}
use Rattle.sc_values.proofs.AscendingLaws.{one_list}
use Rattle.sc_values.proofs.OrderLaws.{value_cmp_total, value_cmp_exact}
use Rattle.sc_values.proofs.OutLaws as out
use Rattle.sc_sorts.specs.declared.sort.Sort.{Sort, Sort-F, out-Sort}
use Rattle.sc_sorts.specs.declared.sort.Sort.TheVariants as sort
use Rattle.sc_sorts.specs.declared.sort.Sort.TheOpen as s
use Rattle.sc_sorts.specs.Defaults.{is_option, is_option_level}
use Rattle.sc_sorts.specs.Inside.{SortField, SortFields}
use Rattle.sc_sorts.proofs.EveryLaws.{in_Set, in_Record, in_Option}
use Rattle.sc_sorts.specs.OrderLaws.{sort_eq_decides}
use Rattle.sc_sorts.proofs.OutLaws.{out_Bool, out_Long, out_String, out_Decimal, out_Ip, out_Entity, out_Record, out_Option}
use Rattle.sc_sorts.specs.NodeSorts.{literal_sort}
use Rattle.sc_sorts.specs.declared.node.Literal.{Literal}
use Rattle.sc_sorts.specs.declared.node.Literal.TheVariants as literal
use Rattle.sc_sorts.specs.declared.node.BinaryOp.TheVariants as binary
use Rattle.sc_terms.specs.Trees.{Tree, two}
use Rattle.sc_terms.specs.TreeSorts.{tree_sort}
use Rattle.sc_terms.specs.Order.{tree_eq}
use Rattle.sc_terms.specs.Folds.{literal_of, equal_term, field_term, present_term, held_term}
use Rattle.sc_terms.specs.Values.{it, value_in, record_in, fields_seen, option_in, field_of, field_seen, set_from}
use Rattle.sc_terms.proofs.OrderLaws.{tree_eq-exact, tree_eq-itself}
use Rattle.sc_term_laws.specs.Judging.{IsTermOf}
use Rattle.sc_term_laws.specs.LawfulSorts.{IsSortOf, IsSortLevel}
use Rattle.sc_term_laws.specs.Tests.{bool_level}
use Rattle.sc_term_laws.proofs.JudgingLaws.{sort_is}
use Rattle.sc_term_laws.proofs.MadeLaws.{field_made}
use Rattle.sc_term_laws.proofs.DefaultMade.{held_made}
use Rattle.sc_term_laws.proofs.FitSets.{set_ascends}
use Rattle.sc_rule_laws.specs.Signed.{Signed, Said, so, unless, given}
use Rattle.sc_rule_laws.specs.Terms.{fields_of, fields_level, one_sort}
use Rattle.sc_rule_laws.specs.Equal.{field_equal, eq3, eq3_of, field_at, eq4, eq4_of, are_options, eq5, eq6, eq7}
use Rattle.sc_rule_laws.proofs.MemberTruths.{has_set_from, set_from_has}
use Rattle.sc_rule_laws.proofs.EquationLaws.{no_constant}
use Rattle.sc_closure_rules.specs.Closure.{Closed}
use Rattle.sc_model_laws.specs.Assignments.{Assignment, lit, some_hold}
use Rattle.sc_model_laws.specs.Consistent.{IsRuleAt, of_eq3, of_eq4, of_eq5, of_eq6, of_eq7}
use Rattle.sc_model_laws.specs.Vals.{Model, member_in, assigned, held_by, val_of}
use Rattle.sc_model_laws.specs.Models.{IsModel}
use Rattle.sc_model_laws.proofs.ClaimLaws.{AreTerms, AreAddresses, Agrees, ArePaired, Claim, by_straight, sort_of_literal}
use Rattle.sc_model_laws.proofs.ClosedLaws.{field_closed, present_closed, held_closed, fields_equation, held_equation}
use Rattle.sc_model_laws.proofs.EquationTerms.{literal_is, equal_sym}
use Rattle.sc_model_laws.proofs.HoldLaws.{second, third, only, first_of_three, first_of_four, none_unless}
use Rattle.sc_closure_rules.proofs.SortLaws.{found}
use Rattle.sc_model_laws.proofs.ValLaws.{entry, val_Option, val_Record, shown, is_it, field_found}

-- ---- lists

pub place_of : {X : Type 0} (xs : List X) (x : X) → Has xs x → (i : ℕ) × (slice_get xs i ≡ Some x)
place_of [] x h = absurd h
place_of (y ∷ xs) x (inl is) = (0, ap Some is)
place_of (y ∷ xs) x (inr later) = let p = place_of xs x later in (suc p.0, p.1)

pub same_joined : {X Y : Type 0} (g h : X → List Y) (xs : List X) → ((x : X) → Has xs x → g x ≡ h x) → flat_map g xs ≡ flat_map h xs
same_joined g h [] e = refl
same_joined g h (x ∷ xs) e =
    let first = e x (inl refl) in
    let rest = same_joined g h xs (λ y k. e y (inr k)) in
    λ i. first i ++ rest i

pub all_unless : {X : Type 0} (P : Tree → Type 0) (f : X → Tree) (xs : List X) → ((x : X) → Has xs x → P (f x)) → AllByRecursion (λ (s : Signed). P s.1) (map (λ x. unless (f x)) xs)
all_unless P f [] h = tt
all_unless P f (x ∷ xs) h = (h x (inl refl), all_unless P f xs (λ y k. h y (inr k)))

pub all_so : {X : Type 0} (P : Tree → Type 0) (f : X → Tree) (xs : List X) → ((x : X) → Has xs x → P (f x)) → AllByRecursion (λ (s : Signed). P s.1) (map (λ x. so (f x)) xs)
all_so P f [] h = tt
all_so P f (x ∷ xs) h = (h x (inl refl), all_so P f xs (λ y k. h y (inr k)))

pub true_unless : (b : Bool) → (b ≡ false → ⊥) → b ≡ true
true_unless true h = refl
true_unless false h = absurd (h refl)

one_sort_is : (x y : Tree) (k : Sort) → tree_sort x ≡ k → tree_sort y ≡ k → one_sort x y ≡ true
one_sort_is x y k e f = (sort_eq_decides (tree_sort x) (tree_sort y)).1 (e ∙ sym f)

-- lists with the same members give one set
pub one_set : (us vs : List Value) → ((v : Value) → Has us v → Has vs v) → ((v : Value) → Has vs v → Has us v) → set_from us ≡ set_from vs
one_set us vs f g =
    one_list value_cmp_total value_cmp_exact (set_from us) (set_from vs) (set_ascends us) (set_ascends vs) (λ v. (
      λ h. Contains-from_Has (set_from vs) v (has_set_from vs v (f v (set_from_has us v (Has-from_Contains (set_from us) v h)))),
      λ h. Contains-from_Has (set_from us) v (has_set_from us v (g v (set_from_has vs v (Has-from_Contains (set_from vs) v h)))),
    ))

pub set_within : (us vs : List Value) → set_from us ≡ set_from vs → (v : Value) → Has us v → Has vs v
set_within us vs e v h = set_from_has vs v (subst (λ ws. Has ws v) e (has_set_from us v h))

no_option : (l : Sort-F Sort) (k : Sort) → is_option_level Sort l ≡ false → l ≡ s.Option k → ⊥
no_option l k n e = let both : true ≡ false = ap (is_option_level Sort) (sym e) ∙ n in absurd cc

literal_option : (l : Literal) (k : Sort) → literal_sort l ≡ sort.Option k → ⊥
literal_option (literal.Bool b) k e = no_option s.Bool k refl (sym out_Bool ∙ ap out-Sort e ∙ out_Option k)
literal_option (literal.Long n) k e = no_option s.Long k refl (sym out_Long ∙ ap out-Sort e ∙ out_Option k)
literal_option (literal.String t) k e = no_option s.String k refl (sym out_String ∙ ap out-Sort e ∙ out_Option k)
literal_option (literal.Decimal n) k e = no_option s.Decimal k refl (sym out_Decimal ∙ ap out-Sort e ∙ out_Option k)
literal_option (literal.Ip a) k e = no_option s.Ip k refl (sym out_Ip ∙ ap out-Sort e ∙ out_Option k)
literal_option (literal.Entity u us) k e = no_option (s.Entity u.type_name us) k refl (sym (out_Entity u.type_name us) ∙ ap out-Sort e ∙ out_Option k)

-- ---- what is assigned to a set

module _ (m : Assignment) where
  member_by : (c x y : Tree) → Has (member_in m x c) y → (c ≡ two binary.Member y x) × (m (two binary.Member y x) ≡ true)
  member_by (two binary.Member z u) x y h = by (tree_eq u x && m (two binary.Member z u)) refl h where
    by : (b : Bool) → (tree_eq u x && m (two binary.Member z u)) ≡ b → Has (cond b (z ∷ []) []) y → (two binary.Member z u ≡ two binary.Member y x) × (m (two binary.Member y x) ≡ true)
    by false e h = absurd h
    by true e (inr other) = absurd other
    by true e (inl is) =
        let whole : two binary.Member z u ≡ two binary.Member y x = λ i. two binary.Member (is i) (tree_eq-exact u x (and_first (tree_eq u x) (m (two binary.Member z u)) e) i) in
        (whole, ap m (sym whole) ∙ and_second (tree_eq u x) (m (two binary.Member z u)) e)
  member_by _ x y h = absurd h

  by_member : (x y : Tree) → m (two binary.Member y x) ≡ true → Has (member_in m x (two binary.Member y x)) y
  by_member x y e = let both : (tree_eq x x && m (two binary.Member y x)) ≡ true = both_true (tree_eq-itself x) e in
      subst (λ (b : Bool). Has (cond b (y ∷ []) []) y) (sym both) (inl refl)

module _ (d : Declarations) (env : Env) (literals : List Uid) (goal : Tree) (addresses : AreAddresses) (terms : AreTerms d env literals goal) (m : Model) (is : IsModel d env goal m) where
  pub is_assigned : (x y : Tree) → Has (assigned m x) y → Closed d env goal (two binary.Member y x) × (m.truths (two binary.Member y x) ≡ true)
  is_assigned x y h =
      let c = flat_map-Has (member_in m.truths x) m.closed y h in
      let r = member_by m.truths c.0 x y c.2 in
      (subst (Closed d env goal) r.0 ((is.listed c.0).0 c.1), r.1)

  pub assigned_is : (x y : Tree) → Closed d env goal (two binary.Member y x) → m.truths (two binary.Member y x) ≡ true → Has (assigned m x) y
  assigned_is x y c e =
      Has-flat_map (member_in m.truths x) m.closed (two binary.Member y x) y ((is.listed (two binary.Member y x)).1 c) (by_member m.truths x y e)

  -- what a rule says at closed terms, of closed terms alone
  pub ruled : (said : Said) (parts : List Signed) → IsRuleAt d (Closed d env goal) said → said ≡ Some parts
      → AllByRecursion (λ (s : Signed). Closed d env goal s.1) parts → some_hold m.truths parts ≡ true
  ruled said parts r e all = is.consistent.rules parts (subst (IsRuleAt d (Closed d env goal)) e r) all

  pub passed : (test : Bool) (parts : List Signed) → test ≡ true → given test parts ≡ Some parts
  passed test parts e = ap (λ t. given t parts) e

  -- ---- sorts of what is in a term

  term_at : (k : Sort) (x : Tree) → tree_sort x ≡ k → Closed d env goal x → IsTermOf d env literals k x
  term_at k x e c = subst (λ (j : Sort). IsTermOf d env literals j x) e (terms.made x c)

  lawful_at : (k : Sort) (x : Tree) → tree_sort x ≡ k → Closed d env goal x → IsSortOf d k
  lawful_at k x e c = subst (IsSortOf d) e (terms.lawful x c)

  names_ascend : (fs : SortFields) (x : Tree) → tree_sort x ≡ sort.Record fs → Closed d env goal x → IsStrictlySortedBy text_cmp (keys_of fs)
  names_ascend fs x e c = ((in_Record (IsSortLevel d) fs).0 (lawful_at (sort.Record fs) x e c)).0.0

  pub field_sorted : (fs : SortFields) (x : Tree) (f : SortField) → tree_sort x ≡ sort.Record fs → Closed d env goal x → Has fs f → tree_sort (field_term f.0 x) ≡ f.1
  field_sorted fs x f e c h =
      sort_is d env literals f.1 (field_term f.0 x)
      (field_made d env literals fs f.0 f.1 x (term_at (sort.Record fs) x e c) (found fs f (names_ascend fs x e c) h))

  pub held_sorted : (k : Sort) (x : Tree) → tree_sort x ≡ sort.Option k → Closed d env goal x → tree_sort (held_term x) ≡ k
  held_sorted k x e c = sort_is d env literals k (held_term x) (held_made d env literals k x (term_at (sort.Option k) x e c))

  pub held_plain : (k : Sort) (x : Tree) → tree_sort x ≡ sort.Option k → Closed d env goal x → is_option k ≡ false
  held_plain k x e c = ((in_Option (IsSortLevel d) k).0 (lawful_at (sort.Option k) x e c)).0

  pub member_plain : (k : Sort) (x : Tree) → tree_sort x ≡ sort.Set k → Closed d env goal x → is_option k ≡ false
  member_plain k x e c = ((in_Set (IsSortLevel d) k).0 (lawful_at (sort.Set k) x e c)).0

  -- ---- records

  pub fields_differ : (fs : SortFields) (x : Tree) → tree_sort x ≡ sort.Record fs → Closed d env goal x → (f : SortField) → Has fs f
      → field f.0 (flat_map (λ (f : SortField). field_of (f.0, val_of m f.1 (field_term f.0 x))) fs) ≡ entry (val_of m f.1 (field_term f.0 x))
  fields_differ fs x e c f h = field_found (λ (f : SortField). val_of m f.1 (field_term f.0 x)) fs f (names_ascend fs x e c) h

  module _ (fs : SortFields) (known : (f : SortField) → Has fs f → Claim d env literals goal addresses terms m is f.1) (x y : Tree)
      (p : ArePaired d env literals goal addresses terms m is (sort.Record fs) x y) (c : Closed d env goal (two binary.Equal x y)) (e : equal_term x y ≡ two binary.Equal x y) where
    field_agrees : (f : SortField) → Has fs f → Agrees d env literals goal addresses terms m is f.1 (field_term f.0 x) (field_term f.0 y)
    field_agrees f h =
        known f h (field_term f.0 x) (field_term f.0 y)
        (record {
          first = field_closed d env goal fs x f p.first_sort p.first h;
          second = field_closed d env goal fs y f p.second_sort p.second h;
          first_sort = field_sorted fs x f p.first_sort p.first h;
          second_sort = field_sorted fs y f p.second_sort p.second h;
        })
        (fields_equation d env goal fs x y f p.first_sort c h)

    record_whole : Closed d env goal (equal_term x y)
    record_whole = subst (Closed d env goal) (sym e) c

    level_is : fields_of x ≡ Some fs
    level_is = ap fields_level (ap out-Sort p.first_sort ∙ out_Record fs)

    one_sorted : one_sort x y ≡ true
    one_sorted = one_sort_is x y (sort.Record fs) p.first_sort p.second_sort

    by_eq3 : (f : SortField) → Has fs f → lit m.truths (equal_term x y) ≡ true → lit m.truths (field_equal x y f) ≡ true
    by_eq3 f h t =
        let place = place_of fs f h in
        let said : eq3 x y place.0 ≡ Some (unless (equal_term x y) ∷ so (field_equal x y f) ∷ []) =
        ap (λ o. eq3_of x y (field_at o place.0)) level_is ∙ ap (eq3_of x y) place.1 ∙ passed (one_sort x y) (unless (equal_term x y) ∷ so (field_equal x y f) ∷ []) one_sorted in
        second m.truths false true (equal_term x y) (field_equal x y f)
        (ruled (eq3 x y place.0) (unless (equal_term x y) ∷ so (field_equal x y f) ∷ []) (of_eq3 x y place.0 p.first p.second) said
        (record_whole, (fields_equation d env goal fs x y f p.first_sort c h, tt))) t

    by_eq4 : ((f : SortField) → Has fs f → lit m.truths (field_equal x y f) ≡ true) → lit m.truths (equal_term x y) ≡ true
    by_eq4 all =
        let parts : List Signed = so (equal_term x y) ∷ map (λ f. unless (field_equal x y f)) fs in
        let said : eq4 x y ≡ Some parts = ap (eq4_of x y) level_is ∙ passed (one_sort x y) parts one_sorted in
        only m.truths true (equal_term x y) (map (λ f. unless (field_equal x y f)) fs)
        (ruled (eq4 x y) parts (of_eq4 x y p.first p.second) said
        (record_whole, all_unless (Closed d env goal) (field_equal x y) fs (λ f h. fields_equation d env goal fs x y f p.first_sort c h)))
        (none_unless m.truths (field_equal x y) fs all)

    record_agrees : Agrees d env literals goal addresses terms m is (sort.Record fs) x y
    record_agrees = record {
      same = λ t.
          let fields = same_joined (λ (f : SortField). field_of (f.0, val_of m f.1 (field_term f.0 x))) (λ (f : SortField). field_of (f.0, val_of m f.1 (field_term f.0 y))) fs
          (λ f h. ap (λ v. field_of (f.0, v)) ((field_agrees f h).same (by_eq3 f h t))) in
          val_Record m fs x ∙ ap (λ r. it (value.Record r)) fields ∙ sym (val_Record m fs y);
      told = λ t.
          let r : Fields = flat_map (λ (f : SortField). field_of (f.0, val_of m f.1 (field_term f.0 x))) fs in
          let q : Fields = flat_map (λ (f : SortField). field_of (f.0, val_of m f.1 (field_term f.0 y))) fs in
          let fields : r ≡ q = sym (ap fields_seen (out.out_Record r)) ∙ ap record_in (sym (val_Record m fs x) ∙ t ∙ val_Record m fs y) ∙ ap fields_seen (out.out_Record q) in
          by_eq4 (λ f h.
          let entries : entry (val_of m f.1 (field_term f.0 x)) ≡ entry (val_of m f.1 (field_term f.0 y)) =
          sym (fields_differ fs x p.first_sort p.first f h) ∙ ap (field f.0) fields ∙ fields_differ fs y p.second_sort p.second f h in
          (field_agrees f h).told
          (sym (shown m f.1 (field_term f.0 x)) ∙ ap (field_seen (is_option f.1) f.1) entries ∙ shown m f.1 (field_term f.0 y)));
    }

  pub record_step : (fs : SortFields) → ((f : SortField) → Has fs f → Claim d env literals goal addresses terms m is f.1) → Claim d env literals goal addresses terms m is (sort.Record fs)
  record_step fs known = by_straight d env literals goal addresses terms m is (sort.Record fs) (ap bool_level (out_Record fs)) (record_agrees fs known)

  -- ---- options

  no_literal : (k : Sort) (x : Tree) → tree_sort x ≡ sort.Option k → literal_of x ≡ None
  no_literal k x e = by (literal_of x) refl where
    by : (o : Option Literal) → literal_of x ≡ o → o ≡ None
    by None f = refl
    by (Some l) f =
        absurd (literal_option l k (sym (sort_of_literal l) ∙ ap tree_sort (sym (literal_is x l f)) ∙ e))

  module _ (k : Sort) (known : Claim d env literals goal addresses terms m is k) (x y : Tree)
      (p : ArePaired d env literals goal addresses terms m is (sort.Option k) x y) (c : Closed d env goal (two binary.Equal x y)) (e : equal_term x y ≡ two binary.Equal x y) where
    held_agrees : Agrees d env literals goal addresses terms m is k (held_term x) (held_term y)
    held_agrees =
        known (held_term x) (held_term y)
        (record {
          first = held_closed d env goal k x p.first_sort p.first;
          second = held_closed d env goal k y p.second_sort p.second;
          first_sort = held_sorted k x p.first_sort p.first;
          second_sort = held_sorted k y p.second_sort p.second;
        })
        (held_equation d env goal k x y p.first_sort c)

    one_equation : equal_term x y ≡ equal_term y x
    one_equation = equal_sym x y (no_literal k x p.first_sort) (no_constant y (no_literal k y p.second_sort))

    option_whole : Closed d env goal (equal_term x y)
    option_whole = subst (Closed d env goal) (sym e) c

    option_turned : Closed d env goal (equal_term y x)
    option_turned = subst (Closed d env goal) one_equation option_whole

    first_present : Closed d env goal (present_term x)
    first_present = present_closed d env goal k x p.first_sort p.first

    second_present : Closed d env goal (present_term y)
    second_present = present_closed d env goal k y p.second_sort p.second

    held_whole : Closed d env goal (equal_term (held_term x) (held_term y))
    held_whole = held_equation d env goal k x y p.first_sort c

    options_are : are_options x y ≡ true
    options_are = both_true (one_sort_is x y (sort.Option k) p.first_sort p.second_sort) (ap (is_option_level Sort) (ap out-Sort p.first_sort ∙ out_Option k))

    options_turned : are_options y x ≡ true
    options_turned = both_true (one_sort_is y x (sort.Option k) p.second_sort p.first_sort) (ap (is_option_level Sort) (ap out-Sort p.second_sort ∙ out_Option k))

    one_option : (a b : Bool) → lit m.truths (present_term x) ≡ a → lit m.truths (present_term y) ≡ b
        → held_by a (val_of m k (held_term x)) ≡ held_by b (val_of m k (held_term y)) → lit m.truths (equal_term x y) ≡ true
    one_option true true f h t =
        let held : value_in (val_of m k (held_term x)) ≡ value_in (val_of m k (held_term y)) = same_some (ap option_in t) in
        let plain = held_plain k x p.first_sort p.first in
        let vals : val_of m k (held_term x) ≡ val_of m k (held_term y) = is_it m k (held_term x) plain ∙ ap it held ∙ sym (is_it m k (held_term y) plain) in
        let parts : List Signed = so (equal_term x y) ∷ unless (present_term x) ∷ unless (present_term y) ∷ unless (equal_term (held_term x) (held_term y)) ∷ [] in
        first_of_four m.truths true false false false (equal_term x y) (present_term x) (present_term y) (equal_term (held_term x) (held_term y))
        (ruled (eq7 x y 1) parts (of_eq7 x y 1 p.first p.second) (passed (are_options x y) parts options_are)
        (option_whole, (first_present, (second_present, (held_whole, tt))))) f h (held_agrees.told vals)
    one_option true false f h t = let both : Some (value_in (val_of m k (held_term x))) ≡ None = ap option_in t in absurd cc
    one_option false true f h t = let both : None ≡ Some (value_in (val_of m k (held_term y))) = ap option_in t in absurd cc
    one_option false false f h t =
        let parts : List Signed = so (equal_term x y) ∷ so (present_term x) ∷ so (present_term y) ∷ [] in
        first_of_three m.truths true true true (equal_term x y) (present_term x) (present_term y)
        (ruled (eq7 x y 0) parts (of_eq7 x y 0 p.first p.second) (passed (are_options x y) parts options_are)
        (option_whole, (first_present, (second_present, tt)))) f h

    option_agrees : Agrees d env literals goal addresses terms m is (sort.Option k) x y
    option_agrees = record {
      same = λ t.
          let there : lit m.truths (present_term x) ≡ lit m.truths (present_term y) =
          both_ways (lit m.truths (present_term x)) (lit m.truths (present_term y))
          (third m.truths false false true (equal_term x y) (present_term x) (present_term y)
          (ruled (eq5 x y) (unless (equal_term x y) ∷ unless (present_term x) ∷ so (present_term y) ∷ []) (of_eq5 x y p.first p.second)
          (passed (are_options x y) (unless (equal_term x y) ∷ unless (present_term x) ∷ so (present_term y) ∷ []) options_are)
          (option_whole, (first_present, (second_present, tt)))) t)
          (third m.truths false false true (equal_term y x) (present_term y) (present_term x)
          (ruled (eq5 y x) (unless (equal_term y x) ∷ unless (present_term y) ∷ so (present_term x) ∷ []) (of_eq5 y x p.second p.first)
          (passed (are_options y x) (unless (equal_term y x) ∷ unless (present_term y) ∷ so (present_term x) ∷ []) options_turned)
          (option_turned, (second_present, (first_present, tt)))) (ap (lit m.truths) (sym one_equation) ∙ t)) in
          let held : val_of m k (held_term x) ≡ val_of m k (held_term y) =
          held_agrees.same (second m.truths false true (equal_term x y) (equal_term (held_term x) (held_term y))
          (ruled (eq6 x y) (unless (equal_term x y) ∷ so (equal_term (held_term x) (held_term y)) ∷ []) (of_eq6 x y p.first p.second)
          (passed (are_options x y) (unless (equal_term x y) ∷ so (equal_term (held_term x) (held_term y)) ∷ []) options_are)
          (option_whole, (held_whole, tt))) t) in
          val_Option m k x ∙ (λ i. held_by (there i) (held i)) ∙ sym (val_Option m k y);
      told = λ t.
          one_option (lit m.truths (present_term x)) (lit m.truths (present_term y)) refl refl (sym (val_Option m k x) ∙ t ∙ val_Option m k y);
    }

  pub option_step : (k : Sort) → Claim d env literals goal addresses terms m is k → Claim d env literals goal addresses terms m is (sort.Option k)
  option_step k known = by_straight d env literals goal addresses terms m is (sort.Option k) (ap bool_level (out_Option k)) (option_agrees k known)
