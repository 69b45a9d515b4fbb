-- The rules of equations, choices, records and options are true in every world; EQ3 where what records hold is as their sorts say, EQ4
-- where they are of their sort, EQ7 where options are options.
use Rattle.std.proofs.Common.{◌≡◌, ◌&&◌, ℕ, zero, suc, Bool, true, false, cond, List, [], map, is_some, Option, Some, None, refl, sym, ap, ◌∙◌}
use Rattle.std.proofs.lemmas.Bool.{and_parts}
use Rattle.sc_lists.specs.Members.{Has}
use Rattle.sc_laws.proofs.BoolLaws.{never}
use Rattle.sc_values.specs.declared.value.Value.{Value}
use Rattle.sc_world.specs.declared.world.World.{World}
use Rattle.sc_sorts.specs.declared.sort.Sort.{Sort}
use Rattle.sc_sorts.specs.Inside.{SortField, SortFields, field_sort, held_sort}
use Rattle.sc_sorts.specs.OrderLaws.{sort_eq_decides}
use Rattle.sc_terms.specs.Trees.{Tree, leaf, one, two, choice, many}
use Rattle.sc_terms.specs.TreeSorts.{tree_sort}
use Rattle.sc_terms.specs.Folds.{equal_term, field_term, present_term, held_term, default_term}
use Rattle.sc_terms.specs.Values.{Val, it, maybe, val, option_in, field_value, held_value, choice_value, HasKinds}
use Rattle.sc_terms.proofs.RecordValues.{field_is}
use Rattle.sc_terms.proofs.DefaultValues.{default_is}
use Rattle.sc_rule_laws.specs.Signed.{unless, some_holds, Holds, is_true}
use Rattle.sc_rule_laws.specs.Terms as term
use Rattle.sc_rule_laws.specs.Terms.{one_sort, fields_of}
use Rattle.sc_rule_laws.specs.Equal.{field_equal, eq1, eq2, eq3_of, field_at, eq3, eq4_of, eq4, are_options, eq5, eq6, eq7, eq8}
use Rattle.sc_rule_laws.proofs.ClauseLaws.{unless_else, so_else, so_holds, given_holds, all_true}
use Rattle.sc_rule_laws.proofs.EquationLaws.{is_equal, equal_so}
use Rattle.sc_rule_laws.proofs.MemberTruths.{present_truth, held_val}

pub one_sort_is : (a b : Tree) → one_sort a b ≡ true → tree_sort a ≡ tree_sort b
one_sort_is a b e = (sort_eq_decides (tree_sort a) (tree_sort b)).0 e

none_held : (o : Option Value) → is_some o ≡ false → o ≡ None
none_held None e = refl
none_held (Some v) e = absurd cc

-- an option that holds a value
one_held : (x : Val) → is_some (option_in x) ≡ true → (v : Value) × (x ≡ maybe (Some v))
one_held (it v) e = absurd cc
one_held (maybe None) e = absurd cc
one_held (maybe (Some v)) e = (v, refl)

module _ (w : World) where
  -- ---- EQ1, EQ2

  pub eq1_holds : (a b c : Tree) → Holds w (eq1 a b c)
  eq1_holds a b c = given_holds w (term.is_named a && (term.is_named b && term.is_named c)) _ (λ t.
      unless_else w (equal_term a b) _ (λ e. unless_else w (equal_term b c) _ (λ f. so_holds w (equal_term a c) [] (equal_so w a c (is_equal w a b e ∙ is_equal w b c f)))))

  val_choice : (c a b : Tree) → val (choice c a b) w ≡ choice_value (val c w) (val a w) (val b w)
  unfolding val
  val_choice c a b = refl

  val_chosen : (c a b : Tree) (t : Bool) → is_true c w ≡ t → val (choice c a b) w ≡ cond t (val a w) (val b w)
  val_chosen c a b t e = val_choice c a b ∙ ap (λ (d : Bool). cond d (val a w) (val b w)) e

  pub eq2_holds : (x : Tree) (i : ℕ) → Holds w (eq2 x i)
  eq2_holds (choice c a b) zero = unless_else w c _ (λ e. so_holds w (equal_term (choice c a b) a) [] (equal_so w (choice c a b) a (val_chosen c a b true e)))
  eq2_holds (choice c a b) (suc zero) = so_else w c _ (λ e. so_holds w (equal_term (choice c a b) b) [] (equal_so w (choice c a b) b (val_chosen c a b false e)))
  eq2_holds (choice c a b) (suc (suc i)) = tt
  eq2_holds (leaf l) i = tt
  eq2_holds (one o a) i = tt
  eq2_holds (two o a b) i = tt
  eq2_holds (many o ts) i = tt

  -- ---- EQ3

  -- equal records of one sort have one value at each name
  one_field : (r s : Tree) (name : List ℕ) → HasKinds r w → HasKinds s w → tree_sort r ≡ tree_sort s → val r w ≡ val s w → val (field_term name r) w ≡ val (field_term name s) w
  one_field r s name h k e f =
      field_is name r w h
      ∙ ap (λ (q : Sort). field_value name (field_sort name q) (val r w)) e
      ∙ ap (λ (x : Val). field_value name (field_sort name (tree_sort s)) x) f
      ∙ sym (field_is name s w k)

  eq3_at : (r s : Tree) (o : Option SortField) → HasKinds r w → HasKinds s w → Holds w (eq3_of r s o)
  eq3_at r s None h k = tt
  eq3_at r s (Some f) h k = given_holds w (one_sort r s) _ (λ e.
      unless_else w (equal_term r s) _ (λ d. so_holds w (field_equal r s f) [] (equal_so w (field_term f.0 r) (field_term f.0 s) (one_field r s f.0 h k (one_sort_is r s e) (is_equal w r s d)))))

  pub eq3_holds : (r s : Tree) (i : ℕ) → HasKinds r w → HasKinds s w → Holds w (eq3 r s i)
  eq3_holds r s i h k = eq3_at r s (field_at (fields_of r) i) h k

  -- ---- EQ4

  -- records of one sort with these fields, whose fields are all equal, are one
  abbrev pub FieldsTell : Tree → Tree → SortFields → Type 0
  FieldsTell r s fs = ((f : SortField) → Has fs f → val (field_term f.0 r) w ≡ val (field_term f.0 s) w) → val r w ≡ val s w

  eq4_at : (r s : Tree) (fs : SortFields) → (one_sort r s ≡ true → FieldsTell r s fs) → Holds w (eq4_of r s (Some fs))
  eq4_at r s fs tell = given_holds w (one_sort r s) _ (λ e. so_else w (equal_term r s) (map (λ f. unless (field_equal r s f)) fs) (λ d.
      by e d (some_holds w (map (λ f. unless (field_equal r s f)) fs)) refl)) where
        by : one_sort r s ≡ true → is_true (equal_term r s) w ≡ false → (b : Bool) → some_holds w (map (λ f. unless (field_equal r s f)) fs) ≡ b → some_holds w (map (λ f. unless (field_equal r s f)) fs) ≡ true
        by e d true q = q
        by e d false q =
            never _ (sym (equal_so w r s (tell e (λ f h. is_equal w (field_term f.0 r) (field_term f.0 s) (all_true w (field_equal r s) fs q f h)))) ∙ d)

  eq4_by : (r s : Tree) (o : Option SortFields) → ((fs : SortFields) → o ≡ Some fs → one_sort r s ≡ true → FieldsTell r s fs) → Holds w (eq4_of r s o)
  eq4_by r s None tell = tt
  eq4_by r s (Some fs) tell = eq4_at r s fs (tell fs refl)

  pub eq4_holds : (r s : Tree) → ((fs : SortFields) → fields_of r ≡ Some fs → one_sort r s ≡ true → FieldsTell r s fs) → Holds w (eq4 r s)
  eq4_holds r s tell = eq4_by r s (fields_of r) tell

  -- ---- EQ5 to EQ8

  present_at : (o : Tree) (b : Bool) → is_true (present_term o) w ≡ b → is_some (option_in (val o w)) ≡ b
  present_at o b e = sym (present_truth w o) ∙ e

  pub eq5_holds : (o q : Tree) → Holds w (eq5 o q)
  eq5_holds o q = given_holds w (are_options o q) _ (λ t. unless_else w (equal_term o q) _ (λ e. unless_else w (present_term o) _ (λ f. so_holds w (present_term q) []
      (present_truth w q ∙ ap (λ (x : Val). is_some (option_in x)) (sym (is_equal w o q e)) ∙ present_at o true f))))

  pub eq6_holds : (o q : Tree) → Holds w (eq6 o q)
  eq6_holds o q = given_holds w (are_options o q) _ (λ t. unless_else w (equal_term o q) _ (λ e. so_holds w (equal_term (held_term o) (held_term q)) []
      (equal_so w (held_term o) (held_term q)
      (held_val w o ∙ ap (λ (k : Sort). held_value (held_sort k) (option_in (val o w))) (one_sort_is o q (and_parts (one_sort o q) (term.is_option o) t).0)
      ∙ ap (λ (x : Val). held_value (held_sort (tree_sort q)) (option_in x)) (is_equal w o q e) ∙ sym (held_val w q)))))

  -- what an option is
  abbrev pub IsAnOption : Tree → Type 0
  IsAnOption o = (v : Option Value) × (val o w ≡ maybe v)

  absent_is : (o : Tree) → IsAnOption o → is_true (present_term o) w ≡ false → val o w ≡ maybe None
  absent_is o (v, e) f = e ∙ ap maybe (none_held v (ap (λ (x : Val). is_some (option_in x)) (sym e) ∙ present_at o false f))

  held_one : (o : Tree) (v : Value) → val o w ≡ maybe (Some v) → val (held_term o) w ≡ it v
  held_one o v e = held_val w o ∙ ap (λ (x : Val). held_value (held_sort (tree_sort o)) (option_in x)) e

  held_tells : (u v : Value) → it u ≡ it v → u ≡ v
  held_tells u v e = ap inside e where
    inside : Val → Value
    inside (it x) = x
    inside (maybe o) = u

  pub eq7_holds : (o q : Tree) (i : ℕ) → (term.is_option o ≡ true → IsAnOption o) → (one_sort o q ≡ true → term.is_option o ≡ true → IsAnOption q) → Holds w (eq7 o q i)
  eq7_holds o q zero h k = given_holds w (are_options o q) _ (λ t.
      let tests = and_parts (one_sort o q) (term.is_option o) t in
      so_else w (equal_term o q) _ (λ e. so_else w (present_term o) _ (λ f. so_else w (present_term q) _ (λ d.
      never _ (sym (equal_so w o q (absent_is o (h tests.1) f ∙ sym (absent_is q (k tests.0 tests.1) d))) ∙ e)))))
  eq7_holds o q (suc zero) h k = given_holds w (are_options o q) _ (λ t.
      so_else w (equal_term o q) _ (λ e. unless_else w (present_term o) _ (λ f. unless_else w (present_term q) _ (λ d. unless_else w (equal_term (held_term o) (held_term q)) _ (λ s.
      let (u, a) = one_held (val o w) (present_at o true f) in
      let (v, b) = one_held (val q w) (present_at q true d) in
      let same : u ≡ v = held_tells u v (sym (held_one o u a) ∙ is_equal w (held_term o) (held_term q) s ∙ held_one q v b) in
      never _ (sym (equal_so w o q (a ∙ ap (λ z. maybe (Some z)) same ∙ sym b)) ∙ e))))))
  eq7_holds o q (suc (suc i)) h k = tt

  pub eq8_holds : (o : Tree) → Holds w (eq8 o)
  eq8_holds o = given_holds w (term.is_option o) _ (λ t. so_else w (present_term o) _ (λ e. so_holds w (equal_term (held_term o) (default_term (held_sort (tree_sort o)))) []
      (equal_so w (held_term o) (default_term (held_sort (tree_sort o)))
      (held_val w o ∙ ap (held_value (held_sort (tree_sort o))) (none_held (option_in (val o w)) (present_at o false e)) ∙ sym (default_is (held_sort (tree_sort o)) w)))))
