-- What a consistent assignment says of equations of what is no truth value.
use Rattle.std.proofs.Common.{◌≡◌, ◌&&◌, Bool, true, false, cond, List, [], ◌∷◌, Option, Some, None, refl, ap, sym, ◌∙◌, subst}
use Rattle.std.specs.Cmp.Derive.{both_true}
use Rattle.sc_schema.specs.declared.declarations.Env.{Env}
use Rattle.sc_schema.specs.Declarations.{Declarations}
use Rattle.sc_sorts.specs.declared.sort.Sort.{out-Sort}
use Rattle.sc_sorts.specs.declared.sort.Sort.TheVariants as sort
use Rattle.sc_sorts.proofs.OutLaws.{out_String}
use Rattle.sc_sorts.specs.declared.node.Literal.{Literal}
use Rattle.sc_sorts.specs.Literals.{same_entity}
use Rattle.sc_terms.specs.Trees.{Tree}
use Rattle.sc_terms.specs.Order.{tree_eq}
use Rattle.sc_terms.specs.Folds.{constant, literal_of, literals_same, equal_term, other_equal}
use Rattle.sc_terms.specs.Values.{it, truth, literal_value}
use Rattle.sc_terms.proofs.OrderLaws.{tree_eq-itself}
use Rattle.sc_terms.proofs.FoldValues.{literal_is, truth_is, truth_yes}
use Rattle.sc_term_laws.specs.Tests.{bool_level}
use Rattle.sc_rule_laws.specs.Signed.{Signed, so, unless, is_true}
use Rattle.sc_rule_laws.specs.Terms.{is_named, is_named_level}
use Rattle.sc_rule_laws.specs.Equal.{eq1}
use Rattle.sc_rule_laws.proofs.EquationLaws.{is_equal, equal_so}
use Rattle.sc_closure_rules.specs.Closure.{Closed}
use Rattle.sc_model_laws.specs.Assignments.{Assignment, lit}
use Rattle.sc_model_laws.specs.Consistent.{IsConsistent, IsRuleAt, of_eq1}
use Rattle.sc_model_laws.specs.Texts.{IsString}
use Rattle.sc_model_laws.proofs.ClaimLaws.{nowhere, no_truth}
use Rattle.sc_model_laws.proofs.ClosedLaws.{strings_equation}
use Rattle.sc_model_laws.proofs.EquationTerms.{equal_plain, equal_sym, lit_truth}
use Rattle.sc_model_laws.proofs.HoldLaws.{third}

module _ (m : Assignment) where
  pub equal_itself : (x : Tree) → constant x ≡ None → lit m (equal_term x x) ≡ true
  equal_itself x n =
      ap (lit m) (equal_plain x x n n ∙ ap (λ (t : Bool). other_equal t (literals_same (literal_of x) (literal_of x)) x x) (tree_eq-itself x)) ∙ lit_truth m true

  -- of two literals the equation is a truth value, which is the same in any world
  pub literals_fold : (x y : Tree) (k l : Literal) → constant x ≡ None → constant y ≡ None → literal_of x ≡ Some k → literal_of y ≡ Some l
      → lit m (equal_term x y) ≡ is_true (equal_term x y) nowhere
  literals_fold x y k l a b e f =
      let is_plain : equal_term x y ≡ other_equal (tree_eq x y) (Some (same_entity k l)) x y =
      equal_plain x y a b ∙ (λ i. other_equal (tree_eq x y) (literals_same (e i) (f i)) x y) in
      ap (lit m) is_plain ∙ by (tree_eq x y) ∙ sym (ap (λ (t : Tree). is_true t nowhere) is_plain) where
        by : (t : Bool) → lit m (other_equal t (Some (same_entity k l)) x y) ≡ is_true (other_equal t (Some (same_entity k l)) x y) nowhere
        by true = lit_truth m true ∙ sym (ap truth (truth_is true nowhere) ∙ truth_yes true)
        by false = lit_truth m (same_entity k l) ∙ sym (ap truth (truth_is (same_entity k l) nowhere) ∙ truth_yes (same_entity k l))

  pub equal_back : (x y : Tree) → constant x ≡ None → constant y ≡ None → lit m (equal_term x y) ≡ true → lit m (equal_term y x) ≡ true
  equal_back x y a b t = by (literal_of x) (literal_of y) refl refl where
    by : (o p : Option Literal) → literal_of x ≡ o → literal_of y ≡ p → lit m (equal_term y x) ≡ true
    by None p e f = ap (lit m) (sym (equal_sym x y e b)) ∙ t
    by (Some k) None e f = ap (lit m) (equal_sym y x f a) ∙ t
    by (Some k) (Some l) e f =
        literals_fold y x l k b a f e ∙ equal_so nowhere y x (sym (is_equal nowhere x y (sym (literals_fold x y k l a b e f) ∙ t)))

  pub literals_one : (x y : Tree) (k l : Literal) → constant x ≡ None → constant y ≡ None → literal_of x ≡ Some k → literal_of y ≡ Some l → lit m (equal_term x y) ≡ true
      → it (literal_value k) ≡ it (literal_value l)
  literals_one x y k l a b e f t =
      sym (literal_is x k nowhere e) ∙ is_equal nowhere x y (sym (literals_fold x y k l a b e f) ∙ t) ∙ literal_is y l nowhere f

-- equality of closed strings
pub record AreEquated (d : Declarations) (env : Env) (goal : Tree) (m : Assignment) : Type 0 where
  pub itself : (x : Tree) → IsString d env goal x → lit m (equal_term x x) ≡ true
  pub turned : (x y : Tree) → IsString d env goal x → IsString d env goal y → lit m (equal_term x y) ≡ true → lit m (equal_term y x) ≡ true
  pub through : (x y z : Tree) → IsString d env goal x → IsString d env goal y → IsString d env goal z → lit m (equal_term x y) ≡ true → lit m (equal_term y z) ≡ true
      → lit m (equal_term x z) ≡ true

module _ (d : Declarations) (env : Env) (goal : Tree) (m : Assignment) (is : IsConsistent d env goal m) where
  -- of terms that have names, whose equations are closed
  pub equal_through : (x y z : Tree) → Closed d env goal x → Closed d env goal y → Closed d env goal z → is_named x ≡ true → is_named y ≡ true → is_named z ≡ true
      → Closed d env goal (equal_term x y) → Closed d env goal (equal_term y z) → Closed d env goal (equal_term x z)
      → lit m (equal_term x y) ≡ true → lit m (equal_term y z) ≡ true → lit m (equal_term x z) ≡ true
  equal_through x y z a b c e f g h i j t u =
      let parts : List Signed = unless (equal_term x y) ∷ unless (equal_term y z) ∷ so (equal_term x z) ∷ [] in
      let test : (is_named x && (is_named y && is_named z)) ≡ true = both_true e (both_true f g) in
      let said : eq1 x y z ≡ Some parts = ap (λ (q : Bool). cond q (Some parts) None) test in
      third m false false true (equal_term x y) (equal_term y z) (equal_term x z)
      (is.rules parts (subst (IsRuleAt d (Closed d env goal)) said (of_eq1 x y z a b c)) (h, (i, (j, tt)))) t u

  plain : (x : Tree) → IsString d env goal x → constant x ≡ None
  plain x s = no_truth sort.String x s.1 (ap bool_level out_String)

  has_name : (x : Tree) → IsString d env goal x → is_named x ≡ true
  has_name x s = ap is_named_level (ap out-Sort s.1 ∙ out_String)

  pub strings_equated : AreEquated d env goal m
  strings_equated = record {
    itself = λ x s. equal_itself m x (plain x s);
    turned = λ x y s t e. equal_back m x y (plain x s) (plain y t) e;
    through = λ x y z s t u e f.
        equal_through x y z s.0 t.0 u.0 (has_name x s) (has_name y t) (has_name z u) (strings_equation d env goal x y s.1 t.1 s.0 t.0) (strings_equation d env goal y z t.1 u.1 t.0 u.0)
        (strings_equation d env goal x z s.1 u.1 s.0 u.0) e f;
  }
