-- Which signed terms of rules are truth values: equations of two terms of one sort, or of two that are no truth values.
use Rattle.std.proofs.Common.{◌≡◌, Bool, true, false, inl, inr, List, [], ◌∷◌, map, Option, Some, None, refl, sym, ap, ◌∙◌}
use Rattle.std.specs.Bool.{⊤}
use Rattle.std.specs.List.{AllByRecursion}
use Rattle.std.specs.Ordering.{is_gt}
use Rattle.sc_laws.proofs.BoolLaws.{never}
use Rattle.sc_lists.specs.Members.{Has}
use Rattle.sc_names.specs.declared.uid.Uid.{Uid}
use Rattle.sc_schema.specs.declared.declarations.Env.{Env}
use Rattle.sc_schema.specs.Declarations.{Declarations}
use Rattle.sc_sorts.specs.declared.sort.Sort.{Sort, Sort-F, out-Sort}
use Rattle.sc_sorts.specs.declared.sort.Sort.TheVariants as sort
use Rattle.sc_sorts.specs.declared.sort.Sort.TheOpen as s
use Rattle.sc_sorts.proofs.OutLaws.{out_Bool}
use Rattle.sc_sorts.specs.declared.node.Leaf.TheVariants.{Literal}
use Rattle.sc_sorts.specs.declared.node.Literal.TheVariants.{Bool as bool}
use Rattle.sc_terms.specs.Trees.{Tree, leaf}
use Rattle.sc_terms.specs.TreeSorts.{tree_sort}
use Rattle.sc_terms.specs.Order.{tree_cmp, tree_eq}
use Rattle.sc_terms.specs.Folds.{constant, literal_of, literals_same, equation, other_equal, equal_by, equal_term}
use Rattle.sc_term_laws.specs.Judging.{IsTermOf}
use Rattle.sc_term_laws.specs.Tests.{is_entity_sort, entity_level}
use Rattle.sc_term_laws.proofs.JudgingLaws.{sort_is}
use Rattle.sc_term_laws.proofs.MadeLaws.{equal_made}
use Rattle.sc_footprint.specs.Atoms.{is_bool, is_bool_in}
use Rattle.sc_footprint.proofs.KindLaws.{bool_is}
use Rattle.sc_footprint.proofs.TruthLaws.{truth_sort}
use Rattle.sc_rule_laws.specs.Signed.{Signed, Said, given}
use Rattle.sc_rule_laws.specs.Terms.{member, subset, common}

-- ---- terms that are no truth values

pub plain : (t : Tree) → is_bool t ≡ false → constant t ≡ None
unfolding tree_sort
plain (leaf (Literal (bool b))) h = never _ (sym (ap is_bool_in out_Bool) ∙ h)
plain _ h = refl

pub plain_at : (t : Tree) (k : Sort-F Sort) → out-Sort (tree_sort t) ≡ k → is_bool_in k ≡ false → constant t ≡ None
plain_at t k e h = plain t (ap is_bool_in e ∙ h)

entity_at : (d : Declarations) (j : Sort) (k : Sort-F Sort) → entity_level d j k ≡ true → is_bool_in k ≡ false
entity_at d j s.Bool h = absurd cc
entity_at d j _ h = refl

pub entity_plain : (d : Declarations) (t : Tree) → is_entity_sort d (tree_sort t) ≡ true → constant t ≡ None
entity_plain d t h = plain t (entity_at d (tree_sort t) (out-Sort (tree_sort t)) h)

-- ---- terms that are truth values

pub member_bool : (x s : Tree) → is_bool (member x s) ≡ true
unfolding tree_sort
member_bool x s = ap is_bool_in out_Bool

pub subset_bool : (s t : Tree) → is_bool (subset s t) ≡ true
unfolding tree_sort
subset_bool s t = ap is_bool_in out_Bool

pub common_bool : (s t : Tree) → is_bool (common s t) ≡ true
unfolding tree_sort
common_bool s t = ap is_bool_in out_Bool

equation_bool : (turn : Bool) (a b : Tree) → is_bool (equation turn a b) ≡ true
unfolding tree_sort
equation_bool true a b = ap is_bool_in out_Bool
equation_bool false a b = ap is_bool_in out_Bool

other_bool : (same : Bool) (literals : Option Bool) (a b : Tree) → is_bool (other_equal same literals a b) ≡ true
other_bool true literals a b = truth_sort true
other_bool false (Some same) a b = truth_sort same
other_bool false None a b = equation_bool (is_gt (tree_cmp a b)) a b

pub plain_equal : (a b : Tree) → constant a ≡ None → constant b ≡ None → is_bool (equal_term a b) ≡ true
unfolding equal_term
plain_equal a b e f =
    ap (λ (o : Option Bool). is_bool (equal_by o (constant b) a b)) e
    ∙ ap (λ (o : Option Bool). is_bool (equal_by None o a b)) f
    ∙ other_bool (tree_eq a b) (literals_same (literal_of a) (literal_of b)) a b

module _ (d : Declarations) (env : Env) (written : List Uid) where
  pub bool_of : (t : Tree) → IsTermOf d env written sort.Bool t → is_bool t ≡ true
  bool_of t h = bool_is t (sort_is d env written sort.Bool t h)

  pub same_equal : (k : Sort) (a b : Tree) → IsTermOf d env written k a → IsTermOf d env written k b → is_bool (equal_term a b) ≡ true
  same_equal k a b g h = bool_of (equal_term a b) (equal_made d env written k a b g h)

-- ---- what is said

abbrev pub AreTruths : List Signed → Type 0
AreTruths parts = AllByRecursion (λ (s : Signed). is_bool s.1 ≡ true) parts

-- what is said is of truth values, where it is of terms of some property
abbrev pub IsOfTruths : (Tree → Type 0) → Said → Type 0
IsOfTruths Is None = ⊤
IsOfTruths Is (Some parts) = AllByRecursion (λ (s : Signed). Is s.1) parts → AreTruths parts

pub given_truths : (Is : Tree → Type 0) (test : Bool) (parts : List Signed) → (test ≡ true → AreTruths parts) → IsOfTruths Is (given test parts)
given_truths Is true parts h = λ all. h refl
given_truths Is false parts h = tt

pub mapped_truths : {X : Type 0} (f : X → Signed) (xs : List X) → ((x : X) → Has xs x → is_bool (f x).1 ≡ true) → AreTruths (map f xs)
mapped_truths f [] h = tt
mapped_truths f (x ∷ xs) h = (h x (inl refl), mapped_truths f xs (λ y i. h y (inr i)))
