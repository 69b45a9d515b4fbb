-- Terms that are made of terms of the fragment of Booleans are of the fragment.
use Rattle.std.proofs.Common.{◌≡◌, ℕ, refl, List, length, All, Bool, true, false, not, Option, Some, None, ap, sym, subst, ◌∙◌}
use Rattle.std.specs.Ordering.{is_gt}
use Rattle.sc_schema.specs.declared.ty.Ty.{Ty}
use Rattle.sc_sorts.specs.declared.sort.Sort.{Sort}
use Rattle.sc_sorts.specs.OfTypes.{sort_of}
use Rattle.sc_sorts.specs.declared.node.Leaf.TheVariants.{Context}
use Rattle.sc_sorts.specs.declared.node.BinaryOp.TheVariants.{And, Or, Equal}
use Rattle.sc_sorts.specs.declared.node.Node.{Node}
use Rattle.sc_terms.specs.Trees.{Tree, leaf, two}
use Rattle.sc_terms.specs.Tables.{tree, StandsFor}
use Rattle.sc_terms.specs.Order.{tree_cmp, tree_eq}
use Rattle.sc_terms.specs.Folds.{constant, literal_of, literals_same, truth_term, not_term, and_by, and_term, or_by, or_term, equation, other_equal, equal_by, equal_term, field_term}
use Rattle.sc_terms.specs.Joined.{all_of, any_of}
use Rattle.sc_term_laws.specs.Booleans.{IsBoolean, of_truth, of_attribute, of_not, of_two, attribute_term}
use Rattle.sc_terms.proofs.JoinedKeeps.{joined_keeps}

module _ (context : Option Ty) where
  abbrev Is : Tree → Type 0
  Is = IsBoolean context

  -- ---- connectives

  pub not_boolean : {t : Tree} → Is t → Is (not_term t)
  unfolding not_term field_term
  not_boolean (of_truth b) = of_truth (not b)
  not_boolean (of_attribute type fields name at plain has) = of_not (attribute_term type name) (of_attribute type fields name at plain has)
  not_boolean (of_not a h) = h
  not_boolean (of_two o a b c h k) = of_not (two o a b) (of_two o a b c h k)

  and_rows : (c d : Option Bool) (same : Bool) (a b : Tree) → Is a → Is b → Is (and_by c d same a b)
  and_rows (Some true) d same a b h k = k
  and_rows (Some false) d same a b h k = h
  and_rows None (Some true) same a b h k = h
  and_rows None (Some false) same a b h k = k
  and_rows None None true a b h k = h
  and_rows None None false a b h k = of_two And a b refl h k

  pub and_boolean : (a b : Tree) → Is a → Is b → Is (and_term a b)
  unfolding and_term
  and_boolean a b h k = and_rows (constant a) (constant b) (tree_eq a b) a b h k

  or_rows : (c d : Option Bool) (same : Bool) (a b : Tree) → Is a → Is b → Is (or_by c d same a b)
  or_rows (Some true) d same a b h k = h
  or_rows (Some false) d same a b h k = k
  or_rows None (Some true) same a b h k = k
  or_rows None (Some false) same a b h k = h
  or_rows None None true a b h k = h
  or_rows None None false a b h k = of_two Or a b refl h k

  pub or_boolean : (a b : Tree) → Is a → Is b → Is (or_term a b)
  unfolding or_term
  or_boolean a b h k = or_rows (constant a) (constant b) (tree_eq a b) a b h k

  equation_boolean : (greater : Bool) (a b : Tree) → Is a → Is b → Is (equation greater a b)
  equation_boolean true a b h k = of_two Equal b a refl k h
  equation_boolean false a b h k = of_two Equal a b refl h k

  other_rows : (same : Bool) (literals : Option Bool) (a b : Tree) → Is a → Is b → Is (other_equal same literals a b)
  other_rows true literals a b h k = of_truth true
  other_rows false (Some same) a b h k = of_truth same
  other_rows false None a b h k = equation_boolean (is_gt (tree_cmp a b)) a b h k

  equal_rows : (c d : Option Bool) (a b : Tree) → Is a → Is b → Is (equal_by c d a b)
  equal_rows (Some true) d a b h k = k
  equal_rows (Some false) d a b h k = not_boolean k
  equal_rows None (Some true) a b h k = h
  equal_rows None (Some false) a b h k = not_boolean h
  equal_rows None None a b h k = other_rows (tree_eq a b) (literals_same (literal_of a) (literal_of b)) a b h k

  pub equal_boolean : (a b : Tree) → Is a → Is b → Is (equal_term a b)
  unfolding equal_term
  equal_boolean a b h k = equal_rows (constant a) (constant b) a b h k

  -- ---- lists

  pub all_boolean : (ts : List Tree) → All Is ts → Is (all_of ts)
  all_boolean ts h = joined_keeps Is and_term (truth_term true) (of_truth true) and_boolean (length ts) ts h

  pub any_boolean : (ts : List Tree) → All Is ts → Is (any_of ts)
  any_boolean ts h = joined_keeps Is or_term (truth_term false) (of_truth false) or_boolean (length ts) ts h

-- ---- attributes

-- the field of a number that stands for the context
pub field_attribute : (type : Ty) (ys zs : List Node) (c n : ℕ) (s : Sort) (name : List ℕ) → IsBoolean (Some type) (attribute_term type name) → s ≡ sort_of type → StandsFor ys c (leaf (Context s))
    → StandsFor zs n (field_term name (tree ys c)) → IsBoolean (Some type) (tree zs n)
field_attribute type ys zs c n s name h e p q = subst (IsBoolean (Some type)) (sym (q.is ∙ ap (field_term name) (p.is ∙ ap (λ (x : Sort). leaf (Context x)) e))) h
