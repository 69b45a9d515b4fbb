-- The truth of a term, one negation at a time, and of an atom by its number.
use Rattle.std.proofs.Common.{◌≡◌, ℕ, Bool, true, false, not, cond, Some, None, unwrap_or, refl, sym, ap, ◌∙◌}
use Rattle.sc_laws.proofs.BoolLaws.{not_not}
use Rattle.sc_clauses.specs.Assignments.{value_of}
use Rattle.sc_clauses.specs.Assignments as assigned
use Rattle.sc_clauses.specs.declared.lit.Lit.{Lit}
use Rattle.sc_sorts.specs.declared.node.Leaf.TheVariants.{Literal}
use Rattle.sc_sorts.specs.declared.node.Literal.TheVariants.{Bool as bool}
use Rattle.sc_sorts.specs.declared.node.UnaryOp.TheVariants.{Not}
use Rattle.sc_terms.specs.Trees.{Tree, leaf, one}
use Rattle.sc_terms.specs.Folds.{constant, under_not}
use Rattle.sc_footprint.specs.Problems.{Posed, atom_number, literal_in}
use Rattle.sc_rule_instances.proofs.LiteralLaws.{IsLiteral, of_false, of_not, of_atom, literal_is}
use Rattle.sc_model_values.specs.Models.{truth_in}
use Rattle.sc_model_laws.specs.Assignments.{Assignment, lit}

-- turned round, where it is negated
abbrev pub turned : Bool → Bool → Bool
turned negated b = cond negated (not b) b

module _ (m : Assignment) where
  of_negation : (t a : Tree) → Some a ≡ under_not t → lit m t ≡ not (lit m a)
  unfolding lit
  of_negation (one Not b) a h = let same : b ≡ a = cc in ap (λ (x : Tree). not (lit m x)) same
  of_negation _ a h = absurd cc

  pub of_constant : (t : Tree) (b : Bool) → Some b ≡ constant t → lit m t ≡ b
  unfolding lit
  of_constant (leaf (Literal (bool c))) b h = cc
  of_constant _ b h = absurd cc

  pub of_other : (t : Tree) → None ≡ under_not t → None ≡ constant t → lit m t ≡ m t
  unfolding lit
  of_other (leaf (Literal (bool c))) h k = absurd cc
  of_other (one Not b) h k = absurd cc
  of_other _ h k = refl

  turned_once : (b x : Bool) → turned b (not x) ≡ turned (not b) x
  turned_once true x = not_not x
  turned_once false x = refl

  -- one negation further down
  pub truth_step : (t u a : Tree) (b : Bool) → lit m t ≡ turned b (lit m u) → Some a ≡ under_not u → lit m t ≡ turned (not b) (lit m a)
  truth_step t u a b e h = e ∙ ap (turned b) (of_negation u a h) ∙ turned_once b (lit m a)

-- the literal of a term that is neither a negation nor a truth value is of the term's number
atom_by : (number : Tree → ℕ) (t : Tree) (l : Lit) → IsLiteral number t l → None ≡ under_not t → None ≡ constant t → l.atom ≡ number t
atom_by number _ _ of_false h k = absurd cc
atom_by number _ _ (of_not a l i) h k = absurd cc
atom_by number _ _ (of_atom t o) h k = refl

pub of_atom_number : (p : Posed) (m : assigned.Assignment) (t : Tree) → None ≡ under_not t → None ≡ constant t
    → unwrap_or (value_of m (literal_in p t).atom) false ≡ lit (truth_in p m) t
of_atom_number p m t h k =
    ap (λ (n : ℕ). unwrap_or (value_of m n) false) (atom_by (atom_number p) t (literal_in p t) (literal_is (atom_number p) t) h k)
    ∙ sym (of_other (truth_in p m) t h k)
