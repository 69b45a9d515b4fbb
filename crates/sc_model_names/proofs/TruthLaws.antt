-- The truth of a term is that of its literal.
use Rattle.std.proofs.Common.{◌≡◌, ◌==◌, ◌&&◌, ℕ, Bool, true, false, not, cond, Option, Some, None, IfSome, refl, sym, ap, ◌∙◌, arith}
use Rattle.std.proofs.Math.Bool.{and_comm}
use Rattle.std.proofs.lemmas.Bool.{eqb-true}
use Rattle.sc_laws.proofs.BoolLaws.{not_not}
use Rattle.sc_laws.proofs.OptionLaws.{same_some}
use Rattle.sc_lists.specs.Members.{Has}
use Rattle.sc_clauses.specs.declared.lit.Lit.{Lit}
use Rattle.sc_clauses.specs.Assignments.{Assignment}
use Rattle.sc_clauses.specs.Clauses.{positive, negation}
use Rattle.sc_sorts.specs.declared.node.Leaf.TheVariants.{Literal}
use Rattle.sc_sorts.specs.declared.node.Literal.TheVariants as literals
use Rattle.sc_sorts.specs.declared.node.UnaryOp.TheVariants.{Not, Like}
use Rattle.sc_terms.specs.Finding.{IsFound}
use Rattle.sc_terms.specs.Folds.{constant, truth_term}
use Rattle.sc_terms.specs.Tables.{tree}
use Rattle.sc_terms.specs.Trees.{Tree, leaf, one}
use Rattle.sc_terms.proofs.OrderLaws.{tree_cmp_level}
use Rattle.sc_rule_laws.specs.Strings.{Pattern}
use Rattle.sc_footprint.specs.Atoms.{is_opposite}
use Rattle.sc_footprint.specs.Problems.{Posed, IsPosed, atoms, numbered, atom_number, literal, literal_in}
use Rattle.sc_footprint.proofs.NumberingLaws.{numbered_back}
use Rattle.sc_rule_instances.proofs.LiteralLaws.{IsLiteral, of_false, of_not, of_atom, literal_is, number_there, not_in_table, not_listed, first, literal_truth as literal_of_truth}
use Rattle.sc_model_values.specs.Models.{truth_in}
use Rattle.sc_model_laws.specs.Assignments.{lit}
use Rattle.sc_model_names.specs.Truths.{literal_truth}

-- a negation has the other truth
turned : (m : Assignment) (l : Lit) → literal_truth m (negation l) ≡ not (literal_truth m l)
turned m l = by l.negated (literal_truth m (positive l.atom)) where
  by : (b a : Bool) → cond (not b) (not a) a ≡ not (cond b (not a) a)
  by true a = sym (not_not a)
  by false a = refl

module _ (p : Posed) (posed : IsPosed p) (m : Assignment) where
  -- `true` is atom 1, and no other term is
  true_number : atom_number p (truth_term true) ≡ 1
  unfolding literal
  true_number = ap (λ (l : Lit). l.atom) (literal_of_truth p posed true)

  first_atom : (t : Tree) → atom_number p t ≡ 1 → t ≡ truth_term true
  first_atom t e =
      let there : Has (atoms p) t = number_there (atoms p) t (λ z. (let f : 1 ≡ 0 = sym e ∙ z in omega (arith, f))) in
      same_some (sym (numbered_back tree_cmp_level (atoms p) t there) ∙ ap (numbered (atoms p)) e ∙ first p posed)

  other_truth : (t : Tree) → constant t ≡ None → literal_truth m (positive (atom_number p t)) ≡ truth_in p m t
  other_truth t none = by (atom_number p t == 1) refl where
    by : (b : Bool) → (atom_number p t == 1) ≡ b → cond b true (truth_in p m t) ≡ truth_in p m t
    by false e = refl
    by true e = let both : None ≡ Some true = sym none ∙ ap constant (first_atom t (eqb-true (atom_number p t) 1 e)) in absurd cc

  own_truth : (t : Tree) → is_opposite t ≡ false → literal_truth m (positive (atom_number p t)) ≡ lit (truth_in p m) t
  unfolding lit
  own_truth (leaf (Literal (literals.Bool true))) o = ap (λ (n : ℕ). cond (n == 1) true (truth_in p m (truth_term true))) true_number
  own_truth (leaf (Literal (literals.Bool false))) o = absurd cc
  own_truth (one Not a) o = absurd cc
  own_truth t o = other_truth t refl

  told : (t : Tree) (l : Lit) → IsLiteral (atom_number p) t l → literal_truth m l ≡ lit (truth_in p m) t
  unfolding lit
  told _ _ of_false = refl
  told _ _ (of_not a l k) = turned m l ∙ ap not (told a l k)
  told _ _ (of_atom t o) = own_truth t o

  pub literal_told : (t : Tree) → literal_truth m (literal_in p t) ≡ lit (truth_in p m) t
  literal_told t = told t (literal_in p t) (literal_is (atom_number p) t)

-- the literal of a pattern's term that is looked up in the table
pub found_like : (p : Posed) (q : Pattern) (a : Tree) (found : Option ℕ) (l : Lit) → IsPosed p → IsFound p.nodes (one (Like q) a) found
    → IfSome found (λ n. l ≡ literal_in p (tree p.nodes n)) → (found ≡ None → l ≡ positive 0) → l ≡ literal_in p (one (Like q) a)
unfolding literal
found_like p q a (Some n) l posed is some none = some ∙ ap (literal_in p) is.is
found_like p q a None l posed is some none =
    none refl ∙ sym (ap positive (not_listed p (one (Like q) a) (not_in_table p (one (Like q) a) posed is)))

-- of two tests the cheaper may come first
pub both_exchanged : (a b r : Bool) → r ≡ (b && a) → r ≡ (a && b)
both_exchanged a b r is = is ∙ and_comm b a
