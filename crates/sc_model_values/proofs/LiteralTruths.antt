-- The literal of a term has the truth that an assignment gives the term, where atom 1 is true.
use Rattle.std.proofs.Common.{◌≡◌, ◌||◌, true, false, not, List, [], ◌∷◌, map, refl, ap, ◌∙◌}
use Rattle.sc_clauses.specs.Assignments.{Assignment}
use Rattle.sc_clauses.specs.Clauses.{positive, holds, clause_holds}
use Rattle.sc_clauses.proofs.LitLaws.{holds_negation}
use Rattle.sc_sorts.specs.declared.node.Leaf.TheVariants.{Literal}
use Rattle.sc_sorts.specs.declared.node.Literal.TheVariants.{Bool as bool}
use Rattle.sc_sorts.specs.declared.node.UnaryOp.TheVariants.{Not}
use Rattle.sc_terms.specs.Trees.{Tree, leaf, one}
use Rattle.sc_footprint.specs.Problems.{Posed, IsPosed, atom_number, literal, literal_in}
use Rattle.sc_footprint.proofs.TruthLaws.{holds_positive}
use Rattle.sc_rule_laws.specs.Signed.{Signed}
use Rattle.sc_model_laws.specs.Assignments.{lit, holds_under, some_hold}
use Rattle.sc_rule_instances.specs.Clauses.{literal_for, clause_for}
use Rattle.sc_rule_instances.proofs.LiteralLaws.{literal_truth}
use Rattle.sc_model_values.specs.Models.{truth_in}
use Rattle.sc_model_values.proofs.ClauseTruths.{atom_truth}

module _ (p : Posed) (posed : IsPosed p) (m : Assignment) (first : atom_truth m 1 ≡ true) where
  -- of any term
  pub literal_told : (t : Tree) → holds (atom_truth m) (literal_in p t) ≡ lit (truth_in p m) t
  unfolding literal lit
  literal_told (leaf (Literal (bool true))) =
      ap (holds (atom_truth m)) (literal_truth p posed true) ∙ holds_positive (atom_truth m) 1 ∙ first
  literal_told (leaf (Literal (bool false))) =
      holds_negation (atom_truth m) (positive 1) ∙ ap not (holds_positive (atom_truth m) 1 ∙ first)
  literal_told (one Not a) = holds_negation (atom_truth m) (literal_in p a) ∙ ap not (literal_told a)
  literal_told t = holds_positive (atom_truth m) (atom_number p t)

  pub literals_told : (ts : List Tree) → map (holds (atom_truth m)) (map (literal_in p) ts) ≡ map (lit (truth_in p m)) ts
  literals_told [] = refl
  literals_told (t ∷ ts) =
      let first_told = literal_told t in
      let rest = literals_told ts in
      λ i. first_told i ∷ rest i

  signed_told : (s : Signed) → holds (atom_truth m) (literal_for p s) ≡ holds_under (truth_in p m) s
  signed_told (true, t) = literal_told t
  signed_told (false, t) = holds_negation (atom_truth m) (literal_in p t) ∙ ap not (literal_told t)

  -- the clause of signed terms is true where some of them has its truth
  pub clause_told : (parts : List Signed) → clause_holds (atom_truth m) (clause_for p parts) ≡ some_hold (truth_in p m) parts
  unfolding some_hold
  clause_told [] = refl
  clause_told (s ∷ parts) =
      let first_told = signed_told s in
      let rest = clause_told parts in
      λ i. first_told i || rest i
