-- What an assignment that falsifies no defining clause says of terms: `true` is true, a literal has the truth of its term, and the
-- goal's is true.
use Rattle.std.proofs.Common.{◌≡◌, ◌≤◌, ◌&&◌, ◌||◌, ◌==◌, ◌++◌, ℕ, Bool, true, false, not, inl, List, [], ◌∷◌, filter, flat_map, length, Contains, Option, Some, None, IsSome, unwrap_or, refl, sym, ap, ◌∙◌}
use Rattle.sc_laws.proofs.BoolLaws.{true_or_false}
use Rattle.sc_lists.proofs.MemberLaws.{Has-left, Has-right, Has-flat_map, Contains-from_Has}
use Rattle.sc_lists.specs.Members.{Has}
use Rattle.sc_clauses.specs.declared.lit.Lit.{Lit}
use Rattle.sc_clauses.specs.Assignments.{Assignment, value_of, falsifies}
use Rattle.sc_clauses.specs.Clauses.{Clause, bool_eq, positive, holds}
use Rattle.sc_clauses.proofs.LitLaws.{holds_negation}
use Rattle.sc_sorts.specs.declared.node.Leaf.TheVariants.{Literal}
use Rattle.sc_sorts.specs.declared.node.Literal.TheVariants.{Bool as bool}
use Rattle.sc_sorts.specs.declared.node.UnaryOp.TheVariants.{Not}
use Rattle.sc_terms.specs.Trees.{Tree, leaf, one}
use Rattle.sc_terms.specs.Folds.{truth_term}
use Rattle.sc_term_definitions.specs.Definitions.{definition}
use Rattle.sc_rule_laws.proofs.MemberLaws.{filter_kept}
use Rattle.sc_footprint.specs.Problems.{Posed, IsPosed, closed_terms, atoms, atom_number, literal, literal_in, goal_literal}
use Rattle.sc_footprint.specs.Definitions.{is_tautology, definition_clauses, address_clauses, is_address, defining}
use Rattle.sc_footprint.specs.Theories.{IsClauseOf}
use Rattle.sc_footprint.proofs.TruthLaws.{holds_positive}
use Rattle.sc_model_consistency.proofs.LiteralLaws.{literal_truth}
use Rattle.sc_model_consistency.proofs.LiteralLaws as literals
use Rattle.sc_model_laws.specs.Assignments.{lit}
use Rattle.sc_model_consistency.specs.Models.{truth_in}
use Rattle.sc_solver.proofs.ClauseLaws.{clause_true}
use Rattle.sc_solver.proofs.NumberLaws.{atom_there}

some_value : (o : Option Bool) → IsSome o → o ≡ Some (unwrap_or o false)
some_value None h = absurd cc
some_value (Some b) h = refl

-- no literal is its negation
unit_plain : (l : Lit) → is_tautology (l ∷ []) ≡ false
unit_plain l = by (l.atom == l.atom) l.negated
  where
    by : (a n : Bool) → (((a && bool_eq (not n) n) || false) || false) ≡ false
    by true true = refl
    by true false = refl
    by false n = refl

-- the clauses of a problem that come before the goal's
abbrev of_definitions : Posed → List Clause
of_definitions p = flat_map (definition_clauses (literal_in p)) (atoms p)

abbrev of_addresses : Posed → List Clause
of_addresses p = flat_map (address_clauses (literal_in p)) (filter is_address (closed_terms p))

first_defined : (p : Posed) → Has (definition_clauses (literal_in p) (truth_term true)) (literal_in p (truth_term true) ∷ [])
unfolding definition
first_defined p =
    filter_kept (λ (c : Clause). not (is_tautology c)) ((literal_in p (truth_term true) ∷ []) ∷ []) (literal_in p (truth_term true) ∷ [])
    (inl refl) (ap not (unit_plain (literal_in p (truth_term true))))

first_there : (p : Posed) → IsPosed p → Has (defining p) (literal_in p (truth_term true) ∷ [])
first_there p posed =
    let c = literal_in p (truth_term true) ∷ [] in
    Has-left (of_definitions p) (of_addresses p ++ (goal_literal p ∷ []) ∷ []) c
    (Has-flat_map (definition_clauses (literal_in p)) (atoms p) (truth_term true) c
    (atom_there p 1 (truth_term true) (literals.first p posed)) (first_defined p))

goal_there : (p : Posed) → Has (defining p) (goal_literal p ∷ [])
goal_there p =
    Has-right (of_definitions p) (of_addresses p ++ (goal_literal p ∷ []) ∷ []) (goal_literal p ∷ [])
    (Has-right (of_addresses p) ((goal_literal p ∷ []) ∷ []) (goal_literal p ∷ []) (inl refl))

-- the value of an atom
abbrev pub valued_in : Assignment → ℕ → Bool
valued_in m n = unwrap_or (value_of m n) false

module _ (p : Posed) (posed : IsPosed p) (lawful : (c : Clause) → Contains (defining p) c → IsClauseOf p c) (m : Assignment)
    (total : (n : ℕ) → 1 ≤ n → n ≤ length (atoms p) → IsSome (value_of m n))
    (defined : (c : Clause) → Contains (defining p) c → falsifies m c ≡ false) where
  pub valued : (n : ℕ) → 1 ≤ n → n ≤ length (atoms p) → value_of m n ≡ Some (valued_in m n)
  valued n least most = some_value (value_of m n) (total n least most)

  unit_true : (l : Lit) → Has (defining p) (l ∷ []) → holds (valued_in m) l ≡ true
  unit_true l h =
      let there = Contains-from_Has (defining p) (l ∷ []) h in
      true_or_false (holds (valued_in m) l)
      (clause_true p (valued_in m) m valued (l ∷ []) (lawful (l ∷ []) there) (defined (l ∷ []) there))

  first_true : valued_in m 1 ≡ true
  first_true =
      sym (holds_positive (valued_in m) 1) ∙ ap (holds (valued_in m)) (sym (literal_truth p posed true))
      ∙ unit_true (literal_in p (truth_term true)) (first_there p posed)

  -- the literal of any term has the truth that is assigned to the term
  pub literal_told : (t : Tree) → holds (valued_in m) (literal_in p t) ≡ lit (truth_in p m) t
  unfolding literal lit
  literal_told (leaf (Literal (bool true))) =
      ap (holds (valued_in m)) (literal_truth p posed true) ∙ holds_positive (valued_in m) 1 ∙ first_true
  literal_told (leaf (Literal (bool false))) =
      holds_negation (valued_in m) (positive 1) ∙ ap not (holds_positive (valued_in m) 1 ∙ first_true)
  literal_told (one Not a) = holds_negation (valued_in m) (literal_in p a) ∙ ap not (literal_told a)
  literal_told t = holds_positive (valued_in m) (atom_number p t)

  pub goal_told : holds (valued_in m) (goal_literal p) ≡ true
  goal_told = unit_true (goal_literal p) (goal_there p)
