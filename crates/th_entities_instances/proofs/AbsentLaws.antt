-- Terms that aren't closed, and the literals of what is made of them.
use Rattle.std.proofs.Common.{◌≡◌, ◌&&◌, ℕ, Bool, true, false, cond, inl, inr, List, [], ◌∷◌, Some, None, Contains, refl, sym, ap, ◌∙◌}
use Rattle.sc_lists.proofs.MemberLaws.{Contains-from_Has}
use Rattle.sc_clauses.specs.declared.lit.Lit.{Lit}
use Rattle.sc_clauses.specs.Clauses.{positive, negation}
use Rattle.sc_sorts.specs.declared.node.BinaryOp.{BinaryOp}
use Rattle.sc_sorts.specs.declared.node.BinaryOp.TheVariants as binary
use Rattle.sc_names.specs.declared.uid.Uid.{Uid}
use Rattle.sc_sorts.proofs.OutLaws.{out_Entity}
use Rattle.sc_sorts.specs.declared.node.Literal.TheVariants as literals
use Rattle.sc_terms.specs.Folds.{literal_term, truth_term}
use Rattle.sc_terms.specs.TreeSorts.{tree_sort}
use Rattle.sc_terms.specs.Trees.{Tree, two}
use Rattle.sc_terms.specs.Tables.{tree}
use Rattle.sc_terms.proofs.OrderLaws.{tree_cmp_total, tree_cmp_level, tree_eq-itself}
use Rattle.sc_footprint.specs.Atoms.{is_atom, is_bool_in}
use Rattle.sc_footprint.specs.Problems.{Posed, IsPosed, closed_terms, atoms, number_among, numbered, atom_number, literal, literal_in}
use Rattle.sc_footprint.specs.Theories.{TermsHold}
use Rattle.sc_footprint.proofs.KindLaws.{part_follows}
use Rattle.sc_footprint.proofs.TruthLaws.{first_atom, follow_closed}
use Rattle.sc_rule_instances.specs.Lookups.{IsClosedFound}
use Rattle.sc_rule_instances.proofs.LiteralLaws.{number_none}
use Rattle.sc_rule_laws.proofs.MemberLaws.{filter_passes, filter_within}
use Rattle.sc_rule_laws.specs.Terms.{member}

-- an entity is no truth value, and so no atom
no_atom : (u : Uid) (us : List Uid) → is_atom (literal_term (literals.Entity u us)) ≡ true → ⊥
unfolding tree_sort
no_atom u us h = let e : is_atom (literal_term (literals.Entity u us)) ≡ false = ap (λ k. is_bool_in k && true) (out_Entity u.type_name us) in (let f : true ≡ false = sym h ∙ e in cc)

pub entity_number : (p : Posed) (u : Uid) (us : List Uid) → atom_number p (literal_term (literals.Entity u us)) ≡ 0
entity_number p u us = number_none (atoms p) (literal_term (literals.Entity u us)) (λ k. no_atom u us (filter_passes is_atom (closed_terms p) (literal_term (literals.Entity u us)) k))

module _ (laws : TermsHold) (p : Posed) (posed : IsPosed p) where
  -- the literal of a truth value
  pub literal_truth : (b : Bool) → literal_in p (truth_term b) ≡ cond b (positive 1) (negation (positive 1))
  unfolding literal
  literal_truth false = refl
  literal_truth true = ap positive (of_list (atoms p) (first_atom tree_cmp_total tree_cmp_level laws.closed p posed))
    where
      of_list : (ts : List Tree) → numbered ts 1 ≡ Some (truth_term true) → number_among ts (truth_term true) ≡ 1
      of_list [] e = cc
      of_list (x ∷ xs) e = let same : x ≡ truth_term true = cc in rw (same, tree_eq-itself (truth_term true)) refl

  -- what is made of two terms has no literal where one of these isn't closed
  pub second_absent : (o : BinaryOp) (a b : Tree) → ¬ (Contains (closed_terms p) b) → positive 0 ≡ literal_in p (two o a b)
  unfolding literal
  second_absent o a b h =
      sym (ap positive (number_none (atoms p) (two o a b) (λ k. h (follow_closed tree_cmp_total tree_cmp_level laws.closed p posed (two o a b) b
      (Contains-from_Has (closed_terms p) (two o a b) (filter_within is_atom (closed_terms p) (two o a b) k)) (part_follows p.schema (two o a b) b (inr (inl refl)))))))

  pub first_absent : (o : BinaryOp) (a b : Tree) → ¬ (Contains (closed_terms p) a) → positive 0 ≡ literal_in p (two o a b)
  unfolding literal
  first_absent o a b h =
      sym (ap positive (number_none (atoms p) (two o a b) (λ k. h (follow_closed tree_cmp_total tree_cmp_level laws.closed p posed (two o a b) a
      (Contains-from_Has (closed_terms p) (two o a b) (filter_within is_atom (closed_terms p) (two o a b) k)) (part_follows p.schema (two o a b) a (inl refl))))))

  pub member_absent : (x s : Tree) → IsClosedFound p s None → positive 0 ≡ literal_in p (member x s)
  member_absent x s h = second_absent binary.Member x s h

  pub member_found : (x s : Tree) (n : ℕ) (l : Lit) → IsClosedFound p s (Some n) → l ≡ literal_in p (member x (tree p.nodes n)) → l ≡ literal_in p (member x s)
  member_found x s n l h e = e ∙ ap (λ (t : Tree). literal_in p (member x t)) h.is
