-- The numbers of closed terms: each term has one, and a term whose literal is of a listed atom is closed.
use Rattle.std.proofs.Common.{◌≡◌, ◌<◌, ℕ, zero, suc, inl, length, Option, Some, None, IfSome, refl, sym, ap, ◌∙◌}
use Rattle.sc_lists.proofs.ListLaws.{all_element, contains_from_map}
use Rattle.sc_lists.proofs.MemberLaws.{Contains-from_Has}
use Rattle.sc_lists.specs.Members.{Has}
use Rattle.sc_clauses.specs.declared.lit.Lit.{Lit}
use Rattle.sc_clauses.specs.Clauses.{positive}
use Rattle.sc_sorts.specs.declared.node.BinaryOp.{BinaryOp}
use Rattle.sc_terms.specs.Trees.{Tree, two}
use Rattle.sc_terms.specs.Tables.{tree}
use Rattle.sc_terms.specs.Finding.{IsFound}
use Rattle.sc_terms.proofs.OrderLaws.{tree_cmp_level}
use Rattle.sc_closure.specs.Atoms.{is_atom}
use Rattle.sc_closure_rules.specs.Closure.{follow, Closed, next}
use Rattle.sc_footprint.proofs.KindLaws.{part_follows}
use Rattle.sc_footprint.proofs.NumberingLaws.{at_suc, numbered_map, numbered_back}
use Rattle.sc_footprint.specs.Problems.{Posed, IsPosed, goal_term, closed_terms, atoms, number_among, term_of, literal, literal_in}
use Rattle.sc_rule_laws.specs.Terms.{member}
use Rattle.sc_rule_laws.proofs.MemberLaws.{filter_within}
use Rattle.sc_rule_instances.proofs.LiteralLaws.{number_at, number_there}
use Rattle.th_sets.specs.Named.{number_in}

-- ---- the number of a closed term

module _ (p : Posed) (posed : IsPosed p) where
  pub number_back : (n : ℕ) (t : Tree) → term_of p n ≡ Some t → number_in p t ≡ n
  number_back zero t e = absurd cc
  number_back (suc k) t e = number_at (closed_terms p) k t posed.are_closed.ordered (sym (at_suc (closed_terms p) k) ∙ sym (numbered_map (tree p.nodes) p.closed (suc k)) ∙ e)

  term_there : (t : Tree) → Has (closed_terms p) t → term_of p (number_in p t) ≡ Some t
  term_there t h = numbered_map (tree p.nodes) p.closed (number_in p t) ∙ numbered_back tree_cmp_level (closed_terms p) t h

-- ---- terms of listed atoms

module _ (p : Posed) (posed : IsPosed p) (o : BinaryOp) (a b : Tree) where
  two_there : ((literal_in p (two o a b)).atom ≡ 0 → ⊥) → Has (closed_terms p) (two o a b)
  unfolding literal
  two_there h = filter_within is_atom (closed_terms p) (two o a b) (number_there (atoms p) (two o a b) h)

  -- a listed atom is a closed term
  pub listed_two : ((literal_in p (two o a b)).atom ≡ 0 → ⊥) → (n : ℕ) × (term_of p n ≡ Some (two o a b))
  listed_two h = (number_in p (two o a b), term_there p posed (two o a b) (two_there h))

  -- what isn't in the table is no part of one
  unfound : (s : Tree) → IsFound p.nodes (two o a b) None → positive 0 ≡ literal_in p (member (two o a b) s)
  unfolding literal
  unfound s none = ap positive (sym (by (number_among (atoms p) whole) refl))
    where
      whole : Tree
      whole = member (two o a b) s

      by : (n : ℕ) → number_among (atoms p) whole ≡ n → n ≡ 0
      by zero e = refl
      by (suc n) e =
          let has : Has (closed_terms p) whole = filter_within is_atom (closed_terms p) whole (number_there (atoms p) whole (λ z. let k : suc n ≡ 0 = sym e ∙ z in absurd cc)) in
          let closed : Closed p.schema p.env (goal_term p) whole = (posed.are_closed.just whole).0 (Contains-from_Has (closed_terms p) whole has) in
          let part = next whole (two o a b) closed (Contains-from_Has (follow p.schema whole) (two o a b) (part_follows p.schema whole (two o a b) (inl refl))) in
          let found = contains_from_map (tree p.nodes) p.closed (two o a b) ((posed.are_closed.just (two o a b)).1 part) in
          absurd (none found.0 (all_element (λ k. k < length p.nodes) p.closed found.0 posed.within found.1) found.2)

-- the literal of a pick's membership, by the number that is found of the pick
pub picked_literal : (p : Posed) (o : BinaryOp) (a b s : Tree) (found : Option ℕ) (l : Lit) → IsPosed p → IsFound p.nodes (two o a b) found
    → IfSome found (λ n. l ≡ literal_in p (member (tree p.nodes n) s)) → (found ≡ None → l ≡ positive 0) → l ≡ literal_in p (member (two o a b) s)
picked_literal p o a b s (Some n) l posed found some none = some ∙ ap (λ (t : Tree). literal_in p (member t s)) found.is
picked_literal p o a b s None l posed found some none = none refl ∙ unfound p posed o a b s found
