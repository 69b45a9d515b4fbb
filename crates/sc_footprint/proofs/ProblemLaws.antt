-- What holds of the closed terms of a problem, by what is proved of all terms.
use Rattle.std.proofs.Common.{◌≡◌, true, Contains, length, refl, subst, inl}
use Rattle.sc_lists.proofs.MemberLaws.{Has-from_Contains}
use Rattle.sc_clauses.specs.Clauses.{holds}
use Rattle.sc_bits.specs.Blocks.{AreBlockBits}
use Rattle.sc_world.specs.declared.world.World.{World}
use Rattle.sc_sorts.specs.declared.sort.Sort.{Sort}
use Rattle.sc_sorts.specs.declared.sort.Sort.TheVariants as sort
use Rattle.sc_sorts.specs.declared.node.UnaryOp.TheVariants as unary
use Rattle.sc_terms.proofs.OrderLaws.{tree_cmp_total, tree_cmp_level}
use Rattle.sc_terms.specs.Folds.{bit_term}
use Rattle.sc_terms.specs.Trees.{Tree, one}
use Rattle.sc_terms.specs.TreeSorts.{tree_sort}
use Rattle.sc_terms.specs.Values.{val, yes}
use Rattle.sc_term_laws.proofs.JudgingLaws.{sort_is}
use Rattle.sc_closure.specs.Judging.{IsTermOf}
use Rattle.sc_closure.specs.Definitions.{inputs_of}
use Rattle.sc_closure.specs.Truths.{is_true, IsAsDefined}
use Rattle.sc_closure.specs.Atoms.{is_bool}
use Rattle.sc_footprint.specs.Problems.{Posed, IsPosed, closed_terms, goal_term, atoms, literal_in}
use Rattle.sc_footprint.specs.Theories.{IsListed, TermsHold}
use Rattle.sc_footprint.specs.Truths.{truths, IsWorldOf}
use Rattle.sc_footprint.proofs.KindLaws.{bool_is, input_follows, part_follows, negated_is, truth_is}
use Rattle.sc_footprint.proofs.TruthLaws.{judged, goal_closed, follow_closed, bool_sort, listed, true_literal}

module _ (laws : TermsHold) (p : Posed) (posed : IsPosed p) where
  pub term_judged : (t : Tree) → Contains (closed_terms p) t → IsTermOf p.schema p.env p.literals (tree_sort t) t
  term_judged t h = judged tree_cmp_total tree_cmp_level laws.closed p posed t h

  pub of_bool : (t : Tree) → Contains (closed_terms p) t → is_bool t ≡ true → IsTermOf p.schema p.env p.literals sort.Bool t
  of_bool t h k = subst (λ (s : Sort). IsTermOf p.schema p.env p.literals s t) (bool_sort t k) (term_judged t h)

  told_bool : (t : Tree) → IsTermOf p.schema p.env p.literals sort.Bool t → is_bool t ≡ true
  told_bool t h = bool_is t (sort_is p.schema p.env p.literals sort.Bool t h)

  negated : (a : Tree) → Contains (closed_terms p) (one unary.Not a) → Contains (closed_terms p) a × (is_bool a ≡ true)
  negated a h = (
    follow_closed tree_cmp_total tree_cmp_level laws.closed p posed (one unary.Not a) a h (part_follows p.schema (one unary.Not a) a (inl refl)),
    told_bool a (negated_is p.schema p.env p.literals a (tree_sort (one unary.Not a)) (term_judged (one unary.Not a) h)),
  )

  pub goal_told : Contains (closed_terms p) (goal_term p) × (is_bool (goal_term p) ≡ true)
  goal_told = (goal_closed tree_cmp_total tree_cmp_level laws.closed p posed, told_bool (goal_term p) posed.goal_is.term)

  pub input_told : (x t : Tree) → Contains (closed_terms p) x → is_bool x ≡ true → Contains (inputs_of x) t → Contains (closed_terms p) t × (is_bool t ≡ true)
  input_told x t h k i = (
    follow_closed tree_cmp_total tree_cmp_level laws.closed p posed x t h (input_follows p.schema x t (Has-from_Contains (inputs_of x) t i)),
    told_bool t (laws.inputs p.schema p.env p.literals x t (of_bool x h k) i),
  )

  pub literal_listed : (t : Tree) → Contains (closed_terms p) t → is_bool t ≡ true → IsListed (length (atoms p)) (literal_in p t)
  literal_listed t h k = listed tree_cmp_total tree_cmp_level laws.closed p posed negated t h k

  module _ (w : World) (world : IsWorldOf p w) where
    pub valued : (t : Tree) → Contains (closed_terms p) t → is_bool t ≡ true → val t w ≡ yes (is_true t w)
    valued t h k = truth_is p.schema w.store (val t w) (laws.fit p.schema p.env p.literals w sort.Bool t posed.lawful world (of_bool t h k))

    pub literal_told : (t : Tree) → Contains (closed_terms p) t → is_bool t ≡ true → holds (truths p w) (literal_in p t) ≡ is_true t w
    literal_told t h k = true_literal tree_cmp_total tree_cmp_level laws.closed p posed negated w valued t h k

    pub as_defined : (t : Tree) → Contains (closed_terms p) t → is_bool t ≡ true → IsAsDefined t w
    as_defined t h k = laws.defined p.schema p.env p.literals w t posed.lawful world (of_bool t h k)

    pub bits_told : (t : Tree) → Contains (closed_terms p) t → tree_sort t ≡ sort.Ip → AreBlockBits (λ i. is_true (bit_term t i) w)
    bits_told t h e = laws.addresses p.schema p.env p.literals w t posed.lawful world (subst (λ (s : Sort). IsTermOf p.schema p.env p.literals s t) e (term_judged t h))
