-- Where each listed atom has a value, what isn't falsified holds, if it is of closed truth values.
use Rattle.std.proofs.Common.{◌≡◌, ◌<◌, ◌≤◌, ◌&&◌, ◌||◌, ◌==◌, ℕ, Bool, true, false, not, inl, inr, List, [], ◌∷◌, ◌++◌, map, filter, flat_map, length, Option, Some, None, option_map, IsSome, unwrap_or, Contains, cond, refl, sym, ap, ◌∙◌, subst, arith}
use Rattle.std.specs.List.{list_all, list_any}
use Rattle.sc_laws.proofs.BoolLaws.{and_first, never, not_not}
use Rattle.sc_lists.proofs.MemberLaws.{Has-left, Has-flat_map, Has-from_Contains, Contains-from_Has}
use Rattle.sc_laws.proofs.NumberLaws.{nat_eq_true}
use Rattle.sc_lists.specs.Members.{Has}
use Rattle.sc_clauses.specs.Assignments.{Assignment, value_of, is_false_at, is_false, falsifies}
use Rattle.sc_clauses.specs.Clauses.{Clause, bool_eq, positive}
use Rattle.sc_clauses.specs.declared.lit.Lit.{Lit}
use Rattle.sc_sorts.proofs.OutLaws.{out_Bool}
use Rattle.sc_sorts.specs.declared.node.Leaf.TheVariants.{Literal}
use Rattle.sc_sorts.specs.declared.node.Literal.TheVariants.{Bool as bool}
use Rattle.sc_sorts.specs.declared.node.UnaryOp.TheVariants.{Not}
use Rattle.sc_terms.specs.Trees.{Tree, leaf, one}
use Rattle.sc_terms.specs.TreeSorts.{tree_sort}
use Rattle.sc_terms.specs.Folds.{truth_term}
use Rattle.sc_term_definitions.specs.Definitions.{definition}
use Rattle.sc_footprint.specs.Atoms.{is_atom, is_bool, is_bool_in}
use Rattle.sc_footprint.specs.Closure.{of_true}
use Rattle.sc_footprint.specs.Definitions.{is_tautology, kept, definition_clauses, is_address, address_clauses, defining}
use Rattle.sc_footprint.specs.Problems.{Posed, IsPosed, closed_terms, goal_literal, atoms, atom_number, literal, literal_in}
use Rattle.sc_footprint.specs.Theories.{IsListed, TermsHold}
use Rattle.sc_footprint.proofs.KindLaws.{bool_is}
use Rattle.sc_footprint.proofs.NumberingLaws.{within_count}
use Rattle.sc_footprint.proofs.ProblemLaws.{literal_listed}
use Rattle.sc_footprint.proofs.TruthLaws.{atom_is}
use Rattle.sc_rule_instances.specs.Clauses.{is_asked, literal_for}
use Rattle.sc_rule_instances.specs.Known.{only_true, seen_value, known, is_falsified}
use Rattle.sc_rule_instances.proofs.FalseLaws.{known_false, known_negation}
use Rattle.sc_rule_instances.proofs.LiteralLaws.{first, literal_truth, number_none}
use Rattle.sc_model_laws.specs.Assignments.{lit, holds_under, some_hold}
use Rattle.sc_rule_laws.specs.Signed.{Signed}
use Rattle.sc_rule_laws.proofs.MemberLaws.{filter_kept, filter_passes, has_any}
use Rattle.sc_term_laws.proofs.MemberLaws.{any_found}
use Rattle.sc_model_values.specs.Laws.{IsClosed}
use Rattle.sc_model_values.specs.Models.{truth_in, without_atom}

-- ---- terms that are no truth values aren't true

bare_untrue : (p : Posed) (m : Assignment) (x : Tree) → is_bool x ≡ false → truth_in p m x ≡ false
bare_untrue p m x e = without_atom p m x (number_none (atoms p) x no_atom)
  where
    no_atom : ¬ Has (atoms p) x
    no_atom h = never ⊥ (sym (and_first _ _ (filter_passes is_atom (closed_terms p) x h)) ∙ e)

pub untrue : (p : Posed) (m : Assignment) (x : Tree) → is_bool x ≡ false → lit (truth_in p m) x ≡ false
unfolding lit tree_sort
untrue p m (leaf (Literal (bool b))) e = never _ (sym (ap is_bool_in out_Bool) ∙ e)
untrue p m (one Not a) e = never _ (sym (ap is_bool_in out_Bool) ∙ e)
untrue p m x e = bare_untrue p m x e

-- ---- some signed term holds, or none does

pub one_holds : (v : Tree → Bool) (parts : List Signed) (s : Signed) → Has parts s → holds_under v s ≡ true → some_hold v parts ≡ true
unfolding some_hold
one_holds v parts s h e = has_any (holds_under v) parts s h e

pub none_holds : (v : Tree → Bool) (parts : List Signed) (s : Signed) → some_hold v parts ≡ false → Has parts s → holds_under v s ≡ false
none_holds v parts s e h = by (holds_under v s) refl
  where
    by : (b : Bool) → holds_under v s ≡ b → b ≡ false
    by true f = never _ (sym (one_holds v parts s h f) ∙ e)
    by false f = refl

pub which_holds : (v : Tree → Bool) (parts : List Signed) → some_hold v parts ≡ true → (s : Signed) × Has parts s × (holds_under v s ≡ true)
unfolding some_hold
which_holds v parts e = let found = any_found (holds_under v) parts e in (found.0, Has-from_Contains parts found.0 found.1, found.2)

-- what doesn't hold passes a test, and not all pass it
some_true : (hold : Signed → Bool) (of : Signed → Lit) (test : Lit → Bool) (parts : List Signed)
    → ((s : Signed) → Has parts s → hold s ≡ false → test (of s) ≡ true) → list_all test (map of parts) ≡ false → list_any hold parts ≡ true
some_true hold of test [] h e = never _ e
some_true hold of test (s ∷ parts) h e = by (hold s) refl (some_true hold of test parts (λ k i. h k (inr i)))
  where
    by : (b : Bool) → hold s ≡ b → (list_all test (map of parts) ≡ false → list_any hold parts ≡ true) → (b || list_any hold parts) ≡ true
    by true f rest = refl
    by false f rest = rest (sym (ap (λ (b : Bool). b && list_all test (map of parts)) (h s (inl refl) f)) ∙ e)

-- of a negation the other truth is known
turned : (o : Option Bool) (n b : Bool) → option_map (λ (v : Bool). bool_eq v (not n)) o ≡ Some b
    → option_map (λ (v : Bool). bool_eq v (not (not n))) o ≡ Some (not b)
turned None n b e = ap (option_map not) e
turned (Some true) n b e = ap (option_map not) e
turned (Some false) n b e = ap (option_map not) e

module _ (laws : TermsHold) (p : Posed) (posed : IsPosed p) (m : Assignment) (total : (n : ℕ) → 1 ≤ n → n ≤ length (atoms p) → IsSome (value_of m n))
    (defined : (c : Clause) → Contains (defining p) c → falsifies m c ≡ false) where
  abbrev M : Tree → Bool
  M = truth_in p m

  pub there : (t : Tree) → IsClosed p t → Has (closed_terms p) t
  there t c = Has-from_Contains (closed_terms p) t ((posed.are_closed.just t).1 c)

  -- ---- atom 1 is `true`

  true_atom : is_atom (truth_term true) ≡ true
  unfolding tree_sort
  true_atom = atom_is (truth_term true) (bool_is (truth_term true) refl) refl

  of_true_atom : Has (definition_clauses (literal_in p) (truth_term true)) (positive 1 ∷ [])
  unfolding definition
  of_true_atom =
      subst (λ (l : Lit). Has (kept ((l ∷ []) ∷ [])) (positive 1 ∷ [])) (sym (literal_truth p posed true))
      (filter_kept (λ (c : Clause). not (is_tautology c)) ((positive 1 ∷ []) ∷ []) (positive 1 ∷ []) (inl refl) refl)

  first_true : value_of m 1 ≡ Some true
  first_true = by (value_of m 1) (total 1 (omega arith) (within_count (atoms p) 1 (truth_term true) (first p posed)).1) falsified
    where
      in_atoms : Has (atoms p) (truth_term true)
      in_atoms = filter_kept is_atom (closed_terms p) (truth_term true) (there (truth_term true) of_true) true_atom

      in_defining : Has (defining p) (positive 1 ∷ [])
      in_defining =
          Has-left (flat_map (definition_clauses (literal_in p)) (atoms p))
          (flat_map (address_clauses (literal_in p)) (filter is_address (closed_terms p)) ++ (goal_literal p ∷ []) ∷ []) (positive 1 ∷ [])
          (Has-flat_map (definition_clauses (literal_in p)) (atoms p) (truth_term true) (positive 1 ∷ []) in_atoms of_true_atom)

      falsified : (is_false m (positive 1) && true) ≡ false
      falsified = defined (positive 1 ∷ []) (Contains-from_Has (defining p) (positive 1 ∷ []) in_defining)

      by : (o : Option Bool) → IsSome o → (is_false_at o false && true) ≡ false → o ≡ Some true
      by None e f = absurd cc
      by (Some true) e f = refl
      by (Some false) e f = never _ f

  -- ---- what is known of literals of listed atoms

  known_first : known m (positive 1) ≡ Some true
  known_first = ap (λ (o : Option Bool). option_map (λ (v : Bool). bool_eq v true) (only_true o)) first_true

  known_atom : (n : ℕ) → 0 < n → n ≤ length (atoms p) → known m (positive n) ≡ Some (unwrap_or (value_of m n) false)
  known_atom n h k = by (n == 1) (value_of m n) refl refl (total n (omega (arith, h)) k)
    where
      by : (b : Bool) (o : Option Bool) → (n == 1) ≡ b → value_of m n ≡ o → IsSome o
          → option_map (λ (v : Bool). bool_eq v true) (cond b (only_true (value_of m 1)) o) ≡ Some (unwrap_or o false)
      by true (Some v) e f g = known_first ∙ sym (sym f ∙ ap (value_of m) (nat_eq_true n 1 e) ∙ first_true)
      by true None e f g = absurd cc
      by false (Some true) e f g = refl
      by false (Some false) e f g = refl
      by false None e f g = absurd cc

  known_told : (t : Tree) → IsListed (length (atoms p)) (literal_in p t) → known m (literal_in p t) ≡ Some (lit M t)
  unfolding literal lit
  known_told (leaf (Literal (bool true))) h = ap (known m) (literal_truth p posed true) ∙ known_first
  known_told (leaf (Literal (bool false))) h = turned (seen_value m 1) false true known_first
  known_told (one Not a) h = turned (seen_value m (literal_in p a).atom) (literal_in p a).negated (lit M a) (known_told a h)
  known_told t h = known_atom (atom_number p t) h.0 h.1

  false_told : (s : Signed) → IsListed (length (atoms p)) (literal_in p s.1) → holds_under M s ≡ false
      → (is_asked (literal_for p s) && is_false m (literal_for p s)) ≡ true
  false_told (true, t) h e = known_false m (literal_in p t) (known_told t h ∙ ap Some e)
  false_told (false, t) h e = known_negation m (literal_in p t) (known_told t h ∙ ap Some (sym (not_not (lit M t)) ∙ ap not e))

  pub said_holds : (parts : List Signed) → ((s : Signed) → Has parts s → IsClosed p s.1 × (is_bool s.1 ≡ true)) → is_falsified p m (Some parts) ≡ false
      → some_hold M parts ≡ true
  unfolding is_falsified some_hold
  said_holds parts of e =
      some_true (holds_under M) (literal_for p) (λ (l : Lit). is_asked l && is_false m l) parts
      (λ s i f. (let is = of s i in false_told s (literal_listed laws p posed s.1 ((posed.are_closed.just s.1).1 is.0) is.1) f)) e
