-- The literals of terms: what they are, that those of an atom with a number are of listed atoms, and that they are true where the terms are.
use Rattle.std.proofs.Common.{◌≡◌, ◌≢◌, ◌<◌, ◌≤◌, ℕ, zero, suc, Bool, true, false, not, cond, inl, inr, List, [], ◌∷◌, map, length, Option, Some, None, Contains, refl, sym, ap, ◌∙◌, arith, slice_get, ◌+◌}
use Rattle.std.proofs.lemmas.Bool.{and_parts}
use Rattle.std.specs.List.{AllByRecursion}
use Rattle.std.specs.List.Sorted.{IsStrictlySortedBy}
use Rattle.std.specs.Ordering.{is_eq}
use Rattle.std.specs.declared.cmp.Ordering.TheVariants.{Less}
use Rattle.sc_lists.proofs.MemberLaws.{Has-from_Contains, Contains-from_Has}
use Rattle.sc_lists.specs.Members.{Has}
use Rattle.sc_lists.proofs.ListLaws.{all_element, contains_place}
use Rattle.sc_laws.proofs.NumberLaws.{suc_isnt_zero}
use Rattle.sc_laws.proofs.OptionLaws.{same_some}
use Rattle.sc_rule_laws.proofs.MemberLaws.{filter_passes, filter_within}
use Rattle.sc_clauses.specs.declared.lit.Lit.{Lit}
use Rattle.sc_clauses.specs.Clauses.{bool_eq, holds, positive, negation}
use Rattle.sc_clauses.proofs.LitLaws.{holds_negation, negation_twice}
use Rattle.sc_world.specs.declared.world.World.{World}
use Rattle.sc_sorts.proofs.OutLaws.{out_Bool}
use Rattle.sc_sorts.specs.declared.node.Leaf.TheVariants.{Literal}
use Rattle.sc_sorts.specs.declared.node.Literal.TheVariants as literals
use Rattle.sc_sorts.specs.declared.node.UnaryOp.TheVariants.{Not}
use Rattle.sc_terms.specs.Trees.{Tree, leaf, one}
use Rattle.sc_terms.specs.TreeSorts.{tree_sort}
use Rattle.sc_terms.specs.Tables.{tree}
use Rattle.sc_terms.specs.Order.{tree_eq, tree_cmp}
use Rattle.sc_terms.specs.Folds.{truth_term, constant, under_not, not_by, not_term}
use Rattle.sc_terms.specs.Values.{Val, val, yes, not_value}
use Rattle.sc_terms.proofs.FoldValues.{seen_yes, truth_yes}
use Rattle.sc_terms.proofs.OrderLaws.{tree_cmp_total, tree_cmp_level, tree_eq-exact, tree_eq-itself}
use Rattle.sc_footprint.specs.TermTruths.{is_true}
use Rattle.sc_footprint.specs.Atoms.{is_atom, is_bool, is_bool_in, is_opposite}
use Rattle.sc_footprint.specs.Places.{one_more}
use Rattle.sc_footprint.specs.Closure.{of_true}
use Rattle.sc_footprint.specs.Problems.{Posed, IsPosed, closed_terms, atoms, numbered, number_among, atom_number, literal, literal_in}
use Rattle.sc_footprint.specs.Theories.{IsListed, TermsHold}
use Rattle.sc_footprint.specs.Truths.{truths, is_true_at, IsWorldOf}
use Rattle.sc_footprint.proofs.NumberingLaws.{numbered_back, within_count, atom_one}
use Rattle.sc_footprint.proofs.TruthLaws.{atom_is}
use Rattle.sc_footprint.proofs.ProblemLaws.{valued}

-- ---- what a literal is: of `false` the negation of atom 1, of a negation the negation of its part's, and else the term's number

pub data IsLiteral (number : Tree → ℕ) : Tree → Lit → Type 0 where
  of_false : IsLiteral number (truth_term false) (negation (positive 1))
  of_not : (a : Tree) (l : Lit) → IsLiteral number a l → IsLiteral number (one Not a) (negation l)
  of_atom : (t : Tree) → is_opposite t ≡ false → IsLiteral number t (positive (number t))

pub literal_is : (number : Tree → ℕ) (t : Tree) → IsLiteral number t (literal number t)
unfolding literal
literal_is number (leaf (Literal (literals.Bool false))) = of_false
literal_is number (one Not a) = of_not a (literal number a) (literal_is number a)
literal_is number t = of_atom t refl

-- ---- numbers

one_more_within : (k n : ℕ) → k ≤ n → one_more k ≤ suc n
one_more_within zero n h = omega arith
one_more_within (suc k) n h = rw (suc_isnt_zero k) (omega (arith, h))

pub number_within : (ts : List Tree) (t : Tree) → number_among ts t ≤ length ts
number_within [] t = omega arith
number_within (x ∷ xs) t = by (tree_eq x t) (number_within xs t)
  where
    by : (b : Bool) → number_among xs t ≤ length xs → cond b 1 (one_more (number_among xs t)) ≤ suc (length xs)
    by true h = omega arith
    by false h = one_more_within (number_among xs t) (length xs) h

pub one_more_some : (k : ℕ) → one_more k ≢ 0 → k ≢ 0
one_more_some zero h e = h refl
one_more_some (suc k) h e = omega (arith, e)

-- what has a number is there
pub number_there : (ts : List Tree) (t : Tree) → number_among ts t ≢ 0 → Has ts t
number_there [] t = λ h. absurd (h refl)
number_there (x ∷ xs) t = by (tree_eq x t) refl (number_there xs t)
  where
    by : (b : Bool) → tree_eq x t ≡ b → (number_among xs t ≢ 0 → Has xs t) → cond b 1 (one_more (number_among xs t)) ≢ 0 → Has (x ∷ xs) t
    by true e rest h = inl (tree_eq-exact x t e)
    by false e rest h = inr (rest (one_more_some (number_among xs t) h))

-- what isn't there has number 0
pub number_none : (ts : List Tree) (t : Tree) → ¬ Has ts t → number_among ts t ≡ 0
number_none ts t h = by (number_among ts t) refl
  where
    by : (n : ℕ) → number_among ts t ≡ n → n ≡ 0
    by zero e = refl
    by (suc n) e = absurd (h (number_there ts t (λ z. (let f : suc n ≡ 0 = sym e ∙ z in omega (arith, f)))))

-- of ascending terms each has the number after its place
pub number_at : (ts : List Tree) (k : ℕ) (t : Tree) → IsStrictlySortedBy tree_cmp ts → slice_get ts k ≡ Some t → number_among ts t ≡ suc k
unfolding IsStrictlySortedBy tree_eq
number_at [] k t h e = absurd cc
number_at (x ∷ xs) zero t h e =
    let same : tree_eq x t ≡ true = ap (tree_eq x) (sym (same_some e)) ∙ tree_eq-itself x in
    ap (λ (b : Bool). cond b 1 (one_more (number_among xs t))) same
number_at (x ∷ xs) (suc k) t h e =
    let less : tree_cmp x t ≡ Less = all_element (λ y. tree_cmp x y ≡ Less) xs t h.0 (contains_place xs k t e) in
    let apart : tree_eq x t ≡ false = ap is_eq less in
    let more : suc k + 1 ≡ suc (suc k) = omega arith in
    ap (λ (b : Bool). cond b 1 (one_more (number_among xs t))) apart ∙ ap one_more (number_at xs k t h.1 e)
    ∙ ap (λ (b : Bool). cond b 0 (suc k + 1)) (suc_isnt_zero k) ∙ more

-- an atom is closed, and is a truth value
atom_closed : (p : Posed) (t : Tree) → Has (atoms p) t → Contains (closed_terms p) t
atom_closed p t h = Contains-from_Has (closed_terms p) t (filter_within is_atom (closed_terms p) t h)

-- what has the number of an atom is closed
pub number_closed : (p : Posed) (t : Tree) → atom_number p t ≢ 0 → Contains (closed_terms p) t
number_closed p t h = atom_closed p t (number_there (atoms p) t h)

atom_bool : (p : Posed) (t : Tree) → Has (atoms p) t → is_bool t ≡ true
atom_bool p t h = (and_parts (is_bool t) (not (is_opposite t)) (filter_passes is_atom (closed_terms p) t h)).0

truth_bool : is_bool (truth_term true) ≡ true
unfolding tree_sort
truth_bool = ap is_bool_in out_Bool

module _ (p : Posed) (posed : IsPosed p) where
  -- `true` is atom 1
  pub first : numbered (atoms p) 1 ≡ Some (truth_term true)
  first =
      atom_one tree_cmp_total (closed_terms p) posed.are_closed.ordered (Has-from_Contains (closed_terms p) (truth_term true) ((posed.are_closed.just (truth_term true)).1 of_true))
      (atom_is (truth_term true) truth_bool refl)

  -- ---- literals of listed atoms

  pub listed : (t : Tree) (l : Lit) → IsLiteral (atom_number p) t l → l.atom ≢ 0 → IsListed (length (atoms p)) l
  listed _ _ of_false h = within_count (atoms p) 1 (truth_term true) first
  listed _ _ (of_not a l k) h = listed a l k h
  listed _ _ (of_atom t o) h = (let e : atom_number p t ≢ 0 = h in omega (arith, e), number_within (atoms p) t)

  -- ---- and their truth

  module _ (laws : TermsHold) (w : World) (world : IsWorldOf p w) where
    holds_positive : (n : ℕ) → holds (truths p w) (positive n) ≡ truths p w n
    holds_positive n = by (truths p w n)
      where
        by : (b : Bool) → bool_eq b true ≡ b
        by true = refl
        by false = refl

    true_first : truths p w 1 ≡ true
    unfolding val
    true_first = ap (λ (o : Option Tree). is_true_at o w) first ∙ truth_yes true

    not_yes : (x : Val) (b : Bool) → x ≡ yes b → not_value x ≡ yes (not b)
    unfolding not_value
    not_yes x b e = rw (e, seen_yes b) refl

    -- the term's truth value, which its literal has
    pub told : (t : Tree) (l : Lit) → IsLiteral (atom_number p) t l → l.atom ≢ 0 → (b : Bool) × (val t w ≡ yes b) × (holds (truths p w) l ≡ b)
    unfolding val
    told _ _ of_false h = (false, refl, holds_negation (truths p w) (positive 1) ∙ ap not (holds_positive 1 ∙ true_first))
    told _ _ (of_not a l k) h = let r = told a l k h in (not r.0, not_yes (val a w) r.0 r.1, holds_negation (truths p w) l ∙ ap not r.2)
    told _ _ (of_atom t o) h =
        let there : Has (atoms p) t = number_there (atoms p) t h in
        (is_true t w, valued laws p posed w world t (atom_closed p t there) (atom_bool p t there), holds_positive (atom_number p t) ∙ ap (λ (x : Option Tree). is_true_at x w) (numbered_back tree_cmp_level (atoms p) t there))

  -- ---- of folded terms

  -- the literal of a truth value
  pub literal_truth : (b : Bool) → literal_in p (truth_term b) ≡ cond b (positive 1) (negation (positive 1))
  unfolding literal
  literal_truth false = refl
  literal_truth true = ap positive (of_list (atoms p) first)
    where
      of_list : (ts : List Tree) → numbered ts 1 ≡ Some (truth_term true) → number_among ts (truth_term true) ≡ 1
      of_list [] e = cc
      of_list (x ∷ xs) e = let same : x ≡ truth_term true = cc in rw (same, tree_eq-itself (truth_term true)) refl

  literal_turned : (b : Bool) → literal_in p (truth_term (not b)) ≡ negation (literal_in p (truth_term b))
  literal_turned true = literal_truth false ∙ sym (ap negation (literal_truth true))
  literal_turned false = literal_truth true ∙ sym (ap negation (literal_truth false))

  constant_is : (t : Tree) (b : Bool) → constant t ≡ Some b → t ≡ truth_term b
  constant_is (leaf (Literal (literals.Bool c))) b e = let f : c ≡ b = cc in ap truth_term f
  constant_is _ b e = absurd cc

  negated_is : (t a : Tree) → under_not t ≡ Some a → t ≡ one Not a
  negated_is (one Not c) a e = let f : c ≡ a = cc in ap (one Not) f
  negated_is _ a e = absurd cc

  -- the literal of a negation, folded or not, is the negation of its part's
  pub literal_not : (t : Tree) → literal_in p (not_term t) ≡ negation (literal_in p t)
  unfolding not_term literal
  literal_not t = by (constant t) (under_not t) refl refl
    where
      by : (o : Option Bool) (u : Option Tree) → constant t ≡ o → under_not t ≡ u → literal_in p (not_by o u t) ≡ negation (literal_in p t)
      by (Some b) u e f = literal_turned b ∙ sym (ap (λ (x : Tree). negation (literal_in p x)) (constant_is t b e))
      by None (Some a) e f = sym (ap (λ (x : Tree). negation (literal_in p x)) (negated_is t a f) ∙ negation_twice (literal_in p a))
      by None None e f = refl

-- a term that no number of the table stands for isn't closed
pub not_in_table : (p : Posed) (t : Tree) → IsPosed p → ((n : ℕ) → n < length p.nodes → tree p.nodes n ≢ t) → ¬ Has (closed_terms p) t
not_in_table p t posed none h = by p.closed posed.within h
  where
    by : (ns : List ℕ) → AllByRecursion (λ n. n < length p.nodes) ns → Has (map (tree p.nodes) ns) t → ⊥
    by [] k e = e
    by (n ∷ ns) k (inl e) = none n k.0 e
    by (n ∷ ns) k (inr e) = by ns k.1 e

pub not_listed : (p : Posed) (t : Tree) → ¬ Has (closed_terms p) t → atom_number p t ≡ 0
not_listed p t h = number_none (atoms p) t (λ k. h (filter_within is_atom (closed_terms p) t k))
